-- A use: its entries are decided, then committed. Assumes nothing.
use Rattle.std.specs.Prelude.{ℕ, ◌+◌, ◌≤◌, ◌≡◌, refl, Bool, List, get_or}
use Rattle.std.proofs.Common.{arith, ap, sym, subst, ◌∙◌}
use Rattle.scope_tree.specs.Told.{Done, Refused}
use Rattle.scope_tree.specs.Staging.{Staged}
use Rattle.scope_tree.specs.Form.{resolves_use}
use Rattle.scope_tree.specs.Views.{View, bit_of, here_of, committed}
use Rattle.scope_tree.specs.declared.Tree.{Tree}
use Rattle.scope_tree.specs.Trees.{view, Sized}
use Rattle.scope_tree.specs.Pack.{view-sized}
use Rattle.commit.specs.Filled.{filled, fills}
use Rattle.decision.specs.Decided.{Decided}
use Rattle.scopes.specs.Meets.{Meets, left}
use Rattle.scopes.specs.Declares.{bridge}

module _ (t : Tree) (s : List ℕ) (v : Bool) (r : Staged) (d : Decided (view t) s r) where
  pub use_no : (r.number ≡ 0 → ⊥) → Meets t (resolves_use s v) (left (Refused r.number) t)
  use_no z = bridge _ (λ y. d.refused z v) (λ y. y) (λ y. refl) (λ y. refl) (λ y. absurd (z y))

  pub use_yes : r.number ≡ 0 → (c : ℕ) → c ≡ get_or t.opened 9 0 → (h : ℕ) → h ≡ here_of (view t) → (b : ℕ) → b ≡ bit_of v → (u : Tree) → u ≡ filled c t r h b r.count → Meets t (resolves_use s v) (left Done u)
  use_yes z c p h q b w u e =
      let room : c + r.count ≤ 1024 = omega (arith, (d.small z).0, p) in
      bridge _ (λ y. d.taken z v (view-sized t y)) (λ y. subst Sized (sym e) (fills c t r h b r.count p y room).sized)
      (λ y. ap (λ (x : Tree). record { answer = Done; tree = view x }) e ∙ ap (λ (x : View). record { answer = Done; tree = x }) ((fills c t r h b r.count p y room).same ∙ (λ j. committed (view t) r (q j) (w j) r.count)))
      (λ y. let x : ◌≡◌ {A = ℕ} 0 1 = cc in absurd (omega arith)) (λ y. refl)
