-- What the decision on a use promises. Assumes nothing.
use Rattle.std.specs.Prelude.{ℕ, ◌+◌, ◌≤◌, ◌≡◌, refl, Bool, List}
use Rattle.std.proofs.Common.{ap, sym}
use Rattle.refusal.specs.declared.Cause.{Cause}
use Rattle.refusal.specs.Numbers.{number_of}
use Rattle.scope_tree.specs.Told.{number-some}
use Rattle.scope_tree.specs.Staging.{Staged, refusal}
use Rattle.scope_tree.specs.Form.{resolves_use}
use Rattle.scope_tree.specs.Views.{View, ViewMeets, bit_of, here_of, committed, refusing, accepting}
use Rattle.scope_tree.specs.Views.{Sized as ViewSized}

-- THE DECISION
pub record Decided (t : View) (s : List ℕ) (r : Staged) : Type 0 where
  pub refused : (r.number ≡ 0 → ⊥) → (v : Bool) → ViewMeets t (resolves_use s v) (refusing r.number t)
  pub small : r.number ≡ 0 → (t.count + r.count ≤ 1024) × (r.count ≤ 96)
  pub shallow : r.number ≡ 0 → t.depth ≤ 9
  pub taken : r.number ≡ 0 → (v : Bool) → ViewSized t → ViewMeets t (resolves_use s v) (accepting (committed t r (here_of t) (bit_of v) r.count))

pub decided_no : (t : View) (s : List ℕ) (c : Cause) → ((v : Bool) → ViewMeets t (resolves_use s v) (refusing (number_of c) t)) → Decided t s (refusal (number_of c))
decided_no t s c m =
    record {
      refused = λ y. m;
      small = λ y. absurd (number-some c y);
      shallow = λ y. absurd (number-some c y);
      taken = λ y. absurd (number-some c y);
    }

pub decided_yes : (t : View) (s : List ℕ) (r : Staged) → r.number ≡ 0 → t.depth ≤ 9 → t.count + r.count ≤ 1024 → r.count ≤ 96 → {h : ℕ} → h ≡ here_of t
    → ((v : Bool) → ViewSized t → (y : ℕ) → y ≡ bit_of v → (o : View) → o ≡ committed t r h y r.count → ViewMeets t (resolves_use s v) (accepting o)) → Decided t s r
decided_yes t s r z d c k {h} q m =
    record {
      refused = λ y. absurd (y z);
      small = λ y. (c, k);
      shallow = λ y. d;
      taken = λ y v w. m v w (bit_of v) refl _ (ap (λ (x : ℕ). committed t r x (bit_of v) r.count) (sym q));
    }
