-- An answer of the linker tells something: a refusal has a number, a report or an image some bytes. Assumes nothing.
use Rattle.std.specs.Prelude.{ℕ, ◌≡◌, refl, List, Ok}
use Rattle.std.proofs.Common.{arith, ap, sym, ◌∙◌, subst}
use Rattle.bundle.specs.Bundle.{Items}
use Rattle.bundle.specs.Stand.{Bytes}
use Rattle.bundle.specs.Numbers.{numbers}
use Rattle.bundle.specs.RefusalTheorems.{read_only}
use Rattle.order.specs.Results.{Answer}
use Rattle.order.specs.declared.linked.Linked.{Linked}
use Rattle.assembly.specs.Call.{NoImage, too_long, too_small}
use Rattle.program.specs.declared.assembled.Assembled.{Assembled}
use Rattle.program.specs.declared.assembled.Assembled.TheVariants.{Report, Image}
use Rattle.program.specs.Told.{told}
use Rattle.scope_tree.specs.declared.Tree.{Tree}
use Rattle.linker.specs.Call.{link_answer, LinkTree}
use Rattle.linker.specs.Demand.{LinkTold, turned_back, small_report, faults, ring_met, ends, no_image, links}
use Rattle.linker.specs.Demand as demand

-- an answer that has no number, no report and no image is none
module _ (s : List ℕ) (B : Bytes s) (rep img : List ℕ) (t u : Tree) where
  no_bytes : (p : Items) (n m : ℕ) → NoImage p m n → n ≡ 0 → ⊥
  no_bytes p n m (too_long h) e = omega arith
  no_bytes p n m (too_small h k) e = omega arith

  told-some : (rep₁ img₁ : List ℕ) (a : Answer) → LinkTold s rep img t u rep₁ img₁ a → a.number ≡ 0 → a.report ≡ 0 → a.image ≡ 0 → ⊥
  told-some rep₁ img₁ a (turned_back n p e q k w) x y z =
      let m = numbers s n p (read_only s n p e) in
      let i = ap (λ (b : Answer). b.number) q in
      omega (arith, m.0)
  told-some rep₁ img₁ a (small_report b e l q k w) x y z = let i = ap (λ (b : Answer). b.number) q in omega arith
  told-some rep₁ img₁ a (faults b l e f q k w) x y z = let i = k.some in omega arith
  told-some rep₁ img₁ a (ring_met b r e f q k w) x y z = let i = k.some in omega arith
  told-some rep₁ img₁ a (ends b n m e f q k w) x y z = let i = ap (λ (b : Answer). b.number) q in omega (arith, f.numbers.0)
  told-some rep₁ img₁ a (no_image b o p c n e f g q k w) x y z = no_bytes p n _ g (sym (ap (λ (b : Answer). b.number) q) ∙ x)
  told-some rep₁ img₁ a (links b o p e f L g q i k) x y z = let j = ap (λ (b : Answer). b.image) q in omega arith

  pub some-answer : LinkTree s img t u → (a : Answer) → a ≡ link_answer s rep img → a.number ≡ 0 → a.report ≡ 0 → a.image ≡ 0 → ⊥
  some-answer k a e =
      subst (λ (b : Answer). b.number ≡ 0 → b.report ≡ 0 → b.image ≡ 0 → ⊥) (sym e) (told-some _ _ _ (demand.told s B rep img t u k))

  -- so the code's report has bytes, and its image
  pub some-report : LinkTree s img t u → (n : ℕ) → told (Ok (Report n)) ≡ link_answer s rep img → n ≡ 0 → ⊥
  some-report k n e z = some-answer k _ e refl z refl

  pub some-image : LinkTree s img t u → (c : Assembled) (l : Linked) (n : ℕ) → c ≡ Image l n → told (Ok c) ≡ link_answer s rep img → n ≡ 0 → ⊥
  some-image k c l n d e z = some-answer k _ (rw d at e) refl refl z
