-- What the code's answers mean: the order or the ring that the definition has, and at least one id. Assumes nothing.
use Rattle.std.specs.Prelude.{◌≡◌, refl, Bool, true, false, cond, List, [], ◌∷◌, ℕ, ◌<◌, Ok, Err, length, eqb}
use Rattle.std.proofs.Common.{sym, ap, ◌∙◌, arith, eqb-true}
use Rattle.std.proofs.lemmas.Bool.{eqb-false}
use mathlib.Core.List.{Memᴰ}
use Rattle.refusal.specs.declared.Cause.{Cause}
use Rattle.refusal.specs.Numbers.{number_of}
use Rattle.graph.specs.declared.Graph.{Graph}
use Rattle.graph.specs.declared.Unordered.TheVariants.{Ring, Refused}
use Rattle.graph.specs.Linearize.{Out, order, ring, linearize}
use Rattle.graph.specs.Order.{here}
use Rattle.graph.specs.OrderTheorems.{Linearizes, linearize-right}
use Rattle.graph.specs.Given.{Linearized, deps_of, counted, fitting, known, refusal, ring_met, answer, numbered, linearize_given}
use Rattle.graph.specs.GivenFacts.{within_of, given-accepted, given-refused, no_zero}
use Rattle.graph.specs.GivenTheorems.{ids_of, ids-of-answer}
use Rattle.graph.specs.Told.{told}

same_ids : (j k : ℕ) (l m : List ℕ) → answer j l ≡ answer k m → l ≡ m
same_ids j k l m e = sym (ids-of-answer j l) ∙ (ap ids_of e ∙ ids-of-answer k m)

number_is : (r s : Linearized) → r ≡ s → r.number ≡ s.number
number_is r s e = ap (λ (x : Linearized). x.number) e

is-order : (o : List ℕ) (x : Out) → answer 0 o ≡ numbered x → x ≡ order o
is-order o (order p) e = ap order (sym (same_ids 0 0 o p e))
is-order o (ring p) e = let z : ◌≡◌ {A = ℕ} 0 ring_met = number_is _ _ e in absurd (omega arith)

is-ring : (r : List ℕ) (x : Out) → answer ring_met r ≡ numbered x → x ≡ ring r
is-ring r (order p) e = let z : ◌≡◌ {A = ℕ} ring_met 0 = number_is _ _ e in absurd (omega arith)
is-ring r (ring p) e = ap ring (sym (same_ids ring_met ring_met r p e))

-- an order and a ring have ids
ids-of_order : (deps : ℕ → List ℕ) (o : List ℕ) → Linearizes deps (order o) → 0 < length o
ids-of_order deps [] l = absurd (mathlib.Core.List.Memᴰ.not-nil (l.0.complete 0 here))
ids-of_order deps (x ∷ o) l = omega arith

ids-of_ring : (deps : ℕ → List ℕ) (r : List ℕ) → Linearizes deps (ring r) → 0 < length r
ids-of_ring deps r l = let q = l.0.ring in omega (arith, ap (λ (k : List ℕ). length k) q.is)

no-refusal : (deps : ℕ → List ℕ) (c : Cause) (x : Out) → Linearizes deps x → answer (number_of c) [] ≡ numbered x → ⊥
no-refusal deps c (order o) l e = no_zero c (number_is _ _ e)
no-refusal deps c (ring r) l e =
    let s = ids-of_ring deps r l in
    omega (arith, ap (λ (k : List ℕ). length k) (same_ids (number_of c) ring_met [] r e))

module _ (g : Graph) (e : refusal g ≡ 0) where
  right : Linearizes (deps_of g) (linearize (deps_of g) g.units)
  right = linearize-right (deps_of g) g.units (within_of g e)

  -- of a graph that is not refused
  pub order-told : (o : List ℕ) → told (Ok o) ≡ linearize_given g → linearize (deps_of g) g.units ≡ order o
  order-told o h = is-order o (linearize (deps_of g) g.units) (h ∙ sym (given-accepted g e))

  pub ring-told : (r : List ℕ) → told (Err (Ring r)) ≡ linearize_given g → linearize (deps_of g) g.units ≡ ring r
  ring-told r h = is-ring r (linearize (deps_of g) g.units) (h ∙ sym (given-accepted g e))

  pub refusal-told : (c : Cause) → told (Err (Refused c)) ≡ linearize_given g → ⊥
  refusal-told c h = no-refusal (deps_of g) c (linearize (deps_of g) g.units) right (h ∙ sym (given-accepted g e))

refusals : (a b c : Bool) → ◌≡◌ {A = ℕ} (cond a (cond b (cond c 0 29) 1) 3) ring_met → ⊥
refusals true true true e = omega arith
refusals true true false e = omega arith
refusals true false c e = omega arith
refusals false b c e = omega arith

-- of any graph
module _ (g : Graph) where
  told_refused : (l : Linearized) → l ≡ linearize_given g → (refusal g ≡ 0 → ⊥) → l.number ≡ refusal g
  told_refused l h f = number_is _ _ (h ∙ sym (given-refused g f))

  -- where the number is none of a refusal's, nothing refuses it
  not_refused : (l : Linearized) → l ≡ linearize_given g → (l.number ≡ refusal g → (refusal g ≡ 0 → ⊥) → ⊥) → refusal g ≡ 0
  not_refused l h f = go (eqb (refusal g) 0) refl
    where
      go : (b : Bool) → eqb (refusal g) 0 ≡ b → refusal g ≡ 0
      go true q = eqb-true (refusal g) 0 q
      go false q = let n = eqb-false (refusal g) 0 q in absurd (f (told_refused l h n) n)

  pub some-order : (o : List ℕ) → told (Ok o) ≡ linearize_given g → 0 < length o
  some-order o h =
      let e = not_refused (answer 0 o) h (λ z f. f (sym z)) in
      ids-of_order (deps_of g) o (rw (order-told g e o h) at (right g e))

  pub some-ring : (r : List ℕ) → told (Err (Ring r)) ≡ linearize_given g → 0 < length r
  unfolding refusal
  some-ring r h =
      let e = not_refused (answer ring_met r) h (λ z f. refusals (counted g) (fitting g) (known g) (sym z)) in
      ids-of_ring (deps_of g) r (rw (ring-told g e r h) at (right g e))
