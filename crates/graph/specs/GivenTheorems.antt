-- What is answered to a graph given directly, in the words of demand 3. Assumes nothing.
use Rattle.std.specs.Prelude.{◌≡◌, refl, List, [], ℕ, length, take, drop, replicate}
use Rattle.std.proofs.Common.{subst, take_at}
use Rattle.graph.specs.declared.Graph.{Graph}
use Rattle.graph.specs.Limits.{unit_limit}
use Rattle.graph.specs.Linearize.{Out, order, ring, linearize}
use Rattle.graph.specs.Order.{Ordered, Named, Cyclic, Within}
use Rattle.graph.specs.OrderTheorems.{Linearizes, linearize-right}
use Rattle.graph.specs.Given.{Linearized, deps_of, refusal, ring_met, answer, numbered, linearize_given}
use Rattle.graph.specs.GivenFacts.{within_of, given-accepted, given-refused}

-- the ids of an answer
abbrev pub ids_of : Linearized → List ℕ
ids_of r = take r.count r.ids

-- the number is 0 and the ids are an order, or it is 26 and they are a ring as it is named
pub data Right (deps : ℕ → List ℕ) (r : Linearized) : Type 0 where
  linked : r.number ≡ 0 → Ordered deps (ids_of r) → (Cyclic deps → ⊥) → Right deps r
  closed : r.number ≡ ring_met → Named deps (ids_of r) → Cyclic deps → Right deps r

pub ids-of-answer : (k : ℕ) (l : List ℕ) → ids_of (answer k l) ≡ l
ids-of-answer k l = take_at l (drop (length l) (replicate unit_limit 0)) (length l) refl

numbered-right : (deps : ℕ → List ℕ) (x : Out) → Linearizes deps x → Right deps (numbered x)
numbered-right deps (order o) q = linked refl (rw (ids-of-answer 0 o) q.0) q.1
numbered-right deps (ring r) q = closed refl (rw (ids-of-answer ring_met r) q.0) q.1

-- what the walk over n units answers
pub walk-right : (deps : ℕ → List ℕ) (n : ℕ) → Within deps n → Right deps (numbered (linearize deps n))
walk-right deps n w = numbered-right deps (linearize deps n) (linearize-right deps n w)

module _ (g : Graph) where
  -- a graph that is not refused is answered an order where there is no ring, and a ring where there is one
  pub given-right : refusal g ≡ 0 → Right (deps_of g) (linearize_given g)
  given-right e =
      subst (λ (r : Linearized). Right (deps_of g) r) (given-accepted g e)
      (walk-right (deps_of g) g.units (within_of g e))

  -- one that is refused is answered the number, and no id
  pub given-number : (refusal g ≡ 0 → ⊥) → ((linearize_given g).number ≡ refusal g) × (ids_of (linearize_given g) ≡ [])
  given-number f = rw (← given-refused g f) (refl, refl)
