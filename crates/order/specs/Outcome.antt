-- What becomes of a bundle, and how one step follows another: said once for all steps. Assumes nothing.
use Rattle.std.specs.Prelude.{ℕ, List, [], ◌∷◌}
use Rattle.discovery.specs.Discovery.{Fault}

pub data Outcome (A : Type 0) : Type 0 where
  -- faults, in the order of their pushes
  faulty : List Fault → Outcome A
  -- the ids of a ring
  closed : List ℕ → Outcome A
  -- a refusal: its number and its place
  ended : ℕ → ℕ → Outcome A
  -- what the steps come to
  result : A → Outcome A

-- a step after others: it sees their result, and what is told otherwise prevents it
abbrev pub and_then : {A B : Type 0} → Outcome A → (A → Outcome B) → Outcome B
and_then (faulty l) k = faulty l
and_then (closed r) k = closed r
and_then (ended n p) k = ended n p
and_then (result x) k = k x

-- faults, where there are some
abbrev pub unless : {A : Type 0} → List Fault → Outcome A → Outcome A
unless [] x = x
unless (f ∷ fs) x = faulty (f ∷ fs)

-- what is made of a result, and what is there without one
abbrev pub result_or : {A B : Type 0} → (A → B) → B → Outcome A → B
result_or f y (faulty l) = y
result_or f y (closed r) = y
result_or f y (ended n p) = y
result_or f y (result x) = f x

-- the same of what is claimed
abbrev pub ResultOr : {A : Type 0} → (A → Type 0) → Type 0 → Outcome A → Type 0
ResultOr P Q (faulty l) = Q
ResultOr P Q (closed r) = Q
ResultOr P Q (ended n p) = Q
ResultOr P Q (result x) = P x
