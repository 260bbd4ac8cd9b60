-- A graph given directly, and what is answered to it: 3, 1, 29, the ring (26) or the linked order, in the specification's numbers, all at place 0. Assumes nothing.
use Rattle.std.specs.Prelude.{Bool, true, cond, ◌&&◌, List, [], ◌∷◌, ℕ, zero, suc, ◌+◌, length, take, drop, get_or, eqb, leb, ltb}
use Rattle.graph.specs.declared.Graph.{Graph}
use Rattle.graph.specs.Limits.{unit_limit, id_limit}
use Rattle.graph.specs.Padded.{padded}
use Rattle.graph.specs.Linearize.{Out, order, ring, linearize}

-- the specification's numbers
abbrev pub cut : ℕ
cut = 1

abbrev pub too_many : ℕ
too_many = 3

abbrev pub ring_met : ℕ
ring_met = 26

abbrev pub unknown_unit : ℕ
unknown_unit = 29

-- what unit u lists
abbrev pub deps_of : Graph → ℕ → List ℕ
deps_of g u = take (get_or g.len u 0) (drop (get_or g.start u 0) g.ids)

-- whether f holds of each number below n
unfoldable pub below : ℕ → (ℕ → Bool) → Bool
below zero f = true
below (suc n) f = below n f && f n

-- whether f holds of each of l
unfoldable pub all : (ℕ → Bool) → List ℕ → Bool
all f [] = true
all f (x ∷ l) = f x && all f l

-- there is a unit, and neither the units nor the ids are too many
unfoldable pub counted : Graph → Bool
counted g = leb 1 g.units && (leb g.units unit_limit && leb g.count id_limit)

-- the list of u, an empty one too, does not pass the end of the ids
abbrev pub fits : Graph → ℕ → Bool
fits g u = leb (get_or g.start u 0 + get_or g.len u 0) g.count

-- each id in the list of u is a unit
abbrev pub knows : Graph → ℕ → Bool
knows g u = all (λ d. ltb d g.units) (deps_of g u)

unfoldable pub fitting : Graph → Bool
fitting g = below g.units (fits g)

unfoldable pub known : Graph → Bool
known g = below g.units (knows g)

-- the number that refuses g, 0 for none
unfoldable pub refusal : Graph → ℕ
refusal g = cond (counted g) (cond (fitting g) (cond (known g) 0 unknown_unit) cut) too_many

-- what is answered, in the specification's numbers: 0 and the linked order, 26 and a ring, or the number that refuses the graph and no id. The ids stand at the start, `count` of them; the others are 0. The place of every number is 0.
pub record Linearized : Type 0 where
  pub number : ℕ
  pub ids : List ℕ
  pub count : ℕ

-- a number and some ids: these at the start of cleared places, and how many they are
abbrev pub answer : ℕ → List ℕ → Linearized
answer k l = record { number = k; ids = padded l; count = length l }

-- the order has the number 0
abbrev pub numbered : Out → Linearized
numbered (order o) = answer 0 o
numbered (ring r) = answer ring_met r

unfoldable pub linearize_given : Graph → Linearized
linearize_given g =
    cond (eqb (refusal g) 0) (numbered (linearize (deps_of g) g.units)) (answer (refusal g) [])
