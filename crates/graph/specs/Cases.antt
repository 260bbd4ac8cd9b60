-- The corner cases of linearization.rs as one table: dependency lists, and what the definition answers; and a table of the tests of a graph given directly. Assumes nothing.
use Rattle.std.specs.Prelude.{◌≡◌, refl, List, [], ◌∷◌, ℕ, ◌+◌, length, get_or, replicate}
use Rattle.graph.specs.declared.Graph.{Graph}
use Rattle.graph.specs.Limits.{unit_limit, id_limit}
use Rattle.graph.specs.Given.{cut, too_many, unknown_unit, refusal, counted, fitting, known, below, all}
use Rattle.graph.specs.Linearize.{Out, order, ring, linearize, visit, each, memb, from}

-- the graph that has these lists
abbrev pub lists : List (List ℕ) → ℕ → List ℕ
lists l u = get_or l u []

pub record Row : Type 0 where
  pub deps : List (List ℕ)
  pub out : Out

abbrev pub holds : List Row → Type 0
holds [] = Unit {0}
holds (r ∷ l) = (linearize (lists r.deps) (length r.deps) ≡ r.out) × holds l

abbrev pub corners : List Row
corners =
    -- C7: a unit that lists only itself is no ring
    record { deps = (0 ∷ []) ∷ []; out = order (0 ∷ []) }
    -- C8: 0 lists 1, 1 lists 0
    ∷ record { deps = (1 ∷ []) ∷ (0 ∷ []) ∷ []; out = ring (0 ∷ 1 ∷ []) }
    -- a ring starts at the earliest of its units on the walk: here 2, which is not the walk's first
    ∷ record { deps = (1 ∷ []) ∷ (2 ∷ []) ∷ (3 ∷ []) ∷ (2 ∷ []) ∷ []; out = ring (2 ∷ 3 ∷ []) }
    -- and here 2, which is not the smallest id
    ∷ record { deps = (2 ∷ []) ∷ (2 ∷ []) ∷ (1 ∷ []) ∷ []; out = ring (2 ∷ 1 ∷ []) }
    -- a ring that unit 0 does not reach is not met
    ∷ record { deps = [] ∷ (2 ∷ []) ∷ (1 ∷ []) ∷ []; out = order (0 ∷ []) }
    -- a diamond: what two units list is there once
    ∷ record { deps = (1 ∷ 2 ∷ 0 ∷ []) ∷ (3 ∷ []) ∷ (3 ∷ 2 ∷ []) ∷ [] ∷ []; out = order (3 ∷ 1 ∷ 2 ∷ 0 ∷ []) }
    ∷ []

pub corner_cases : holds corners
unfolding linearize visit each memb from
corner_cases = (refl, (refl, (refl, (refl, (refl, (refl, tt))))))

-- THE TESTS OF A GRAPH GIVEN DIRECTLY

-- a graph of these starts, lengths and ids
abbrev given : List ℕ → List ℕ → List ℕ → Graph
given start len ids = record { start = start; len = len; ids = ids; units = length start; count = length ids }

pub record Test : Type 0 where
  pub graph : Graph
  pub number : ℕ

abbrev pub tested : List Test → Type 0
tested [] = Unit {0}
tested (t ∷ l) = (refusal t.graph ≡ t.number) × tested l

abbrev pub tests : List Test
tests =
    -- no unit
    record { graph = given [] [] []; number = too_many }
    -- a unit more than the limit, and an id more
    ∷ record { graph = given (replicate (unit_limit + 1) 0) [] []; number = too_many }
    ∷ record { graph = given (0 ∷ []) (0 ∷ []) (replicate (id_limit + 1) 0); number = too_many }
    -- an empty list may start at the end of the ids, and not after it
    ∷ record { graph = given (1 ∷ []) (0 ∷ []) (0 ∷ []); number = 0 }
    ∷ record { graph = given (2 ∷ []) (0 ∷ []) (0 ∷ []); number = cut }
    -- an id that is no unit, in a list and in none
    ∷ record { graph = given (0 ∷ []) (1 ∷ []) (1 ∷ []); number = unknown_unit }
    ∷ record { graph = given (0 ∷ []) (0 ∷ []) (1 ∷ []); number = 0 }
    -- all lists before all ids
    ∷ record { graph = given (0 ∷ 0 ∷ []) (1 ∷ 2 ∷ []) (7 ∷ []); number = cut }
    ∷ []

pub test_cases : tested tests
unfolding refusal counted fitting known below all
test_cases = (refl, (refl, (refl, (refl, (refl, (refl, (refl, (refl, tt))))))))
