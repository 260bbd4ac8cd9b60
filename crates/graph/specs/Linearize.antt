-- Linearization of an import graph of any number of units, as linearization.rs has it: depth first from unit 0, a unit
-- after its list, itself skipped. A graph is its dependency lists, `deps`. Assumes nothing.
use Rattle.std.specs.Prelude.{Bool, false, cond, ◌||◌, List, [], ◌∷◌, ◌++◌, ℕ, zero, suc, eqb}

-- what a walk answers: the order so far, oldest first, or the ring that it met
pub data Out : Type 0 where
  order : List ℕ → Out
  ring : List ℕ → Out

-- whether u is in l
unfoldable pub memb : ℕ → List ℕ → Bool
memb u [] = false
memb u (x ∷ l) = eqb u x || memb u l

-- l from the first u on
unfoldable pub from : ℕ → List ℕ → List ℕ
from u [] = []
from u (x ∷ l) = cond (eqb u x) (x ∷ l) (from u l)

-- what follows a walk that answered: nothing after a ring
abbrev pub and_then : Out → (List ℕ → Out) → Out
and_then (order o) f = f o
and_then (ring r) f = ring r

-- v at each of the units of a list but u, in order
unfoldable pub each : (List ℕ → ℕ → Out) → ℕ → List ℕ → List ℕ → Out
each v u o [] = order o
each v u o (d ∷ ds) = cond (eqb d u) (each v u o ds) (and_then (v o d) (λ o'. each v u o' ds))

-- `dfs_linearize` at u: s is the units being visited, oldest first, and o those that are done. A done unit adds nothing; one being visited is met again, and the ring is s from it on. The first number bounds how deep the walk goes.
unfoldable pub visit : (ℕ → List ℕ) → ℕ → List ℕ → List ℕ → ℕ → Out
visit deps zero s o u = ring []
visit deps (suc k) s o u =
    cond (memb u o) (order o)
    (cond (memb u s) (ring (from u s))
    (and_then (each (visit deps k (s ++ (u ∷ []))) u o (deps u)) (λ o'. order (o' ++ (u ∷ [])))))

-- the walk over n units, which is never more than n deep (OrderTheorems)
unfoldable pub linearize : (ℕ → List ℕ) → ℕ → Out
linearize deps n = visit deps (suc n) [] [] 0
