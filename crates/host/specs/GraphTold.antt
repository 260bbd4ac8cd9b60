-- What `gontsamy_linearize` is given, and what it leaves. Assumes nothing.
use Rattle.std.specs.Prelude.{ℕ, ◌<◌, ◌≡◌, refl, cond, List, [], length, eqb}
use Rattle.std.proofs.Common.{arith, ne_eqb}
use Rattle.graph.specs.declared.Graph.{Graph}
use Rattle.graph.specs.Given.{Linearized, answer}
use Rattle.graph.specs.Padded.{padded}

-- the graph of three arrays and two numbers
abbrev pub graph_of : List ℕ → List ℕ → List ℕ → ℕ → ℕ → Graph
graph_of start len ids units count = record { start = start; len = len; ids = ids; units = units; count = count }

-- the order or the ring, and how many ids it has; a refused graph has none, and what is lent stays as it was
unfoldable pub ordered_told : Linearized → List ℕ → List ℕ
ordered_told a l = cond (eqb a.count 0) l a.ids

unfoldable pub count_told : Linearized → ℕ → ℕ
count_told a n = cond (eqb a.count 0) n a.count

-- AS THE CODE HAS IT
module _ (a : Linearized) (k : ℕ) (l : List ℕ) (n : ℕ) where
  pub graph-refused : answer k [] ≡ a → (k ≡ a.number) × ((l ≡ ordered_told a l) × (n ≡ count_told a n))
  unfolding ordered_told count_told
  graph-refused e = rw (← e) (refl, (refl, refl))

  pub graph-told : (ids : List ℕ) → answer k ids ≡ a → 0 < length ids → (k ≡ a.number) × ((padded ids ≡ ordered_told a l) × (length ids ≡ count_told a n))
  unfolding ordered_told count_told
  graph-told ids e some = rw (← e, ne_eqb (length ids) 0 (omega arith)) (refl, (refl, refl))
