-- Steps 3 and 4, one after the other: discovery, then the linked order or a ring. Assumes nothing.
use Rattle.std.specs.Prelude.{ℕ, List, [], length, get_or}
use Rattle.bundle.specs.Bundle.{Text, Bundle}
use Rattle.discovery.specs.Discovery.{Fault, Graph, discover_dependencies}
use Rattle.discovery.specs.Facts.{paths_at}
use Rattle.graph.specs.Linearize.{Out, order, ring, linearize}
use Rattle.order.specs.Outcome as steps
pub use Rattle.order.specs.Outcome.{faulty, closed, ended, result, unless}

-- the ids that a unit of a discovered graph lists
abbrev pub list_of : Graph → ℕ → List ℕ
list_of g u = get_or g.dependencies u []

-- step 4 over the units that discovery found
abbrev pub walk_of : Graph → Out
walk_of g = linearize (list_of g) (length g.sources)

-- what the two steps come to: the faults of discovery, a ring, or the ids of the units in linked order
abbrev pub Outcome : Type 0
Outcome = steps.Outcome (List ℕ)

abbrev pub linked : List ℕ → Outcome
linked o = result o

abbrev pub step4 : Out → Outcome
step4 (order o) = linked o
step4 (ring r) = closed r

-- discovery faults prevent step 4
abbrev pub outcome : List Fault → Out → Outcome
outcome fs x = unless fs (step4 x)

abbrev pub ordered_by : Graph → Outcome
ordered_by g = outcome g.faults (walk_of g)

unfoldable pub ordered : Bundle → Outcome
ordered b = ordered_by (discover_dependencies b)

-- the paths of the units, by id; and those of some ids
abbrev pub units_of : Bundle → List Text
units_of b = (discover_dependencies b).sources

abbrev pub files_of : Bundle → List ℕ → List Text
files_of b ids = paths_at (units_of b) ids
