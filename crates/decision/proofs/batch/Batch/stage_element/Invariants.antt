use Rattle.std.proofs.Common.{◌+◌}
use Rattle.scope_tree.specs.Forms.{fault}
use Rattle.scope_tree.specs.Trees.{tree_in}
use Rattle.scope_tree.specs.Looks.{arrays_in}
use Rattle.scope_tree.specs.Staging.{Kinding}
use Rattle.decision.specs.Batches.{Fresh, staged_of}
use Rattle.decision.proofs.batch.Batch.stage_element.Given as goal

abbrev pub invariant-loop-kind : goal.invariant-loop-kind
invariant-loop-kind l =
    Kinding (arrays_in (tree_in l.import.tree.now)) l.import.here.time l.import.here.scope l.import.from.scope l.import.from.time l.name l.local (staged_of l.fn.self) (l.kind-index + 1) (fault l.told) (staged_of l.self)
    × Fresh l.local l.first l.self
