use Rattle.std.proofs.Common.{arith}
use Rattle.scope_tree.specs.Kinds.{kinds-in_order}
use Rattle.scope_tree.specs.Staging.{kinding_turn}
use Rattle.decision.proofs.batch.Batch.stage_element.Goals as goal

pub loop-kind-preserved : goal.loop-kind-preserved
loop-kind-preserved c =
    let k = kinds-in_order c.loop-kind.kind-index c.loop-kind-test.true in
    (kinding_turn _ _ _ _ _ _ _ c.loop-kind.invariant.0 (omega arith) (rw k at c.stage_kind-staged.ensures.told) c.verdict-told.ensures (rw k at c.stage_kind-staged.ensures.left), c.stage_kind-staged.ensures.fresh)

pub stage_kind-staged-requires-clause-fresh : goal.stage_kind-staged-requires-clause-fresh
stage_kind-staged-requires-clause-fresh c = c.loop-kind.invariant.1
