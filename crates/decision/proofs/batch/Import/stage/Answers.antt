use Rattle.scope_tree.specs.Staging.{staging_turn}
use Rattle.decision.proofs.batch.Import.stage.Goals as goal

pub loop-preserved : goal.loop-preserved
loop-preserved c =
    staging_turn _ _ _ _ _ _ _ _ c.loop.invariant c.loop-test.true c.name_at.ensures c.local_at.ensures c.in_ok-stage_element.ensures.told c.stage_element.ensures.left c.next.ensures c.next-p.ensures
