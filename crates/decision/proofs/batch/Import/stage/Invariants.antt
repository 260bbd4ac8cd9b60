use Rattle.scope_tree.specs.Trees.{tree_in}
use Rattle.scope_tree.specs.Looks.{arrays_in}
use Rattle.scope_tree.specs.Staging.{Staging}
use Rattle.decision.specs.Batches.{staged_of}
use Rattle.decision.proofs.batch.Import.stage.Given as goal

abbrev pub invariant-loop : goal.invariant-loop
invariant-loop l =
    Staging (arrays_in (tree_in l.self.tree.now)) l.self.here.time l.self.here.scope l.self.from.scope l.self.from.time l.decl l.at l.count l.p l.counter (staged_of l.batch)
