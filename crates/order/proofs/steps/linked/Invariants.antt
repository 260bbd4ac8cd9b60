-- `order::steps::linked` meets its contract. Assumes nothing.
use Rattle.order.specs.Steps.{CopiedTo}
use Rattle.order.proofs.steps.linked.Given as goal

abbrev pub invariant-loop-i : goal.invariant-loop-i
invariant-loop-i l = CopiedTo l.files l.found l.units l.i
