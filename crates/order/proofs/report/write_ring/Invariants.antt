-- `order::report::write_ring` meets its contract. Assumes nothing.
use Rattle.order.specs.Writing.{RingTo}
use Rattle.order.proofs.report.write_ring.Given as goal

abbrev pub invariant-loop-i : goal.invariant-loop-i
invariant-loop-i l = RingTo l.ids l.initial.out l.out l.i
