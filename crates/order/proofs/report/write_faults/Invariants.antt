-- `order::report::write_faults` meets its contract. Assumes nothing.
use Rattle.order.specs.Writing.{FaultsTo}
use Rattle.order.proofs.report.write_faults.Given as goal

abbrev pub invariant-loop-i : goal.invariant-loop-i
invariant-loop-i g l = FaultsTo g.F.Recorded.told l.faults l.initial.out l.out l.i
