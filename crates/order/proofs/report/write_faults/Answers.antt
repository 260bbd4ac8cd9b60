-- `order::report::write_faults` meets its contract. Assumes nothing.
use Rattle.std.proofs.Common.{arith}
use Rattle.order.specs.Writing.{too_long, faults-length, faults-none, faults-one, faults-all}
use Rattle.order.proofs.report.write_faults.Goals as goal

pub returns-then-length-out-clause-value : goal.returns-then-length-out-clause-value
returns-then-length-out-clause-value g c = rw c.at.ensures (too_long _ c.args.out.now _ (faults-length g.F.Recorded.told c.args.faults.now) (omega arith)).0

pub returns-then-length-out-clause-out_after : goal.returns-then-length-out-clause-out_after
returns-then-length-out-clause-out_after g c = (too_long _ c.args.out.now _ (faults-length g.F.Recorded.told c.args.faults.now) (omega arith)).1

pub loop-i-init : goal.loop-i-init
loop-i-init g c = faults-none g.F.Recorded.told c.args.faults.now c.args.out.now

pub loop-i-preserved : goal.loop-i-preserved
loop-i-preserved g c =
    faults-one g.F.Recorded.told c.args.faults.now c.args.out.now c.loop-i.out c.put_record.new.out c.loop-i.i c.index-faults-i.result (omega arith) (omega arith) c.loop-i.invariant
    (rw (← c.index-faults-i.is) (rw (c.number.ensures, c.place.ensures) at c.put_record.ensures))

pub returns : goal.returns
returns g c =
    let told = faults-all g.F.Recorded.told c.args.faults.now c.args.out.now c.loop-i.out c.loop-i.i (omega arith) (omega arith) c.loop-i.invariant in
    record { value = told.0; out_after = told.1 }
