-- `order::report::write_ring` meets its contract. Assumes nothing.
use native.Mathlib.Omega.{arith}
use Rattle.std.specs.Prelude.{◌≡◌, ◌<◌, length, set}
use Rattle.std.proofs.Common.{mod-eq_of_lt}
use Rattle.order.specs.Report.{ring_met, low}
use Rattle.order.specs.Writing.{written3, too_long, ring-length, head-length, ring-none, ring-one, ring-all}
use Rattle.order.proofs.report.write_ring.Goals as goal

pub returns-then-length-out-clause-value : goal.returns-then-length-out-clause-value
returns-then-length-out-clause-value c = rw c.at.ensures (too_long _ c.args.out.now _ (ring-length c.args.ids.now c.args.out.now (omega arith)) (omega arith)).0

pub returns-then-length-out-clause-out_after : goal.returns-then-length-out-clause-out_after
returns-then-length-out-clause-out_after c = (too_long _ c.args.out.now _ (ring-length c.args.ids.now c.args.out.now (omega arith)) (omega arith)).1

pub loop-i-init : goal.loop-i-init
loop-i-init c =
    let small : length c.args.ids.now < 256 = omega arith in
    let head : set c.put_record.new.out 3 (length c.args.ids.now) ≡ set (written3 c.args.out.now 0 ring_met 0) 3 (low (length c.args.ids.now)) = rw (c.put_record.ensures, c.from.ensures, mod-eq_of_lt small) in
    ring-none c.args.ids.now _ small c.args.out.now (omega arith) head

pub loop-i-preserved : goal.loop-i-preserved
loop-i-preserved c =
    let small : length c.args.ids.now < 256 = omega arith in
    let head : set c.put_record.new.out 3 (length c.args.ids.now) ≡ set (written3 c.args.out.now 0 ring_met 0) 3 (low (length c.args.ids.now)) = rw (c.put_record.ensures, c.from.ensures, mod-eq_of_lt small) in
    let long = head-length c.args.ids.now _ small c.args.out.now (omega arith) head in
    rw c.to_be_bytes.ensures (ring-one c.args.ids.now _ small c.loop-i.out c.loop-i.i (omega arith) c.loop-i-test.true c.loop-i.invariant)

pub returns-clause-value : goal.returns-clause-value
returns-clause-value c =
    let small : length c.args.ids.now < 256 = omega arith in
    let head : set c.put_record.new.out 3 (length c.args.ids.now) ≡ set (written3 c.args.out.now 0 ring_met 0) 3 (low (length c.args.ids.now)) = rw (c.put_record.ensures, c.from.ensures, mod-eq_of_lt small) in
    (ring-all c.args.ids.now _ small c.args.out.now (omega arith) head c.loop-i.out c.loop-i.i (omega arith) c.loop-i.invariant).0

pub returns-clause-out_after : goal.returns-clause-out_after
returns-clause-out_after c =
    let small : length c.args.ids.now < 256 = omega arith in
    let head : set c.put_record.new.out 3 (length c.args.ids.now) ≡ set (written3 c.args.out.now 0 ring_met 0) 3 (low (length c.args.ids.now)) = rw (c.put_record.ensures, c.from.ensures, mod-eq_of_lt small) in
    (ring-all c.args.ids.now _ small c.args.out.now (omega arith) head c.loop-i.out c.loop-i.i (omega arith) c.loop-i.invariant).1
