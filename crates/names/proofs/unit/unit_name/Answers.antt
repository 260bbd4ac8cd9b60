-- `names::unit::unit_name` meets its contract: the last digits are in place. Assumes nothing.
use Rattle.std.proofs.Common.{arith}
use Rattle.names.specs.Bytes.{ascii}
use Rattle.names.specs.Decimal.{written_none, written_more, written_all}
use Rattle.names.proofs.unit.unit_name.Goals as goal

pub loop-i-init : goal.loop-i-init
unfolding ascii
loop-i-init c = rw c.copy_from_slice.ensures.after (written_none c.args.id _ c.width_of-len.ensures.value c.width_of-len.ensures.bound)

pub loop-i-preserved : goal.loop-i-preserved
loop-i-preserved c = written_more _ _ _ _ _ c.loop-i-test.true c.loop-i.auto.i (omega arith) c.loop-i.invariant

pub returns : goal.returns
returns c = written_all _ _ _ _ _ c.loop-i-test.false (omega arith) c.loop-i.invariant
