-- `names::unit::unit_name` meets its contract: the last digits are in place. Assumes nothing.
use Rattle.names.specs.Decimal.{Written}
use Rattle.names.proofs.unit.unit_name.Given as goal

abbrev pub invariant-loop-i : goal.invariant-loop-i
invariant-loop-i l = Written l.id l.len l.i l.rest l.bytes
