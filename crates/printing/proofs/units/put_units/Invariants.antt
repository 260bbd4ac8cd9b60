-- The lines of the units so far are written.
use Rattle.std.proofs.Common.{map, take}
use Rattle.text.specs.Words.{lines}
use Rattle.bundle.specs.Decode.{decode}
use Rattle.order.specs.Run.{units_of}
use Rattle.printing.specs.Lines.{unit_line}
use Rattle.printing.proofs.units.put_units.Given as goal

abbrev pub invariant-loop-unit : goal.invariant-loop-unit
invariant-loop-unit g l = g.S.Sink.tells l.initial.out (lines (map (unit_line (units_of (decode l.s))) (take l.unit-index l.units))) l.out
