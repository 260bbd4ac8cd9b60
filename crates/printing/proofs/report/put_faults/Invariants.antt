-- The lines of the records so far are written.
use Rattle.std.proofs.Common.{map, take}
use Rattle.text.specs.Words.{lines}
use Rattle.printing.specs.Reports.{record_line}
use Rattle.printing.proofs.report.put_faults.Given as goal

abbrev pub invariant-loop-number : goal.invariant-loop-number
invariant-loop-number g l = g.S.Sink.tells l.initial.out (lines (map record_line (take l.number-index l.records))) l.out
