-- The ids so far are written.
use Rattle.std.proofs.Common.{take}
use Rattle.printing.specs.Reports.{ids_after}
use Rattle.printing.proofs.report.put_ring.Given as goal

abbrev pub invariant-loop-id : goal.invariant-loop-id
invariant-loop-id g l = g.S.Sink.tells l.initial.out (ids_after (take l.id-index l.ids)) l.out
