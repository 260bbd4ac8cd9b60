use Rattle.rows.specs.TreeRows.{Putting}
use Rattle.rows.proofs.put_part.Given as goal

abbrev pub invariant-loop-i : goal.invariant-loop-i
invariant-loop-i l = Putting l.initial.out l.at l.fn.row l.out l.i
