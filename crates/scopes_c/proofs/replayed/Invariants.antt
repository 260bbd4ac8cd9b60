use Rattle.scopes_c.specs.Lists.{Walking}
use Rattle.scopes_c.proofs.replayed.Given as goal

abbrev pub invariant-loop-i : goal.invariant-loop-i
invariant-loop-i l = Walking l.s l.initial.out l.out l.tree l.p l.i
