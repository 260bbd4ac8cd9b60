use Rattle.commit.specs.Lending.{lent_in, Kept}
use Rattle.scopes_c.specs.Lists.{Walking}
use Rattle.scopes_c.proofs.walked.Given as goal

abbrev pub invariant-loop-i : goal.invariant-loop-i
invariant-loop-i l = Walking l.s l.initial.out l.out (lent_in l.tree) l.p l.i × Kept l.fn.tree l.tree
