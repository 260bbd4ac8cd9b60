use Rattle.std.proofs.Common.{◌≡◌}
use Rattle.decision.specs.Batches.{staged_of}
use Rattle.commit.specs.Lending.{lent_in, Kept}
use Rattle.commit.specs.Filled.{filled}
use Rattle.commit.proofs.Lent.commit_at.Given as goal

abbrev pub invariant-loop-i : goal.invariant-loop-i
invariant-loop-i l = Kept l.fn.self l.self × (lent_in l.self ≡ filled l.first (lent_in l.fn.self) (staged_of l.batch) l.scope l.public l.i)
