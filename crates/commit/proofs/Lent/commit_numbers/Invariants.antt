use Rattle.std.proofs.Common.{◌≡◌}
use Rattle.commit.specs.Lending.{lent_in, Kept}
use Rattle.commit.specs.Filled.{numbers_staged, filled}
use Rattle.commit.proofs.Lent.commit_numbers.Given as goal

abbrev pub invariant-loop-i : goal.invariant-loop-i
invariant-loop-i l = Kept l.fn.self l.self × (lent_in l.self ≡ filled l.first (lent_in l.fn.self) (numbers_staged l.entries) l.scope l.visible l.i)
