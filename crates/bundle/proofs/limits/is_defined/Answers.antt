-- `bundle::limits::is_defined` meets its contract, way by way. Assumes nothing.
use borrow.Author.Tests.{le-leb, lt-leb}
use Rattle.bundle.proofs.limits.is_defined.Goals as goal

pub returns-then-version-lt1 : goal.returns-then-version-lt1
returns-then-version-lt1 c = simp (lt-leb _ _ c.if-version-lt1.true)

pub returns : goal.returns
returns c = simp (le-leb _ _ c.if-version-lt1.false)
