-- `discover` meets its contract. Assumes nothing.
use Rattle.std.proofs.Common.{◌-◌}
use Rattle.bundle.specs.Limits.{file_limit}
use Rattle.bundle.specs.Decode.{decode}
use Rattle.discovery.specs.Places.{Places}
use Rattle.driver.specs.Complete.{Table}
use Rattle.driver.specs.Turns.{Invariant}
use Rattle.driver.proofs.turns.discover.Given as goal

abbrev pub invariant-loop-unit : goal.invariant-loop-unit
invariant-loop-unit l =
    Invariant (decode l.b.bytes.now) l.unit l.g × (Table (decode l.b.bytes.now) l.unit l.g l.known × Places l.b.bytes.now l.known)

abbrev pub decreases-loop-unit : goal.decreases-loop-unit
decreases-loop-unit l = file_limit - l.unit
