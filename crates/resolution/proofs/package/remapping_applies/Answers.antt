-- `remapping_applies` meets its contract. Assumes nothing.
use Rattle.names.specs.Bytes.{same_is}
use Rattle.resolution.specs.TakenLaws.{applies-is}
use Rattle.resolution.proofs.package.remapping_applies.Goals as goal

pub returns-then-eq : goal.returns-then-eq
returns-then-eq c =
    let z = applies-is c.args.b.now.is _ c.requires.0 c.args.name.now _ c.requires.1 in
    rw (c.is_below.ensures, c.from.ensures) (rw (← c.remapping_name.ensures, ← same_is c.remapping_name.result.now c.args.name.now, ← c.eq.ensures, c.if-eq.true) at z)

pub returns-else-eq : goal.returns-else-eq
returns-else-eq c =
    let z = applies-is c.args.b.now.is _ c.requires.0 c.args.name.now _ c.requires.1 in
    rw c.if-eq.false (rw (← c.remapping_name.ensures, ← same_is c.remapping_name.result.now c.args.name.now, ← c.eq.ensures, c.if-eq.false) at z)
