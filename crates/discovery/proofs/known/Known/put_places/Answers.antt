-- `Known::put_places` meets its contract. Assumes nothing.
use Rattle.std.proofs.Common.{arith, refl}
use Rattle.discovery.specs.Places.{starts_none, starts-one, starts-all}
use Rattle.discovery.proofs.known.Known.put_places.Goals as goal

pub loop-i-init : goal.loop-i-init
loop-i-init c = starts_none _ _

pub bounds-self-i : goal.bounds-self-i
bounds-self-i c = omega arith

pub loop-i-preserved : goal.loop-i-preserved
loop-i-preserved c = starts-one _ _ _ _ _ c.loop-i.invariant (omega arith) refl

pub returns : goal.returns
returns c = starts-all _ _ _ _ c.loop-i.invariant (omega arith)
