-- `Known::put_places` meets its contract. Assumes nothing.
use Rattle.discovery.specs.Places.{StartsTo}
use Rattle.discovery.proofs.known.Known.put_places.Given as goal

abbrev pub invariant-loop-i : goal.invariant-loop-i
invariant-loop-i l = StartsTo l.card l.initial.self l.self l.i
