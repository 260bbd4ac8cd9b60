-- `card::hash::mix`: what is left to hash before each byte. Assumes nothing.
use Rattle.std.proofs.Common.{◌≡◌, drop}
use Rattle.card.specs.Index.{hashed}
use Rattle.card.proofs.hash.mix.Given as goal

abbrev pub invariant-loop-b : goal.invariant-loop-b
invariant-loop-b l = hashed l.m l.x (drop l.b-index l.t) ≡ hashed l.m l.h l.t
