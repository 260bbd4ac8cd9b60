-- `linearization::check` goes up to the first list that does not fit, and then to the first with an id that is no unit. Assumes nothing.
use Rattle.std.proofs.Common.{◌≡◌, true}
use Rattle.graph.specs.Given.{below, fits, knows}
use Rattle.graph.proofs.linearization.check.Given as goal

abbrev pub invariant-loop-u : goal.invariant-loop-u
invariant-loop-u l = below l.u (fits l.g) ≡ true

abbrev pub invariant-loop-u-2 : goal.invariant-loop-u-2
invariant-loop-u-2 l = below l.u (knows l.g) ≡ true
