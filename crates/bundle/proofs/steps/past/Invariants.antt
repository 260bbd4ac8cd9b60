-- `bundle::steps::past`: what holds before each turn. Assumes nothing.
use mathlib.Core.Path.{◌≡◌}
use Prim.Native.Nat.{◌+◌, ◌*◌, ◌≤◌}
use Rattle.bundle.specs.Decode.{far}
use Rattle.bundle.proofs.steps.past.Given as goal

abbrev pub invariant-loop : goal.invariant-loop
invariant-loop g l = (l.a ≤ l.at + l.counter * g.P.Part.size) × (l.a ≡ far (g.P.Part.after l.s) l.counter l.at)
