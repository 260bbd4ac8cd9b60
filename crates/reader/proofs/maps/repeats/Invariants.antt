-- `reader::maps::repeats`: what is left to search before each turn. Assumes nothing.
use Rattle.std.proofs.Common.{◌≡◌, ◌+◌, ◌-◌, ◌*◌, ◌≤◌}
use Rattle.bundle.specs.Decode.{each, after_remapping}
use Rattle.bundle.specs.Conflicts.{any, same_remapping, placed_remapping_at}
use Rattle.reader.proofs.maps.repeats.Given as goal

abbrev pub invariant-loop : goal.invariant-loop
invariant-loop l = (l.a ≤ l.at + l.counter * 768) × (any (same_remapping (placed_remapping_at l.s l.r)) (each (after_remapping l.s) (placed_remapping_at l.s) (l.n - l.counter) l.a) ≡ any (same_remapping (placed_remapping_at l.s l.r)) (each (after_remapping l.s) (placed_remapping_at l.s) l.n l.at))
