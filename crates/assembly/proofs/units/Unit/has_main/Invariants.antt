-- `Unit::has_main`: no item passed is a main function. Assumes nothing.
use Rattle.std.proofs.Common.{◌≡◌, ◌<◌, ◌^◌}
use Rattle.std.specs.List.{list_any}
use Rattle.bundle.specs.Decode.{decode}
use Rattle.bundle.specs.Form.{Every}
use Rattle.assembly.specs.Assemble.{items_of, has_main}
use Rattle.assembly.specs.Walk.{main_at}
use Rattle.assembly.proofs.units.Unit.has_main.Given as goal

abbrev pub invariant-loop-at : goal.invariant-loop-at
invariant-loop-at l =
    (has_main (items_of (decode l.self.bytes.now) l.self.id) ≡ list_any (main_at l.self.bytes.now) l.at-iterator)
    × Every (λ a. a < 2 ^ 58) l.at-iterator
