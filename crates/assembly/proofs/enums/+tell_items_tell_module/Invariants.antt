-- The depth falls from `tell_items` to `tell_module` and back; the loop leaves the enums of the items that are left to tell. Assumes nothing.
use Rattle.std.proofs.Common.{◌<◌, ◌++◌, ◌+◌, ◌*◌, map}
use Rattle.bundle.specs.Form.{Every}
use Rattle.assembly.specs.FaultRoom.{foreign, Telling}
use Rattle.assembly.specs.Walk.{item_enums, items_enums}
use Rattle.assembly.proofs.enums.+tell_items_tell_module.Given as goal

abbrev pub decreases-tell_items : goal.decreases-tell_items
decreases-tell_items l = 2 * l.depth + 1

abbrev pub decreases-tell_module : goal.decreases-tell_module
decreases-tell_module l = 2 * l.depth

abbrev pub invariant-tell_items-loop-at : goal.invariant-tell_items-loop-at
invariant-tell_items-loop-at l =
    Telling (item_enums l.s l.depth) (l.initial.faults ++ map foreign (items_enums l.s l.depth l.fn.items.end l.fn.items.at)) l.faults l.at-iterator
    × Every (λ a. a < l.fn.items.end) l.at-iterator
