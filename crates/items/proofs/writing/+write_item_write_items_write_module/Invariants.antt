-- The depth falls from `write_module` to `write_items`; the loop leaves the rest of the items to write. Assumes nothing.
use Rattle.std.proofs.Common.{◌<◌, ◌+◌, ◌*◌}
use Rattle.std.specs.List.{flat_map}
use Rattle.bundle.specs.Decode.{decode}
use Rattle.bundle.specs.Form.{Every}
use Rattle.assembly.specs.Assemble.{file_of}
use Rattle.assembly.specs.Targets.{file_uses}
use Rattle.assembly.specs.Walk.{item_bytes, items_bytes, one_at, Brief}
use Rattle.items.specs.Written.{Writing}
use Rattle.items.proofs.writing.+write_item_write_items_write_module.Given as goal

abbrev pub decreases-write_item : goal.decreases-write_item
decreases-write_item l = 3 * l.depth + 1

abbrev pub decreases-write_items : goal.decreases-write_items
decreases-write_items l = 3 * l.depth + 2

abbrev pub decreases-write_module : goal.decreases-write_module
decreases-write_module l = 3 * l.depth

abbrev pub invariant-write_items-loop-at : goal.invariant-write_items-loop-at
invariant-write_items-loop-at l =
    Writing (items_bytes l.unit.bytes.now (file_of (decode l.unit.bytes.now) l.unit.id) l.depth l.fn.items.end l.fn.items.at)
    (flat_map (item_bytes l.unit.bytes.now (file_of (decode l.unit.bytes.now) l.unit.id) l.depth) l.at-iterator) l.initial.out l.out l.sum
    × Every (λ a. (a < l.fn.items.end) × Brief (file_uses l.unit.bytes.now (file_of (decode l.unit.bytes.now) l.unit.id)) (one_at l.depth l.unit.bytes.now a)) l.at-iterator
