-- The depth falls from `module_length` to `items_length`; the loop has counted the items passed. Assumes nothing.
use Rattle.std.proofs.Common.{◌<◌, ◌+◌, ◌*◌}
use Rattle.std.specs.List.{flat_map}
use Rattle.bundle.specs.Decode.{decode}
use Rattle.bundle.specs.Form.{Every}
use Rattle.assembly.specs.Assemble.{file_of}
use Rattle.assembly.specs.Image.{length_cap}
use Rattle.assembly.specs.Targets.{file_uses}
use Rattle.assembly.specs.Walk.{item_bytes, items_bytes, one_at, Brief}
use Rattle.encoder.specs.Parts.{Counted}
use Rattle.items.proofs.lengths.+item_length_items_length_module_length.Given as goal

abbrev pub decreases-item_length : goal.decreases-item_length
decreases-item_length l = 3 * l.depth + 1

abbrev pub decreases-items_length : goal.decreases-items_length
decreases-items_length l = 3 * l.depth + 2

abbrev pub decreases-module_length : goal.decreases-module_length
decreases-module_length l = 3 * l.depth

abbrev pub invariant-items_length-loop-at : goal.invariant-items_length-loop-at
invariant-items_length-loop-at l =
    Counted (items_bytes l.unit.bytes.now (file_of (decode l.unit.bytes.now) l.unit.id) l.depth l.fn.items.end l.fn.items.at)
    (flat_map (item_bytes l.unit.bytes.now (file_of (decode l.unit.bytes.now) l.unit.id) l.depth) l.at-iterator) length_cap l.sum
    × Every (λ a. (a < l.fn.items.end) × Brief (file_uses l.unit.bytes.now (file_of (decode l.unit.bytes.now) l.unit.id)) (one_at l.depth l.unit.bytes.now a)) l.at-iterator
