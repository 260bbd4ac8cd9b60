-- The depth falls from `walk_module` to `walk_items`; what the calls of the items that are left come to, all come to. Assumes nothing.
use Rattle.std.proofs.Common.{◌<◌, ◌+◌, ◌*◌}
use Rattle.std.specs.List.{flat_map}
use Rattle.bundle.specs.Decode.{decode}
use Rattle.bundle.specs.Form.{Every}
use Rattle.assembly.specs.Assemble.{file_of}
use Rattle.assembly.specs.Targets.{file_uses}
use Rattle.assembly.specs.Walk.{one_at}
use Rattle.commit.specs.Lending.{lent_in, Kept}
use Rattle.scope_walk.specs.Steps.{Onward, Plain, item_calls, items_calls}
use Rattle.scope_walk.proofs.walk.+walk_item_walk_items_walk_module.Given as goal

abbrev pub decreases-walk_item : goal.decreases-walk_item
decreases-walk_item l = 3 * l.depth + 1

abbrev pub decreases-walk_items : goal.decreases-walk_items
decreases-walk_items l = 3 * l.depth + 2

abbrev pub decreases-walk_module : goal.decreases-walk_module
decreases-walk_module l = 3 * l.depth

abbrev pub invariant-walk_items-loop-at : goal.invariant-walk_items-loop-at
invariant-walk_items-loop-at l =
    (Kept l.fn.tree l.tree
    × Onward (lent_in l.fn.tree) (items_calls l.unit.bytes.now (file_of (decode l.unit.bytes.now) l.unit.id) l.depth l.fn.items.end l.fn.items.at) (lent_in l.tree)
    (flat_map (item_calls l.unit.bytes.now (file_of (decode l.unit.bytes.now) l.unit.id) l.depth) l.at-iterator))
    × Every (λ a. (a < l.fn.items.end) × Plain (file_uses l.unit.bytes.now (file_of (decode l.unit.bytes.now) l.unit.id)) (one_at l.depth l.unit.bytes.now a)) l.at-iterator
