-- The depth falls from `form::items::item` to `items` and back; the loop leaves the rest of the siblings to scan. Assumes nothing.
use Rattle.std.proofs.Common.{◌-◌, ◌≡◌, ◌+◌, ◌≤◌, ◌*◌}
use Rattle.bundle.specs.Limits.{item_limit, use_limit}
use Rattle.bundle.specs.Scan.{scan_items}
use Rattle.form.proofs.items.+item_items.Given as goal

abbrev pub decreases-item : goal.decreases-item
decreases-item l = 2 * l.depth

abbrev pub decreases-items : goal.decreases-items
decreases-items l = 2 * l.depth + 1

abbrev pub invariant-items-loop-x : goal.invariant-items-loop-x
invariant-items-loop-x l =
    ((l.x.at ≤ l.container.end) × (l.x.items ≤ item_limit) × (l.x.uses ≤ use_limit)) × (scan_items l.depth l.container.bytes.now l.container.end l.x.at l.x.items l.x.uses ≡ scan_items l.depth l.container.bytes.now l.container.end l.fn.w.at l.fn.w.items l.fn.w.uses)

abbrev pub decreases-items-loop-x : goal.decreases-items-loop-x
decreases-items-loop-x l = l.container.end - l.x.at
