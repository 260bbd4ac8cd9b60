-- The depth falls from `imports::process_items` to `process_module` and back; the loop keeps what the items passed give, and room for all. Assumes nothing.
use Rattle.std.proofs.Common.{◌+◌, ◌*◌}
use Rattle.discovery.specs.Walk.{uses_at, SoFar}
use Rattle.discovery.proofs.imports.+process_items_process_module.Given as goal

abbrev pub decreases-process_items : goal.decreases-process_items
decreases-process_items l = 2 * l.depth + 1

abbrev pub decreases-process_module : goal.decreases-process_module
decreases-process_module l = 2 * l.depth

abbrev pub invariant-process_items-loop-at : goal.invariant-process_items-loop-at
invariant-process_items-loop-at l = SoFar l.depth l.s l.initial.uses l.uses (uses_at l.depth l.s l.fn.items.end l.fn.items.at) l.fn.items.end l.at-iterator
