use Rattle.scope_tree.specs.Trees.{index_of}
use Rattle.scope_tree.specs.Index.{Reaching}
use Rattle.scope_tree.proofs.look.free_slot.Given as goal

abbrev pub invariant-loop-depth : goal.invariant-loop-depth
invariant-loop-depth l = Reaching (index_of l.cells) l.fn.key.scope l.fn.key.kind l.fn.key.name l.depth l.slot
