use Rattle.scope_tree.specs.Trees.{part, index_of}
use Rattle.scope_tree.specs.Index.{Seeking}
use Rattle.scope_tree.proofs.look.View.find_in.Given as goal

abbrev pub invariant-loop-depth : goal.invariant-loop-depth
invariant-loop-depth l =
    Seeking (index_of l.self.cells.now) l.self.scopes.now (part 0 l.self.cells.now) l.self.n0.now l.self.n1.now l.self.n2.now l.self.n3.now l.at.scope l.at.time l.fn.kind l.fn.name l.depth l.slot
