use Rattle.std.specs.Prelude.{get_or}
use Rattle.scope_tree.specs.Trees.{part, index_of, doors_of}
use Rattle.scope_tree.specs.Nav.{Walking}
use Rattle.scope_tree.proofs.look.View.navigate.Given as goal

abbrev pub invariant-loop-i : goal.invariant-loop-i
invariant-loop-i l =
    Walking (part 0 l.self.cells.now) l.self.visible.now l.self.scopes.now l.self.n0.now l.self.n1.now l.self.n2.now l.self.n3.now (part 1024 l.self.cells.now) (part 2048 l.self.cells.now) (part 3072 l.self.cells.now) (index_of l.self.cells.now) (get_or l.self.opened.now 9 0) (doors_of l.self.opened.now) (get_or l.self.opened.now 10 0) l.decl l.at l.count l.i l.p l.to.scope l.to.time l.led
