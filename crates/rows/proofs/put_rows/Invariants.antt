use Rattle.scope_tree.specs.Trees.{view, tree_in}
use Rattle.rows.specs.TreeRows.{Listing}
use Rattle.rows.proofs.put_rows.Given as goal

abbrev pub invariant-loop-i : goal.invariant-loop-i
invariant-loop-i l = Listing l.initial.out (view (tree_in l.tree)) l.out l.i
