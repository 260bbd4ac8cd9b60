-- The lines of the entries so far are written.
use Rattle.std.proofs.Common.{take}
use Rattle.text.specs.Words.{lines}
use Rattle.scope_tree.specs.Trees.{flat_of}
use Rattle.tree_lines.specs.Entries.{has_lines}
use Rattle.tree_lines.proofs.put_tree.Given as goal

abbrev pub invariant-loop-i : goal.invariant-loop-i
invariant-loop-i g l = g.S.Sink.tells l.initial.out (lines (has_lines (flat_of l.tree).entries (take l.i (flat_of l.tree).entries))) l.out
