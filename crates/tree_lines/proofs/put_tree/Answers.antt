use Rattle.std.proofs.Common.{rules, arith, ap, sym, take_all}
use Rattle.scope_tree.specs.Rows.{length-tab}
use Rattle.scope_tree.specs.Trees.{flat_of}
use Rattle.text.specs.Words.{lines}
use Rattle.text.specs.Telling.{tells_as}
use Rattle.tree_lines.specs.Entries.{has_lines}
use Rattle.tree_lines.specs.EntryLaws.{entries_more}
use Rattle.tree_lines.proofs.put_tree.Goals as goal

pub loop-i-init : goal.loop-i-init
unfolding has_lines lines
loop-i-init g c = g.met.S.Sink.tells_none _

pub loop-i-preserved : goal.loop-i-preserved
loop-i-preserved g c =
    let l = (flat_of c.args.tree.now).entries in
    tells_as g.S.Sink.tells (g.met.S.Sink.tells_more _ _ _ _ _ c.loop-i.invariant c.put_entry.ensures) (sym (entries_more l c.loop-i.i (search (rules, arith, length-tab))))

pub returns : goal.returns
returns g c =
    let l = (flat_of c.args.tree.now).entries in
    tells_as g.S.Sink.tells c.loop-i.invariant (ap (λ k. lines (has_lines l k)) (take_all c.loop-i.i l (search (rules, arith, length-tab))))
