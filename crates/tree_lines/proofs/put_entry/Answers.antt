-- What is written piece by piece is the entry's line; of a unit nothing is.
use Rattle.std.proofs.Common.{rules, get_or}
use Rattle.scope_tree.specs.Flat.{none}
use Rattle.scope_tree.specs.Rows.{length-tab}
use Rattle.scope_tree.specs.Trees.{flat_of}
use Rattle.text.specs.Telling.{tells_as}
use Rattle.tree_lines.specs.EntryLaws.{line_told, unit_told}
use Rattle.tree_lines.proofs.put_entry.Goals as goal

pub returns-then-entry-eq0 : goal.returns-then-entry-eq0
returns-then-entry-eq0 g c =
    let l = (flat_of c.args.tree.now).entries in
    tells_as g.S.Sink.tells (g.met.S.Sink.tells_none _) (unit_told l (get_or l c.args.i none) c.entry_at-entry.result c.entry_at-entry.ensures c.if-entry-eq0.true)

pub returns : goal.returns
returns g c =
    let then = g.met.S.Sink.tells_more in
    let l = (flat_of c.args.tree.now).entries in
    let path = then _ _ _ _ _ (then _ _ _ _ _ c.put.ensures c.put_module.ensures) c.put-2.ensures in
    let name = then _ _ _ _ _ (then _ _ _ _ _ (then _ _ _ _ _ path c.put_decimal.ensures) c.put-3.ensures) c.put_name.ensures in
    tells_as g.S.Sink.tells (then _ _ _ _ _ (then _ _ _ _ _ (then _ _ _ _ _ name c.put-4.ensures) c.put_decimal-2.ensures) c.put-5.ensures)
    (line_told l (get_or l c.args.i none) c.entry_at-entry.result c.count.result c.entry_at-entry.ensures (search (rules, length-tab)) c.if-entry-eq0.false)
