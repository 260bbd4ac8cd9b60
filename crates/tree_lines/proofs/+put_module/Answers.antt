use Rattle.std.proofs.Common.{rules, inl, inr}
use Rattle.scope_tree.specs.Trees.{flat_of}
use Rattle.text.specs.Telling.{tells_as}
use Rattle.tree_lines.specs.EntryLaws.{path_none, path_told}
use Rattle.tree_lines.proofs.+put_module.Goals.{then-scope-eq0-via-then-scope-eq0, then-scope-eq0-via-else-scope-eq0+then-depth-eq0}
use Rattle.tree_lines.proofs.+put_module.Goals as goal

pub returns-then-scope-eq0 : goal.returns-then-scope-eq0
returns-then-scope-eq0 g t c =
    tells_as g.S.Sink.tells c.put.ensures
    (path_none c.args.depth c.args.scope (flat_of c.args.tree.now).entries (elim c.then-scope-eq0.branch [ then-scope-eq0-via-then-scope-eq0 w ↦ inl w.if-scope-eq0.true | then-scope-eq0-via-else-scope-eq0+then-depth-eq0 w ↦ inr w.if-depth-eq0.true ]))

pub returns : goal.returns
returns g t c =
    let then = g.met.S.Sink.tells_more in
    tells_as g.S.Sink.tells (then _ _ _ _ _ (then _ _ _ _ _ c.put_module.ensures c.put-2.ensures) c.put_name.ensures) (search (rules, path_told))
