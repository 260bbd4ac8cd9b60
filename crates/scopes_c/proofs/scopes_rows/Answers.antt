use Rattle.std.proofs.Common.{ap, sym, subst, ◌∙◌, ◌≤◌, get_or}
use Rattle.scope_tree.specs.Flat.{Flat}
use Rattle.scope_tree.specs.Trees.{flat_of}
use Rattle.scope_tree.specs.declared.Tree.{Tree}
use Rattle.rows.specs.TreeRows.{listed_as}
use Rattle.scopes_c.proofs.scopes_rows.Goals as goal

pub put_rows-requires : goal.put_rows-requires
put_rows-requires c = subst (λ (t : Tree). get_or t.opened 9 0 ≤ 1024) (sym c.view.ensures) c.replayed-replay.ensures.good.good.small

pub returns : goal.returns
returns c =
    listed_as _ _ (ap (λ (t : Tree). (flat_of t).entries) c.view.ensures ∙ ap (λ (x : Flat). x.entries) c.replayed-replay.ensures.tree) _ _ _ c.put_rows.ensures
