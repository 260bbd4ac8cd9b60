use Rattle.std.proofs.Common.{ap, ◌∙◌}
use Rattle.scope_tree.specs.Trees.{view}
use Rattle.scope_tree.specs.Views.{got_of}
use Rattle.scope_tree.specs.declared.Tree.{Tree}
use Rattle.scopes.specs.Declares.{answers-alias}
use Rattle.scopes.proofs.get_alias.Goals as goal

pub returns : goal.returns
returns c = answers-alias _ _ _ (c.get.ensures ∙ ap (λ (t : Tree). got_of (view t) c.args.name.now 1) c.view.ensures)
