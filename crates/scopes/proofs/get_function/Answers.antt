use Rattle.std.proofs.Common.{ap, ◌∙◌}
use Rattle.scope_tree.specs.Trees.{view}
use Rattle.scope_tree.specs.Views.{got_of}
use Rattle.scope_tree.specs.declared.Tree.{Tree}
use Rattle.scopes.specs.Declares.{answers-function}
use Rattle.scopes.proofs.get_function.Goals as goal

pub returns : goal.returns
returns c = answers-function _ _ _ (c.get.ensures ∙ ap (λ (t : Tree). got_of (view t) c.args.name.now 2) c.view.ensures)
