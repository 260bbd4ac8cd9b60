-- `link_new` meets its contract. Assumes nothing.
use Rattle.std.proofs.Common.{sym, ◌∙◌}
use Rattle.scope_tree.specs.Trees.{cleared}
use Rattle.linker.proofs.link_new.Goals as goal

pub returns-then-not-has_image-clause-link_tree : goal.returns-then-not-has_image-clause-link_tree
returns-then-not-has_image-clause-link_tree c = rw c.empty-none.ensures (rw (sym c.has_image.ensures ∙ c.if-not-has_image.true) at c.link_into-answer.ensures.link_tree cleared)

pub returns-clause-link_tree : goal.returns-clause-link_tree
returns-clause-link_tree c = rw (sym c.has_image.ensures ∙ c.if-not-has_image.false) at c.link_into-answer.ensures.link_tree cleared
