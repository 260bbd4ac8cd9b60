-- `link` meets its contract. Assumes nothing.
use Rattle.std.proofs.Common.{sym, ◌∙◌}
use Rattle.linker.specs.Join.{tree_with-given}
use Rattle.linker.proofs.link.Goals as goal

pub returns-then-has_image-clause-link_tree : goal.returns-then-has_image-clause-link_tree
returns-then-has_image-clause-link_tree c =
    let r = c.link_new-answer in
    rw (sym c.has_image.ensures ∙ c.if-has_image.true) at (tree_with-given c.args.tree r.result.tree c.args.s.now c.args.report.now c.args.image.now r.result.answer r.ensures.answer_value r.ensures.link_tree)

pub returns-clause-link_tree : goal.returns-clause-link_tree
returns-clause-link_tree c =
    let r = c.link_new-answer in
    rw (sym c.has_image.ensures ∙ c.if-has_image.false) at (tree_with-given c.args.tree r.result.tree c.args.s.now c.args.report.now c.args.image.now r.result.answer r.ensures.answer_value r.ensures.link_tree)
