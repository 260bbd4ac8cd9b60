-- `link_rows` meets its contract. Assumes nothing.
use Rattle.std.proofs.Common.{ap, sym, subst, ◌∙◌, ◌≤◌, get_or}
use Rattle.scope_tree.specs.Trees.{cleared, flat_of}
use Rattle.scope_tree.specs.declared.Tree.{Tree}
use Rattle.rows.specs.TreeRows.{listed_as}
use Rattle.linker.specs.Join.{comes, no_rows, rows-due}
use Rattle.linker.proofs.link_rows.Goals as goal

pub returns-then-not-has_image-clause-listed : goal.returns-then-not-has_image-clause-listed
returns-then-not-has_image-clause-listed c =
    rows-due c.args.s.now c.args.image.now cleared (rw (sym c.has_image.ensures ∙ c.if-not-has_image.true) at c.link_into-answer.ensures.link_tree cleared) _ _ _ (no_rows c.args.out.now)

pub put_rows-entries-requires : goal.put_rows-entries-requires
put_rows-entries-requires c =
    subst (λ (t : Tree). get_or t.opened 9 0 ≤ 1024) (sym c.view.ensures)
    (comes c.link_into-answer.new.tree c.args.s.now c.args.image.now (rw (sym c.has_image.ensures ∙ c.if-not-has_image.false) at c.link_into-answer.ensures.link_tree cleared)).small

pub returns-clause-listed : goal.returns-clause-listed
returns-clause-listed c =
    rows-due c.args.s.now c.args.image.now c.link_into-answer.new.tree (rw (sym c.has_image.ensures ∙ c.if-not-has_image.false) at c.link_into-answer.ensures.link_tree cleared) _ _ _ (listed_as _ _ (ap (λ (t : Tree). (flat_of t).entries) c.view.ensures) _ _ _ c.put_rows-entries.ensures)
