use Rattle.std.proofs.Common.{refl, ap, ◌∙◌, get_or}
use Rattle.std.proofs.lemmas.Result.{err_from_is_err_and}
use Rattle.scope_tree.specs.Kinds.{twice-some, opens-deepest}
use Rattle.scope_tree.specs.Told.{number-some}
use Rattle.scope_tree.specs.declared.Tree.{Tree}
use Rattle.scopes.specs.Declares.{declare_ready, declare_no, declare_yes}
use Rattle.scopes.proofs.lent.declare.Goals as goal

pub returns-in_err-plan-clause-declared : goal.returns-in_err-plan-clause-declared
returns-in_err-plan-clause-declared c =
    let p = err_from_is_err_and c.from_residual.result c.from_residual.ensures.1 in
    rw (p.1, p.2) (declare_no _ _ _ _ _ _ _ _ _ (rw c.view-view.ensures at c.in_err-plan.ensures) (twice-some c.args.kind) (number-some _))

pub add-requires-clause-few : goal.add-requires-clause-few
add-requires-clause-few c =
    let n = c.count-at.ensures ∙ ap (λ (t : Tree). get_or t.opened 9 0) c.view-view.ensures in
    (declare_ready _ _ _ _ _ _ (rw c.view-view.ensures at c.in_ok-plan.ensures) (twice-some c.args.kind) refl (opens-deepest c.args.kind) _ n c.opens.ensures).0

pub add-requires-clause-shallow : goal.add-requires-clause-shallow
add-requires-clause-shallow c =
    let n = c.count-at.ensures ∙ ap (λ (t : Tree). get_or t.opened 9 0) c.view-view.ensures in
    (declare_ready _ _ _ _ _ _ (rw c.view-view.ensures at c.in_ok-plan.ensures) (twice-some c.args.kind) refl (opens-deepest c.args.kind) _ n c.opens.ensures).1

pub returns-clause-declared : goal.returns-clause-declared
returns-clause-declared c =
    let n = c.count-at.ensures ∙ ap (λ (t : Tree). get_or t.opened 9 0) c.view-view.ensures in
    declare_yes _ _ _ _ _ _ _ _ _ (rw c.view-view.ensures at c.in_ok-plan.ensures) (twice-some c.args.kind) refl (opens-deepest c.args.kind) _ refl _ n _ (rw c.opens.ensures refl) _ c.add.ensures.added
