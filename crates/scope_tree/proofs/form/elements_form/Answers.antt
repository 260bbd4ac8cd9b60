use Rattle.std.proofs.lemmas.Result.{err_from_is_err_and}
use Rattle.scope_tree.specs.FormLaws.{element-turn, element-stop, element-stop_2}
use Rattle.scope_tree.proofs.form.elements_form.Goals as goal

pub returns-in_err-alias : goal.returns-in_err-alias
returns-in_err-alias c =
    let p = err_from_is_err_and c.from_residual.result c.from_residual.ensures.1 in
    rw (p.1, p.2) (element-stop _ _ _ c.loop.invariant c.loop-test.true _ c.in_err-alias.ensures)

pub returns-in_err-p : goal.returns-in_err-p
returns-in_err-p c =
    let p = err_from_is_err_and c.from_residual-in_err-p.result c.from_residual-in_err-p.ensures.1 in
    rw (p.1, p.2) (element-stop_2 _ _ _ c.loop.invariant c.loop-test.true c.in_ok-alias.ensures _ c.in_err-p.ensures)

pub loop-preserved : goal.loop-preserved
loop-preserved c = element-turn _ _ _ c.loop.invariant c.loop-test.true c.in_ok-alias.ensures c.in_ok-p.ensures
