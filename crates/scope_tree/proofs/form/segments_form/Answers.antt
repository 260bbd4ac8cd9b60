use Rattle.std.proofs.lemmas.Result.{err_from_is_err_and}
use Rattle.scope_tree.specs.FormLaws.{name-turn, name-stop}
use Rattle.scope_tree.proofs.form.segments_form.Goals as goal

pub returns-in_err-p : goal.returns-in_err-p
returns-in_err-p c =
    let p = err_from_is_err_and c.from_residual.result c.from_residual.ensures.1 in
    rw (p.1, p.2) (name-stop _ _ _ c.loop.invariant c.loop-test.true _ c.in_err-p.ensures)

pub loop-preserved : goal.loop-preserved
loop-preserved c = name-turn _ _ _ c.loop.invariant c.loop-test.true c.in_ok-p.ensures
