-- `linearization::linearize_given` answers the refusal, or what the walk of a graph that is not refused answers. Assumes nothing.
use Rattle.std.proofs.Common.{sym, ap, ◌∙◌}
use Rattle.std.proofs.lemmas.Result.{err_from_is_err_and}
use Rattle.graph.specs.Given.{numbered}
use Rattle.graph.specs.GivenFacts.{sound-of, given-accepted, given-cause}
use Rattle.graph.specs.Steps.{ready, begun}
use Rattle.graph.proofs.linearization.linearize_given.Goals as goal

pub returns-in_err-check : goal.returns-in_err-check
returns-in_err-check c =
    let p = err_from_is_err_and c.from_residual.result c.from_residual.ensures.1 in
    rw (p.1, p.2) (given-cause c.args.g _ c.in_err-check.ensures)

pub dfs_linearize-requires : goal.dfs_linearize-requires
dfs_linearize-requires c = rw (c.new.ensures, c.new-2.ensures) (ready c.args.g (sound-of c.args.g (sym c.in_ok-check.ensures)))

pub returns-in-Ok : goal.returns-in-Ok
returns-in-Ok c =
    ap numbered (sym (begun c.args.g _ _ c.new.ensures c.new-2.ensures ∙ c.in-Ok.ensures.answer)) ∙ given-accepted c.args.g (sym c.in_ok-check.ensures)

pub returns-in-Err : goal.returns-in-Err
returns-in-Err c =
    ap numbered (sym (begun c.args.g _ _ c.new.ensures c.new-2.ensures ∙ c.in-Err.ensures)) ∙ given-accepted c.args.g (sym c.in_ok-check.ensures)
