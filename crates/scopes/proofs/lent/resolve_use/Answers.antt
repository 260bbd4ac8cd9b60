use Rattle.std.proofs.Common.{refl, ap, subst, ◌∙◌}
use Rattle.std.proofs.lemmas.Result.{err_from_is_err_and}
use Rattle.refusal.specs.Numbers.{number_of}
use Rattle.scope_tree.specs.Staging.{refusal}
use Rattle.scope_tree.specs.Told.{number-some}
use Rattle.scope_tree.specs.Trees.{view}
use Rattle.scope_tree.specs.Views.{here_of}
use Rattle.scope_tree.specs.declared.Tree.{Tree}
use Rattle.decision.specs.Batches.{staged_of}
use Rattle.decision.specs.Decided.{Decided}
use Rattle.scopes.specs.Commits.{use_no, use_yes}
use Rattle.scopes.proofs.lent.resolve_use.Goals as goal

pub returns-in_err-batch-clause-met : goal.returns-in_err-batch-clause-met
returns-in_err-batch-clause-met c =
    let p = err_from_is_err_and c.from_residual.result c.from_residual.ensures.1 in
    rw (p.1, p.2) (use_no _ _ _ _ (subst (λ (t : Tree). Decided (view t) c.args.decl.now (refusal (number_of c.in_err-batch.field-0.0))) c.view-view.ensures c.in_err-batch.ensures) (number-some c.in_err-batch.field-0.0))

pub returns-clause-met : goal.returns-clause-met
returns-clause-met c =
    use_yes _ _ _ _ (subst (λ (t : Tree). Decided (view t) c.args.decl.now (staged_of c.in_ok-batch.batch)) c.view-view.ensures c.in_ok-batch.ensures) refl _ refl _ (c.current-here.ensures ∙ ap (λ (t : Tree). here_of (view t)) c.view-view.ensures) _ refl _ c.commit.ensures.filled
