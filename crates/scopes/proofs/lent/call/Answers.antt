use Rattle.std.proofs.lemmas.Result.{err_from_is_err_and}
use Rattle.commit.specs.Lending.{lent_in}
use Rattle.scopes.specs.Declares.{meets_enter, meets_alias, meets_enum, meets_function, meets_get-alias, meets_get-function}
use Rattle.scopes.proofs.lent.call.Goals as goal

pub returns-in_err-declare-in-Enter-clause-met : goal.returns-in_err-declare-in-Enter-clause-met
returns-in_err-declare-in-Enter-clause-met c = let p = err_from_is_err_and c.from_residual.result c.from_residual.ensures.1 in rw (p.1, p.2, c.in-Enter.is) (meets_enter c.in_err-declare-in-Enter.ensures.declared)

pub returns-in_ok-declare-in-Enter-clause-met : goal.returns-in_ok-declare-in-Enter-clause-met
returns-in_ok-declare-in-Enter-clause-met c = rw c.in-Enter.is (meets_enter c.in_ok-declare-in-Enter.ensures.declared)

pub returns-in_err-exit-in-Exit-clause-met : goal.returns-in_err-exit-in-Exit-clause-met
returns-in_err-exit-in-Exit-clause-met c = let p = err_from_is_err_and c.from_residual-in_err-exit-in-Exit.result c.from_residual-in_err-exit-in-Exit.ensures.1 in rw (p.1, p.2, c.in-Exit.is) (c.in_err-exit-in-Exit.ensures (lent_in c.args.tree.now))

pub returns-in_ok-exit-in-Exit-clause-met : goal.returns-in_ok-exit-in-Exit-clause-met
returns-in_ok-exit-in-Exit-clause-met c = rw c.in-Exit.is (c.in_ok-exit-in-Exit.ensures (lent_in c.args.tree.now))

pub returns-in_err-declare-in-Alias-clause-met : goal.returns-in_err-declare-in-Alias-clause-met
returns-in_err-declare-in-Alias-clause-met c = let p = err_from_is_err_and c.from_residual-in_err-declare-in-Alias.result c.from_residual-in_err-declare-in-Alias.ensures.1 in rw (p.1, p.2, c.in-Alias.is) (meets_alias c.in_err-declare-in-Alias.ensures.declared)

pub returns-in_ok-declare-in-Alias-clause-met : goal.returns-in_ok-declare-in-Alias-clause-met
returns-in_ok-declare-in-Alias-clause-met c = rw c.in-Alias.is (meets_alias c.in_ok-declare-in-Alias.ensures.declared)

pub returns-in_err-declare-in-Enum-clause-met : goal.returns-in_err-declare-in-Enum-clause-met
returns-in_err-declare-in-Enum-clause-met c = let p = err_from_is_err_and c.from_residual-in_err-declare-in-Enum.result c.from_residual-in_err-declare-in-Enum.ensures.1 in rw (p.1, p.2, c.in-Enum.is) (meets_enum c.in_err-declare-in-Enum.ensures.declared)

pub returns-in_ok-declare-in-Enum-clause-met : goal.returns-in_ok-declare-in-Enum-clause-met
returns-in_ok-declare-in-Enum-clause-met c = rw c.in-Enum.is (meets_enum c.in_ok-declare-in-Enum.ensures.declared)

pub returns-in_err-declare-in-Function-clause-met : goal.returns-in_err-declare-in-Function-clause-met
returns-in_err-declare-in-Function-clause-met c = let p = err_from_is_err_and c.from_residual-in_err-declare-in-Function.result c.from_residual-in_err-declare-in-Function.ensures.1 in rw (p.1, p.2, c.in-Function.is) (meets_function c.in_err-declare-in-Function.ensures.declared)

pub returns-in_ok-declare-in-Function-clause-met : goal.returns-in_ok-declare-in-Function-clause-met
returns-in_ok-declare-in-Function-clause-met c = rw c.in-Function.is (meets_function c.in_ok-declare-in-Function.ensures.declared)

pub returns-in_err-get-in-GetAlias-clause-met : goal.returns-in_err-get-in-GetAlias-clause-met
returns-in_err-get-in-GetAlias-clause-met c = let p = err_from_is_err_and c.from_residual-in_err-get-in-GetAlias.result c.from_residual-in_err-get-in-GetAlias.ensures.1 in rw (p.1, p.2, c.in-GetAlias.is) (meets_get-alias _ _ c.view.ensures c.in_err-get-in-GetAlias.ensures)

pub returns-in-GetAlias-clause-met : goal.returns-in-GetAlias-clause-met
returns-in-GetAlias-clause-met c = rw c.in-GetAlias.is (meets_get-alias _ _ c.view.ensures c.in_ok-get-in-GetAlias.ensures)

pub returns-in_err-get-in-GetFunction-clause-met : goal.returns-in_err-get-in-GetFunction-clause-met
returns-in_err-get-in-GetFunction-clause-met c = let p = err_from_is_err_and c.from_residual-in_err-get-in-GetFunction.result c.from_residual-in_err-get-in-GetFunction.ensures.1 in rw (p.1, p.2, c.in-GetFunction.is) (meets_get-function _ _ c.view-in-GetFunction.ensures c.in_err-get-in-GetFunction.ensures)

pub returns-in-GetFunction-clause-met : goal.returns-in-GetFunction-clause-met
returns-in-GetFunction-clause-met c = rw c.in-GetFunction.is (meets_get-function _ _ c.view-in-GetFunction.ensures c.in_ok-get-in-GetFunction.ensures)
