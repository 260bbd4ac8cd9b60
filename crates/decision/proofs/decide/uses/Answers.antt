use Rattle.std.proofs.Common.{sym, refl, ◌∙◌, ◌≤◌, arith}
use Rattle.std.proofs.lemmas.Result.{err_from_is_err_and}
use Rattle.refusal.specs.declared.Cause.TheVariants.{NoCrateWord, AliasMain, TreeFull}
use Rattle.scope_tree.specs.Told.{number-some}
use Rattle.decision.specs.Decided.{decided_no, decided_yes}
use Rattle.decision.specs.Uses.{segment_bound, element_bound, use_bad, use_empty, use_no_crate, use_lost, use_main, use_refused, use_full, use_done}
use Rattle.decision.proofs.decide.uses.Goals as goal
use Rattle.decision.proofs.decide.uses.Goals.{then-segments-eq0-via-then-segments-eq0, then-segments-eq0-via-else-segments-eq0+then-not-is_crate}

pub returns-in_err-use_form : goal.returns-in_err-use_form
returns-in_err-use_form c =
    let p = err_from_is_err_and c.from_residual.result c.from_residual.ensures.1 in
    rw (p.1, p.2) (decided_no _ _ _ (λ v. use_bad _ _ v _ (sym c.in_err-use_form.ensures) (number-some _)))

pub returns-then-segments-eq0 : goal.returns-then-segments-eq0
returns-then-segments-eq0 c =
    decided_no _ _ NoCrateWord (λ v. elim c.then-segments-eq0.branch [
      | then-segments-eq0-via-then-segments-eq0 w ↦ use_empty _ _ v (sym c.in_ok-use_form.ensures) c.byte_at-segments.ensures w.if-segments-eq0.true
      | then-segments-eq0-via-else-segments-eq0+then-not-is_crate w ↦ use_no_crate _ _ v (sym c.in_ok-use_form.ensures) c.byte_at-segments.ensures w.if-segments-eq0.false w.string_at.ensures w.is_crate.ensures w.if-not-is_crate.true
    ])

pub navigate-requires-clause-short : goal.navigate-requires-clause-short
navigate-requires-clause-short c = omega (arith, segment_bound _ (sym c.in_ok-use_form.ensures) c.byte_at-segments.ensures, c.next.ensures.1)

pub returns-in_err-way : goal.returns-in_err-way
returns-in_err-way c =
    let p = err_from_is_err_and c.from_residual-in_err-way.result c.from_residual-in_err-way.ensures.1 in
    rw (p.1, p.2)
    (decided_no _ _ _ (λ v. use_lost _ _ v (sym c.in_ok-use_form.ensures) c.byte_at-segments.ensures c.if-segments-eq0.false c.string_at.ensures c.is_crate.ensures c.if-not-is_crate.false c.next.ensures _ c.in_err-way.ensures))

pub any_main-requires : goal.any_main-requires
any_main-requires c =
    omega (arith, element_bound _ (sym c.in_ok-use_form.ensures) c.byte_at-segments.ensures c.if-segments-eq0.false c.next.ensures c.in_ok-way.ensures.next c.byte_at-elements.ensures, segment_bound _ (sym c.in_ok-use_form.ensures) c.byte_at-segments.ensures, c.in_ok-way.ensures.below, c.next.ensures.1)

pub returns-then-any_main : goal.returns-then-any_main
returns-then-any_main c =
    decided_no _ _ AliasMain (λ v. use_main _ _ v (sym c.in_ok-use_form.ensures) c.byte_at-segments.ensures c.if-segments-eq0.false c.string_at.ensures c.is_crate.ensures c.if-not-is_crate.false c.next.ensures c.in_ok-way.ensures c.byte_at-elements.ensures c.any_main.ensures c.if-any_main.true)

pub stage-requires : goal.stage-requires
stage-requires c =
    let m = element_bound _ (sym c.in_ok-use_form.ensures) c.byte_at-segments.ensures c.if-segments-eq0.false c.next.ensures c.in_ok-way.ensures.next c.byte_at-elements.ensures in
    let n = segment_bound _ (sym c.in_ok-use_form.ensures) c.byte_at-segments.ensures in
    (m, omega (arith, c.in_ok-way.ensures.below, c.next.ensures.1))

pub returns-in_err-batch : goal.returns-in_err-batch
returns-in_err-batch c =
    let p = err_from_is_err_and c.from_residual-in_err-batch.result c.from_residual-in_err-batch.ensures.1 in
    rw (p.1, p.2)
    (decided_no _ _ _ (λ v. rw c.in_err-batch.ensures (use_refused _ _ v (sym c.in_ok-use_form.ensures) c.byte_at-segments.ensures c.if-segments-eq0.false c.string_at.ensures c.is_crate.ensures c.if-not-is_crate.false c.next.ensures c.in_ok-way.ensures c.byte_at-elements.ensures c.any_main.ensures c.if-any_main.false c.in_ok-here.ensures.scope c.in_ok-here.ensures.time refl (λ z. number-some _ (c.in_err-batch.ensures ∙ z)))))

pub returns-then-here-batch-gt-ENTRIES : goal.returns-then-here-batch-gt-ENTRIES
returns-then-here-batch-gt-ENTRIES c =
    decided_no _ _ TreeFull (λ v. use_full _ _ v (sym c.in_ok-use_form.ensures) c.byte_at-segments.ensures c.if-segments-eq0.false c.string_at.ensures c.is_crate.ensures c.if-not-is_crate.false c.next.ensures c.in_ok-way.ensures c.byte_at-elements.ensures c.any_main.ensures c.if-any_main.false c.in_ok-here.ensures.scope c.in_ok-here.ensures.time c.in_ok-batch.ensures refl (omega (arith, c.in_ok-here.ensures.time)))

pub returns : goal.returns
returns c =
    let few : c.in_ok-batch.batch.count ≤ 96 = c.in_ok-batch.batch.few in
    decided_yes _ _ _ refl c.in_ok-here.ensures.shallow (omega (arith, c.in_ok-here.ensures.time)) few c.in_ok-here.ensures.scope
    (λ v z y q o e. use_done _ _ v (sym c.in_ok-use_form.ensures) c.byte_at-segments.ensures c.if-segments-eq0.false c.string_at.ensures c.is_crate.ensures c.if-not-is_crate.false c.next.ensures c.in_ok-way.ensures c.byte_at-elements.ensures c.any_main.ensures c.if-any_main.false c.in_ok-here.ensures.scope c.in_ok-here.ensures.time c.in_ok-batch.ensures refl (omega (arith, c.in_ok-here.ensures.time)) z y q o e)
