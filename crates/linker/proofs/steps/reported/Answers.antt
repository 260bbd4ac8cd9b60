-- `steps::reported` meets its contract. Assumes nothing.
use Rattle.std.proofs.Common.{◌≡◌, rules, arith, refl, ne_eqb}
use Rattle.std.proofs.lemmas.Result.{err_from_is_err_and}
use mathlib.Core.List.{[]}
use Rattle.order.specs.Told.{refusal_told, units_told}
use Rattle.assembly.specs.GivenLaws.{known-linked, given-cut}
use Rattle.assembly.specs.Join.{units-linked}
use Rattle.linker.specs.Join.{reported_none, reported_faults, reported_on}
use Rattle.linker.proofs.steps.reported.Goals as goal

pub returns-in_err-n : goal.returns-in_err-n
returns-in_err-n c =
    let p = err_from_is_err_and c.from_residual.result c.from_residual.ensures.1 in
    rw (p.1, p.2) (reported_none c.args.s.now c.args.report.now (refusal_told c.in_err-n.field-0.0) _ c.in_err-n.ensures.value c.in_err-n.ensures.out_after refl _)

pub returns-in-Report : goal.returns-in-Report
returns-in-Report c =
    reported_none c.args.s.now c.args.report.now _ _ (rw c.in-Report.is at c.in_ok-n.ensures.value) c.in_ok-n.ensures.out_after refl _

pub shared_ref_as_front-program : goal.shared_ref_as_front-program
shared_ref_as_front-program c =
    let some = c.in-Units.linked.some in
    let fit = (units-linked c.args.s.now c.args.report.now [] (units_told c.in-Units.linked 0) _ (rw c.in-Units.is at c.in_ok-n.ensures.value) c.in_ok-n.ensures.out_after (λ z. omega arith)).0.ids_fit in
    search rules

pub invariant_of-program : goal.invariant_of-program
invariant_of-program c =
    let some = c.in-Units.linked.some in
    let l = units-linked c.args.s.now c.args.report.now [] (units_told c.in-Units.linked 0) _ (rw c.in-Units.is at c.in_ok-n.ensures.value) c.in_ok-n.ensures.out_after (λ z. omega arith) in
    record { fit = λ i. omega (arith, c.type_inv.s i); given = given-cut (known-linked l.0 c.in_ok-n.ensures.carries) }

pub returns-in_err-faults-in-Units : goal.returns-in_err-faults-in-Units
returns-in_err-faults-in-Units c =
    let some = c.in-Units.linked.some in
    let p = err_from_is_err_and c.from_residual-in_err-faults-in-Units.result c.from_residual-in_err-faults-in-Units.ensures.1 in
    rw (p.1, p.2) (reported_faults c.args.s.now c.args.report.now (units_told c.in-Units.linked 0) _ (rw c.in-Units.is at c.in_ok-n.ensures.value) c.in_ok-n.ensures.out_after (λ z. omega arith)
    _ _ c.in_err-faults-in-Units.ensures.value c.in_err-faults-in-Units.ensures.report_after refl _)

pub returns-then-faults-gt0 : goal.returns-then-faults-gt0
returns-then-faults-gt0 c =
    let some = c.in-Units.linked.some in
    reported_faults c.args.s.now c.args.report.now (units_told c.in-Units.linked 0) _ (rw c.in-Units.is at c.in_ok-n.ensures.value) c.in_ok-n.ensures.out_after (λ z. omega arith)
    _ _ c.in_ok-faults-in-Units.ensures.value c.in_ok-faults-in-Units.ensures.report_after (rw (ne_eqb c.in_ok-faults-in-Units.faults 0 (λ z. omega arith))) _

pub returns-else-faults-gt0 : goal.returns-else-faults-gt0
returns-else-faults-gt0 c =
    let some = c.in-Units.linked.some in
    let none : c.in_ok-faults-in-Units.faults ≡ 0 = omega arith in
    reported_on c.args.s.now c.args.report.now (units_told c.in-Units.linked 0) _ (rw c.in-Units.is at c.in_ok-n.ensures.value) c.in_ok-n.ensures.out_after (λ z. omega arith)
    _ _ c.in_ok-faults-in-Units.ensures.value c.in_ok-faults-in-Units.ensures.report_after (rw none refl) _ c.in_ok-n.ensures.carries
