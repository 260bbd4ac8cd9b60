-- `assemble` meets its contract. Assumes nothing.
use Rattle.std.proofs.Common.{◌≡◌, rules, arith, refl, ne_eqb}
use Rattle.std.proofs.lemmas.Result.{err_from_is_err_and}
use Rattle.order.specs.Told.{refusal_told, units_told}
use Rattle.assembly.specs.GivenLaws.{known-linked, given-cut}
use Rattle.assembly.specs.Join.{no_units, units-linked, faults-told, image-told}
use Rattle.program.proofs.assemble.Goals as goal

pub returns-in_err-n : goal.returns-in_err-n
returns-in_err-n c =
    let told = no_units c.args.s.now c.args.report.now c.args.image.now (refusal_told c.in_err-n.field-0.0) _ c.in_err-n.ensures.value c.in_err-n.ensures.out_after refl in
    let p = err_from_is_err_and c.from_residual.result c.from_residual.ensures.1 in
    record { value = rw (p.1, p.2) told.0; report_after = told.1.0; image_after = told.1.1 }

pub returns-in-Report : goal.returns-in-Report
returns-in-Report c =
    let told = no_units c.args.s.now c.args.report.now c.args.image.now _ _ (rw c.in-Report.is at c.in_ok-n.ensures.value) c.in_ok-n.ensures.out_after refl in
    record { value = told.0; report_after = told.1.0; image_after = told.1.1 }

pub shared_ref_as_front-program : goal.shared_ref_as_front-program
shared_ref_as_front-program c =
    let some = c.in-Units.linked.some in
    let fit = (units-linked c.args.s.now c.args.report.now c.args.image.now (units_told c.in-Units.linked 0) _ (rw c.in-Units.is at c.in_ok-n.ensures.value) c.in_ok-n.ensures.out_after (λ z. omega arith)).0.ids_fit in
    search rules

pub invariant_of-program : goal.invariant_of-program
invariant_of-program c =
    let some = c.in-Units.linked.some in
    let l = units-linked c.args.s.now c.args.report.now c.args.image.now (units_told c.in-Units.linked 0) _ (rw c.in-Units.is at c.in_ok-n.ensures.value) c.in_ok-n.ensures.out_after (λ z. omega arith) in
    record { fit = λ i. omega (arith, c.type_inv.s i); given = given-cut (known-linked l.0 c.in_ok-n.ensures.carries) }

pub returns-in_err-faults-in-Units : goal.returns-in_err-faults-in-Units
returns-in_err-faults-in-Units c =
    let some = c.in-Units.linked.some in
    let l = units-linked c.args.s.now c.args.report.now c.args.image.now (units_told c.in-Units.linked 0) _ (rw c.in-Units.is at c.in_ok-n.ensures.value) c.in_ok-n.ensures.out_after (λ z. omega arith) in
    let told = faults-told c.args.s.now c.args.report.now c.args.image.now (units_told c.in-Units.linked 0) _ (rw c.in-Units.is at c.in_ok-n.ensures.value) c.in_ok-n.ensures.out_after l.0
    _ _ c.in_err-faults-in-Units.ensures.value l.1 c.in_err-faults-in-Units.ensures.report_after (refusal_told c.in_err-faults-in-Units.field-0.0) refl refl in
    let p = err_from_is_err_and c.from_residual-in_err-faults-in-Units.result c.from_residual-in_err-faults-in-Units.ensures.1 in
    record { value = rw (p.1, p.2) told.0; report_after = told.1.0; image_after = told.1.1 }

pub returns-then-faults-gt0 : goal.returns-then-faults-gt0
returns-then-faults-gt0 c =
    let some = c.in-Units.linked.some in
    let l = units-linked c.args.s.now c.args.report.now c.args.image.now (units_told c.in-Units.linked 0) _ (rw c.in-Units.is at c.in_ok-n.ensures.value) c.in_ok-n.ensures.out_after (λ z. omega arith) in
    let told = faults-told c.args.s.now c.args.report.now c.args.image.now (units_told c.in-Units.linked 0) _ (rw c.in-Units.is at c.in_ok-n.ensures.value) c.in_ok-n.ensures.out_after l.0
    _ _ c.in_ok-faults-in-Units.ensures.value l.1 c.in_ok-faults-in-Units.ensures.report_after _ (rw (ne_eqb c.in_ok-faults-in-Units.faults 0 (λ z. omega arith))) refl in
    record { value = told.0; report_after = told.1.0; image_after = told.1.1 }

pub returns-in_err-n-in-Units : goal.returns-in_err-n-in-Units
returns-in_err-n-in-Units c =
    let some = c.in-Units.linked.some in
    let none : c.in_ok-faults-in-Units.faults ≡ 0 = omega arith in
    let l = units-linked c.args.s.now c.args.report.now c.args.image.now (units_told c.in-Units.linked 0) _ (rw c.in-Units.is at c.in_ok-n.ensures.value) c.in_ok-n.ensures.out_after (λ z. omega arith) in
    let told = image-told c.args.s.now c.args.report.now c.args.image.now (units_told c.in-Units.linked 0) _ (rw c.in-Units.is at c.in_ok-n.ensures.value) c.in_ok-n.ensures.out_after l.0
    _ _ c.in_ok-faults-in-Units.ensures.value l.1 c.in_ok-faults-in-Units.ensures.report_after (rw none refl) _ _ (refusal_told c.in_err-n-in-Units.field-0.0) c.in_err-n-in-Units.ensures.value refl c.in_err-n-in-Units.ensures.out_after in
    let p = err_from_is_err_and c.from_residual-in_err-n-in-Units.result c.from_residual-in_err-n-in-Units.ensures.1 in
    record { value = rw (p.1, p.2) told.0; report_after = told.1.0; image_after = told.1.1 }

pub returns-in_ok-n-in-Units : goal.returns-in_ok-n-in-Units
returns-in_ok-n-in-Units c =
    let some = c.in-Units.linked.some in
    let none : c.in_ok-faults-in-Units.faults ≡ 0 = omega arith in
    let l = units-linked c.args.s.now c.args.report.now c.args.image.now (units_told c.in-Units.linked 0) _ (rw c.in-Units.is at c.in_ok-n.ensures.value) c.in_ok-n.ensures.out_after (λ z. omega arith) in
    let told = image-told c.args.s.now c.args.report.now c.args.image.now (units_told c.in-Units.linked 0) _ (rw c.in-Units.is at c.in_ok-n.ensures.value) c.in_ok-n.ensures.out_after l.0
    _ _ c.in_ok-faults-in-Units.ensures.value l.1 c.in_ok-faults-in-Units.ensures.report_after (rw none refl) _ _ (units_told c.in-Units.linked c.in_ok-n-in-Units.n) c.in_ok-n-in-Units.ensures.value refl c.in_ok-n-in-Units.ensures.out_after in
    record { value = told.0; report_after = told.1.0; image_after = told.1.1 }
