-- `steps::link_into` meets its contract. Assumes nothing.
use Rattle.std.proofs.Common.{arith, refl, rules}
use Rattle.std.proofs.lemmas.Result.{err_from_is_err_and}
use lib.ListN.{take}
use Rattle.bundle.specs.Decode.{decode}
use Rattle.graph.specs.GivenFacts.{no_zero}
use Rattle.scope_walk.specs.Units.{scoped_as}
use Rattle.assembly.specs.GivenLaws.{given-cut}
use Rattle.linker.specs.Join.{linked_with}
use Rattle.linker.proofs.steps.link_into.Goals as goal

pub returns-in_err-n : goal.returns-in_err-n
returns-in_err-n c =
    let p = err_from_is_err_and c.from_residual.result c.from_residual.ensures.1 in
    let due = c.in_err-n.ensures.told refl c.args.image.now in
    record { answer_value = rw (p.1, p.2) due.0; report_after = due.1.0; image_after = due.1.1.0; link_tree = rw p.1 due.1.1.1 }

pub returns-in-Report : goal.returns-in-Report
returns-in-Report c =
    let due = (rw c.in-Report.is at c.in_ok-n.ensures).told refl c.args.image.now in
    record { answer_value = due.0; report_after = due.1.0; image_after = due.1.1.0; link_tree = due.1.1.1 }

pub shared_ref_as_front-program : goal.shared_ref_as_front-program
shared_ref_as_front-program c =
    let some = c.in-Units.linked.some in
    let fit = ((rw c.in-Units.is at c.in_ok-n.ensures).given (λ z. omega arith)).ids_fit in
    search rules

pub invariant_of-program : goal.invariant_of-program
invariant_of-program c =
    let some = c.in-Units.linked.some in
    record { fit = λ i. omega (arith, c.type_inv.s i); given = given-cut ((rw c.in-Units.is at c.in_ok-n.ensures).given (λ z. omega arith)) }

pub returns-in_err-walk_tree-in-Units : goal.returns-in_err-walk_tree-in-Units
returns-in_err-walk_tree-in-Units c =
    let some = c.in-Units.linked.some in
    let p = err_from_is_err_and c.from_residual-in_err-walk_tree-in-Units.result c.from_residual-in_err-walk_tree-in-Units.ensures.1 in
    let w = scoped_as (decode c.args.s.now) (take c.in-Units.linked.units c.in-Units.linked.ids) _ _ c.in_err-walk_tree-in-Units.ensures in
    let due = (rw c.in-Units.is at c.in_ok-n.ensures).ended (λ z. omega arith) c.args.image.now _ _ w (no_zero c.in_err-walk_tree-in-Units.field-0.0.cause) in
    record { answer_value = rw (p.1, p.2) due.0; report_after = due.1.0; image_after = due.1.1.0; link_tree = rw p.1 due.1.1.1 }

pub returns-in_err-n-in-Units : goal.returns-in_err-n-in-Units
returns-in_err-n-in-Units c =
    let some = c.in-Units.linked.some in
    let p = err_from_is_err_and c.from_residual-in_err-n-in-Units.result c.from_residual-in_err-n-in-Units.ensures.1 in
    let w = scoped_as (decode c.args.s.now) (take c.in-Units.linked.units c.in-Units.linked.ids) _ _ c.in_ok-walk_tree-in-Units.ensures in
    let due = linked_with (rw c.in-Units.is at c.in_ok-n.ensures) (λ z. omega arith) c.args.image.now _ _ w refl _ c.in_err-n-in-Units.ensures.value _ c.in_err-n-in-Units.ensures.out_after in
    record { answer_value = rw (p.1, p.2) due.0; report_after = due.1.0; image_after = due.1.1.0; link_tree = rw p.1 due.1.1.1 }

pub returns-in_ok-n-in-Units : goal.returns-in_ok-n-in-Units
returns-in_ok-n-in-Units c =
    let some = c.in-Units.linked.some in
    let w = scoped_as (decode c.args.s.now) (take c.in-Units.linked.units c.in-Units.linked.ids) _ _ c.in_ok-walk_tree-in-Units.ensures in
    let due = linked_with (rw c.in-Units.is at c.in_ok-n.ensures) (λ z. omega arith) c.args.image.now _ _ w refl _ c.in_ok-n-in-Units.ensures.value _ c.in_ok-n-in-Units.ensures.out_after in
    record { answer_value = due.0; report_after = due.1.0; image_after = due.1.1.0; link_tree = due.1.1.1 }
