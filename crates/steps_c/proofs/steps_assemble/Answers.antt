-- `steps_assemble` meets its contract. Assumes nothing.
use Rattle.std.proofs.Common.{refl, ◌∙◌}
use mathlib.Core.Path.{ap}
use Rattle.order.specs.Results.{Answer}
use Rattle.order.specs.Told.{refusal_told, units_told}
use Rattle.order.specs.Call.{telling}
use Rattle.graph.specs.GivenFacts.{no_zero}
use Rattle.steps_c.specs.Steps.{assemble_told, assemble_refused, assemble_told_lem}
use Rattle.steps_c.proofs.steps_assemble.Goals as goal

pub returns-in-Err : goal.returns-in-Err
returns-in-Err c =
    let is = c.in-Err.ensures.value in
    record { value = c.from.ensures ∙ ap (λ (a : Answer). a.number) is; report_after = c.in-Err.ensures.report_after; image_after = c.in-Err.ensures.image_after; out_after = assemble_refused (refusal_told c.in-Err.e) c.args.out.now (no_zero c.in-Err.e.cause) _ c.tell.ensures ∙ ap (λ (a : Answer). assemble_told a c.args.out.now) is }

pub returns-in-Ok-Report : goal.returns-in-Ok-Report
returns-in-Ok-Report c =
    let is = rw c.in-Ok-Report.field-0-is at c.in-Ok-Report.ensures.value in
    record { value = ap (λ (a : Answer). a.number) is; report_after = c.in-Ok-Report.ensures.report_after; image_after = c.in-Ok-Report.ensures.image_after; out_after = assemble_told_lem (telling 0 0 c.in-Ok-Report.n) c.args.out.now refl _ _ _ _ c.tell_both.ensures c.tell-in-Ok-Report.ensures refl refl ∙ ap (λ (a : Answer). assemble_told a c.args.out.now) is }

pub returns-in-Ok-Image : goal.returns-in-Ok-Image
returns-in-Ok-Image c =
    let is = rw c.in-Ok-Image.field-0-is at c.in-Ok-Image.ensures.value in
    record { value = ap (λ (a : Answer). a.number) is; report_after = c.in-Ok-Image.ensures.report_after; image_after = c.in-Ok-Image.ensures.image_after; out_after = assemble_told_lem (units_told c.in-Ok-Image.linked c.in-Ok-Image.n) c.args.out.now refl _ _ _ _ c.tell_both-in-Ok-Image.ensures c.tell-in-Ok-Image.ensures c.tell_places.ensures c.tell_ids.ensures ∙ ap (λ (a : Answer). assemble_told a c.args.out.now) is }
