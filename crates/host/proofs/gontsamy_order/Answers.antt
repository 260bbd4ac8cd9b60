use Rattle.std.proofs.Common.{◌∙◌}
use Rattle.host.specs.OrderTold.{order-short, order-told}
use Rattle.host.proofs.gontsamy_order.Goals as goal

pub returns-then-answer-lt-ANSWER : goal.returns-then-answer-lt-ANSWER
returns-then-answer-lt-ANSWER c =
    let told = order-short c.args.s.now c.args.report.now c.args.answer.now c.if-answer-lt-ANSWER.true in
    record { value = c.from.ensures ∙ told.0; report_after = told.1.0; answer_after = told.1.1 }

pub returns : goal.returns
returns c =
    let told = order-told c.args.s.now c.args.report.now c.args.answer.now c.if-answer-lt-ANSWER.false _ (c.without_image.ensures ∙ c.order.ensures.value) _ _ c.order.ensures.out_after c.tell_link.ensures.answer_after in
    record { value = c.tell_link.ensures.number ∙ told.0; report_after = told.1.0; answer_after = told.1.1 }
