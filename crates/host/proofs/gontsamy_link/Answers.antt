use Rattle.std.proofs.Common.{◌∙◌}
use Rattle.host.specs.LinkLaws.{short-answer, short-rows, told}
use Rattle.host.proofs.gontsamy_link.Goals as goal

pub returns-then-answer-lt-ANSWER : goal.returns-then-answer-lt-ANSWER
returns-then-answer-lt-ANSWER c =
    let told = short-answer c.args.s.now c.args.report.now c.args.image.now c.args.answer.now c.args.rows.now c.if-answer-lt-ANSWER.true in
    record { value = c.from.ensures ∙ told.0; report_after = told.1.0; image_after = told.1.1.0; answer_after = told.1.1.1.0; rows_after = told.1.1.1.1 }

pub returns-then-rows-lt-ROWS : goal.returns-then-rows-lt-ROWS
returns-then-rows-lt-ROWS c =
    let told = short-rows c.args.s.now c.args.report.now c.args.image.now c.args.answer.now c.args.rows.now c.if-rows-lt-ROWS.true in
    record { value = c.from-then-rows-lt-ROWS.ensures ∙ told.0; report_after = told.1.0; image_after = told.1.1.0; answer_after = told.1.1.1.0; rows_after = told.1.1.1.1 }

pub returns : goal.returns
returns c =
    let l = c.link_rows-told in
    let told = told c.args.s.now c.args.report.now c.args.image.now c.args.answer.now c.args.rows.now c.if-answer-lt-ANSWER.false c.if-rows-lt-ROWS.false _ l.ensures.answer_value _ _ _ _ l.ensures.report_after l.ensures.image_after l.result.entries l.ensures.listed c.tell_link.ensures.answer_after in
    record { value = c.tell_link.ensures.number ∙ told.0; report_after = told.1.0; image_after = told.1.1.0; answer_after = told.1.1.1.0; rows_after = told.1.1.1.1 }
