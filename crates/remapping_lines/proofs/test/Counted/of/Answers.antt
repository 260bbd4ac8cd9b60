-- `of` meets its contract: the lines passed are tested and counted. Assumes nothing.
use Rattle.std.proofs.Common.{rules, ◌∙◌, sym}
use Rattle.std.proofs.lemmas.List.Sorted.{answers_always}
use Rattle.std.proofs.lemmas.Result.{err_from_is_err_and}
use Rattle.remapping_lines.specs.Lines.{line_feed, placed, content}
use Rattle.remapping_lines.specs.Splitting.{given_step, within_step}
use Rattle.remapping_lines.specs.Testing.{tally, tally_bad, tally_counted}
use Rattle.remapping_lines.proofs.test.Counted.of.Goals as goal

pub returns-in_err-counted : goal.returns-in_err-counted
returns-in_err-counted c =
    let p = given_step line_feed _ c.loop-line.line-iterator c.next.new.self c.in-Some.line c.in-Some.ensures.steps (answers_always _ _ _ (λ f a r g h. search rules)) in
    let y = err_from_is_err_and c.from_residual.result c.from_residual.ensures.1 in
    rw (y.1, y.2) (tally_bad _ _ _ _ _ _ _ _ p c.in_err-counted.ensures ∙ sym c.loop-line.invariant.told)

pub loop-line-preserved : goal.loop-line-preserved
loop-line-preserved c =
    let p = given_step line_feed _ c.loop-line.line-iterator c.next.new.self c.in-Some.line c.in-Some.ensures.steps (answers_always _ _ _ (λ f a r g h. search rules)) in
    record {
      told = c.loop-line.invariant.told ∙ tally_counted _ _ _ _ _ _ _ _ p c.in_ok-counted.ensures;
      within = c.in_ok-counted.counted.within;
      place = within_step _ c.loop-line.line-iterator c.next.new.self c.in-Some.line _ _ c.in-Some.ensures.steps c.loop-line.invariant.place;
    }

pub returns : goal.returns
unfolding tally content placed
returns c = rw c.in-None.ensures.steps.0 at (sym c.loop-line.invariant.told)
