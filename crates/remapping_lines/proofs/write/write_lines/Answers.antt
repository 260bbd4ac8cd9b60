-- `write_lines` meets its contract: the lines passed stand at the start. Assumes nothing.
use Rattle.std.proofs.Common.{rules}
use Rattle.std.proofs.lemmas.List.Sorted.{answers_always}
use Rattle.encoder.specs.Parts.{filled-room, filled_more, filled-all}
use Rattle.remapping_lines.specs.Lines.{line_feed}
use Rattle.remapping_lines.specs.Splitting.{given_step}
use Rattle.remapping_lines.specs.Writing.{list_all, accepted-pass, bytes-step, pass_step, no_bytes}
use Rattle.remapping_lines.proofs.write.write_lines.Goals as goal

pub loop-line-init : goal.loop-line-init
loop-line-init c =
    rw (c.into_iter-line-iterator.ensures.into_iter_gives, c.split-line-items.ensures.done, c.split-line-items.ensures.rest)
    (record { filled = list_all c.args.s.now c.args.out.now; pass = accepted-pass c.args.s.now c.requires.0; room = c.requires.1 })

pub write_line-n-requires : goal.write_line-n-requires
write_line-n-requires c =
    let p = given_step line_feed _ c.loop-line.line-iterator c.next.new.self c.in-Some.line c.in-Some.ensures.steps (answers_always _ _ _ (λ f a r g h. search rules)) in
    ((pass_step _ _ _ p c.loop-line.invariant.pass).0, filled-room _ _ _ _ _ c.loop-line.invariant.filled c.loop-line.invariant.room _ _ (bytes-step _ _ _ p))

pub loop-line-preserved : goal.loop-line-preserved
loop-line-preserved c =
    let p = given_step line_feed _ c.loop-line.line-iterator c.next.new.self c.in-Some.line c.in-Some.ensures.steps (answers_always _ _ _ (λ f a r g h. search rules)) in
    record {
      filled = filled_more _ _ _ _ _ c.loop-line.invariant.filled c.loop-line.invariant.room _ _ c.write_line-n.new.out c.write_line-n.result (bytes-step _ _ _ p) c.write_line-n.ensures.1 c.write_line-n.ensures.0;
      pass = (pass_step _ _ _ p c.loop-line.invariant.pass).1;
      room = c.loop-line.invariant.room;
    }

pub returns : goal.returns
returns c = (filled-all _ _ _ _ _ c.loop-line.invariant.filled c.loop-line.invariant.room (no_bytes _ (rw c.in-None.ensures.steps.0))).1
