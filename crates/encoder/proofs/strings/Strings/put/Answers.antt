-- `put` meets its contract. Assumes nothing.
use Rattle.std.proofs.Common.{arith}
use Rattle.bundle.specs.Encode.{string, joined}
use Rattle.encoder.specs.Strings.{joined_none, joined_more, string-length}
use Rattle.encoder.specs.Parts.{filled_none, filled-room, filled_more, filled-all}
use Rattle.encoder.proofs.strings.Strings.put.Goals as goal

pub loop-t-init : goal.loop-t-init
loop-t-init c = rw c.into_iter-t-iterator.ensures.into_iter_gives (record { filled = filled_none (joined string c.args.self) c.args.out.now; room = c.requires })

pub put_string-n-requires : goal.put_string-n-requires
put_string-n-requires c =
    let room = filled-room _ _ _ _ _ c.loop-t.invariant.filled c.loop-t.invariant.room (string c.in-Some.t.now) (joined string c.next.new.self) (joined_more c.loop-t.t-iterator c.next.new.self c.in-Some.t.now c.in-Some.ensures.steps.0) in
    (c.in-Some.ensures.steps.1, omega (arith, string-length c.in-Some.t.now))

pub loop-t-preserved : goal.loop-t-preserved
loop-t-preserved c = record {
  filled = filled_more _ _ _ _ _ c.loop-t.invariant.filled c.loop-t.invariant.room (string c.in-Some.t.now) (joined string c.next.new.self) c.put_string-n.new.out c.put_string-n.result (joined_more c.loop-t.t-iterator c.next.new.self c.in-Some.t.now c.in-Some.ensures.steps.0) c.put_string-n.ensures.1 c.put_string-n.ensures.0;
  room = c.loop-t.invariant.room;
}

pub returns : goal.returns
returns c = filled-all _ _ _ _ _ c.loop-t.invariant.filled c.loop-t.invariant.room (joined_none c.loop-t.t-iterator c.in-None.ensures.steps.0.0)
