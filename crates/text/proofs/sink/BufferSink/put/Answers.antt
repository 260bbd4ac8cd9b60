use Rattle.std.proofs.Common.{arith, ◌∙◌}
use Rattle.text.specs.Writing.{bytes-more}
use Rattle.text.proofs.sink.BufferSink.put.Goals as goal

pub loop-b-preserved : goal.loop-b-preserved
loop-b-preserved c =
    (c.add.ensures.kept ∙ c.loop-b.invariant.0, bytes-more c.args.bytes.now _ _ _ _ _ _ c.loop-b.b-index (omega arith) c.loop-b.invariant.1 c.add.ensures.put)
