-- `program_length` meets its contract. Assumes nothing.
use Rattle.bundle.specs.Decode.{decode}
use Rattle.assembly.specs.Image.{length_cap}
use Rattle.assembly.specs.GivenLaws.{below, order-step, order-end}
use Rattle.encoder.specs.Parts.{counted_none, counted-more, counted-all}
use Rattle.items.proofs.lengths.program_length.Goals as goal

pub loop-id-init : goal.loop-id-init
loop-id-init c = counted_none _ length_cap

pub unit-requires : goal.unit-requires
unit-requires c = rw c.from.ensures (below c.args.program.now.given _ c.loop-id-test.true)

pub loop-id-preserved : goal.loop-id-preserved
loop-id-preserved c =
    let n = rw (c.unit.ensures.0, c.unit.ensures.1, c.from.ensures) at c.unit_length-n.ensures in
    counted-more _ _ _ _ c.loop-id.invariant _ _ c.unit_length-n.result _ (order-step (decode c.args.program.now.bytes.now) c.args.program.now.ids.now c.loop-id.id-index c.loop-id-test.true) n c.min-sum.ensures

pub returns : goal.returns
returns c = counted-all _ _ _ _ c.loop-id.invariant (order-end (decode c.args.program.now.bytes.now) c.args.program.now.ids.now c.loop-id.id-index c.loop-id-test.false)
