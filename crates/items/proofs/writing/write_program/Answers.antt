-- `write_program` meets its contract: one unit after the other. Assumes nothing.
use Rattle.bundle.specs.Decode.{decode}
use Rattle.assembly.specs.GivenLaws.{below, order-step, order-end}
use Rattle.items.specs.Written.{writing_first, writing-fits, writing-next, writing-all}
use Rattle.items.proofs.writing.write_program.Goals as goal

pub unit-requires : goal.unit-requires
unit-requires c = rw c.from.ensures (below c.args.program.now.given _ c.loop-id-test.true)

pub loop-id-init : goal.loop-id-init
loop-id-init c = writing_first (record { few = c.requires.0; short = c.requires.1 })

pub write_unit-sum-requires : goal.write_unit-sum-requires
write_unit-sum-requires c =
    rw (c.unit.ensures.0, c.unit.ensures.1, c.from.ensures)
    (writing-fits c.loop-id.invariant _ _ (order-step (decode c.args.program.now.bytes.now) c.args.program.now.ids.now c.loop-id.id-index c.loop-id-test.true))

pub loop-id-preserved : goal.loop-id-preserved
loop-id-preserved c =
    writing-next c.loop-id.invariant _ _ (order-step (decode c.args.program.now.bytes.now) c.args.program.now.ids.now c.loop-id.id-index c.loop-id-test.true)
    c.write_unit-sum.new.out c.write_unit-sum.result (rw (c.unit.ensures.0, c.unit.ensures.1, c.from.ensures) at c.write_unit-sum.ensures)

pub returns : goal.returns
returns c = writing-all c.loop-id.invariant (order-end (decode c.args.program.now.bytes.now) c.args.program.now.ids.now c.loop-id.id-index c.loop-id-test.false)
