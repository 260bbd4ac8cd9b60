-- `forbid_enum_dec_in_deps`: one unit after the other. Assumes nothing.
use Rattle.std.proofs.Common.{drop_of_length-le}
use Rattle.assembly.specs.EnumRoom.{some-unit, enums-units}
use Rattle.assembly.specs.FaultRoom.{telling-first, telling-at, telling-room, telling-next, telling-all}
use Rattle.assembly.specs.GivenLaws.{below_first}
use Rattle.assembly.proofs.checks.forbid_enum_dec_in_deps.Goals as goal

pub slice_bounds-id-items-count : goal.slice_bounds-id-items-count
slice_bounds-id-items-count c = some-unit _ c.args.program.now.fit _ _ c.args.program.now.given

pub loop-id-init : goal.loop-id-init
loop-id-init c = telling-first _ c.args.faults.now _ _ (enums-units _ _) c.requires

pub unit-requires : goal.unit-requires
unit-requires c = rw c.from.ensures (below_first c.args.program.now.given _ _ c.loop-id-test.true)

pub forbid_enum_dec-requires : goal.forbid_enum_dec-requires
forbid_enum_dec-requires c = rw (c.unit.ensures.0, c.unit.ensures.1, c.from.ensures) (telling-room (telling-at _ _ c.loop-id-test.true c.loop-id.invariant))

pub loop-id-preserved : goal.loop-id-preserved
loop-id-preserved c =
    telling-next (telling-at _ _ c.loop-id-test.true c.loop-id.invariant) _ (rw (c.unit.ensures.0, c.unit.ensures.1, c.from.ensures) at c.forbid_enum_dec.ensures)

pub returns : goal.returns
returns c = telling-all _ (drop_of_length-le _ c.loop-id-test.false) c.loop-id.invariant
