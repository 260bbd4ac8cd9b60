-- `walk_units`: one unit after the other. Assumes nothing.
use mathlib.Core.Path.{refl}
use Rattle.std.proofs.lemmas.Result.{err_from_is_err_and}
use Rattle.bundle.specs.Decode.{decode}
use Rattle.assembly.specs.GivenLaws.{below}
use Rattle.commit.specs.Lending.{kept-after}
use Rattle.scope_walk.specs.Steps.{onward_as, onward_first, onward_next, onward_stop, onward_all}
use Rattle.scope_walk.specs.Units.{order-step, order-end}
use Rattle.scope_walk.proofs.walk.walk_units.Goals as goal

pub unit-requires : goal.unit-requires
unit-requires c = rw c.from.ensures (below c.args.program.now.given _ c.loop-id-test.true)

pub loop-id-init : goal.loop-id-init
loop-id-init c = (record { opened = refl; cells = refl; visible = refl; scopes = refl; marks = refl; n0 = refl; n1 = refl; n2 = refl; n3 = refl }, onward_first _ refl)

pub loop-id-preserved : goal.loop-id-preserved
loop-id-preserved c =
    let o = onward_as _ _ (order-step (decode c.args.program.now.bytes.now) c.args.program.now.ids.now c.loop-id.id-index c.loop-id-test.true) c.loop-id.invariant.1 in
    (kept-after c.loop-id.invariant.0 c.in_ok-walk_unit.ensures.kept, onward_next _ _ o (rw (c.unit.ensures.0, c.unit.ensures.1, c.from.ensures) at c.in_ok-walk_unit.ensures.walked))

pub returns-in_err-walk_unit-clause-walked : goal.returns-in_err-walk_unit-clause-walked
returns-in_err-walk_unit-clause-walked c =
    let o = onward_as _ _ (order-step (decode c.args.program.now.bytes.now) c.args.program.now.ids.now c.loop-id.id-index c.loop-id-test.true) c.loop-id.invariant.1 in
    let p = err_from_is_err_and c.from_residual.result c.from_residual.ensures.1 in
    rw (p.1, p.2) (onward_stop _ _ o _ (rw (c.unit.ensures.0, c.unit.ensures.1, c.from.ensures) at c.in_err-walk_unit.ensures.walked))

pub returns-clause-walked : goal.returns-clause-walked
returns-clause-walked c = onward_all _ (order-end (decode c.args.program.now.bytes.now) c.args.program.now.ids.now c.loop-id.id-index c.loop-id-test.false) c.loop-id.invariant.1
