-- `walk_unit`: entered by its name, its items, and left. Assumes nothing.
use Rattle.std.proofs.Common.{arith, sym, ◌∙◌}
use Rattle.std.proofs.lemmas.Result.{err_from_is_err_and}
use Rattle.bundle.specs.Decode.{decode}
use Rattle.scope_walk.specs.Steps.{walks_as, framed_in, framed_inside, framed_all}
use Rattle.scope_walk.specs.Units.{unit-form, unit-inside, unit-ready}
use Rattle.scope_walk.proofs.walk.walk_unit.Goals as goal

pub returns-in_err-ask-clause-walked : goal.returns-in_err-ask-clause-walked
returns-in_err-ask-clause-walked c =
    let u = c.args.unit.now in
    let p = err_from_is_err_and c.from_residual.result c.from_residual.ensures.1 in
    rw (p.1, p.2) (walks_as (unit-form (decode u.bytes.now) u.id) (framed_in 0 _ _ _ (rw (c.as_slice.ensures.value ∙ c.unit_name-name.ensures) at c.in_err-ask.ensures.walked)))

pub walk_items-requires : goal.walk_items-requires
walk_items-requires c =
    let u = c.args.unit.now in
    let i = c.items.ensures in
    (omega (arith, i.1), unit-ready u.bytes.now u.fit u.placed c.items.result.end c.items.result.at i.0)

pub returns-in_err-walk_items-clause-walked : goal.returns-in_err-walk_items-clause-walked
returns-in_err-walk_items-clause-walked c =
    let u = c.args.unit.now in
    let p = err_from_is_err_and c.from_residual-in_err-walk_items.result c.from_residual-in_err-walk_items.ensures.1 in
    let inside = sym (unit-inside u.bytes.now u.id c.items.result.end c.items.result.at c.items.ensures.0) in
    rw (p.1, p.2) (walks_as (unit-form (decode u.bytes.now) u.id)
    (framed_inside 0 _ _ (rw (c.as_slice.ensures.value ∙ c.unit_name-name.ensures) at c.in_ok-ask.ensures.walked) _ (walks_as inside c.in_err-walk_items.ensures.walked)))

pub returns-clause-walked : goal.returns-clause-walked
returns-clause-walked c =
    let u = c.args.unit.now in
    let inside = sym (unit-inside u.bytes.now u.id c.items.result.end c.items.result.at c.items.ensures.0) in
    walks_as (unit-form (decode u.bytes.now) u.id)
    (framed_all 0 _ _ (rw (c.as_slice.ensures.value ∙ c.unit_name-name.ensures) at c.in_ok-ask.ensures.walked) (walks_as inside c.in_ok-walk_items.ensures.walked) c.ask-2.ensures.walked)
