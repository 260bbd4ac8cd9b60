-- `Unit::has_main` meets its contract. Assumes nothing.
use Rattle.std.proofs.Common.{sym, ap, ◌∙◌, ◌^◌, arith}
use mathlib.Core.Path.{refl}
use Rattle.assembly.specs.Assemble.{has_main}
use Rattle.assembly.specs.Walk.{main-places, places_small, every-cons}
use Rattle.assembly.proofs.units.Unit.has_main.Goals as goal

pub loop-at-init : goal.loop-at-init
loop-at-init c =
    let s = c.args.self.now.bytes.now in
    let e = c.into_iter-at-iterator.ensures.into_iter_gives ∙ c.of-at-items.ensures in
    let i = c.items.ensures in
    rw e (sym (ap has_main i.0) ∙ main-places s 8 c.items.result.end c.items.result.at, places_small s c.items.result.end (2 ^ 58) (omega arith) c.items.result.at)

pub is_main_function-requires : goal.is_main_function-requires
is_main_function-requires c = (every-cons _ _ _ ((rw c.in-Some.ensures.steps at c.loop-at.invariant).1)).0

pub returns-then-is_main_function : goal.returns-then-is_main_function
returns-then-is_main_function c =
    let i = rw c.in-Some.ensures.steps at c.loop-at.invariant in
    sym (i.0 ∙ rw (sym c.is_main_function.ensures ∙ c.if-is_main_function.true) refl)

pub loop-at-preserved : goal.loop-at-preserved
loop-at-preserved c =
    let i = rw c.in-Some.ensures.steps at c.loop-at.invariant in
    (i.0 ∙ rw (sym c.is_main_function.ensures ∙ c.if-is_main_function.false) refl, (every-cons _ _ _ i.1).1)

pub returns : goal.returns
returns c = sym ((rw c.in-None.ensures.steps.0 at c.loop-at.invariant).0)
