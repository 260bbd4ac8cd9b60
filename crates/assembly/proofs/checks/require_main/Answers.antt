-- `require_main`: 27 where there is no main. Assumes nothing.
use Rattle.std.proofs.Common.{sym, ◌∙◌, ◌≡◌, append-nil, true, false}
use mathlib.Core.Path.{refl}
use Rattle.bundle.specs.Decode.{decode}
use Rattle.assembly.specs.Assemble.{items_of, has_main}
use Rattle.assembly.specs.FaultRoom.{main_told}
use Rattle.assembly.specs.EnumRoom.{some-unit}
use Rattle.assembly.proofs.checks.require_main.Goals as goal

pub unit-requires : goal.unit-requires
unit-requires c = some-unit _ c.args.program.now.fit _ _ c.args.program.now.given

pub returns-then-not-has_main : goal.returns-then-not-has_main
unfolding main_told
returns-then-not-has_main c =
    let e : has_main (items_of (decode c.args.program.now.bytes.now) 0) ≡ false = sym (rw (c.unit.ensures.0, c.unit.ensures.1) at c.has_main.ensures) ∙ c.if-not-has_main.true in
    c.push.ensures ∙ rw (e, c.at.ensures) refl

pub returns-else-not-has_main : goal.returns-else-not-has_main
unfolding main_told
returns-else-not-has_main c =
    let e : has_main (items_of (decode c.args.program.now.bytes.now) 0) ≡ true = sym (rw (c.unit.ensures.0, c.unit.ensures.1) at c.has_main.ensures) ∙ c.if-not-has_main.false in
    rw e (sym (append-nil c.args.faults.now))
