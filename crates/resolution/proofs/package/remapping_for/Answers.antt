-- `remapping_for` meets its contract. Assumes nothing.
use Rattle.std.proofs.Common.{◌<◌, arith, length, sym, ◌∙◌}
use Rattle.bundle.specs.Decode.{decode}
use Rattle.resolution.specs.TakenLaws.{taking_none, taking-other, taking-new, taking_all, can-within}
use Rattle.resolution.proofs.package.remapping_for.Goals as goal
use Rattle.resolution.proofs.package.remapping_for.Goals.{then-remapping_applies, else-remapping_applies}

pub loop-j-init : goal.loop-j-init
loop-j-init c = taking_none _ _ _

pub longer-requires : goal.longer-requires
longer-requires c = (can-within c.args.b.now.is _ c.requires c.args.name.now c.loop-j.best c.loop-j.invariant.can, omega (arith, c.args.b.now.is.few))

pub loop-j-preserved : goal.loop-j-preserved
loop-j-preserved c =
    let h : c.loop-j.j < length (decode c.args.b.now.bytes.now).remappings = omega (arith, c.args.b.now.is.remappings) in
    elim c.if-remapping_applies.branch [
      | then-remapping_applies w ↦ rw (w.best-is, w.longer.ensures) (taking-new c.args.b.now.is c.requires c.loop-j.invariant h (sym c.remapping_applies.ensures ∙ w.if-remapping_applies.true))
      | else-remapping_applies w ↦ rw w.best-is (taking-other c.args.b.now.is c.requires c.loop-j.invariant h (sym c.remapping_applies.ensures ∙ w.if-remapping_applies.false))
    ]

pub returns : goal.returns
returns c = taking_all c.args.b.now.is c.requires c.loop-j.invariant (omega (arith, c.args.b.now.is.remappings))
