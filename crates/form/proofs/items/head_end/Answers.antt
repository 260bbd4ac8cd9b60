-- `form::items::head_end`: the item ends within the bytes. Assumes nothing.
use native.Mathlib.Omega.{arith}
use mathlib.Core.Path.{sym}
use Rattle.bundle.specs.Steps.{length-next}
use Rattle.form.proofs.items.head_end.Goals as goal

pub invariant_of-item : goal.invariant_of-item
invariant_of-item c =
    let b = length-next c.args.container.now.bytes.now c.args.container.now.end c.args.w.at (sym c.in_ok-end.ensures) in
    record { inside = omega (arith, c.args.container.now.inside) }
