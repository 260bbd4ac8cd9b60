-- `tell_places` meets its contract. Assumes nothing.
use Rattle.std.proofs.Common.{ℕ, ◌≡◌, ap, ◌∙◌}
use native.Mathlib.Omega.{arith}
use Prim.Native.Nat.{min}
use Rattle.std.proofs.lemmas.List.{take_min}
use lib.ListN.{length, take}
use lib.Seq.{sets}
use Rattle.steps_c.specs.Steps.{told-next}
use Rattle.steps_c.proofs.tell_places.Goals as goal

pub loop-i-preserved : goal.loop-i-preserved
loop-i-preserved c = c.tell.ensures ∙ told-next c.args.out.now c.args.at c.args.l.now c.loop-i.i c.loop-i.out (omega (arith, c.loop-i-test.true, c.min-i-end.ensures)) c.loop-i.invariant

pub returns : goal.returns
returns c =
    let e : c.loop-i.i ≡ min c.args.n (length c.args.l.now) = omega (arith, c.loop-i.auto.i-end, c.loop-i-test.false, c.min-i-end.ensures) in
    c.loop-i.invariant ∙ (ap (λ (k : ℕ). sets c.args.out.now c.args.at (take k c.args.l.now)) e ∙ ap (sets c.args.out.now c.args.at) (take_min c.args.n c.args.l.now))
