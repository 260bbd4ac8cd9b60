-- `bundle::steps::past` meets its contract. Assumes nothing.
use native.Mathlib.Omega.{arith}
use mathlib.Core.Path.{refl, sym, ◌∙◌}
use Rattle.bundle.specs.Decode.{far}
use Rattle.bundle.specs.ListLaws.{far-more}
use Rattle.bundle.proofs.steps.past.Goals as goal

pub loop-init : goal.loop-init
unfolding far
loop-init g c = (omega arith, refl)

pub loop-preserved : goal.loop-preserved
loop-preserved g c =
    (omega arith, c.next-a.ensures.0 ∙ rw c.loop.invariant.1 (sym (far-more (g.P.Part.after c.args.s.now) c.loop.counter c.args.at)))
