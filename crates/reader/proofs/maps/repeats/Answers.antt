-- `reader::maps::repeats` meets its contract. Assumes nothing.
use native.Mathlib.Omega.{arith}
use mathlib.Core.Path.{sym, ◌∙◌}
use Rattle.bundle.specs.Decode.{after_remapping}
use Rattle.bundle.specs.Conflicts.{same_remapping, placed_remapping_at}
use Rattle.reader.specs.Mapping.{search_more, search_found, search_done}
use Rattle.reader.proofs.maps.repeats.Goals as goal

pub returns-then-same_remapping : goal.returns-then-same_remapping
returns-then-same_remapping c =
    sym (search_found (same_remapping (placed_remapping_at c.args.s.now c.args.r)) (after_remapping c.args.s.now) (placed_remapping_at c.args.s.now) c.args.n c.loop.counter c.loop.a c.loop-test.true (sym c.same_remapping.ensures ∙ c.if-same_remapping.true)) ∙ c.loop.invariant.1

pub loop-preserved : goal.loop-preserved
loop-preserved c =
    (omega arith, (rw c.next_remapping-a.ensures.0 (sym (search_more (same_remapping (placed_remapping_at c.args.s.now c.args.r)) (after_remapping c.args.s.now) (placed_remapping_at c.args.s.now) c.args.n c.loop.counter c.loop.a c.loop-test.true (sym c.same_remapping.ensures ∙ c.if-same_remapping.false)) ∙ c.loop.invariant.1)))

pub returns : goal.returns
returns c =
    sym (search_done (same_remapping (placed_remapping_at c.args.s.now c.args.r)) (after_remapping c.args.s.now) (placed_remapping_at c.args.s.now) c.args.n c.loop.counter c.loop.a c.loop-test.false) ∙ c.loop.invariant.1
