use Rattle.std.proofs.Common.{refl, rules, ◌∙◌}
use Rattle.commit.specs.Lending.{kept-after}
use Rattle.commit.specs.Filled.{filled, fills_more, numbers-read}
use Rattle.commit.proofs.Lent.commit_numbers.Goals as goal

pub loop-i-init : goal.loop-i-init
unfolding filled
loop-i-init c = (search rules, refl)

pub loop-i-preserved : goal.loop-i-preserved
loop-i-preserved c = (
  kept-after c.loop-i.invariant.0 c.add_numbers.ensures.kept,
  c.add_numbers.ensures.added ∙ fills_more _ _ _ _ _ _ c.loop-i.invariant.1 (numbers-read _ _ _ c.loop-i-test.true _ _),
)
