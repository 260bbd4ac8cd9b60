use Rattle.std.proofs.Common.{arith, rules}
use Rattle.commit.specs.Lending.{kept-after}
use Rattle.scopes_c.specs.Lists.{walking_begin, walking_turn, walking_over, walking_end, said_as, turned_as}
use Rattle.scopes_c.proofs.walked.Goals as goal

pub loop-i-init : goal.loop-i-init
loop-i-init c = (walking_begin _ _ _ c.requires, search rules)

pub returns-then-min-p-clause-walked : goal.returns-then-min-p-clause-walked
returns-then-min-p-clause-walked c = (walking_over _ _ _ _ _ _ c.loop-i.invariant.0 (omega (arith, c.min.ensures))).walked

pub loop-i-preserved : goal.loop-i-preserved
loop-i-preserved c =
    (walking_turn _ _ _ _ _ _ c.loop-i.invariant.0 c.loop-i-test.true (omega (arith, c.min.ensures)) (omega (arith, c.min.ensures)) _ _ (said_as c.shown.ensures (turned_as c.next_call-next.ensures.call c.call_in.ensures.turned)) _ c.put.ensures.0 c.put.ensures.1 _ c.next_call-next.ensures.next.0 c.next_call-next.ensures.next.1, kept-after c.loop-i.invariant.1 c.call_in.ensures.kept)

pub returns-clause-walked : goal.returns-clause-walked
returns-clause-walked c = (walking_end _ _ _ _ _ _ c.loop-i.invariant.0 (omega arith)).walked
