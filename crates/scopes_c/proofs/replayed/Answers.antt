use Rattle.std.proofs.Common.{arith, rules}
use Rattle.scopes_c.specs.Lists.{walking_begin, walking_turn, walking_over, walking_end, said_as}
use Rattle.scopes_c.proofs.replayed.Goals as goal

pub loop-i-init : goal.loop-i-init
loop-i-init c = walking_begin _ _ _ c.empty-tree.ensures

pub returns-then-min-p : goal.returns-then-min-p
returns-then-min-p c = walking_over _ _ _ _ _ _ c.loop-i.invariant (search rules)

pub loop-i-preserved : goal.loop-i-preserved
loop-i-preserved c = walking_turn _ _ _ _ _ _ c.loop-i.invariant c.loop-i-test.true (omega arith) (omega arith) _ _ (said_as c.shown.ensures c.call_at-step.ensures.turned) _ c.put.ensures.0 c.put.ensures.1 _ c.call_at-step.ensures.next c.call_at-step.ensures.near

pub returns : goal.returns
returns c = walking_end _ _ _ _ _ _ c.loop-i.invariant (omega arith)
