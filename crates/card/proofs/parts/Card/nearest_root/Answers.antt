-- `card::parts::Card::nearest_root` meets its contract. Assumes nothing.
use mathlib.Core.Path.{sym, ◌∙◌}
use Rattle.card.specs.Laws.{near-here, near-top, near-out, near-more}
use Rattle.card.proofs.parts.Card.nearest_root.Goals as goal

pub returns-then-node : goal.returns-then-node
returns-then-node c = sym (near-here _ _ _ _ c.if-node.true) ∙ c.loop.invariant.1

pub returns-then-i-eq0 : goal.returns-then-i-eq0
returns-then-i-eq0 c = sym (near-top _ _ _ _ c.if-node.false c.if-i-eq0.true) ∙ c.loop.invariant.1

pub loop-preserved : goal.loop-preserved
loop-preserved c = rw c.from-i.ensures (c.requires.0 _, sym (near-more _ _ _ _ c.if-node.false c.if-i-eq0.false c.loop-test.true) ∙ c.loop.invariant.1)

pub returns : goal.returns
returns c = c.then_some.ensures ∙ sym (near-out _ _ _ _ c.loop-test.false) ∙ c.loop.invariant.1
