-- `card::parts::Card::is_below` meets its contract. Assumes nothing.
use mathlib.Core.Path.{sym, ◌∙◌}
use Rattle.card.specs.Tree.{up_here, up_top, up_out, up_more}
use Rattle.card.proofs.parts.Card.is_below.Goals as goal

pub returns-then-i-d : goal.returns-then-i-d
returns-then-i-d c = sym (up_here _ _ _ _ c.if-i-d.true) ∙ c.loop.invariant.1

pub returns-then-i-eq0 : goal.returns-then-i-eq0
returns-then-i-eq0 c = sym (up_top _ _ _ _ c.if-i-d.false c.if-i-eq0.true) ∙ c.loop.invariant.1

pub loop-preserved : goal.loop-preserved
loop-preserved c = rw c.from-i.ensures (c.requires.0 _, sym (up_more _ _ _ _ c.if-i-d.false c.if-i-eq0.false c.loop-test.true) ∙ c.loop.invariant.1)

pub returns : goal.returns
returns c = sym (up_out _ _ _ _ c.loop-test.false) ∙ c.loop.invariant.1
