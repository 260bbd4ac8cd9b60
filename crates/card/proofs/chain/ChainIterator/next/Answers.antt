-- `card::chain::ChainIterator::next`: none, or an index and those behind it. Assumes nothing.
use Rattle.std.proofs.Common.{rules, sym, ◌∙◌}
use Rattle.card.specs.Chains.{down_none, down_more}
use Rattle.card.proofs.chain.ChainIterator.next.Goals as goal

pub returns-then-i-eq0-clause-steps : goal.returns-then-i-eq0-clause-steps
returns-then-i-eq0-clause-steps c = let z = sym c.self.view_is ∙ down_none _ _ c.if-i-eq0.true in (z, z)

pub returns-clause-steps : goal.returns-clause-steps
returns-clause-steps c = sym c.self.view_is ∙ down_more _ _ c.self.invariant c.if-i-eq0.false _ c.from-self-inside.ensures

pub returns-clause-goes : goal.returns-clause-goes
returns-clause-goes c = rw (sym c.self.view_is ∙ down_more _ _ c.self.invariant c.if-i-eq0.false _ c.from-self-inside.ensures) (search rules)
