-- `card::parts::Card::is_below`: what is left to ascend before each step. Assumes nothing.
use Rattle.std.proofs.Common.{◌≡◌, ◌<◌, ◌-◌}
use Rattle.card.specs.Layout.{node_limit, parent_at}
use Rattle.card.specs.Tree.{ascends}
use Rattle.names.specs.Path.{component_limit}
use Rattle.card.proofs.parts.Card.is_below.Given as goal

abbrev pub invariant-loop : goal.invariant-loop
invariant-loop l = (l.i < node_limit) × (ascends (component_limit - l.counter) (parent_at l.self) l.i l.d ≡ ascends component_limit (parent_at l.self) l.f l.d)
