-- `card::parts::Card::nearest_root`: what is left to search before each step. Assumes nothing.
use Rattle.std.proofs.Common.{◌≡◌, ◌<◌, ◌-◌}
use Rattle.card.specs.Layout.{node_limit, parent_at, root_at}
use Rattle.card.specs.Laws.{nearest}
use Rattle.names.specs.Path.{component_limit}
use Rattle.card.proofs.parts.Card.nearest_root.Given as goal

abbrev pub invariant-loop : goal.invariant-loop
invariant-loop l = (l.i < node_limit) × (nearest (component_limit - l.counter) (parent_at l.self) (root_at l.self) l.i ≡ nearest component_limit (parent_at l.self) (root_at l.self) l.f)
