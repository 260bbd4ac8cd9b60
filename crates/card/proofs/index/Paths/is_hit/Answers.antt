-- `card::index::Paths::is_hit`: the name and its ending are compared one after the other. Assumes nothing.
use Rattle.std.proofs.Common.{rules}
use Rattle.names.specs.Bytes.{equals, same-append}
use Rattle.card.specs.Card.{hit}
use Rattle.card.proofs.index.Paths.is_hit.Goals as goal

pub returns-then-starts_with : goal.returns-then-starts_with
unfolding hit
returns-then-starts_with c = rw same-append (search (rules, equals))

pub returns-else-starts_with : goal.returns-else-starts_with
unfolding hit
returns-else-starts_with c = rw same-append (search (rules, equals))
