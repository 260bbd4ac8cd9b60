-- `card::look::Carded::mapped` meets its contract. Assumes nothing.
use Rattle.card.specs.Card.{CardIs-CardOf}
use Rattle.card.proofs.look.Carded.mapped.Goals as goal

pub invariant_of-result : goal.invariant_of-result
invariant_of-result c = record { is = CardIs-CardOf c.args.self.now.is }
