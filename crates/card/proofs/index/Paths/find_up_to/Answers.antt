-- `card::index::Paths::find_up_to`: the walk begins at the head of the hash's chain. Assumes nothing.
use Rattle.card.specs.Card.{from-head, whole-chain}
use Rattle.card.proofs.index.Paths.find_up_to.Goals as goal

pub walk-requires : goal.walk-requires
walk-requires c = from-head c.args.self.now.index _ _ c.hash_of-h.ensures _ c.last_of.ensures

pub returns : goal.returns
returns c = whole-chain c.args.self.now.index _ _ c.hash_of-h.ensures _ c.last_of.ensures _ _ c.walk.ensures
