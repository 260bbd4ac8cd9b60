-- `card::look::Carded::find_child`: as where no verdict is asked. Assumes nothing.
use Rattle.card.proofs.look.Carded.find_child.Goals as goal

pub returns : goal.returns
returns c = rw c.mapped.ensures.bytes at c.find_child.ensures
