-- `card::look::Mapped::find_child`: as among the paths alone. Assumes nothing.
use Rattle.card.proofs.look.Mapped.find_child.Goals as goal

pub returns : goal.returns
returns c = rw c.paths.ensures.bytes at c.find_child.ensures
