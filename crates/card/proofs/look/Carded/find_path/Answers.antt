-- `card::look::Carded::find_path`: as where no verdict is asked. Assumes nothing.
use Rattle.card.proofs.look.Carded.find_path.Goals as goal

pub returns : goal.returns
returns c = rw c.mapped.ensures.bytes at c.find_path.ensures
