-- `card::index::Index::find_path`: as among the paths alone. Assumes nothing.
use Rattle.card.proofs.index.Index.find_path.Goals as goal

pub returns : goal.returns
returns c = rw c.paths.ensures.bytes at c.find_path.ensures
