-- `locate` meets its contract. Assumes nothing.
use Rattle.resolution.specs.CardLaws.{folder-listed}
use Rattle.resolution.specs.LookupLaws.{file-named, located-none, located-at}
use Rattle.resolution.proofs.listing.locate.Goals as goal

pub find_child-requires : goal.find_child-requires
find_child-requires c = (folder-listed c.args.b.now.is _ c.requires.0, file-named _ c.requires.1)

pub returns-in_err-index : goal.returns-in_err-index
returns-in_err-index c = rw c.from_residual.ensures (located-none c.args.b.now.is c.args.dir c.args.name.now c.in_err-index.ensures c.args.left)

pub returns : goal.returns
returns c = located-at c.args.b.now.is _ _ _ c.in_ok-index.ensures _
