-- `enter` meets its contract. Assumes nothing.
use Rattle.std.proofs.Common.{arith}
use Rattle.resolution.specs.CardLaws.{folder-listed}
use Rattle.resolution.specs.LookupLaws.{segment-named, named-byte, entered, entered-none, entered_file}
use Rattle.resolution.proofs.listing.enter.Goals as goal

pub find_child-requires : goal.find_child-requires
find_child-requires c = (folder-listed c.args.b.now.is _ c.requires.0, segment-named _ c.requires.1)

pub returns-in_err-i : goal.returns-in_err-i
returns-in_err-i c = rw c.from_residual.ensures (entered-none c.args.b.now.is _ _ (named-byte _ c.requires.1) c.in_err-i.ensures)

pub returns-then-i-b : goal.returns-then-i-b
returns-then-i-b c = entered_file c.args.b.now.is _ _ (named-byte _ c.requires.1) _ c.in_ok-i.ensures (omega (arith, c.args.b.now.is.folders))

pub returns : goal.returns
returns c = entered c.args.b.now.is _ _ (named-byte _ c.requires.1) _ c.in_ok-i.ensures (omega (arith, c.args.b.now.is.folders))
