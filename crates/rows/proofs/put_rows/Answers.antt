use Rattle.std.proofs.Common.{arith}
use Rattle.rows.specs.TreeRows.{listing_turn, listing_end}
use Rattle.rows.proofs.put_rows.Goals as goal

pub loop-i-preserved : goal.loop-i-preserved
loop-i-preserved c = listing_turn _ _ _ _ c.loop-i.invariant (omega (arith, c.count-count.ensures, c.loop-i-test.true)) c.row_of.ensures c.put.ensures

pub returns : goal.returns
returns c = listing_end _ _ _ _ c.loop-i.invariant (omega (arith, c.count-count.ensures, c.loop-i-test.false)) c.count-count.ensures
