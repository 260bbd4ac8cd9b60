-- `reader::fill::fill` meets its contract. Assumes nothing.
use Rattle.reader.specs.Build.{filling_start, filling_more, filling_end}
use Rattle.reader.proofs.fill.fill.Goals as goal

pub loop-i-init : goal.loop-i-init
loop-i-init g c = filling_start _ _ _ _ _ _ _ c.requires

pub loop-i-preserved : goal.loop-i-preserved
loop-i-preserved g c = rw c.chain_of-chain.ensures (filling_more _ _ _ _ _ _ _ _ _ _ c.loop-i.invariant c.loop-i-test.true _ c.string.ensures _ c.hash_of-hash.ensures _ c.next-a.ensures)

pub returns : goal.returns
returns g c = filling_end _ _ _ _ _ _ _ _ _ _ c.loop-i.invariant c.loop-i-test.false
