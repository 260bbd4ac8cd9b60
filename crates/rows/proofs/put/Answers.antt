use Rattle.std.proofs.Common.{rules, arith, refl}
use Rattle.rows.specs.TreeRows.{putting_in, putting_end}
use Rattle.rows.proofs.put.Goals as goal

pub loop-i-preserved : goal.loop-i-preserved
loop-i-preserved c = putting_in _ _ _ _ _ c.loop-i.invariant (search rules) c.loop-i-test.true (omega (arith, c.loop-i.invariant.long)) refl

pub returns : goal.returns
returns c = putting_end _ _ _ _ _ c.loop-i.invariant (search rules) (omega (arith, c.loop-i-test.false))
