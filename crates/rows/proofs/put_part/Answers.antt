use Rattle.std.proofs.Common.{rules, arith}
use Rattle.rows.specs.TreeRows.{putting_in, putting_out, putting_end}
use Rattle.rows.proofs.put_part.Goals as goal
use Rattle.rows.proofs.put_part.Goals.{then-at-i, else-at-i}

pub loop-i-preserved : goal.loop-i-preserved
loop-i-preserved c =
    elim c.if-at-i.branch [
      | then-at-i w ↦ putting_in _ _ _ _ _ c.loop-i.invariant (search rules) c.loop-i-test.true w.if-at-i.true w.out-is
      | else-at-i w ↦ putting_out _ _ _ _ _ c.loop-i.invariant (search rules) c.loop-i-test.true w.if-at-i.false w.out-is
    ]

pub returns : goal.returns
returns c = putting_end _ _ _ _ _ c.loop-i.invariant (search rules) (omega (arith, c.loop-i-test.false))
