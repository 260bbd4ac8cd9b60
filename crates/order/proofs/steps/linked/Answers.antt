-- `order::steps::linked` meets its contract. Assumes nothing.
use native.Mathlib.Omega.{arith}
use Rattle.order.specs.Steps.{copied_none, copied-one, copied_all}
use Rattle.order.proofs.steps.linked.Goals as goal

pub loop-i-init : goal.loop-i-init
loop-i-init c = copied_none c.args.files.now c.args.units (omega arith) (omega arith)

pub loop-i-preserved : goal.loop-i-preserved
loop-i-preserved c =
    copied-one c.args.files.now c.args.units (omega arith) (omega arith) c.loop-i.found c.loop-i.i (omega arith) c.loop-i.invariant

pub returns : goal.returns
returns c =
    copied_all c.args.files.now c.args.units (omega arith) (omega arith) c.loop-i.found c.args.ids c.loop-i.i (omega arith) c.loop-i.invariant
