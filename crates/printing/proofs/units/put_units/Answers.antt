use Rattle.std.proofs.Common.{rules, sym}
use Rattle.bundle.specs.Decode.{decode}
use Rattle.order.specs.Run.{units_of}
use Rattle.text.specs.Words.{lines}
use Rattle.text.specs.Telling.{tells_as}
use Rattle.printing.specs.Units.{units_more, ok_told}
use Rattle.printing.proofs.units.put_units.Goals as goal

pub loop-unit-init : goal.loop-unit-init
unfolding lines
loop-unit-init g c = g.met.S.Sink.tells_none _

pub loop-unit-preserved : goal.loop-unit-preserved
loop-unit-preserved g c =
    tells_as g.S.Sink.tells (g.met.S.Sink.tells_more _ _ _ _ _ c.loop-unit.invariant c.put_unit.ensures)
    (sym (units_more c.args.s.now c.args.units.now c.loop-unit.unit-index (search rules)))

pub returns : goal.returns
returns g c =
    let then = g.met.S.Sink.tells_more in
    tells_as g.S.Sink.tells (then _ _ _ _ _ (then _ _ _ _ _ (then _ _ _ _ _ c.put.ensures c.put_decimal.ensures) c.put-2.ensures) c.loop-unit.invariant)
    (ok_told (units_of (decode c.args.s.now)) c.args.units.now c.loop-unit.unit-index (search rules))
