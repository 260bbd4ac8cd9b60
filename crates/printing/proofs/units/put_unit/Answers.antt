use Rattle.std.proofs.Common.{rules}
use Rattle.bundle.specs.Decode.{decode}
use Rattle.order.specs.Run.{units_of}
use Rattle.text.specs.Telling.{tells_as}
use Rattle.printing.specs.Units.{units, unit_told}
use Rattle.printing.proofs.units.put_unit.Goals as goal

pub returns : goal.returns
returns g c =
    let then = g.met.S.Sink.tells_more in
    tells_as g.S.Sink.tells (then _ _ _ _ _ (then _ _ _ _ _ (then _ _ _ _ _ (then _ _ _ _ _ c.put.ensures c.put_decimal.ensures) c.put-2.ensures) c.put-3.ensures) c.put-4.ensures)
    (unit_told (units_of (decode c.args.s.now)) c.args.unit c.from.result c.file_path.result.now (search rules) (search (rules, units)))
