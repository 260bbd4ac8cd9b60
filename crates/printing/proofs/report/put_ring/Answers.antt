use Rattle.std.proofs.Common.{rules}
use Rattle.text.specs.Telling.{tells_as}
use Rattle.printing.specs.Reports.{ring_told}
use Rattle.printing.proofs.report.put_ring.Goals as goal

pub returns : goal.returns
returns g c =
    let then = g.met.S.Sink.tells_more in
    tells_as g.S.Sink.tells (then _ _ _ _ _ (then _ _ _ _ _ (then _ _ _ _ _ c.put_no.ensures c.put.ensures) c.loop-id.invariant) c.put-2.ensures)
    (ring_told c.args.ids.now c.loop-id.id-index c.from-2.result (search rules) (search rules))
