use Rattle.std.proofs.Common.{rules}
use Rattle.text.specs.Spelling.{no_pieces}
use Rattle.text.specs.Telling.{tells_as}
use Rattle.text.proofs.put_no.Goals as goal

pub returns : goal.returns
returns g c =
    let then = g.met.S.Sink.tells_more in
    tells_as g.S.Sink.tells (then _ _ _ _ _ (then _ _ _ _ _ (then _ _ _ _ _ (then _ _ _ _ _ c.put.ensures c.put_decimal.ensures) c.put-2.ensures) c.put_decimal-2.ensures) c.put-3.ensures) (search (rules, no_pieces))
