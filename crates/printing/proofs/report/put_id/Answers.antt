use Rattle.std.proofs.Common.{rules}
use Rattle.text.specs.Telling.{tells_as}
use Rattle.printing.proofs.report.put_id.Goals as goal

pub returns : goal.returns
returns g c = tells_as g.S.Sink.tells (g.met.S.Sink.tells_more _ _ _ _ _ c.put.ensures c.put_decimal.ensures) (search rules)
