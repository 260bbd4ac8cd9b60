use Rattle.std.proofs.Common.{rules}
use Rattle.text.specs.Spelling.{name_pieces}
use Rattle.text.specs.Telling.{tells_as}
use Rattle.text.proofs.put_name.Goals as goal

pub returns : goal.returns
returns g c =
    let then = g.met.S.Sink.tells_more in
    tells_as g.S.Sink.tells (then _ _ _ _ _ (then _ _ _ _ _ (then _ _ _ _ _ c.put_word.ensures c.put_word-2.ensures) c.put_word-3.ensures) c.put_word-4.ensures) (search (rules, name_pieces))
