use Rattle.std.proofs.Common.{rules, tests, eqb}
use Rattle.std.proofs.lemmas.Iterator.{YieldsList-from_slice}
use Rattle.std.proofs.lemmas.Iterator.Search.{position_from_yields_List}
use Rattle.text.specs.Spelling.{word_end}
use Rattle.text.specs.Telling.{tells_as}
use Rattle.text.proofs.put_word.Goals as goal

pub returns : goal.returns
returns g c =
    let e = position_from_yields_List (λ b. eqb b 0) _ _ c.position.result c.position.ensures.ran (YieldsList-from_slice _ c.iter.ensures.rest) (λ x b q k. search (rules, tests)) in
    tells_as g.S.Sink.tells c.put.ensures (word_end c.args.word c.to_be_bytes-bytes.result c.unwrap_or-end.result c.position.result (search rules) e (search rules))
