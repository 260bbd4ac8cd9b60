-- `names::identifier::is_identifier` meets its contract: a first byte, and what `all` answers of those after it. Assumes nothing.
use Rattle.std.proofs.Common.{tests, rules, ◌≡◌, drop, arith, ◌∙◌}
use Rattle.std.proofs.lemmas.Iterator.{YieldsList-from_slice}
use Rattle.std.proofs.lemmas.Iterator.Search.{all_from_yields_List}
use Rattle.names.specs.Bytes.{rest-is, all, all_is}
use Rattle.names.specs.Identifier.{inside, first_and_rest}
use Rattle.names.proofs.identifier.is_identifier.Goals as goal

pub returns-then-class_of-eq1 : goal.returns-then-class_of-eq1
returns-then-class_of-eq1 c =
    let s = c.args.s.now in
    let a : c.all.result ≡ all inside (drop 1 s) =
    all_from_yields_List inside _ _ _ c.all.ensures.ran (YieldsList-from_slice (drop 1 s) (c.iter.ensures.rest ∙ rest-is s 1)) (λ x b q k. search (rules, tests))
    ∙ all_is inside (drop 1 s) in
    grind (arith, first_and_rest)
