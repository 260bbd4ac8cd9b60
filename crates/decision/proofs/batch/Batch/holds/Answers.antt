use Rattle.std.proofs.Common.{rules, tests}
use Rattle.std.proofs.lemmas.Iterator.{YieldsList-from_slice}
use Rattle.std.proofs.lemmas.Iterator.Search.{any_from_yields_List}
use Rattle.decision.specs.BatchLaws.{held_from}
use Rattle.decision.proofs.batch.Batch.holds.Goals as goal

pub returns : goal.returns
returns c =
    held_from _ _ _ c.requires.0 c.requires.1
    (any_from_yields_List _ _ _ _ c.any.ensures.ran (YieldsList-from_slice _ c.iter.ensures.rest) (λ y b q k. search (rules, tests)))
