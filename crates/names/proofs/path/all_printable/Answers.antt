-- `names::path::all_printable` meets its contract: what `all` answers. Assumes nothing.
use Rattle.std.proofs.Common.{rules, tests, ◌∙◌}
use Rattle.std.proofs.lemmas.Iterator.{YieldsList-from_slice}
use Rattle.std.proofs.lemmas.Iterator.Search.{all_from_yields_List}
use Rattle.names.specs.Bytes.{all_is}
use Rattle.names.specs.Path.{printable}
use Rattle.names.proofs.path.all_printable.Goals as goal

pub returns : goal.returns
returns c =
    all_from_yields_List printable _ _ _ c.all.ensures.ran (YieldsList-from_slice c.args.c.now c.iter.ensures.rest) (λ x b q k. search (rules, tests))
    ∙ all_is printable c.args.c.now
