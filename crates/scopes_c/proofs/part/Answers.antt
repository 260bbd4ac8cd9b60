use Rattle.scopes_c.specs.Lists.{part_is}
use Rattle.scopes_c.proofs.part.Goals as goal

pub returns : goal.returns
returns c = part_is _ _ _ c.min.ensures c.min-2.ensures
