-- `is_public`: the item's visibility. Assumes nothing.
use Rattle.std.proofs.Common.{ap}
use Rattle.assembly.specs.Walk.{visibility-at}
use Rattle.scope_walk.specs.Scopes.{is_public}
use Rattle.scope_walk.proofs.calls.is_public.Goals as goal

pub returns : goal.returns
returns c = ap is_public (visibility-at c.args.s.now c.args.at c.item_visibility.result c.item_visibility.ensures)
