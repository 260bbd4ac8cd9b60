-- `item_at`: name, visibility and mark. Assumes nothing.
use mathlib.Core.Path.{refl}
use Rattle.assembly.specs.Walk.{name-text}
use Rattle.scope_walk.proofs.calls.item_at.Goals as goal

pub returns : goal.returns
returns c = (name-text c.args.s.now c.args.at c.item_name.result.now c.requires.1 c.item_name.ensures, (c.is_public.ensures, refl))
