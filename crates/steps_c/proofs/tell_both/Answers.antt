-- `steps_c::tell_both` meets its contract. Assumes nothing.
use Prim.Native.Nat.{ℕ}
use mathlib.Core.List.{List}
use mathlib.Core.Path.{ap, ◌∙◌}
use lib.ListN.{set}
use Rattle.steps_c.proofs.tell_both.Goals as goal

pub returns : goal.returns
returns c = c.tell-2.ensures ∙ ap (λ (l : List ℕ). set l 1 c.args.b) c.tell.ensures
