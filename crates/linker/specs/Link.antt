-- The steps of a link in their order: what becomes of a bundle. Assumes nothing.
use Rattle.std.specs.Prelude.{ℕ, List}
use Rattle.bundle.specs.Bundle.{Items, Bundle}
use Rattle.scope_tree.specs.Flat.{Flat}
use Rattle.assembly.specs.Assemble.{linearize_and_assemble}
use Rattle.assembly.specs.Assemble as assembly
use Rattle.order.specs.Outcome as steps
use Rattle.order.specs.Outcome.{and_then}
pub use Rattle.order.specs.Outcome.{faulty, closed, ended, result}
use Rattle.scope_walk.specs.Scopes.{Walked, done, stopped, scope_walk}

-- the ids of the units in linked order, the program, and its tree
pub record Made : Type 0 where
  pub ids : List ℕ
  pub items : Items
  pub tree : Flat

-- 20 to 25, 27, 28: the faults of discovery or of step 5; 26: a ring; 40 to 51: the number and the place of the call that step 6 ends
-- at; or what is linked
abbrev pub Outcome : Type 0
Outcome = steps.Outcome Made

abbrev pub linked : List ℕ → Items → Flat → Outcome
linked o p x = result (record { ids = o; items = p; tree = x })

abbrev pub step6 : List ℕ → Items → Walked Flat → Outcome
step6 o p (done x) = linked o p x
step6 o p (stopped n m) = ended n m

-- discovery faults, a ring and faults of step 5 prevent step 6
abbrev pub link_after : assembly.Outcome → Outcome
link_after x = and_then x (λ q. step6 q.ids q.items (scope_walk q.items))

unfoldable pub link_bundle : Bundle → Outcome
link_bundle b = link_after (linearize_and_assemble b)
