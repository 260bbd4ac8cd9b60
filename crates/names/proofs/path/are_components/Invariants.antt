-- `names::path::are_components` meets its contract: the pieces passed are components. Assumes nothing.
use Rattle.std.proofs.Common.{◌≡◌, ◌-◌}
use Rattle.names.specs.Path.{split, well_formed, component_limit}
use Rattle.names.specs.PathSteps.{fits}
use Rattle.names.proofs.path.are_components.Given as goal

abbrev pub invariant-loop : goal.invariant-loop
invariant-loop l = well_formed (split l.s) ≡ fits (component_limit - l.counter) (split l.rest)
