-- `linearization::dfs_linearize` walks as the definition does: a step of specs/Steps for each test of the code. The measure is the number of units off the walk. Assumes nothing.
use Rattle.std.proofs.Common.{◌-◌, length}
use Rattle.graph.specs.Steps.{Turn}
use Rattle.graph.proofs.linearization.+dfs_linearize.Given as goal

abbrev pub decreases-dfs_linearize : goal.decreases-dfs_linearize
decreases-dfs_linearize l = l.g.units - length l.x.now.visiting

abbrev pub invariant-loop-d : goal.invariant-loop-d
invariant-loop-d l = Turn l.fn.g l.fn.x l.u l.x l.d-index
