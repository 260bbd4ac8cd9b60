-- `remapping_for` meets its contract. Assumes nothing.
use Rattle.resolution.specs.Indices.{path_in}
use Rattle.resolution.specs.TakenLaws.{Taking}
use Rattle.resolution.proofs.package.remapping_for.Given as goal

abbrev pub invariant-loop-j : goal.invariant-loop-j
invariant-loop-j l = Taking l.b.bytes.now (path_in l.b.bytes.now l.f) l.name l.best l.j
