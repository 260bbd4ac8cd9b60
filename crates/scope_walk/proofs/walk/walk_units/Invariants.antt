-- What the calls of the units that are left come to, all come to. Assumes nothing.
use Rattle.std.proofs.Common.{drop}
use Rattle.bundle.specs.Decode.{decode}
use Rattle.commit.specs.Lending.{lent_in, Kept}
use Rattle.scope_walk.specs.Steps.{Onward}
use Rattle.scope_walk.specs.Units.{program_calls}
use Rattle.scope_walk.proofs.walk.walk_units.Given as goal

abbrev pub invariant-loop-id : goal.invariant-loop-id
invariant-loop-id l =
    Kept l.fn.tree l.tree
    × Onward (lent_in l.fn.tree) (program_calls (decode l.program.bytes.now) l.program.ids.now) (lent_in l.tree) (program_calls (decode l.program.bytes.now) (drop l.id-index l.program.ids.now))
