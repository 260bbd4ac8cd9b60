-- The enums of the units that are left are to be told. Assumes nothing.
use Rattle.std.proofs.Common.{◌-◌, ◌++◌, map, length, take, drop}
use Rattle.bundle.specs.Decode.{decode}
use Rattle.assembly.specs.Assemble.{items_of, enum_declarations}
use Rattle.assembly.specs.Faults.{enums_of}
use Rattle.assembly.specs.FaultRoom.{foreign, Telling}
use Rattle.assembly.proofs.checks.forbid_enum_dec_in_deps.Given as goal

abbrev pub invariant-loop-id : goal.invariant-loop-id
invariant-loop-id l =
    Telling (λ u. enum_declarations (items_of (decode l.program.bytes.now) u))
    (l.initial.faults ++ map foreign (enums_of (decode l.program.bytes.now) (take (length l.program.ids.now - 1) l.program.ids.now)))
    l.faults (drop l.id-index (take (length l.program.ids.now - 1) l.program.ids.now))
