-- The rest of the units is to be written. Assumes nothing.
use Rattle.std.proofs.Common.{drop}
use Rattle.bundle.specs.Decode.{decode}
use Rattle.assembly.specs.Given.{program_bytes}
use Rattle.items.specs.Written.{Writing}
use Rattle.items.proofs.writing.write_program.Given as goal

abbrev pub invariant-loop-id : goal.invariant-loop-id
invariant-loop-id l = Writing (program_bytes (decode l.program.bytes.now) l.program.ids.now) (program_bytes (decode l.program.bytes.now) (drop l.id-index l.program.ids.now)) l.initial.out l.out l.sum
