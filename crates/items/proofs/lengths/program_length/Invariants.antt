-- The units so far are counted. Assumes nothing.
use Rattle.std.proofs.Common.{drop}
use Rattle.bundle.specs.Decode.{decode}
use Rattle.assembly.specs.Image.{length_cap}
use Rattle.assembly.specs.Given.{program_bytes}
use Rattle.encoder.specs.Parts.{Counted}
use Rattle.items.proofs.lengths.program_length.Given as goal

abbrev pub invariant-loop-id : goal.invariant-loop-id
invariant-loop-id l = Counted (program_bytes (decode l.program.bytes.now) l.program.ids.now) (program_bytes (decode l.program.bytes.now) (drop l.id-index l.program.ids.now)) length_cap l.sum
