-- `put` meets its contract. Assumes nothing.
use Rattle.std.proofs.Common.{◌≤◌, length}
use Rattle.bundle.specs.Encode.{string, joined}
use Rattle.encoder.specs.Parts.{Filled}
use Rattle.encoder.proofs.strings.Strings.put.Given as goal

abbrev pub invariant-loop-t : goal.invariant-loop-t
invariant-loop-t l = record {
  filled : Filled (joined string l.fn.self) (joined string l.t-iterator) l.initial.out l.out l.n;
  room : length (joined string l.fn.self) ≤ length l.initial.out;
}
