-- `size` meets its contract. Assumes nothing.
use Rattle.std.proofs.Common.{◌≡◌, ◌≤◌, ◌<◌, ◌+◌, ◌*◌, length}
use Rattle.bundle.specs.Encode.{string, joined}
use Rattle.bundle.specs.Limits.{string_size}
use Rattle.encoder.proofs.strings.Strings.size.Given as goal

abbrev pub invariant-loop-t : goal.invariant-loop-t
invariant-loop-t l = record {
  sum : l.n + length (joined string l.t-iterator) ≡ length (joined string l.fn.self) + length l.t-iterator;
  few : l.n + 255 * length l.t-iterator ≤ string_size * length l.fn.self;
  short : length l.fn.self < 1024;
}
