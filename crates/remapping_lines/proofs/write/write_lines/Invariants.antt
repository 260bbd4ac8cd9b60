-- `write_lines` meets its contract: the lines passed stand at the start. Assumes nothing.
use Rattle.std.proofs.Common.{◌≤◌, length}
use Rattle.bundle.specs.Encode.{joined}
use Rattle.bundle.specs.Form.{Every}
use Rattle.encoder.specs.Parts.{Filled}
use Rattle.remapping_lines.specs.Lines.{line_feed}
use Rattle.remapping_lines.specs.Splitting.{left_pieces}
use Rattle.remapping_lines.specs.Writing.{Passable, piece_bytes, list_bytes}
use Rattle.remapping_lines.proofs.write.write_lines.Given as goal

abbrev pub invariant-loop-line : goal.invariant-loop-line
invariant-loop-line l = record {
  filled : Filled (list_bytes l.s) (joined piece_bytes (left_pieces line_feed l.line-iterator.done l.line-iterator.rest.now)) l.initial.out l.out l.n;
  pass : Every Passable (left_pieces line_feed l.line-iterator.done l.line-iterator.rest.now);
  room : length (list_bytes l.s) ≤ length l.initial.out;
}
