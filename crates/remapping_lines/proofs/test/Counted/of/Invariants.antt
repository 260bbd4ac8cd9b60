-- `of` meets its contract: the lines passed are tested and counted. Assumes nothing.
use Rattle.std.proofs.Common.{◌≡◌, ◌+◌, ◌*◌, ◌≤◌, length}
use Rattle.bundle.specs.Limits.{remapping_limit, remapping_size}
use Rattle.remapping_lines.specs.Lines.{line_feed, placed, content, lines_of}
use Rattle.remapping_lines.specs.Splitting.{left_pieces, Within}
use Rattle.remapping_lines.specs.Testing.{tally}
use Rattle.remapping_lines.proofs.test.Counted.of.Given as goal

abbrev pub invariant-loop-line : goal.invariant-loop-line
invariant-loop-line l = record {
  told : tally 0 1 (lines_of l.s) ≡ tally l.counted.0 l.counted.1.0 (content (placed l.at (left_pieces line_feed l.line-iterator.done l.line-iterator.rest.now)));
  within : (l.counted.0 ≤ remapping_limit) × (l.counted.1.0 ≤ 1 + remapping_size * l.counted.0);
  place : Within (length l.s) l.at l.line-iterator.done l.line-iterator.rest.now;
}
