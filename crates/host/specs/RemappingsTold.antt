-- How the answer to a remapping list is told in numbers. Assumes nothing.
use Rattle.std.specs.Prelude.{ℕ}
use Rattle.remapping_lines.specs.Lines.{Lines, Section, Refused}

-- 0 for a section, else the number of a refusal
abbrev pub lines_number : Lines → ℕ
lines_number (Section n) = 0
lines_number (Refused n p) = n

-- the section's length, or the place of a refusal
abbrev pub lines_told : Lines → ℕ
lines_told (Section n) = n
lines_told (Refused n p) = p
