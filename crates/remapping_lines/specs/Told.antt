-- The code's answers in the specification's numbers. Assumes nothing.
use Rattle.std.specs.Prelude.{ℕ, Result, Ok, Err}
use Rattle.refusal.specs.Numbers.{number_of}
use Rattle.refusal.specs.declared.Refusal.{Refusal}
use Rattle.remapping_lines.specs.Lines.{Lines, Section, Refused}

abbrev pub told : Result ℕ Refusal → Lines
told (Ok n) = Section n
told (Err e) = Refused (number_of e.cause) e.place
