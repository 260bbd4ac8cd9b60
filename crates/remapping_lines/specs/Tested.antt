-- The test's answers in the specification's numbers. Assumes nothing.
use Rattle.std.specs.Prelude.{Result, Ok, Err}
use Rattle.refusal.specs.Numbers.{number_of}
use Rattle.refusal.specs.declared.Refusal.{Refusal}
use Rattle.remapping_lines.specs.Testing.{Tested, Bad}
use Rattle.remapping_lines.specs.Testing.{Counted as Passing}
use Rattle.remapping_lines.specs.declared.test.Counted.{Counted}

abbrev pub tested : Result Counted Refusal → Tested
tested (Ok c) = Passing c.lines c.size
tested (Err e) = Bad (number_of e.cause) e.place
