-- What the code's answers tell, in the specification's numbers. Assumes nothing.
use Rattle.std.specs.Prelude.{ℕ, List, [], Result, Ok, Err}
use Rattle.refusal.specs.declared.Cause.{Cause}
use Rattle.refusal.specs.Numbers.{number_of}
use Rattle.graph.specs.declared.Unordered.{Unordered}
use Rattle.graph.specs.declared.Unordered.TheVariants.{Ring, Refused}
use Rattle.graph.specs.Given.{Linearized, ring_met, answer}

-- the number of what refuses a graph, 0 for none
abbrev pub number_told : Result (Unit {0}) Cause → ℕ
number_told (Ok _) = 0
number_told (Err c) = number_of c

-- 0 and the linked order, 26 and a ring, or the number of a refusal and no id
abbrev pub told : Result (List ℕ) Unordered → Linearized
told (Ok o) = answer 0 o
told (Err (Ring r)) = answer ring_met r
told (Err (Refused c)) = answer (number_of c) []
