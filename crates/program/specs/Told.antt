-- The code's answers in the specification's numbers. Assumes nothing.
use Rattle.std.specs.Prelude.{Result, Ok, Err}
use Rattle.refusal.specs.declared.Refusal.{Refusal}
use Rattle.order.specs.Results.{Answer}
use Rattle.order.specs.Call.{telling}
use Rattle.order.specs.Told.{refusal_told, units_told}
use Rattle.program.specs.declared.assembled.Assembled.{Assembled}
use Rattle.program.specs.declared.assembled.Assembled.TheVariants.{Report, Image}

abbrev pub assembled_told : Assembled → Answer
assembled_told (Report n) = telling 0 0 n
assembled_told (Image u n) = units_told u n

-- the answer of steps 1 to 5 and the image
abbrev pub told : Result Assembled Refusal → Answer
told (Ok x) = assembled_told x
told (Err e) = refusal_told e
