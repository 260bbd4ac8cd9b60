-- The code's answer about an image in the specification's numbers. Assumes nothing.
use Rattle.std.specs.Prelude.{ℕ, Result, Ok, Err}
use Rattle.refusal.specs.Numbers.{number_of}
use Rattle.refusal.specs.declared.Refusal.{Refusal}
use Rattle.assembly.specs.Results.{Imaged, Image, Refused}

-- an image's length, or why there is none
abbrev pub image_told : Result ℕ Refusal → Imaged
image_told (Ok n) = Image n
image_told (Err e) = Refused (number_of e.cause) e.place
