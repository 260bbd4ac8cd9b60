-- The code's answers in the specification's numbers. Assumes nothing.
use Rattle.std.specs.Prelude.{ℕ, Result, Ok, Err}
use Rattle.refusal.specs.Numbers.{number_of}
use Rattle.refusal.specs.declared.Refusal.{Refusal}
use Rattle.order.specs.Results.{Reported, Answer}
use Rattle.order.specs.Results as reported
use Rattle.order.specs.Call.{telling, refusing}
use Rattle.order.specs.declared.linked.Linked.{Linked}
use Rattle.order.specs.declared.linked.Ordered.{Ordered}
use Rattle.order.specs.declared.linked.Ordered.TheVariants.{Report, Units}

-- a report's length, or why there is none
abbrev pub report_told : Result ℕ Refusal → Reported
report_told (Ok n) = reported.Report n
report_told (Err e) = reported.Refused (number_of e.cause) e.place

abbrev pub refusal_told : Refusal → Answer
refusal_told e = refusing (number_of e.cause) e.place

abbrev pub units_told : Linked → ℕ → Answer
units_told u n = record { number = 0; place = 0; report = 0; units = u.units; files = u.files; ids = u.ids; image = n }

abbrev pub ordered_told : Ordered → Answer
ordered_told (Report n) = telling 0 0 n
ordered_told (Units u) = units_told u 0

-- the answer of steps 3 and 4
abbrev pub told : Result Ordered Refusal → Answer
told (Ok x) = ordered_told x
told (Err e) = refusal_told e
