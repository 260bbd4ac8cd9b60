-- What the functions that test a form promise. Assumes nothing.
use Rattle.std.specs.Prelude.{ℕ, ◌≤◌, ◌≡◌, Result, Ok, Err}
use Rattle.refusal.specs.declared.Cause.{Cause}
use Rattle.refusal.specs.Numbers.{number_of}

-- the fault that an answer tells: 0 for none
abbrev pub fault : {A : Type 0} → Result A Cause → ℕ
fault (Ok x) = 0
fault (Err c) = number_of c

-- the fault, and where there is none the place after what was looked at, which does not pass a bound
abbrev pub Checked : ℕ → ℕ → ℕ → Result ℕ Cause → Type 0
Checked f after bound (Ok p) = (f ≡ 0) × ((p ≡ after) × (p ≤ bound))
Checked f after bound (Err c) = f ≡ number_of c
