-- What a test of a bundle comes to, in the specification's numbers; and of each answer of the code what it says so. Assumes nothing.
use Rattle.std.specs.Prelude.{ℕ}

-- where the next field starts, or a number and a place
pub data Scan : Type 0 where
  Next : ℕ → Scan
  Bad : ℕ → ℕ → Scan

-- where the next item starts, with the number of items and of uses so far; or a number and a place
pub data Walk : Type 0 where
  Past : ℕ → ℕ → ℕ → Walk
  Fault : ℕ → ℕ → Walk

-- the bytes pass, or a number and a place
pub data Checked : Type 0 where
  Ok : Checked
  Refused : ℕ → ℕ → Checked
