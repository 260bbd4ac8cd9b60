-- What the steps answer, in the specification's numbers. Assumes nothing.
use Rattle.std.specs.Prelude.{ℕ, List}

-- what becomes of a report that is written to a lent buffer: how many bytes at its start are the report; or a number and a place, 14 at
-- 0, where the report exceeds the buffer
pub data Reported : Type 0 where
  Report : ℕ → Reported
  Refused : ℕ → ℕ → Reported

-- what a run of the steps answers: a refusal's number and its place; or how many bytes at the start of the report buffer are the report;
-- or, where there is neither, the units, and after step 5 how many bytes at the start of the image buffer are the image. Unit u, below
-- `units`, is the file files[u] of the bundle, and the first `units` of ids are the linked order. What is not told is 0
pub record Answer : Type 0 where
  pub number : ℕ
  pub place : ℕ
  pub report : ℕ
  pub units : ℕ
  pub files : List ℕ
  pub ids : List ℕ
  pub image : ℕ
