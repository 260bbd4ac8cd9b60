-- What a use resolves to, in the specification's numbers. Assumes nothing.
use Rattle.std.specs.Prelude.{ℕ}

-- which file of the bundle, counted from 0, and how many of the use's last segments are left as module path; the same of a folder,
-- which only reading refuses; or a number and a place
pub data Resolution : Type 0 where
  File : ℕ → ℕ → Resolution
  Folder : ℕ → ℕ → Resolution
  Refused : ℕ → ℕ → Resolution
