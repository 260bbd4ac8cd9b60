-- What becomes of an image that is written to a lent buffer, in the specification's numbers. Assumes nothing.
use Rattle.std.specs.Prelude.{ℕ}

-- how many bytes at the start of the buffer are the image; or a number and a place, 15 or 14 at 0
pub data Imaged : Type 0 where
  Image : ℕ → Imaged
  Refused : ℕ → ℕ → Imaged
