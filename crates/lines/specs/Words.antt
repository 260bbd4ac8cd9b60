-- Words of a line: what stands before a byte and behind it. Assumes nothing.
use Rattle.std.specs.Prelude.{ℕ, ◌<◌, ◌≢◌, List, length, slice_index}

-- no byte of s is c
abbrev pub HasNone : ℕ → List ℕ → Type 0
HasNone c s = (k : ℕ) → k < length s → slice_index s k ≢ c
