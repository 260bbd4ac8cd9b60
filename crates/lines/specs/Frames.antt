-- Parts that are led by their length in 4 bytes, big-endian. Assumes nothing.
use Rattle.std.specs.Prelude.{ℕ, ◌+◌, ◌<◌, ◌≤◌, ◌≡◌, List, ◌++◌, length, take, drop}
use Rattle.std.specs.Int.{w32, from_be_bytes}

abbrev pub length_at : List ℕ → ℕ
length_at s = from_be_bytes w32 (take 4 s)

-- a part is at the start of s, and then comes the rest
pub record Leads (part rest s : List ℕ) : Type 0 where
  pub led : 4 ≤ length s
  pub whole : length part ≡ length_at s
  pub split : drop 4 s ≡ part ++ rest

-- the first part isn't all there
abbrev pub IsCut : List ℕ → Type 0
IsCut s = length s < 4 + length_at s
