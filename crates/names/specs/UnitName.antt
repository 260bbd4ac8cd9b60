-- A unit's name as a value: its bytes, and zeros after them. Assumes nothing.
use Rattle.std.specs.Prelude.{ℕ, ◌≤◌, ◌-◌, ◌≡◌, List, ◌++◌, length, take, drop, replicate}
use Rattle.std.proofs.Common.{arith, ap, length-take-le, take-append-drop}
use Rattle.names.specs.declared.unit.UnitName.TheInside.{Inside}

-- the most bytes that the name of a 64-bit id has
abbrev pub room : ℕ
room = 25

abbrev pub shown : Inside → List ℕ
shown u = take u.len u.bytes

pub record Kept (u : Inside) : Type 0 where
  pub fits : u.len ≤ room
  pub whole : length u.bytes ≡ room
  pub clear : drop u.len u.bytes ≡ replicate (room - u.len) 0

abbrev pub room_of : List ℕ → Inside
room_of l = record { bytes = l ++ replicate (room - length l) 0; len = length l }

pub shown_back : (u : Inside) → Kept u → room_of (shown u) ≡ u
shown_back u k =
    let n : length (take u.len u.bytes) ≡ u.len = length-take-le u.len u.bytes (omega (arith, k.fits, k.whole)) in
    let e : take u.len u.bytes ++ replicate (room - u.len) 0 ≡ u.bytes = rw (← k.clear) (take-append-drop u.len u.bytes) in
    let made : ℕ → List ℕ → Inside = λ (m : ℕ) (l : List ℕ). record { bytes = l; len = m } in
    rw n (ap (made u.len) e)
