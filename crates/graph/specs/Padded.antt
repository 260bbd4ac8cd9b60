-- Ids at the start of a fixed array, and 0 behind. Assumes nothing.
use Rattle.std.specs.Prelude.{◌≡◌, ℕ, ◌+◌, ◌-◌, ◌<◌, ◌≤◌, List, ◌++◌, length, take, drop, set, replicate}
use Rattle.std.proofs.Common.{arith, add-one, take-append-drop, length-take, length-take-le, length-set, drop-cons}
use Rattle.std.proofs.lemmas.List.{drop-set, get_or-replicate}
use Rattle.graph.specs.Limits.{unit_limit}

abbrev pub padded : List ℕ → List ℕ
padded l = l ++ drop (length l) (replicate unit_limit 0)

-- an array, of which the first n places are used
pub record Kept (l : List ℕ) (n : ℕ) : Type 0 where
  pub fits : n ≤ unit_limit
  pub long : length l ≡ unit_limit
  pub cleared : drop n l ≡ drop n (replicate unit_limit 0)

pub padded-kept : (l : List ℕ) (n : ℕ) → Kept l n → padded (take n l) ≡ l
padded-kept l n k =
    let e : length (take n l) ≡ n = length-take-le n l (omega (arith, k.fits, k.long)) in
    rw (e, ← k.cleared) (take-append-drop n l)

-- the last one is taken off
pub kept_pop : (l : List ℕ) (n : ℕ) → 0 < length (take n l) → Kept l n → Kept (set l (n - 1) 0) (n - 1)
kept_pop l n h k = record {
  fits = omega (arith, k.fits);
  long = simp length-set k.long;
  cleared =
      let lt : n - 1 < length l = omega (arith, k.fits, k.long, length-take n l) in
      let lz : n - 1 < unit_limit = omega (arith, k.long) in
      let back : n - 1 + 1 ≡ n = omega (arith, length-take n l) in
      rw (drop-set l (n - 1) 0 lt, back, k.cleared, drop-cons {A = ℕ} (replicate unit_limit 0) (n - 1) 0 lz, get_or-replicate {A = ℕ} unit_limit (n - 1) 0 0 lz, ← add-one (n - 1), back);
}
