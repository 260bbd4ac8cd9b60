-- Laws of the lists of a bundle, for the code that goes through them. Assumes nothing.
use Prim.Native.Nat.{ℕ, zero, suc, ◌+◌, ◌<◌}
use Rattle.std.proofs.Common.{arith, add-one}
use Rattle.std.specs.Prelude.{Bool, true, false, ◌||◌, length, get_or, ◌≡◌}
use Rattle.std.proofs.Math.Path.{refl, ap}
use mathlib.Core.List.{List, [], ◌∷◌, ◌++◌}
use Rattle.names.specs.Bytes.{same, member}
use Rattle.bundle.specs.Bundle.{Text}
use Rattle.bundle.specs.Scan.{text}
use Rattle.bundle.specs.Decode.{each, far}
use Rattle.bundle.specs.Conflicts.{placed_at, texts}

-- MEMBERS
pub member-append : (t : Text) (x y : List Text) → member t (x ++ y) ≡ (member t x || member t y)
unfolding member
member-append t [] y = refl
member-append t (w ∷ x) y = go (same t w) (member-append t x y)
  where
    go : (b : Bool) → member t (x ++ y) ≡ (member t x || member t y) → (b || member t (x ++ y)) ≡ ((b || member t x) || member t y)
    go true e = refl
    go false e = e

-- ONE MORE
module _ {A : Type 0} (next : ℕ → ℕ) (get : ℕ → A) where
  each-suc : (i at : ℕ) → each next get (suc i) at ≡ each next get i at ++ (get (far next i at) ∷ [])
  unfolding each far
  each-suc zero at = refl
  each-suc (suc i) at = ap (λ (x : List A). get at ∷ x) (each-suc i (next at))

  pub each_more : (i at : ℕ) → each next get (i + 1) at ≡ each next get i at ++ (get (far next i at) ∷ [])
  each_more i at = rw add-one (each-suc i at)

far-suc : (next : ℕ → ℕ) (i at : ℕ) → far next (suc i) at ≡ next (far next i at)
unfolding far
far-suc next zero at = refl
far-suc next (suc i) at = far-suc next i (next at)

pub far-more : (next : ℕ → ℕ) (i at : ℕ) → far next (i + 1) at ≡ next (far next i at)
far-more next i at = rw add-one (far-suc next i at)

-- THE STRINGS of placed ones
pub texts-each : (s : List ℕ) (next : ℕ → ℕ) (n at : ℕ) → texts (each next (placed_at s) n at) ≡ each next (text s) n at
unfolding each placed_at
texts-each s next zero at = refl
texts-each s next (suc n) at = ap (λ (l : List Text). text s at ∷ l) (texts-each s next n (next at))

-- THE i-th of n values
pub each_at : {A : Type 0} (next : ℕ → ℕ) (get : ℕ → A) (n i at : ℕ) (d : A) → i < n → get_or (each next get n at) i d ≡ get (far next i at)
unfolding each far
each_at next get zero i at d h = absurd (omega arith)
each_at next get (suc n) zero at d h = refl
each_at next get (suc n) (suc i) at d h = each_at next get n i (next at) d (omega arith)

pub each-length : {A : Type 0} (next : ℕ → ℕ) (get : ℕ → A) (n at : ℕ) → length (each next get n at) ≡ n
unfolding each
each-length next get zero at = refl
each-length next get (suc n) at = ap suc (each-length next get n (next at))
