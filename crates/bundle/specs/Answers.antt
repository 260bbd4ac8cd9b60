-- Laws of answers: a check that says Ok, what is read then, and tests. Assumes nothing.
use Rattle.std.specs.Prelude.{ℕ, Bool, true, false, cond, ◌≡◌, refl}
use Rattle.std.proofs.Common.{arith}
use Rattle.bundle.specs.Bundle.{Bundle}
use Rattle.bundle.specs.Conflicts.{or_else}
use Rattle.bundle.specs.Read.{value, refused, reading}
use Rattle.bundle.specs.Results.{Checked}
use Rattle.bundle.specs.Results.{Ok, Refused}

pub refused-ok : {n p : ℕ} → Refused n p ≡ Ok → ⊥
refused-ok e = let z : ◌≡◌ {A = ℕ} 0 1 = cc in omega arith

pub refused-number : {n p m q : ℕ} → Refused n p ≡ Refused m q → n ≡ m
refused-number e = cc

pub refused-place : {n p m q : ℕ} → Refused n p ≡ Refused m q → p ≡ q
refused-place e = cc

-- two tests that both find nothing
pub both_ok : (a c : Checked) → or_else a c ≡ Ok → (a ≡ Ok) × (c ≡ Ok)
both_ok Ok c h = (refl, h)
both_ok (Refused n p) c h = absurd (refused-ok h)

-- a value is read just where the check says Ok
pub value-ok : (c : Checked) (d b : Bundle) → reading c d ≡ value b → (c ≡ Ok) × (d ≡ b)
value-ok Ok d b h = (refl, cc)
value-ok (Refused n p) d b h = absurd (no h)
  where
    no : refused n p ≡ value b → ⊥
    no e = let z : ◌≡◌ {A = ℕ} 0 1 = cc in omega arith

pub refused-told : (c : Checked) (d : Bundle) (n p : ℕ) → reading c d ≡ refused n p → c ≡ Refused n p
refused-told Ok d n p h = absurd (no h)
  where
    no : value d ≡ refused n p → ⊥
    no e = let z : ◌≡◌ {A = ℕ} 0 1 = cc in omega arith
refused-told (Refused m q) d n p h =
    let x : m ≡ n = cc in
    let y : q ≡ p = cc in
    cc

-- a goal at `cond b x y` is one at x where b is true and one at y where it is false
pub cond_elim : {A : Type 0} (P : A → Type 0) (b : Bool) {x y : A} → (b ≡ true → P x) → (b ≡ false → P y) → P (cond b x y)
cond_elim P true f g = f refl
cond_elim P false f g = g refl
