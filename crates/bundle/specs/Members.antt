-- Laws of membership: the tests `member` and `any`, and places of a list. Assumes nothing.
use Rattle.std.specs.Prelude.{ℕ, zero, suc, ◌<◌, Bool, ◌||◌, ◌≡◌, length, get_or}
use Rattle.std.proofs.Common.{suc-le-suc, not-suc-le-zero, le_of_suc-le-suc, arith, sym, ap, ◌∙◌}
use Rattle.std.proofs.Math.Bool.{true, false, or-true}
use Rattle.std.proofs.Math.Path.{refl, subst}
use mathlib.Core.List.{List, [], ◌∷◌, map, Memᴰ}
use Rattle.names.specs.Bytes.{same, member, false_true, not_true, same-eq, equal-same}
use Rattle.bundle.specs.Bundle.{Text}
use Rattle.bundle.specs.Conflicts.{any}
use Rattle.bundle.specs.Form.{Every}

-- `member`
pub member_true : (s : Text) (l : List Text) → member s l ≡ true → Memᴰ s l
unfolding member
member_true s [] e = absurd (false_true e)
member_true s (x ∷ l) e = go (same s x) refl e (member_true s l)
  where
    go : (b : Bool) → same s x ≡ b → (b || member s l) ≡ true → (member s l ≡ true → Memᴰ s l) → Memᴰ s (x ∷ l)
    go true h e' k = Memᴰ.head (same-eq s x h)
    go false h e' k = Memᴰ.tail (k e')

pub mem_member : {s : Text} {l : List Text} → Memᴰ s l → member s l ≡ true
unfolding member
mem_member {s} (Memᴰ.head {x} {xs} e) = rw (equal-same s x e)
mem_member {s} (Memᴰ.tail {x} {xs} m) = rw (mem_member m, or-true)

pub member_false : {s : Text} {l : List Text} → member s l ≡ false → Memᴰ s l → ⊥
member_false e m = false_true (sym e ∙ mem_member m)

pub not-member : (s : Text) (l : List Text) → (Memᴰ s l → ⊥) → member s l ≡ false
not-member s l f = not_true (member s l) (λ e. f (member_true s l e))

module _ {A : Type 0} where
  -- `any`
  pub any_true : (f : A → Bool) (l : List A) → any f l ≡ true → (a : A) × (Memᴰ a l × (f a ≡ true))
  unfolding any
  any_true f [] e = absurd (false_true e)
  any_true f (x ∷ l) e = go (f x) refl e (any_true f l)
    where
      go : (b : Bool) → f x ≡ b → (b || any f l) ≡ true → (any f l ≡ true → (a : A) × (Memᴰ a l × (f a ≡ true)))
          → (a : A) × (Memᴰ a (x ∷ l) × (f a ≡ true))
      go true h e' k = (x, (Memᴰ.head refl, h))
      go false h e' k = let r = k e' in (r.0, (Memᴰ.tail r.1.0, r.1.1))

  pub mem_any : (f : A → Bool) {a : A} {l : List A} → Memᴰ a l → f a ≡ true → any f l ≡ true
  unfolding any
  mem_any f (Memᴰ.head {x} {xs} e) h = rw (← e, h)
  mem_any f (Memᴰ.tail {x} {xs} m) h = rw (mem_any f m h, or-true)

  -- `Every`
  pub every_mem : (P : A → Type 0) {a : A} {l : List A} → Every P l → Memᴰ a l → P a
  unfolding Every
  every_mem P w (Memᴰ.head {x} {xs} e) = subst P (sym e) w.0
  every_mem P w (Memᴰ.tail {x} {xs} m) = every_mem P w.1 m

  -- places
  pub mem_get_d : (l : List A) (i : ℕ) (d : A) → i < length l → Memᴰ (get_or l i d) l
  mem_get_d [] i d h = absurd (not-suc-le-zero h)
  mem_get_d (a ∷ l) zero d h = Memᴰ.head refl
  mem_get_d (a ∷ l) (suc i) d h = Memᴰ.tail (mem_get_d l i d (le_of_suc-le-suc h))

  pub get_d_mem : {a : A} {l : List A} (d : A) → Memᴰ a l → (i : ℕ) × ((i < length l) × (get_or l i d ≡ a))
  get_d_mem d (Memᴰ.head {x} {xs} e) = (0, (omega arith, sym e))
  get_d_mem d (Memᴰ.tail {x} {xs} m) = let r = get_d_mem d m in (suc r.0, (suc-le-suc r.1.0, r.1.1))

  -- what a map gives
  pub mem_map : {B : Type 0} (f : A → B) {a : A} {l : List A} → Memᴰ a l → Memᴰ (f a) (map f l)
  mem_map f (Memᴰ.head {x} {xs} e) = Memᴰ.head (ap f e)
  mem_map f (Memᴰ.tail {x} {xs} m) = Memᴰ.tail (mem_map f m)
