-- Where the code finds a unit among those being visited. Assumes nothing.
use Rattle.std.specs.Prelude.{◌≡◌, refl, Bool, true, false, cond, ◌||◌, List, [], ◌∷◌, ℕ, suc, ◌+◌, Option, Some, None, length, drop, eqb, ltb, not}
use Rattle.std.specs.List.{position_or_len, position}
use Rattle.std.proofs.Common.{sym, ap, ◌∙◌, arith, one-add, eq-eqb, ne_eqb, lt-ltb, eqb-true}
use Rattle.std.proofs.Math.Dec.{leb-suc-suc}
use Rattle.std.proofs.lemmas.Bool.{eqb-false}
use Rattle.graph.specs.Linearize.{memb, from}

-- the first place of u in l, or l's length
abbrev place : ℕ → List ℕ → ℕ
place u l = position_or_len (λ v. eqb v u) l

place-cons : (u x : ℕ) (l : List ℕ) → place u (x ∷ l) ≡ cond (eqb u x) 0 (suc (place u l))
place-cons u x l = go (eqb u x) refl
  where
    go : (b : Bool) → eqb u x ≡ b → cond (not (eqb x u)) (1 + place u l) 0 ≡ cond b 0 (suc (place u l))
    go true e = rw (eq-eqb x u (sym (eqb-true u x e)))
    go false e = rw (ne_eqb x u (λ q. eqb-false u x e (sym q)), one-add)

memb-place : (u : ℕ) (l : List ℕ) → memb u l ≡ ltb (place u l) (length l)
unfolding memb
memb-place u [] = refl
memb-place u (x ∷ l) = rw place-cons (go (eqb u x) (memb-place u l))
  where
    go : (b : Bool) → memb u l ≡ ltb (place u l) (length l) → b || memb u l ≡ ltb (cond b 0 (suc (place u l))) (suc (length l))
    go true ih = sym (lt-ltb 0 (suc (length l)) (omega arith))
    go false ih = ih ∙ sym (leb-suc-suc (suc (place u l)) (length l))

from-place : (u : ℕ) (l : List ℕ) → from u l ≡ drop (place u l) l
unfolding from
from-place u [] = refl
from-place u (x ∷ l) = rw place-cons (go (eqb u x) (from-place u l))
  where
    go : (b : Bool) → from u l ≡ drop (place u l) l → cond b (x ∷ l) (from u l) ≡ drop (cond b 0 (suc (place u l))) (x ∷ l)
    go true ih = refl
    go false ih = ih

-- `position` answers the place of a member, from which on the list is
pub member-position : (u p : ℕ) (l : List ℕ) → position (λ v. eqb v u) l ≡ Some p → (memb u l ≡ true) × (from u l ≡ drop p l)
member-position u p l e = go (ltb (place u l) (length l)) (memb-place u l) e
  where
    go : (b : Bool) → memb u l ≡ b → cond b (Some (place u l)) None ≡ Some p → (memb u l ≡ true) × (from u l ≡ drop p l)
    go true m q = let k : place u l ≡ p = cc in (m, from-place u l ∙ ap (λ n. drop n l) k)
    go false m q = absurd (cc)

pub no_member-position : (u : ℕ) (l : List ℕ) → ◌≡◌ {A = Option ℕ} (position (λ v. eqb v u) l) None → memb u l ≡ false
no_member-position u l e = go (ltb (place u l) (length l)) (memb-place u l) e
  where
    go : (b : Bool) → memb u l ≡ b → ◌≡◌ {A = Option ℕ} (cond b (Some (place u l)) None) None → memb u l ≡ false
    go true m q = absurd (cc)
    go false m q = m
