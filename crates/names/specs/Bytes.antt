-- Byte strings: words in ASCII, and equality as a test. Assumes nothing.
use Prim.Native.Nat.{ℕ, zero, suc, ◌<◌, ◌-◌, suc-le-suc}
use Rattle.std.proofs.Common.{not-suc-le-zero, le_of_suc-le-suc, sym, ap, ◌∙◌, arith, length-drop, take-append-drop, length-append, drop_of_length-le, ext_get_or, take_all, eq-eqb, eqb-true}
use Prim.Native.Char.{code}
use Prim.Native.String.{String, [] as no_text, ◌∷◌ as ◌then◌}
use Rattle.std.specs.Prelude.{Bool, true, false, ◌&&◌, ◌||◌, ◌≡◌, eqb, length, get_or, take, drop}
use Rattle.std.specs.List.{list_all, list_any, starts_with}
use Rattle.std.specs.Cmp.Lexicographic.{pointwise}
use Rattle.std.proofs.Math.Bool.{or-true}
use Rattle.std.proofs.Math.Path.{refl}
use mathlib.Core.List.{List, [], ◌∷◌, ◌++◌, map}
use Rattle.std.proofs.Math.Seq.{take-append_seam, drop-append_seam, drop-length}

-- the bytes of a text in ASCII
unfoldable pub ascii : String → List ℕ
ascii no_text = []
ascii (c then s) = code c ∷ ascii s

-- the byte `/`
abbrev pub slash : ℕ
slash = 47

-- whether two byte strings are equal
unfoldable pub same : List ℕ → List ℕ → Bool
same [] [] = true
same [] (b ∷ t) = false
same (a ∷ s) [] = false
same (a ∷ s) (b ∷ t) = eqb a b && same s t

-- whether a byte string begins with another
unfoldable pub has_prefix : List ℕ → List ℕ → Bool
has_prefix s p = same (take (length p) s) p

-- whether a byte string is in a list
unfoldable pub member : List ℕ → List (List ℕ) → Bool
member s [] = false
member s (w ∷ ws) = same s w || member s ws

-- whether a test holds of every element
unfoldable pub all : {A : Type 0} → (A → Bool) → List A → Bool
all f [] = true
all f (a ∷ l) = f a && all f l

-- TESTS AND FACTS

pub false_true : ◌≡◌ {A = Bool} false true → ⊥
false_true e = let z : ◌≡◌ {A = ℕ} 0 1 = cc in omega arith

pub and_left : (a b : Bool) → (a && b) ≡ true → a ≡ true
and_left true b h = refl
and_left false b h = h

pub and_right : (a b : Bool) → (a && b) ≡ true → b ≡ true
and_right true b h = h
and_right false b h = absurd (false_true h)

-- two tests that imply each other are equal
pub both_ways : (a b : Bool) → (a ≡ true → b ≡ true) → (b ≡ true → a ≡ true) → a ≡ b
both_ways true b f g = cc (f refl)
both_ways false true f g = g refl
both_ways false false f g = refl

pub not_true : (a : Bool) → (a ≡ true → ⊥) → a ≡ false
not_true true f = absurd (f refl)
not_true false f = refl

-- std's word for `==`, and `any` over words
pub same_is : (s t : List ℕ) → pointwise eqb s t ≡ same s t
unfolding same
same_is [] [] = refl
same_is [] (b ∷ t) = refl
same_is (a ∷ s) [] = refl
same_is (a ∷ s) (b ∷ t) = rw (same_is s t)

pub member_is : {A : Type 0} (v : A → List ℕ) (s : List ℕ) (ws : List A) → list_any (λ w. pointwise eqb s (v w)) ws ≡ member s (map v ws)
unfolding member
member_is v s [] = refl
member_is v s (w ∷ ws) = rw (same_is s (v w), member_is v s ws)

pub same_refl : (s : List ℕ) → same s s ≡ true
unfolding same
same_refl [] = refl
same_refl (a ∷ s) = rw (eq-eqb a a refl, same_refl s)

pub same-eq : (s t : List ℕ) → same s t ≡ true → s ≡ t
unfolding same
same-eq [] [] h = refl
same-eq [] (b ∷ t) h = absurd (false_true h)
same-eq (a ∷ s) [] h = absurd (false_true h)
same-eq (a ∷ s) (b ∷ t) h =
    let e = eqb-true a b (and_left (eqb a b) (same s t) h) in
    let f = same-eq s t (and_right (eqb a b) (same s t) h) in
    cc

pub different : (s t : List ℕ) → (s ≡ t → ⊥) → same s t ≡ false
different s t f = not_true (same s t) (λ h. f (same-eq s t h))

pub same_differs : (s t : List ℕ) → same s t ≡ false → s ≡ t → ⊥
same_differs s t h e = false_true (cc (same_refl s))

pub equal-same : (s t : List ℕ) → s ≡ t → same s t ≡ true
equal-same s t e = rw e (same_refl t)

-- std's word for `starts_with`
pub has_prefix_is : (s p : List ℕ) → starts_with eqb s p ≡ has_prefix s p
unfolding has_prefix
has_prefix_is s p =
    same_is p (take (length p) s)
    ∙ both_ways (same p (take (length p) s)) (same (take (length p) s) p)
    (λ e. equal-same _ _ (sym (same-eq _ _ e))) (λ e. equal-same _ _ (sym (same-eq _ _ e)))

pub ruleset equals = (same_is, has_prefix_is)

-- equal length and equal bytes
pub same_bytes : (s t : List ℕ) → length s ≡ length t → ((k : ℕ) → k < length s → get_or s k 0 ≡ get_or t k 0) → same s t ≡ true
same_bytes s t n f = equal-same s t (ext_get_or 0 s t n f)

-- std's word for it
pub all_is : {A : Type 0} (f : A → Bool) (l : List A) → list_all f l ≡ all f l
unfolding all
all_is f [] = refl
all_is f (a ∷ l) = rw (all_is f l)

module _ (f : ℕ → Bool) where
  -- what holds of all holds of each
  pub all-each : (s : List ℕ) → all f s ≡ true → (k : ℕ) → k < length s → f (get_or s k 0) ≡ true
  unfolding all
  all-each [] h k l = absurd (not-suc-le-zero l)
  all-each (a ∷ s) h zero l = and_left (f a) (all f s) h
  all-each (a ∷ s) h (suc k) l = all-each s (and_right (f a) (all f s) h) k (le_of_suc-le-suc l)

module _ (s : List ℕ) where
  pub member-found : (ws : List (List ℕ)) (i : ℕ) → i < length ws → same s (get_or ws i []) ≡ true → member s ws ≡ true
  unfolding member
  member-found [] i h e = absurd (not-suc-le-zero h)
  member-found (w ∷ ws) zero h e = rw e
  member-found (w ∷ ws) (suc i) h e = rw (member-found ws i (le_of_suc-le-suc h) e, or-true)

  pub member-none : (ws : List (List ℕ)) → ((k : ℕ) → k < length ws → same s (get_or ws k []) ≡ false) → member s ws ≡ false
  unfolding member
  member-none [] f = refl
  member-none (w ∷ ws) f = rw (f 0 (omega arith), member-none ws (λ k h. f (suc k) (suc-le-suc h)))

-- BEGINNINGS

-- equal to two parts: begun by the first, and followed by the second
pub same-append : (s p t : List ℕ) → same s (p ++ t) ≡ (has_prefix s p && same (drop (length p) s) t)
unfolding has_prefix
same-append s p t = both_ways (same s (p ++ t)) (same (take (length p) s) p && same (drop (length p) s) t) there back
  where
    there : same s (p ++ t) ≡ true → (same (take (length p) s) p && same (drop (length p) s) t) ≡ true
    there h =
        let e = same-eq s (p ++ t) h in
        rw (e, take-append_seam, drop-append_seam, same_refl p, same_refl t)

    back : (same (take (length p) s) p && same (drop (length p) s) t) ≡ true → same s (p ++ t) ≡ true
    back h =
        let a = same-eq _ _ (and_left (same (take (length p) s) p) (same (drop (length p) s) t) h) in
        let b = same-eq _ _ (and_right (same (take (length p) s) p) (same (drop (length p) s) t) h) in
        equal-same s (p ++ t) (sym (take-append-drop (length p) s) ∙ rw (a, b))

-- ENDS

abbrev pub front_but : ℕ → List ℕ → List ℕ
front_but n s = take (length s - n) s

abbrev pub back : ℕ → List ℕ → List ℕ
back n s = drop (length s - n) s

-- equal to two parts: ended by the second, and begun by the first
pub same_ended : (s u t : List ℕ) → same s (u ++ t) ≡ (pointwise eqb (back (length t) s) t && same (front_but (length t) s) u)
same_ended s u t = rw same_is (both_ways (same s (u ++ t)) (same (back (length t) s) t && same (front_but (length t) s) u) there behind)
  where
    there : same s (u ++ t) ≡ true → (same (back (length t) s) t && same (front_but (length t) s) u) ≡ true
    there h =
        let e = same-eq s (u ++ t) h in
        let n : length (u ++ t) - length t ≡ length u = omega (arith, length-append u t) in
        rw (e, n, take-append_seam, drop-append_seam, same_refl t, same_refl u)

    behind : (same (back (length t) s) t && same (front_but (length t) s) u) ≡ true → same s (u ++ t) ≡ true
    behind h =
        let a = same-eq _ _ (and_left (same (back (length t) s) t) (same (front_but (length t) s) u) h) in
        let b = same-eq _ _ (and_right (same (back (length t) s) t) (same (front_but (length t) s) u) h) in
        equal-same s (u ++ t) (sym (take-append-drop (length s - length t) s) ∙ rw (a, b))

-- PARTS

-- all that is left of s
pub rest-is : (s : List ℕ) (at : ℕ) → take (length s - at) (drop at s) ≡ drop at s
rest-is s at = take_all (length s - at) (drop at s) (omega (arith, length-drop at s))

-- what a pattern `[first, rest @ ..]` binds
pub after_first : (s : List ℕ) → take (length s - 1) (drop 1 s) ≡ drop 1 s
after_first s = rest-is s 1

pub length_rest : (s : List ℕ) (at : ℕ) → length (take (length s - at) (drop at s)) ≡ length s - at
length_rest s at = ap length (rest-is s at) ∙ length-drop at s

pub past_end : (s : List ℕ) (n : ℕ) → length s < n → take (length s - length s) (drop (length s) s) ≡ drop n s
past_end s n h = rest-is s (length s) ∙ drop-length s ∙ sym (drop_of_length-le s {i = n} (omega arith))
