-- A name as a value: its bytes packed into four words, big-endian, zero past the end. Two names without a zero byte, of at
-- most 32 bytes, have the same words only where they are the same. Assumes nothing.
use Rattle.std.specs.Prelude.{ℕ, zero, suc, ◌+◌, ◌*◌, ◌-◌, ◌^◌, ◌≤◌, ◌<◌, ◌≡◌, refl, List, Bool, true, ◌&&◌, eqb, length, Decides}
use Rattle.std.proofs.Common.{not-suc-le-zero, le_refl, arith, ap, sym, eq-eqb, lit≤, ext_get_or, rules, tests}
use Rattle.std.proofs.Math.Decide.{dec_lt, dec_le}
use Rattle.names.specs.Identifier.{name_limit}
use Rattle.std.proofs.Math.ListN.{get_or, get_or-eq_default}
use Rattle.names.specs.declared.Name.{Name}

-- n bytes from k on
unfoldable pub word : List ℕ → ℕ → ℕ → ℕ
word l k zero = 0
word l k (suc n) = word l k n * 256 + get_or l (k + n) 0

unfoldable pub packed : List ℕ → Name
packed l = record { w0 = word l 0 8; w1 = word l 8 8; w2 = word l 16 8; w3 = word l 24 8 }

-- whether two names are equal
unfoldable pub same_name : Name → Name → Bool
same_name a b = eqb a.w0 b.w0 && (eqb a.w1 b.w1 && (eqb a.w2 b.w2 && eqb a.w3 b.w3))

abbrev pub Bytes : List ℕ → Type 0
Bytes l = (i : ℕ) → get_or l i 0 < 256

-- an identifier's bytes: none is zero, and there are at most 32
pub record Text (l : List ℕ) : Type 0 where
  pub bytes : Bytes l
  pub letters : (i : ℕ) → i < length l → 0 < get_or l i 0
  pub short : length l ≤ name_limit

pub word_inj : (l m : List ℕ) → Bytes l → Bytes m → (k n : ℕ) → word l k n ≡ word m k n → (j : ℕ) → j < n → get_or l (k + j) 0 ≡ get_or m (k + j) 0
unfolding word
word_inj l m bl bm k zero e j h = absurd (not-suc-le-zero h)
word_inj l m bl bm k (suc n) e j h =
    go (dec_lt j n)
    (word_inj l m bl bm k n (omega (arith, bl (k + n), bm (k + n))) j)
    (omega (arith, bl (k + n), bm (k + n)))
  where
    go : Dec (j < n) → (j < n → get_or l (k + j) 0 ≡ get_or m (k + j) 0) → get_or l (k + n) 0 ≡ get_or m (k + n) 0 → get_or l (k + j) 0 ≡ get_or m (k + j) 0
    go (yes q) ih e = ih q
    go (no q) ih e = let z : j ≡ n = omega arith in rw z e

module _ (l m : List ℕ) (tl : Text l) (tm : Text m) (e : packed l ≡ packed m) where
  part : (k i : ℕ) → word l k 8 ≡ word m k 8 → k ≤ i → i < k + 8 → get_or l i 0 ≡ get_or m i 0
  part k i q a b =
      let z : i ≡ k + (i - k) = omega arith in
      rw z (word_inj l m tl.bytes tm.bytes k 8 q (i - k) (omega arith))

  each : (i : ℕ) → i < name_limit → get_or l i 0 ≡ get_or m i 0
  unfolding packed
  each i h = go (dec_lt i 8) (dec_lt i 16) (dec_lt i 24)
    where
      go : Dec (i < 8) → Dec (i < 16) → Dec (i < 24) → get_or l i 0 ≡ get_or m i 0
      go (yes a) b c = part 0 i (ap (λ (n : Name). n.w0) e) (omega arith) (omega arith)
      go (no a) (yes b) c = part 8 i (ap (λ (n : Name). n.w1) e) (omega arith) (omega arith)
      go (no a) (no b) (yes c) = part 16 i (ap (λ (n : Name). n.w2) e) (omega arith) (omega arith)
      go (no a) (no b) (no c) = part 24 i (ap (λ (n : Name). n.w3) e) (omega arith) (omega arith)

-- the shorter cannot be shorter: the other's byte there would be zero
not_shorter : (l m : List ℕ) → Text l → Text m → packed l ≡ packed m → length m ≤ length l
not_shorter l m tl tm e = go (dec_le (length m) (length l))
  where
    go : Dec (length m ≤ length l) → length m ≤ length l
    go (yes h) = h
    go (no h) =
        let k : length l < length m = omega arith in
        let s : length m ≤ name_limit = tm.short in
        omega (arith, tm.letters (length l) k, each l m tl tm e (length l) (omega arith), get_or-eq_default l 0 {n = length l} (le_refl (length l)))

pub packed_inj : (l m : List ℕ) → Text l → Text m → packed l ≡ packed m → l ≡ m
packed_inj l m tl tm e =
    ext_get_or 0 l m (omega (arith, not_shorter l m tl tm e, not_shorter m l tm tl (sym e)))
    (λ i h. each l m tl tm e i (omega (arith, tl.short)))

-- what fits
unfoldable pub limit : ℕ → ℕ
limit zero = 1
limit (suc n) = limit n * 256

pub below : (l : List ℕ) → Bytes l → (k n : ℕ) → word l k n < limit n
unfolding word limit
below l b k zero = omega arith
below l b k (suc n) = omega (arith, b (k + n), below l b k n)

pub limit_7 : (n : ℕ) → n < 8 → limit n ≤ 2 ^ 56
unfolding limit
limit_7 zero h = lit≤ tt
limit_7 (suc zero) h = lit≤ tt
limit_7 (suc (suc zero)) h = lit≤ tt
limit_7 (suc (suc (suc zero))) h = lit≤ tt
limit_7 (suc (suc (suc (suc zero)))) h = lit≤ tt
limit_7 (suc (suc (suc (suc (suc zero))))) h = lit≤ tt
limit_7 (suc (suc (suc (suc (suc (suc zero)))))) h = lit≤ tt
limit_7 (suc (suc (suc (suc (suc (suc (suc zero))))))) h = lit≤ tt
limit_7 (suc (suc (suc (suc (suc (suc (suc (suc n)))))))) h = absurd (omega arith)

-- EQUALITY OF NAMES, BOTH WAYS

pub same_names : (a b : Name) → a ≡ b → same_name a b ≡ true
unfolding same_name
same_names a b e = rw (e, eq-eqb b.w0 b.w0 refl, eq-eqb b.w1 b.w1 refl, eq-eqb b.w2 b.w2 refl, eq-eqb b.w3 b.w3 refl)

of : ℕ → ℕ → ℕ → ℕ → Name
of a b c d = record { w0 = a; w1 = b; w2 = c; w3 = d }

pub names_same : (a b : Name) → same_name a b ≡ true → a ≡ b
unfolding same_name of
names_same a b h =
    let e : (a.w0 ≡ b.w0) × (a.w1 ≡ b.w1) × (a.w2 ≡ b.w2) × (a.w3 ≡ b.w3) = search (rules, tests) in
    let f : of a.w0 a.w1 a.w2 a.w3 ≡ of b.w0 b.w1 b.w2 b.w3 = cc in
    f

-- what the derived `==` answers
pub name_eq_is : (a b : Name) → (eqb a.w0 b.w0 && (eqb a.w1 b.w1 && (eqb a.w2 b.w2 && eqb a.w3 b.w3))) ≡ same_name a b
unfolding same_name
name_eq_is a b = refl

-- and what that means
pub same_name_decides : (a b : Name) → Decides (same_name a b) (a ≡ b)
same_name_decides a b = (names_same a b, same_names a b)
