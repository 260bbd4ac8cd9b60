-- A NAME IS PRINTED AS IT STANDS in the source: the packed name of an identifier is spelled with the identifier's own bytes.
-- Assumes nothing.
use Prim.Native.Nat.{ℕ, zero, suc, ◌+◌, ◌*◌, ◌/◌, ◌%◌, ◌^◌, ◌≤◌, ◌<◌}
use Rattle.std.proofs.Common.{div-one, sym, ◌∙◌, take-add}
use Rattle.std.proofs.Math.Nat.{div-div-eq-div-mul, pow-succ'}
use native.Mathlib.Omega.{arith}
use Rattle.std.proofs.Math.Decide.{dec_lt}
use Rattle.std.specs.Prelude.{true, ◌≡◌, eqb, drop}
use Rattle.std.proofs.Math.Bool.{cond}
use Rattle.std.proofs.Math.Path.{refl, ap}
use mathlib.Core.List.{List, [], ◌∷◌, ◌++◌}
use Rattle.std.proofs.Math.ListN.{length, get_or, take, drop_of_length-le, get_or-eq_default}
use Rattle.std.proofs.Math.Seq.{drop-cons, take_all}
use borrow.Author.Tests.{eq-eqb, ne_eqb}
use Rattle.names.specs.Identifier.{is_identifier, identifier-short, identifier-bytes}
use Rattle.names.specs.Packed.{Bytes, word, packed}
use Rattle.names.specs.Decimal.{unit_name, width}
use Rattle.names.specs.NameTheorems.{unit-identifier}
use Rattle.text.specs.Words.{Text, bytes_of, spelled}

-- all but the last j bytes of a word
word-front : (l : List ℕ) → Bytes l → (k j n : ℕ) → word l k (j + n) / 256 ^ j ≡ word l k n
unfolding word
word-front l b k zero n = let e : 0 + n ≡ n = omega arith in ap (λ (m : ℕ). word l k m / 256 ^ 0) e ∙ div-one (word l k n)
word-front l b k (suc j) n =
    let e : suc j + n ≡ suc (j + n) = omega arith in
    let d : (word l k (j + n) * 256 + get_or l (k + (j + n)) 0) / 256 ≡ word l k (j + n) = omega (arith, b (k + (j + n))) in
    ap (λ (m : ℕ). word l k m / 256 ^ suc j) e
    ∙ (ap (λ (m : ℕ). word l k (suc (j + n)) / m) (pow-succ' 256 j)
    ∙ (sym (div-div-eq-div-mul (word l k (suc (j + n))) 256 (256 ^ j)) ∙ (ap (λ (m : ℕ). m / 256 ^ j) d ∙ word-front l b k j n)))

word_byte : (l : List ℕ) → Bytes l → (k j n m : ℕ) → m ≡ suc (j + n) → word l k m / 256 ^ j % 256 ≡ get_or l (k + n) 0
unfolding word
word_byte l b k j n m e =
    let z : m ≡ j + suc n = omega arith in
    ap (λ (i : ℕ). word l k i / 256 ^ j % 256) z ∙ (ap (λ (i : ℕ). i % 256) (word-front l b k j (suc n)) ∙ omega (arith, b (k + n)))

module _ (l : List ℕ) (h : is_identifier l ≡ true) where
  bytes : Bytes l
  bytes i = go (dec_lt i (length l))
    where
      go : Dec (i < length l) → get_or l i 0 < 256
      go (yes q) = (identifier-bytes l h i q).1
      go (no q) = omega (arith, get_or-eq_default l 0 {n = i} (omega arith))

  -- the last j bytes of a word, of which n stand before
  word_bytes : (k j n : ℕ) → j + n ≡ 8 → bytes_of j (word l k 8) ≡ take j (drop (k + n) l)
  unfolding bytes_of
  word_bytes k zero n e = refl
  word_bytes k (suc j) n e = go (dec_lt (k + n) (length l)) (word_bytes k j (suc n) (omega arith)) (word_byte l bytes k j n 8 (omega arith))
    where
      go : Dec (k + n < length l) → bytes_of j (word l k 8) ≡ take j (drop (k + suc n) l) → word l k 8 / 256 ^ j % 256 ≡ get_or l (k + n) 0
          → cond (eqb (word l k 8 / 256 ^ j % 256) 0) [] (word l k 8 / 256 ^ j % 256 ∷ bytes_of j (word l k 8)) ≡ take (suc j) (drop (k + n) l)
      go (yes q) ih c =
          let z : k + suc n ≡ suc (k + n) = omega arith in
          let p = (identifier-bytes l h (k + n) q).0 in
          rw (c, ne_eqb (get_or l (k + n) 0) 0 (λ i. omega arith), drop-cons l (k + n) 0 q, ih, z)
      go (no q) ih c =
          let f : length l ≤ k + n = omega arith in
          rw (c, eq-eqb (get_or l (k + n) 0) 0 (get_or-eq_default l 0 {n = k + n} f), drop_of_length-le l f)

  -- THE THEOREM
  pub spelled-packed : spelled (packed l) ≡ l
  unfolding spelled packed
  spelled-packed =
      let s = identifier-short l h in
      ap (λ (t : Text). t ++ bytes_of 8 (word l 8 8) ++ bytes_of 8 (word l 16 8) ++ bytes_of 8 (word l 24 8)) (word_bytes 0 8 0 refl)
      ∙ (ap (λ (t : Text). take 8 l ++ t ++ bytes_of 8 (word l 16 8) ++ bytes_of 8 (word l 24 8)) (word_bytes 8 8 0 refl)
      ∙ (ap (λ (t : Text). take 8 l ++ take 8 (drop 8 l) ++ t ++ bytes_of 8 (word l 24 8)) (word_bytes 16 8 0 refl)
      ∙ (ap (λ (t : Text). take 8 l ++ take 8 (drop 8 l) ++ take 8 (drop 16 l) ++ t) (word_bytes 24 8 0 refl)
      ∙ (ap (λ (t : Text). t ++ take 8 (drop 16 l) ++ take 8 (drop 24 l)) (sym (take-add 8 8 l))
      ∙ (ap (λ (t : Text). t ++ take 8 (drop 24 l)) (sym (take-add 16 8 l)) ∙ (sym (take-add 24 8 l) ∙ take_all 32 l s))))))

-- a unit's module is printed as `unit_` and its id
pub spelled-unit : (u : ℕ) → width u ≤ 27 → spelled (packed (unit_name u)) ≡ unit_name u
spelled-unit u h = spelled-packed (unit_name u) (unit-identifier u h)
