-- The identifier form: 1 to 32 ASCII letters, digits or `_`, no leading digit. Assumes nothing.
use Rattle.std.specs.Prelude.{ℕ, zero, suc, ◌≤◌, ◌<◌, ◌≡◌, refl, Bool, true, false, cond, ◌&&◌, ◌||◌, not, List, [], ◌∷◌, eqb, leb, length, get_or, drop}
use Rattle.std.proofs.Common.{zero-le, not-suc-le-zero, le_of_suc-le-suc, arith, sym, ◌∙◌, le-leb, leb-true, eq-eqb, ne_eqb, eqb-true}
use Rattle.std.proofs.Math.Decide.{dec_lt}
use Rattle.std.proofs.Math.Bool.{and-false}
use Rattle.std.proofs.lemmas.Bool.{lt-leb}
use Rattle.std.proofs.lemmas.Bool.Decides.{nat_tests}
use Rattle.names.specs.Bytes.{all, all-each, and_left, and_right, false_true}

-- the most bytes that an identifier, and a path's component, may have
abbrev pub name_limit : ℕ
name_limit = 32

abbrev pub between : ℕ → ℕ → ℕ → Bool
between low high b = leb low b && leb b high

-- a letter or `_`
unfoldable pub letter : ℕ → Bool
letter b = between 65 90 b || (between 97 122 b || eqb b 95)

unfoldable pub digit : ℕ → Bool
digit b = between 48 57 b

-- a byte's class: 1 for a letter or `_`, 2 for a digit, 0 for any other
unfoldable pub class : ℕ → ℕ
class b = cond (letter b) 1 (cond (digit b) 2 0)

-- a byte that may stand in an identifier
abbrev pub inside : ℕ → Bool
inside b = not (eqb (class b) 0)

unfoldable pub is_identifier : List ℕ → Bool
is_identifier [] = false
is_identifier (b ∷ s) = leb (length (b ∷ s)) name_limit && (eqb (class b) 1 && all inside s)

-- RANGES AND CLASSES

module _ (low high b : ℕ) where
  pub in_range : low ≤ b → b ≤ high → between low high b ≡ true
  in_range h k = simp (le-leb _ _ h, le-leb _ _ k)

  pub under_range : b < low → between low high b ≡ false
  under_range h = simp (lt-leb _ _ h)

  pub over_range : high < b → between low high b ≡ false
  over_range h = simp (lt-leb _ _ h, and-false)

pub class-digit : (b : ℕ) → 48 ≤ b → b ≤ 57 → class b ≡ 2
unfolding class letter digit
class-digit b h k =
    simp (under_range 65 90 b (omega arith), under_range 97 122 b (omega arith), ne_eqb b 95 (λ e. omega arith), in_range 48 57 b h k)

-- the bytes that stand between those
pub class-other : (b : ℕ) → (48 ≤ b → 58 ≤ b) → (65 ≤ b → 91 ≤ b) → (97 ≤ b → 123 ≤ b) → (b ≡ 95 → ⊥) → class b ≡ 0
unfolding class letter digit
class-other b d u l n =
    simp (outside 65 90 (dec_lt b 65) u, outside 97 122 (dec_lt b 97) l, ne_eqb b 95 n, outside 48 57 (dec_lt b 48) d)
  where
    outside : (low high : ℕ) → Dec (b < low) → (low ≤ b → suc high ≤ b) → between low high b ≡ false
    outside low high (yes h) f = under_range low high b h
    outside low high (no h) f = over_range low high b (f (omega arith))

-- IDENTIFIERS

-- a first byte and those after it
pub identifier_is : (s : List ℕ) → is_identifier s ≡ (leb (length s) name_limit && (eqb (class (get_or s 0 0)) 1 && all inside (drop 1 s)))
unfolding is_identifier class letter digit
identifier_is [] = refl
identifier_is (b ∷ s) = refl

pub no_identifier : (s : List ℕ) → length s ≡ 0 → is_identifier s ≡ false
unfolding is_identifier
no_identifier [] h = refl
no_identifier (b ∷ s) h = absurd (omega arith)

pub ruleset first_and_rest = (identifier_is, no_identifier, nat_tests)

pub long-identifier : (s : List ℕ) → name_limit < length s → is_identifier s ≡ false
unfolding is_identifier
long-identifier [] h = refl
long-identifier (b ∷ s) h = simp (lt-leb _ _ h)

-- an identifier's bytes: at most 32, none of them zero
pub identifier-short : (s : List ℕ) → is_identifier s ≡ true → length s ≤ name_limit
unfolding is_identifier
identifier-short [] h = zero-le
identifier-short (b ∷ s) h = leb-true _ _ (and_left _ (eqb (class b) 1 && all inside s) h)

-- a byte of an identifier
in_letters : (b : ℕ) → (class b ≡ 0 → ⊥) → (0 < b) × (b < 256)
in_letters b f = (go (dec_lt 0 b), on (dec_lt b 256))
  where
    go : Dec (0 < b) → 0 < b
    go (yes h) = h
    go (no h) = absurd (f (class-other b (λ l. omega arith) (λ l. omega arith) (λ l. omega arith) (λ e. omega arith)))

    on : Dec (b < 256) → b < 256
    on (yes h) = h
    on (no h) = absurd (f (class-other b (λ l. omega arith) (λ l. omega arith) (λ l. omega arith) (λ e. omega arith)))

pub identifier-bytes : (s : List ℕ) → is_identifier s ≡ true → (i : ℕ) → i < length s → (0 < get_or s i 0) × (get_or s i 0 < 256)
unfolding is_identifier
identifier-bytes [] h i n = absurd (not-suc-le-zero n)
identifier-bytes (b ∷ s) h zero n =
    let r = and_right (leb (length (b ∷ s)) name_limit) (eqb (class b) 1 && all inside s) h in
    let e = eqb-true (class b) 1 (and_left (eqb (class b) 1) (all inside s) r) in
    in_letters b (λ z. let q : ◌≡◌ {A = ℕ} 0 1 = cc in omega arith)
identifier-bytes (b ∷ s) h (suc i) n =
    let r = and_right (leb (length (b ∷ s)) name_limit) (eqb (class b) 1 && all inside s) h in
    let e = all-each inside s (and_right (eqb (class b) 1) (all inside s) r) i (le_of_suc-le-suc n) in
    in_letters _ (λ z. false_true (sym (simp (eq-eqb _ _ z)) ∙ e))
