-- Strings that stand one after the other in a bundle, and how the image has them. Assumes nothing.
use Prim.Native.Nat.{ℕ, zero, suc, ◌+◌, ◌-◌, ◌*◌, ◌≤◌, ◌<◌}
use native.Mathlib.Omega.{arith}
use Rattle.std.proofs.Common.{sym, ◌∙◌, length-take, length-take-le}
use Rattle.std.specs.Prelude.{◌≡◌, refl, Option, Some, None, IfSome}
use Rattle.std.specs.Borrow.{Bor}
use Rattle.std.specs.Iterator.{YieldsFirstRef}
use Rattle.std.proofs.Math.Path.{ap}
use mathlib.Core.List.{List, [], ◌∷◌, ◌++◌, append_assoc}
use Rattle.std.proofs.Math.ListN.{length, take, drop, length-append}
use Rattle.names.specs.Bytes.{ascii}
use Rattle.names.specs.Decimal.{unit_name}
use Rattle.bundle.specs.Bundle.{Text}
use Rattle.bundle.specs.Limits.{capacity, string_size}
use Rattle.bundle.specs.declared.Width.TheVariants.{Byte}
use Rattle.bundle.specs.Encode.{string, joined, element}
use Rattle.bundle.specs.Scan.{byte, text}
use Rattle.bundle.specs.Stand.{Bytes}
use Rattle.bundle.specs.Decode.{each, after, after_element, element_at}

abbrev pub strings_at : List ℕ → ℕ → ℕ → List Text
strings_at s n first = each (after s) (text s) n first

-- a call gave the first string that was left, and it is short; or `None` where none was left
abbrev pub GivesString : List Text → Option (Bor Text) → List Text → Type 0
GivesString old r new = YieldsFirstRef (λ l. l) old r new × IfSome r (λ t. length t.now < capacity Byte)

-- a string that was read is short
pub text-short : (s : List ℕ) → Bytes s → (at : ℕ) → length (text s at) < capacity Byte
text-short s B at = let b = B at in omega (arith, length-take (byte s at) (drop (at + 1) s))

-- ONE STRING and those behind it, and what they are without the first ones
pub strings_none : (s : List ℕ) (n at : ℕ) → n ≡ 0 → strings_at s n at ≡ []
unfolding each
strings_none s n at h = rw h

pub strings_more : (s : List ℕ) (n at : ℕ) → 0 < n → strings_at s n at ≡ text s at ∷ strings_at s (n - 1) (after s at)
unfolding each
strings_more s zero at h = absurd (omega arith)
strings_more s (suc n) at h = let z : suc n - 1 ≡ n = omega arith in rw z

pub strings-count : (s : List ℕ) (n at : ℕ) → length (strings_at s n at) ≡ n
unfolding each
strings-count s zero at = refl
strings-count s (suc n) at = ap suc (strings-count s n (after s at))

pub given_rest : (old new : List Text) (r : Option (Bor Text)) → GivesString old r new → new ≡ drop 1 old
given_rest old new None h = rw (h.0.0, h.0.1)
given_rest old new (Some t) h = rw h.0

pub joined_none : (l : List Text) → l ≡ [] → joined string l ≡ []
unfolding joined
joined_none l e = rw e

pub joined_more : (l rest : List Text) (t : Text) → l ≡ t ∷ rest → joined string l ≡ string t ++ joined string rest
unfolding joined
joined_more l rest t e = rw e

-- the bytes of a string
pub string-length : (t : Text) → length (string t) ≡ 1 + length t
unfolding string
string-length t = omega arith

-- one that is passed is short
pub text_few : (s : List ℕ) (at : ℕ) → after s at ≤ at + string_size → length (text s at) < capacity Byte
text_few s at h = omega (arith, length-take (byte s at) (drop (at + 1) s))

pub joined_size : (t : Text) (l : List Text) → length (joined string (t ∷ l)) ≡ 1 + length t + length (joined string l)
joined_size t l = omega (arith, ap length (joined_more (t ∷ l) l t refl), length-append (string t) (joined string l), string-length t)

pub ruleset one_string = (strings_none, strings_more, strings-count, text_few)

pub ruleset sizes = (strings-count, joined_none, joined_size)

-- AN ELEMENT is two strings
pair-bytes : (s : List ℕ) (n m first : ℕ) → m ≡ n + n → joined element (each (after_element s) (element_at s) n first) ≡ joined string (strings_at s m first)
unfolding each joined element element_at
pair-bytes s zero zero first e = refl
pair-bytes s zero (suc m) first e = absurd (omega arith)
pair-bytes s (suc n) zero first e = absurd (omega arith)
pair-bytes s (suc n) (suc zero) first e = absurd (omega arith)
pair-bytes s (suc n) (suc (suc m)) first e =
    rw (pair-bytes s n m (after_element s first) (omega arith))
    (append_assoc (string (text s first)) (string (text s (after s first))) (joined string (strings_at s m (after_element s first))))

pub element-bytes : (s : List ℕ) (n first : ℕ) → joined element (each (after_element s) (element_at s) n first) ≡ joined string (strings_at s (2 * n) first)
element-bytes s n first = pair-bytes s n (2 * n) first (omega arith)

-- NAMES
pub crate_length : length (string (ascii "crate")) ≡ 6
unfolding string ascii
crate_length = refl

-- a unit's name as it is handed over
pub name-length : (bytes : List ℕ) (n id : ℕ) → take n bytes ≡ unit_name id → n ≤ length bytes → length (string (unit_name id)) ≡ 1 + n
name-length bytes n id e h = let l = ap length (sym e) ∙ length-take-le n bytes h in omega (arith, string-length (unit_name id))
