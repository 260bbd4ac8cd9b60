-- LAWS for the code: the bytes of a name, as std has them, and of a line. Assumes nothing.
use Rattle.std.specs.Prelude.{ℕ, zero, suc, ◌+◌, ◌/◌, ◌%◌, ◌^◌, Bool, true, false, not, cond, eqb, ltb, List, [], ◌∷◌, ◌++◌, length, take, ◌≡◌, refl, Option, Some, None, unwrap_or}
use Rattle.std.proofs.Common.{arith, div-one, sym, ap, ◌∙◌, take_all, append_assoc}
use Rattle.std.proofs.lemmas.Bool.Decides.{nat_tests}
use Rattle.std.specs.Int.{byte_at, bytes_high_first, to_be_bytes, w64}
use Rattle.std.specs.List.{position_or_len, before_first}
use Rattle.names.specs.Bytes.{ascii}
use Rattle.names.specs.Decimal.{decimal}
use Rattle.names.specs.declared.Name.{Name}
use Rattle.text.specs.Words.{line, no_line, bytes_of, spelled}

-- A WORD: what of its bytes stands before the first 0
abbrev is_zero : ℕ → Bool
is_zero b = eqb b 0

byte_is : (k w : ℕ) → byte_at k w ≡ w / 256 ^ k % 256
byte_is zero w = ap (λ n. n % 256) (sym (div-one w))
byte_is (suc k) w = refl

before_zero : (k w : ℕ) → before_first is_zero (bytes_high_first k w) ≡ bytes_of k w
unfolding bytes_of
before_zero zero w = refl
before_zero (suc k) w = rw (byte_is k w) (go (eqb (w / 256 ^ k % 256) 0) (w / 256 ^ k % 256) (bytes_high_first k w) (position_or_len is_zero (bytes_high_first k w)) (before_zero k w))
  where
    go : (zero_here : Bool) (b : ℕ) (l : List ℕ) (n : ℕ) → take n l ≡ bytes_of k w → take (cond (not zero_here) (1 + n) 0) (b ∷ l) ≡ cond zero_here [] (b ∷ bytes_of k w)
    go true b l n ih = refl
    go false b l n ih = let z : 1 + n ≡ suc n = omega arith in rw z (ap (λ m. b ∷ m) ih)

-- where `position` finds it, or the end
first_or_all : (l : List ℕ) (end : ℕ) (r : Option ℕ) → r ≡ cond (ltb (position_or_len is_zero l) (length l)) (Some (position_or_len is_zero l)) None → end ≡ unwrap_or r (length l) → take end l ≡ before_first is_zero l
first_or_all l end r e f = grind (arith, nat_tests, take_all)

pub word_end : (w : ℕ) (l : List ℕ) (end : ℕ) (r : Option ℕ) → l ≡ to_be_bytes w64 w → r ≡ cond (ltb (position_or_len is_zero l) (length l)) (Some (position_or_len is_zero l)) None → end ≡ unwrap_or r (length l) → take end l ≡ bytes_of 8 w
word_end w l end r is e f = first_or_all l end r e f ∙ (ap (before_first is_zero) is ∙ before_zero 8 w)

-- A NAME: its words one after the other
pub name_pieces : (n : Name) → ((bytes_of 8 n.w0 ++ bytes_of 8 n.w1) ++ bytes_of 8 n.w2) ++ bytes_of 8 n.w3 ≡ spelled n
unfolding spelled
name_pieces n = simp append_assoc

-- A LINE `no`
pub no_pieces : (n p : ℕ) → ((((110 ∷ 111 ∷ 32 ∷ []) ++ decimal n) ++ (32 ∷ [])) ++ decimal p) ++ (10 ∷ []) ≡ line (no_line n p)
unfolding line ascii
no_pieces n p = simp append_assoc
