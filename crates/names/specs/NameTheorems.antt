-- Names as values stand for their bytes, and unit names are names. Assumes nothing.
use Rattle.std.specs.Prelude.{ℕ, zero, suc, ◌+◌, ◌≤◌, ◌<◌, ◌/◌, ◌%◌, Bool, true, false, cond, ◌≡◌, refl, List, [], ◌∷◌, ◌++◌, ltb, length, get_or}
use Rattle.std.proofs.Common.{arith, ap, le-leb}
use Rattle.std.proofs.Math.Decide.{dec_lt}
use Rattle.std.proofs.Math.ListN.{get_or-eq_default}
use Rattle.names.specs.Bytes.{ascii, same, same-eq, same_refl, both_ways, all, and_left, and_right}
use Rattle.names.specs.Identifier.{is_identifier, class, letter, digit, class-digit, inside, name_limit, identifier-short, identifier-bytes}
use Rattle.names.specs.Packed.{Text, packed, packed_inj, same_name, same_names, names_same}
use Rattle.names.specs.Decimal.{digits, decimal, unit_name, width, unit-names-differ}

-- an identifier is text: at most 32 bytes, none of them zero
text : (s : List ℕ) → is_identifier s ≡ true → Text s
text s h =
    record {
      bytes = λ i. go i (dec_lt i (length s));
      letters = λ i l. (identifier-bytes s h i l).0;
      short = identifier-short s h;
    }
  where
    go : (i : ℕ) → Dec (i < length s) → get_or s i 0 < 256
    go i (yes l) = (identifier-bytes s h i l).1
    go i (no l) = omega (arith, get_or-eq_default s 0 {n = i} (omega arith))

-- two identifiers have one value only if they are the same bytes
pub names-differ : (s t : List ℕ) → is_identifier s ≡ true → is_identifier t ≡ true → packed s ≡ packed t → s ≡ t
names-differ s t h k = packed_inj s t (text s h) (text t k)

-- the test on values is the test on bytes
pub same-name-bytes : (s t : List ℕ) → is_identifier s ≡ true → is_identifier t ≡ true → same_name (packed s) (packed t) ≡ same s t
same-name-bytes s t h k =
    both_ways (same_name (packed s) (packed t)) (same s t)
    (λ e. rw (names-differ s t h k (names_same (packed s) (packed t) e)) (same_refl t))
    (λ e. same_names (packed s) (packed t) (ap packed (same-eq s t e)))

-- UNIT NAMES

all_snoc : (f : ℕ → Bool) (l : List ℕ) (d : ℕ) → all f l ≡ true → f d ≡ true → all f (l ++ (d ∷ [])) ≡ true
unfolding all
all_snoc f [] d h e = rw e
all_snoc f (c ∷ l) d h e = rw (and_left (f c) (all f l) h, all_snoc f l d (and_right (f c) (all f l) h) e)

digits-inside : (k n : ℕ) → all inside (digits k n) ≡ true
unfolding digits all
digits-inside zero n = refl
digits-inside (suc k) n =
    all_snoc inside (cond (ltb n 10) [] (digits k (n / 10))) (48 + n % 10) (go (ltb n 10) (digits-inside k (n / 10)))
    (rw (class-digit (48 + n % 10) (omega arith) (omega arith)))
  where
    go : (t : Bool) → all inside (digits k (n / 10)) ≡ true → all inside (cond t [] (digits k (n / 10))) ≡ true
    go true e = refl
    go false e = e

-- a unit's name is an identifier, for every id of at most 27 digits
pub unit-identifier : (n : ℕ) → width n ≤ 27 → is_identifier (unit_name n) ≡ true
unfolding is_identifier unit_name ascii all class letter digit decimal
unit-identifier n h = rw (le-leb (suc (suc (suc (suc (suc (width n)))))) name_limit (omega arith)) (digits-inside (suc n) n)

-- so units have different values
pub unit-values-differ : (m n : ℕ) → width m ≤ 27 → width n ≤ 27 → packed (unit_name m) ≡ packed (unit_name n) → m ≡ n
unit-values-differ m n h k e = unit-names-differ m n (names-differ (unit_name m) (unit_name n) (unit-identifier m h) (unit-identifier n k) e)
