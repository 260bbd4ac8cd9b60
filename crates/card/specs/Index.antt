-- An index by hash with chains: a lookup visits the indices of one hash, from the last to ever earlier ones. Assumes nothing.
use Prim.Native.Nat.{ℕ, zero, suc, ◌+◌, ◌*◌, ◌%◌, ◌≤◌, ◌<◌}
use native.Mathlib.Omega.{arith}
use Rattle.std.proofs.Common.{add-one, sym, ap, ◌∙◌, drop_of_length-le, drop-cons}
use Rattle.std.proofs.Math.Decide.{dec_lt}
use Rattle.std.specs.Prelude.{Bool, ◌≡◌, Option, Some, None, List, [], ◌∷◌, ◌++◌, length, get_or, drop}
use Rattle.std.proofs.Math.Bool.{true, false, cond}
use Rattle.std.proofs.Math.Path.{refl}
use Rattle.std.proofs.Math.Dec.{eqb}
use borrow.Author.Tests.{eqb-true, eqb-false}
use Rattle.names.specs.Bytes.{not_true}
use Rattle.card.specs.Layout.{bucket_limit}

pub dec_eq : (a b : ℕ) → Dec (a ≡ b)
dec_eq a b = go (eqb a b) refl
  where
    go : (u : Bool) → eqb a b ≡ u → Dec (a ≡ b)
    go true e = yes (eqb-true a b e)
    go false e = no (eqb-false a b e)

-- THE CHAINS

-- of the first n indices the last whose key is b; 0 for none, for 0 is no index that is looked for
unfoldable pub last_in : (ℕ → ℕ) → ℕ → ℕ → ℕ
last_in key b zero = 0
last_in key b (suc n) = cond (eqb (key n) b) n (last_in key b n)

pub last_agree : (f g : ℕ → ℕ) (b n : ℕ) → ((i : ℕ) → i < n → f i ≡ g i) → last_in f b n ≡ last_in g b n
unfolding last_in
last_agree f g b zero h = refl
last_agree f g b (suc n) h = rw (h n (omega arith), last_agree f g b n (λ i l. h i (omega arith)))

module _ (key : ℕ → ℕ) (b : ℕ) where
  pub last-below : (n : ℕ) → (n ≡ 0 → ⊥) → last_in key b n < n
  unfolding last_in
  last-below zero h = absurd (h refl)
  last-below (suc zero) h = go (eqb (key 0) b)
    where
      go : (u : Bool) → cond u 0 0 < 1
      go true = omega arith
      go false = omega arith
  last-below (suc (suc n)) h = go (eqb (key (suc n)) b) (last-below (suc n) (λ z. omega arith))
    where
      go : (u : Bool) → last_in key b (suc n) < suc n → cond u (suc n) (last_in key b (suc n)) < suc (suc n)
      go true h = omega arith
      go false h = omega arith

  -- what is found has the key
  pub last_key : (n : ℕ) → (last_in key b n ≡ 0 → ⊥) → key (last_in key b n) ≡ b
  unfolding last_in
  last_key zero h = absurd (h refl)
  last_key (suc n) h = go (eqb (key n) b) refl (last_key n) h
    where
      go : (u : Bool) → eqb (key n) b ≡ u → ((last_in key b n ≡ 0 → ⊥) → key (last_in key b n) ≡ b)
          → (cond u n (last_in key b n) ≡ 0 → ⊥) → key (cond u n (last_in key b n)) ≡ b
      go true e r h = eqb-true (key n) b e
      go false e r h = r h

  -- and what comes after it does not
  pub last-above : (n j : ℕ) → last_in key b n < j → j < n → key j ≡ b → ⊥
  unfolding last_in
  last-above zero j h l e = omega arith
  last-above (suc n) j h l e = go (eqb (key n) b) refl (last-above n j) h
    where
      go : (u : Bool) → eqb (key n) b ≡ u → (last_in key b n < j → j < n → key j ≡ b → ⊥) → cond u n (last_in key b n) < j → ⊥
      go true q r h = omega arith
      go false q r h = at (dec_eq j n)
        where
          at : Dec (j ≡ n) → ⊥
          at (yes z) = eqb-false (key n) b q (rw z at e)
          at (no z) = r h (omega arith) e

-- what heads and links hold of the first n indices
pub record Chained (key hs ls : ℕ → ℕ) (n : ℕ) : Type 0 where
  pub heads : (b : ℕ) → b < bucket_limit → hs b ≡ last_in key b n
  pub links : (i : ℕ) → i < n → ls i ≡ last_in key (key i) i

-- THE WALK
-- one of the indices below n, but 0, of which q holds
pub record Hit (q : ℕ → Bool) (n r : ℕ) : Type 0 where
  pub some : r ≡ 0 → ⊥
  pub within : r < n
  pub holds : q r ≡ true

-- what a search among them finds: one, or that there is none
abbrev pub Looked : (ℕ → Bool) → ℕ → Option ℕ → Type 0
Looked q n (Some r) = Hit q n r
Looked q n None = (j : ℕ) → (j ≡ 0 → ⊥) → j < n → q j ≡ false

-- before a turn: nothing after i is what is looked for
pub record Walking (q : ℕ → Bool) (key : ℕ → ℕ) (b n i : ℕ) : Type 0 where
  pub within : i < n
  pub keyed : (i ≡ 0 → ⊥) → key i ≡ b
  pub passed : (j : ℕ) → i < j → j < n → q j ≡ false

-- what is looked for among the first n has the key b
module _ {q : ℕ → Bool} {key ls : ℕ → ℕ} {n b : ℕ} (L : (i : ℕ) → i < n → ls i ≡ last_in key (key i) i) (K : (j : ℕ) → j < n → q j ≡ true → key j ≡ b) where
  pub walking_start : (n ≡ 0 → ⊥) → (i : ℕ) → i ≡ last_in key b n → Walking q key b n i
  walking_start z i f = record {
    within = rw f (last-below key b n z);
    keyed = λ y. rw f (last_key key b n (λ x. y (f ∙ x)));
    passed = λ j h k. not_true (q j) (λ y. last-above key b n j (rw f at h) k (K j k y));
  }

  pub walking_on : (i : ℕ) → Walking q key b n i → (i ≡ 0 → ⊥) → q i ≡ false → (m : ℕ) → m ≡ ls i → Walking q key b n m × (m < i)
  walking_on i w z h m e =
      let f : m ≡ last_in key b i = e ∙ L i w.within ∙ ap (λ (x : ℕ). last_in key x i) (w.keyed z) in
      let l : m < i = rw f (last-below key b i z) in
      let k = w.within in (
        record {
          within = omega arith;
          keyed = λ y. rw f (last_key key b i (λ x. y (f ∙ x)));
          passed = λ j o p. at j o p (dec_lt i j) (dec_eq j i);
        },
        l,
      )
    where
      at : (j : ℕ) → m < j → j < n → Dec (i < j) → Dec (j ≡ i) → q j ≡ false
      at j o p (yes x) y = w.passed j x p
      at j o p (no x) (yes y) = rw y h
      at j o p (no x) (no y) =
          let f : m ≡ last_in key b i = e ∙ L i w.within ∙ ap (λ (x : ℕ). last_in key x i) (w.keyed z) in
          not_true (q j) (λ u. last-above key b i j (rw f at o) (omega arith) (K j p u))

  pub walking_found : (i : ℕ) → Walking q key b n i → (i ≡ 0 → ⊥) → q i ≡ true → Looked q n (Some i)
  walking_found i w z h = record { some = z; within = w.within; holds = h }

  pub walking_end : (i : ℕ) → Walking q key b n i → i ≡ 0 → Looked q n None
  walking_end i w z j y l = w.passed j (omega arith) l

-- ONE MORE INDEX
module _ (key hs ls hs' ls' : ℕ → ℕ) (n : ℕ) (C : Chained key hs ls n) where
  pub chained_more : key n < bucket_limit → hs' (key n) ≡ n → ((b : ℕ) → b < bucket_limit → (b ≡ key n → ⊥) → hs' b ≡ hs b) → ls' n ≡ hs (key n) → ((i : ℕ) → i < n → ls' i ≡ ls i) → Chained key hs' ls' (suc n)
  unfolding last_in
  chained_more l here there end kept = record { heads = λ b h. head b h (eqb (key n) b) refl; links = λ i h. link i h (dec_eq i n) }
    where
      head : (b : ℕ) → b < bucket_limit → (u : Bool) → eqb (key n) b ≡ u → hs' b ≡ cond u n (last_in key b n)
      head b h true e = rw (← eqb-true (key n) b e) here
      head b h false e = there b h (λ z. eqb-false (key n) b e (sym z)) ∙ C.heads b h

      link : (i : ℕ) → i < suc n → Dec (i ≡ n) → ls' i ≡ last_in key (key i) i
      link i h (yes z) = rw z (end ∙ C.heads (key n) l)
      link i h (no z) = let o : i < n = omega arith in kept i o ∙ C.links i o

-- THE HASH of bytes that follow others, by a multiplier m
abbrev pub folded : ℕ → ℕ
folded y = y % 4294967296

unfoldable pub hashed : ℕ → ℕ → List ℕ → ℕ
hashed m h [] = h
hashed m h (b ∷ t) = hashed m (folded (h * m + b)) t

pub hashed-append : (m h : ℕ) (s t : List ℕ) → hashed m h (s ++ t) ≡ hashed m (hashed m h s) t
unfolding hashed
hashed-append m h [] t = refl
hashed-append m h (b ∷ s) t = hashed-append m (folded (h * m + b)) s t

-- as the code has it: i bytes are done
pub hash-more : (m x i : ℕ) (t : List ℕ) → i < length t → hashed m x (drop i t) ≡ hashed m (folded (x * m + get_or t i 0)) (drop (i + 1) t)
unfolding hashed
hash-more m x i t h = rw (add-one, drop-cons t i 0 h)

pub hash-end : (m x i : ℕ) (t : List ℕ) → length t ≤ i → hashed m x (drop i t) ≡ x
unfolding hashed
hash-end m x i t h = rw (drop_of_length-le t h)
