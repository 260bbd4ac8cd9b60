-- The pieces of a byte string between slashes: found one after the other, and compared byte by byte. Assumes nothing.
use Rattle.std.specs.Prelude.{ℕ, suc, ◌+◌, ◌≤◌, ◌<◌, Bool, true, false, cond, ◌&&◌, ◌||◌, ◌≡◌, refl, List, [], ◌∷◌, eqb, ltb, length, get_or, take, drop, Option}
use Rattle.std.proofs.Common.{suc-add, arith, sym, ap, ◌∙◌}
use Rattle.std.proofs.Math.Bool.{and_assoc}
use Rattle.std.proofs.Math.Dec.{leb-suc-suc}
use Rattle.std.specs.Option.{MatchOption, unwrap_or}
use Rattle.std.specs.Cmp.Lexicographic.{pointwise}
use Rattle.std.proofs.lemmas.Bool.Decides.{nat_tests}
use Rattle.std.specs.List.{AllWithin, HoldsAt}
use Rattle.std.proofs.lemmas.Iterator.{index_from_first}
use borrow.Author.Tests.{eq-eqb, ne_eqb, eqb-true, eqb-false, lt-ltb}
use Rattle.names.specs.Bytes.{slash, same, different}
use Rattle.names.specs.Path.{split, onto, root}
use Rattle.names.specs.Prefix.{begins}

-- how many bytes stand before the first slash
unfoldable pub first_slash : List ℕ → ℕ
first_slash [] = 0
first_slash (b ∷ s) = cond (eqb b slash) 0 (suc (first_slash s))

-- what `position` finds, or the length
pub first_slash_is : (s : List ℕ) (r : Option ℕ) → MatchOption r (AllWithin (λ b. b ≡ slash → ⊥) s 0 (length s)) (λ i. (i < length s) × HoldsAt (λ b. b ≡ slash) s i × AllWithin (λ b. b ≡ slash → ⊥) s 0 i)
    → first_slash s ≡ unwrap_or r (length s)
unfolding first_slash
first_slash_is =
    index_from_first first_slash (λ b. b ≡ slash) (λ b. b ≡ slash → ⊥) refl
    (λ b s e. simp (eq-eqb b slash e)) (λ b s n. simp (ne_eqb b slash n) (omega arith))

pub first_slash-le : (s : List ℕ) → first_slash s ≤ length s
unfolding first_slash
first_slash-le [] = omega arith
first_slash-le (b ∷ s) = go (eqb b slash) (first_slash-le s)
  where
    go : (t : Bool) → first_slash s ≤ length s → cond t 0 (suc (first_slash s)) ≤ suc (length s)
    go true h = omega arith
    go false h = omega arith

-- the first piece, and the pieces after the slash that ends it
unfoldable pub later : List ℕ → List (List ℕ)
later s = cond (ltb (first_slash s) (length s)) (split (drop (first_slash s + 1) s)) []

pub split-is : (s : List ℕ) → split s ≡ take (first_slash s) s ∷ later s
unfolding split first_slash later onto
split-is [] = refl
split-is (b ∷ s) = go (eqb b slash) (split-is s)
  where
    go : (t : Bool) → split s ≡ take (first_slash s) s ∷ later s
        → cond t ([] ∷ split s) (onto b (split s))
        ≡ take (cond t 0 (suc (first_slash s))) (b ∷ s)
        ∷ cond (ltb (cond t 0 (suc (first_slash s))) (suc (length s))) (split (drop (cond t 0 (suc (first_slash s)) + 1) (b ∷ s))) []
    go true e = simp (lt-ltb 0 (suc (length s)) (omega arith))
    go false e = rw (e, suc-add, leb-suc-suc)

-- the pieces of f begin with those of p: byte by byte to p's end, which is f's end or is followed by a slash
unfoldable pub leads : List ℕ → List ℕ → Bool
leads [] [] = true
leads (a ∷ f) [] = eqb a slash
leads [] (b ∷ p) = false
leads (a ∷ f) (b ∷ p) = eqb a b && leads f p

some-piece : (s : List ℕ) → begins [] (split s) ≡ false
unfolding begins
some-piece s = rw split-is

-- a byte more in front of both first pieces
onto-begins : (a b : ℕ) (f p : List ℕ) → begins (onto a (split f)) (onto b (split p)) ≡ (eqb a b && begins (split f) (split p))
unfolding begins onto same
onto-begins a b f p =
    rw (split-is f, split-is p)
    (and_assoc (eqb a b) (same (take (first_slash f) f) (take (first_slash p) p)) (begins (later f) (later p)))

pub begins-leads : (f p : List ℕ) → begins (split f) (split p) ≡ leads f p
unfolding split begins leads same onto
begins-leads [] [] = refl
begins-leads (a ∷ f) [] = go (eqb a slash)
  where
    go : (t : Bool) → begins (cond t ([] ∷ split f) (onto a (split f))) ([] ∷ []) ≡ t
    go true = refl
    go false = rw split-is
begins-leads [] (b ∷ p) = go (eqb b slash)
  where
    go : (t : Bool) → begins ([] ∷ []) (cond t ([] ∷ split p) (onto b (split p))) ≡ false
    go true = some-piece p
    go false = rw split-is
begins-leads (a ∷ f) (b ∷ p) = go (eqb a slash) (eqb b slash) refl refl (begins-leads f p)
  where
    go : (t u : Bool) → eqb a slash ≡ t → eqb b slash ≡ u → begins (split f) (split p) ≡ leads f p
        → begins (cond t ([] ∷ split f) (onto a (split f))) (cond u ([] ∷ split p) (onto b (split p))) ≡ (eqb a b && leads f p)
    go true true h k e =
        let x = eqb-true a slash h in
        let y = eqb-true b slash k in
        simp (eq-eqb a b (omega arith), e)
    go true false h k e =
        let x = eqb-true a slash h in
        rw (split-is p, ne_eqb a b (λ z. eqb-false b slash k (sym z ∙ x)))
    go false true h k e =
        let y = eqb-true b slash k in
        rw (split-is f, ne_eqb a b (λ z. eqb-false a slash h (z ∙ y)))
    go false false h k e = onto-begins a b f p ∙ rw e

-- p's bytes, and then the end or a slash
leads_is : (f p : List ℕ) → leads f p ≡ (pointwise eqb (take (length p) f) p && (eqb (length (drop (length p) f)) 0 || eqb (get_or (drop (length p) f) 0 0) slash))
unfolding leads
leads_is [] [] = refl
leads_is (a ∷ f) [] = rw (ne_eqb (suc (length f)) 0 (λ z. omega arith))
leads_is [] (b ∷ p) = refl
leads_is (a ∷ f) (b ∷ p) = rw (leads_is f p) (sym (and_assoc (eqb a b) _ _))

pub pieces_begin_is : (f p : List ℕ) → begins (split f) (split p) ≡
    (pointwise eqb (take (length p) f) p && (eqb (length (drop (length p) f)) 0 || eqb (get_or (drop (length p) f) 0 0) slash))
pieces_begin_is f p = begins-leads f p ∙ leads_is f p

pub ruleset bytes_then_slash = (pieces_begin_is, nat_tests)

-- THE LEADING SLASH

pub not_root : (s : List ℕ) → (length s ≡ 1 → ⊥) → same s root ≡ false
not_root s f = different s root (λ e. f (ap length e))
