-- Searches in lists of numbers. Assumes nothing.
use Prim.Native.Nat.{ℕ, zero, suc, ◌≤◌}
use native.Mathlib.Omega.{arith}
use Rattle.std.specs.Prelude.{Bool, true, false, cond, ◌||◌, ◌≡◌, refl, eqb, ltb, take, length}
use Rattle.std.specs.List.{list_any, position_or_len}
use Rattle.std.proofs.Common.{ap, sym, ◌∙◌, ltb-true, ltb-false, lt-ltb, le-ltb}
use Rattle.std.proofs.lemmas.Bool.Decides.{nat_tests}
use Rattle.std.proofs.lemmas.List.Recursion.{is_position_or_len}
use mathlib.Core.List.{List, [], ◌∷◌}
use Rattle.discovery.specs.Discovery.{holds}
use Rattle.discovery.specs.Facts.{cond_elim}

-- how many stand before x in a list
unfoldable pub index_in : ℕ → List ℕ → ℕ
index_in x [] = 0
index_in x (y ∷ l) = cond (eqb y x) 0 (suc (index_in x l))

pub index-small : (x n : ℕ) (l : List ℕ) → index_in x (take n l) ≤ n
unfolding index_in
index-small x zero l = omega arith
index-small x (suc n) [] = omega arith
index-small x (suc n) (y ∷ l) = let r = index-small x n l in cond_elim (λ k. k ≤ suc n) (eqb y x) {x = 0} {y = suc (index_in x (take n l))} (λ e. omega arith) (λ e. omega arith)

-- AS THE LIBRARY FINDS THEM
pub index_is : (x : ℕ) (l : List ℕ) → index_in x l ≡ position_or_len (λ y. eqb y x) l
unfolding index_in
index_is x l = is_position_or_len (index_in x) (λ y. eqb y x) refl (λ y k. ap (cond (eqb y x) 0) (omega arith)) l

pub eqb-swap : (x y : ℕ) → eqb x y ≡ eqb y x
eqb-swap x y = grind (arith, nat_tests)

pub holds_is : (x : ℕ) (l : List ℕ) → holds x l ≡ list_any (λ y. eqb y x) l
unfolding holds
holds_is x [] = refl
holds_is x (y ∷ l) = ap (λ (b : Bool). b || holds x l) (eqb-swap x y) ∙ ap (λ (b : Bool). eqb y x || b) (holds_is x l)

-- what is in a list has a place below its length
ltb-suc : (a b : ℕ) → ltb (suc a) (suc b) ≡ ltb a b
ltb-suc a b = go (ltb a b) refl
  where
    go : (t : Bool) → ltb a b ≡ t → ltb (suc a) (suc b) ≡ t
    go true e = let h = ltb-true a b e in lt-ltb (suc a) (suc b) (omega arith)
    go false e = let h = ltb-false a b e in le-ltb (suc a) (suc b) (omega arith)

pub holds-index : (x : ℕ) (l : List ℕ) → holds x l ≡ ltb (index_in x l) (length l)
unfolding holds index_in
holds-index x [] = refl
holds-index x (y ∷ l) = rw (eqb-swap x y) (go (eqb y x) (holds-index x l))
  where
    go : (t : Bool) → holds x l ≡ ltb (index_in x l) (length l) → (t || holds x l) ≡ ltb (cond t 0 (suc (index_in x l))) (suc (length l))
    go true e = sym (lt-ltb 0 (suc (length l)) (omega arith))
    go false e = e ∙ sym (ltb-suc (index_in x l) (length l))
