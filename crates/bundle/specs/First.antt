-- Laws of a test that goes through a list and tells the first element that is not good; it may look at those before.
-- Assumes nothing.
use Prim.Native.Nat.{ℕ, zero, suc, ◌<◌, suc-le-suc}
use Rattle.std.proofs.Common.{not-suc-le-zero, le_of_suc-le-suc, arith, ap, ◌∙◌}
use Rattle.std.specs.Prelude.{◌≡◌, get_or, take}
use Rattle.std.proofs.Math.Path.{refl, sym}
use mathlib.Core.List.{List, [], ◌∷◌, ◌++◌, append-nil, append_assoc}
use Rattle.std.proofs.Math.ListN.{length}
use Rattle.bundle.specs.Conflicts.{or_else}
use Rattle.bundle.specs.Answers.{refused-ok}
use Rattle.bundle.specs.Results.{Checked}
use Rattle.bundle.specs.Results.{Ok, Refused}

-- the test of each element, given those before it
unfoldable pub first_told : {A : Type 0} → (List A → A → Checked) → List A → List A → Checked
first_told t seen [] = Ok
first_told t seen (a ∷ l) = or_else (t seen a) (first_told t (seen ++ (a ∷ [])) l)

module _ {A : Type 0} (t : List A → A → Checked) (d : A) where
  -- the test of element i
  abbrev pub tested : List A → List A → ℕ → Checked
  tested seen l i = t (seen ++ take i l) (get_or l i d)

  -- it is told, and all before it are good
  pub record First (seen l : List A) (n p : ℕ) : Type 0 where
    pub index : ℕ
    pub within : index < length l
    pub tells : tested seen l index ≡ Refused n p
    pub before : (j : ℕ) → j < index → tested seen l j ≡ Ok

  head-tested : (seen l : List A) (a : A) (c : Checked) → t seen a ≡ c → tested seen (a ∷ l) 0 ≡ c
  head-tested seen l a c e = rw (append-nil seen) e

  tail-tested : (seen l : List A) (a : A) (i : ℕ) → tested seen (a ∷ l) (suc i) ≡ tested (seen ++ (a ∷ [])) l i
  tail-tested seen l a i = ap (λ (x : List A). t x (get_or l i d)) (sym (append_assoc seen (a ∷ []) (take i l)))

  good_more : (seen l : List A) (a : A) (i : ℕ) → t seen a ≡ Ok → ((j : ℕ) → j < i → tested (seen ++ (a ∷ [])) l j ≡ Ok) → (j : ℕ) → j < suc i → tested seen (a ∷ l) j ≡ Ok
  good_more seen l a i e f zero h = head-tested seen l a Ok e
  good_more seen l a i e f (suc j) h = tail-tested seen l a j ∙ f j (le_of_suc-le-suc h)

  pub first-only : (seen l : List A) (n p : ℕ) → first_told t seen l ≡ Refused n p → First seen l n p
  unfolding first_told
  first-only seen [] n p h = absurd (refused-ok (sym h))
  first-only seen (a ∷ l) n p h = go (t seen a) refl h (first-only (seen ++ (a ∷ [])) l n p)
    where
      go : (c : Checked) → t seen a ≡ c → or_else c (first_told t (seen ++ (a ∷ [])) l) ≡ Refused n p
          → (first_told t (seen ++ (a ∷ [])) l ≡ Refused n p → First (seen ++ (a ∷ [])) l n p) → First seen (a ∷ l) n p
      go (Refused m q) e h k =
          record { index = 0; within = omega arith; tells = head-tested seen l a (Refused n p) (e ∙ h); before = λ j b. absurd (not-suc-le-zero b) }
      go Ok e h k =
          let f = k h in
          record {
            index = suc f.index;
            within = suc-le-suc f.within;
            tells = tail-tested seen l a f.index ∙ f.tells;
            before = good_more seen l a f.index e f.before;
          }

  pub first-all : (l seen : List A) (n p i : ℕ) → i < length l → tested seen l i ≡ Refused n p → ((j : ℕ) → j < i → tested seen l j ≡ Ok) → first_told t seen l ≡ Refused n p
  unfolding first_told
  first-all [] seen n p i h e f = absurd (not-suc-le-zero h)
  first-all (a ∷ l) seen n p zero h e f = let e' : t seen a ≡ Refused n p = rw (append-nil seen) at e in rw e'
  first-all (a ∷ l) seen n p (suc i) h e f =
      let e' : t seen a ≡ Ok = rw (append-nil seen) at (f 0 (omega arith)) in
      rw e' (first-all l (seen ++ (a ∷ [])) n p i (le_of_suc-le-suc h) (sym (tail-tested seen l a i) ∙ e) (λ j b. sym (tail-tested seen l a j) ∙ f (suc j) (suc-le-suc b)))

  pub ok-only : (l seen : List A) → first_told t seen l ≡ Ok → (j : ℕ) → j < length l → tested seen l j ≡ Ok
  unfolding first_told
  ok-only [] seen h j b = absurd (not-suc-le-zero b)
  ok-only (a ∷ l) seen h j b = go (t seen a) refl h (ok-only l (seen ++ (a ∷ [])))
    where
      go : (c : Checked) → t seen a ≡ c → or_else c (first_told t (seen ++ (a ∷ [])) l) ≡ Ok
          → (first_told t (seen ++ (a ∷ [])) l ≡ Ok → (j : ℕ) → j < length l → tested (seen ++ (a ∷ [])) l j ≡ Ok) → tested seen (a ∷ l) j ≡ Ok
      go (Refused m q) e h k = absurd (refused-ok h)
      go Ok e h k = good_more seen l a (length l) e (k h) j b

  pub ok-all : (l seen : List A) → ((j : ℕ) → j < length l → tested seen l j ≡ Ok) → first_told t seen l ≡ Ok
  unfolding first_told
  ok-all [] seen f = refl
  ok-all (a ∷ l) seen f =
      let e : t seen a ≡ Ok = rw (append-nil seen) at (f 0 (omega arith)) in
      rw e (ok-all l (seen ++ (a ∷ [])) (λ j b. sym (tail-tested seen l a j) ∙ f (suc j) (suc-le-suc b)))
