-- Tried longest first, the first that passes is the longest that passes, whatever the order of the list. Assumes nothing.
use Rattle.std.specs.Prelude.{ℕ, ◌≤◌, ◌<◌, Bool, ◌≡◌, Option, None, Some}
use Rattle.std.proofs.Common.{arith, ap, ◌∙◌}
use Rattle.std.proofs.Math.Bool.{true, false, cond}
use Rattle.std.proofs.Math.Logic.{⊎_elim}
use Rattle.std.proofs.Math.Path.{refl, sym}
use mathlib.Core.List.Memᴰ
use mathlib.Core.List.{List, [], ◌∷◌, Memᴰ}
use Rattle.std.proofs.Math.Dec.{leb}
use borrow.Author.Tests.{le-leb, lt-leb, leb-true, leb-false}
use Rattle.names.specs.Bytes.{false_true}
use Rattle.resolution.specs.Longest.{insert, longest_first, first_of, tried, only, longer, longest}

pub none-some : {A : Type 0} {a : A} → ◌≡◌ {A = Option A} None (Some a) → ⊥
none-some h = let z : ◌≡◌ {A = ℕ} 0 1 = cc in omega arith

module _ {A : Type 0} (size : A → ℕ) where
  -- none is longer than n
  abbrev AllBelow : ℕ → List A → Type 0
  AllBelow n l = (x : A) → Memᴰ x l → size x ≤ n

  data Sorted : List A → Type 0 where
    empty : Sorted []
    onto : {a : A} {l : List A} → AllBelow (size a) l → Sorted l → Sorted (a ∷ l)

  below-insert : (n : ℕ) (a : A) (l : List A) → size a ≤ n → AllBelow n l → AllBelow n (insert size a l)
  unfolding insert
  below-insert n a [] h b = λ x m. ⊎_elim (λ e. rw e h) (λ m. absurd (Memᴰ.not-nil m)) (Memᴰ.cases_cons m)
  below-insert n a (y ∷ l) h b = go (leb (size y) (size a)) (below-insert n a l h (λ x m. b x (Memᴰ.tail m)))
    where
      go : (t : Bool) → AllBelow n (insert size a l) → AllBelow n (cond t (a ∷ y ∷ l) (y ∷ insert size a l))
      go true r = λ x m. ⊎_elim (λ e. rw e h) (b x) (Memᴰ.cases_cons m)
      go false r = λ x m. ⊎_elim (λ e. rw e (b y (Memᴰ.head refl))) (r x) (Memᴰ.cases_cons m)

  under : (a y : A) (l : List A) → size y ≤ size a → AllBelow (size y) l → AllBelow (size a) (y ∷ l)
  under a y l le b = λ x m. ⊎_elim (λ e. rw e le) (λ m. omega (arith, b x m)) (Memᴰ.cases_cons m)

  sorted_insert : (a : A) (l : List A) → Sorted l → Sorted (insert size a l)
  unfolding insert
  sorted_insert a [] s = onto (λ x m. absurd (Memᴰ.not-nil m)) empty
  sorted_insert a (y ∷ l) (onto b s) = go (leb (size y) (size a)) refl (sorted_insert a l s)
    where
      go : (t : Bool) → leb (size y) (size a) ≡ t → Sorted (insert size a l) → Sorted (cond t (a ∷ y ∷ l) (y ∷ insert size a l))
      go true h r =
          let le : size y ≤ size a = leb-true _ _ h in
          onto {a = a} {l = y ∷ l} (under a y l le b) (onto b s)
      go false h r =
          let lt : size a < size y = leb-false _ _ h in
          onto (below-insert (size y) a l (omega arith) b) r

  sorted : (l : List A) → Sorted (longest_first size l)
  unfolding longest_first
  sorted [] = empty
  sorted (a ∷ l) = sorted_insert a (longest_first size l) (sorted l)

  module _ (f : A → Bool) where
    -- what is found among those that are not longer is not longer
    not-longer : (a : A) (l : List A) → AllBelow (size a) l → longer size (Some a) (first_of f l) ≡ Some a
    unfolding first_of
    not-longer a [] b = refl
    not-longer a (y ∷ l) b = go (f y) (not-longer a l (λ x m. b x (Memᴰ.tail m)))
      where
        go : (t : Bool) → longer size (Some a) (first_of f l) ≡ Some a → longer size (Some a) (cond t (Some y) (first_of f l)) ≡ Some a
        go true r = rw (le-leb _ _ (b y (Memᴰ.head refl)))
        go false r = r

    first-insert : (a : A) (l : List A) → Sorted l → first_of f (insert size a l) ≡ longer size (only f a) (first_of f l)
    unfolding first_of insert
    first-insert a [] s = go (f a)
      where
        go : (t : Bool) → cond t (Some a) None ≡ longer size (cond t (Some a) None) None
        go true = refl
        go false = refl
    first-insert a (y ∷ l) (onto b s) = go (leb (size y) (size a)) refl (first-insert a l s)
      where
        here : AllBelow (size a) (y ∷ l) → (u : Bool) → cond u (Some a) (first_of f (y ∷ l)) ≡ longer size (cond u (Some a) None) (first_of f (y ∷ l))
        here h true = sym (not-longer a (y ∷ l) h)
        here h false = refl

        keep : (u : Bool) → size a < size y → Some y ≡ longer size (cond u (Some a) None) (Some y)
        keep true lt = rw (lt-leb _ _ lt)
        keep false lt = refl

        later : (v : Bool) → size a < size y → first_of f (insert size a l) ≡ longer size (only f a) (first_of f l)
            → cond v (Some y) (first_of f (insert size a l)) ≡ longer size (only f a) (cond v (Some y) (first_of f l))
        later true lt r = keep (f a) lt
        later false lt r = r

        go : (t : Bool) → leb (size y) (size a) ≡ t → first_of f (insert size a l) ≡ longer size (only f a) (first_of f l)
            → first_of f (cond t (a ∷ y ∷ l) (y ∷ insert size a l)) ≡ longer size (only f a) (first_of f (y ∷ l))
        go true h r = here (under a y l (leb-true _ _ h) b) (f a)
        go false h r = later (f y) (leb-false _ _ h) r

    -- TRIED LONGEST FIRST, the first that passes is the longest
    pub tried-longest : (l : List A) → tried size f l ≡ longest size f l
    unfolding first_of longest_first longest
    tried-longest [] = refl
    tried-longest (a ∷ l) = first-insert a (longest_first size l) (sorted l) ∙ rw (tried-longest l)

    -- what is found passes, is listed, and no other that passes is longer
    pub record Best (l : List A) (r : A) : Type 0 where
      pub passes : f r ≡ true
      pub among : Memᴰ r l
      pub most : (x : A) → Memᴰ x l → f x ≡ true → size x ≤ size r

    -- where nothing is found, none passes
    abbrev pub Found : List A → Option A → Type 0
    Found l None = (x : A) → Memᴰ x l → f x ≡ true → ⊥
    Found l (Some r) = Best l r

    found-more : (a : A) (l : List A) (u : Bool) → f a ≡ u → (o : Option A) → Found l o → Found (a ∷ l) (longer size (cond u (Some a) None) o)
    found-more a l false e None h = λ x m t. ⊎_elim (λ q. false_true (sym e ∙ rw (← q) t)) (λ m. h x m t) (Memᴰ.cases_cons m)
    found-more a l false e (Some r) h = record {
      passes = h.passes;
      among = Memᴰ.tail h.among;
      most = λ x m t. ⊎_elim (λ q. absurd (false_true (sym e ∙ rw (← q) t))) (λ m. h.most x m t) (Memᴰ.cases_cons m);
    }
    found-more a l true e None h = record {
      passes = e;
      among = Memᴰ.head refl;
      most = λ x m t. ⊎_elim (λ q. rw q (omega arith)) (λ m. absurd (h x m t)) (Memᴰ.cases_cons m);
    }
    found-more a l true e (Some r) h = go (leb (size r) (size a)) refl
      where
        go : (t : Bool) → leb (size r) (size a) ≡ t → Found (a ∷ l) (cond t (Some a) (Some r))
        go true q =
            let le : size r ≤ size a = leb-true _ _ q in
            record {
              passes = e;
              among = Memᴰ.head refl;
              most = λ x m t. ⊎_elim (λ q. rw q (omega arith)) (λ m. omega (arith, h.most x m t)) (Memᴰ.cases_cons m);
            }
        go false q =
            let lt : size a < size r = leb-false _ _ q in
            record {
              passes = h.passes;
              among = Memᴰ.tail h.among;
              most = λ x m t. ⊎_elim (λ q. rw q (omega arith)) (λ m. h.most x m t) (Memᴰ.cases_cons m);
            }

    found-longest : (l : List A) → Found l (longest size f l)
    unfolding longest
    found-longest [] = λ x m t. Memᴰ.not-nil m
    found-longest (a ∷ l) = found-more a l (f a) refl (longest size f l) (found-longest l)

    pub found-tried : (l : List A) → Found l (tried size f l)
    found-tried l = rw (tried-longest l) (found-longest l)

    -- two lists of the same elements, of which no two that pass are equally long, give the same
    pub any_order : (l k : List A) → ((x : A) → Memᴰ x l → Memᴰ x k) → ((x : A) → Memᴰ x k → Memᴰ x l)
        → ((x y : A) → Memᴰ x l → Memᴰ y l → f x ≡ true → f y ≡ true → size x ≡ size y → x ≡ y)
        → tried size f l ≡ tried size f k
    any_order l k to back one = go (tried size f l) (tried size f k) (found-tried l) (found-tried k)
      where
        go : (o p : Option A) → Found l o → Found k p → o ≡ p
        go None None h i = refl
        go None (Some q) h i = absurd (h q (back q i.among) i.passes)
        go (Some r) None h i = absurd (i r (to r h.among) h.passes)
        go (Some r) (Some q) h i =
            let a = h.most q (back q i.among) i.passes in
            let b = i.most r (to r h.among) h.passes in
            let e : r ≡ q = one r q h.among (back q i.among) h.passes i.passes (omega arith) in
            ap Some e

-- THE LONGEST, found in one pass
pub longer-none : {A : Type 0} (size : A → ℕ) (x : Option A) → longer size x None ≡ x
longer-none size None = refl
longer-none size (Some a) = refl

pub longer_assoc : {A : Type 0} (size : A → ℕ) (x y z : Option A) → longer size x (longer size y z) ≡ longer size (longer size x y) z
longer_assoc size None y z = refl
longer_assoc size (Some a) None z = refl
longer_assoc size (Some a) (Some b) None = sym (longer-none size (longer size (Some a) (Some b)))
longer_assoc size (Some a) (Some b) (Some c) = go (leb (size c) (size b)) refl (leb (size b) (size a)) refl
  where
    go : (t : Bool) → leb (size c) (size b) ≡ t → (u : Bool) → leb (size b) (size a) ≡ u
        → longer size (Some a) (cond t (Some b) (Some c)) ≡ longer size (cond u (Some a) (Some b)) (Some c)
    go true p true q =
        let x : size c ≤ size b = leb-true _ _ p in
        let y : size b ≤ size a = leb-true _ _ q in
        let z : size c ≤ size a = omega arith in
        rw (q, le-leb _ _ z)
    go true p false q = rw (q, p)
    go false p true q = refl
    go false p false q =
        let x : size b < size c = leb-false _ _ p in
        let y : size a < size b = leb-false _ _ q in
        let z : size a < size c = omega arith in
        rw (p, lt-leb _ _ z)
