-- Facts of lists of paths and of ids. Assumes nothing.
use Rattle.std.specs.Prelude.{ℕ, zero, suc, ◌<◌, ◌≡◌, Bool, ◌||◌, eqb, length}
use Rattle.std.proofs.Common.{suc-le-suc, not-suc-le-zero, le_of_suc-le-suc, eq-or-lt_of_le, arith, sym, ap, eqb-true}
use Rattle.std.proofs.Math.Path.{refl}
use Rattle.std.proofs.Math.Bool.{true, false, cond}
use Rattle.std.proofs.Math.Logic.{⊎_elim}
use mathlib.Core.List.Memᴰ
use mathlib.Core.List.{List, [], ◌∷◌, ◌++◌, map, append-nil, Memᴰ}
use Rattle.std.proofs.Math.ListN.{get_or, get_or-append}
use Rattle.std.proofs.Math.Seq.{append_snoc, get_or-append_seam}
use Rattle.std.proofs.lemmas.Bool.{eqb-false}
use Rattle.names.specs.Bytes.{same, member, false_true, same-eq, same_differs}
use Rattle.bundle.specs.Bundle.{Text}
use Rattle.resolution.specs.Call.{position}
pub use Rattle.bundle.specs.Members.{member_true, mem_member, member_false, not-member}
pub use Rattle.graph.specs.Facts.{cond_elim, mem_snoc, once_snoc, pigeons}
use Rattle.discovery.specs.Discovery.{Import, holds, entry_of}
use Rattle.discovery.specs.Reached.{Once, none, more, readable, firsts}

-- the entry is a file
pub entry-file : (fs : List Text) (p : Text) → Memᴰ p (entry_of fs) → Memᴰ p fs
entry-file [] p m = m
entry-file (q ∷ fs) p m = ⊎_elim Memᴰ.head (λ w. absurd (Memᴰ.not-nil w)) (Memᴰ.cases_cons m)

pub holds_true : (d : ℕ) (l : List ℕ) → holds d l ≡ true → Memᴰ d l
unfolding holds
holds_true d [] e = absurd (false_true e)
holds_true d (x ∷ l) e = go (eqb d x) refl e (holds_true d l)
  where
    go : (b : Bool) → eqb d x ≡ b → (b || holds d l) ≡ true → (holds d l ≡ true → Memᴰ d l) → Memᴰ d (x ∷ l)
    go true h e' k = Memᴰ.head (eqb-true d x h)
    go false h e' k = Memᴰ.tail (k e')

pub holds_false : (d : ℕ) (l : List ℕ) → holds d l ≡ false → Memᴰ d l → ⊥
unfolding holds
holds_false d [] e m = Memᴰ.not-nil m
holds_false d (x ∷ l) e m = go (eqb d x) refl e (holds_false d l)
  where
    go : (b : Bool) → eqb d x ≡ b → (b || holds d l) ≡ false → (holds d l ≡ false → Memᴰ d l → ⊥) → ⊥
    go true h e' k = false_true (sym e')
    go false h e' k = ⊎_elim (eqb-false d x h) (k e') (Memᴰ.cases_cons m)

-- PLACES
module _ {A : Type 0} where
  pub get_d_mem : (l : List A) (i : ℕ) (d : A) → i < length l → Memᴰ (get_or l i d) l
  get_d_mem [] i d h = absurd (not-suc-le-zero h)
  get_d_mem (x ∷ l) zero d h = Memᴰ.head refl
  get_d_mem (x ∷ l) (suc i) d h = Memᴰ.tail (get_d_mem l i d (le_of_suc-le-suc h))

  pub mem_get_d : {x : A} {l : List A} (d : A) → Memᴰ x l → (i : ℕ) × ((i < length l) × (get_or l i d ≡ x))
  mem_get_d {l = x ∷ xs} d (Memᴰ.head e) = (0, (omega arith, sym e))
  mem_get_d d (Memᴰ.tail m) = let t = mem_get_d d m in (suc t.0, (suc-le-suc t.1.0, t.1.1))

  -- of a list without repetition, equal elements stand at one place
  pub once-place : {l : List A} (d : A) → Once l → (i j : ℕ) → i < length l → j < length l → get_or l i d ≡ get_or l j d → i ≡ j
  once-place d none i j hi hj e = absurd (not-suc-le-zero hi)
  once-place d (more f o) zero zero hi hj e = refl
  once-place d (more {u = a} {l} f o) zero (suc j) hi hj e = absurd (f (Memᴰ.cast e (get_d_mem l j d (le_of_suc-le-suc hj))))
  once-place d (more {u = a} {l} f o) (suc i) zero hi hj e = absurd (f (Memᴰ.cast (sym e) (get_d_mem l i d (le_of_suc-le-suc hi))))
  once-place d (more f o) (suc i) (suc j) hi hj e = ap suc (once-place d o i j (le_of_suc-le-suc hi) (le_of_suc-le-suc hj) e)

-- the default does not matter within a list
pub get_d_any : {A : Type 0} (l : List A) (i : ℕ) (d e : A) → i < length l → get_or l i d ≡ get_or l i e
get_d_any [] i d e h = absurd (not-suc-le-zero h)
get_d_any (x ∷ l) zero d e h = refl
get_d_any (x ∷ l) (suc i) d e h = get_d_any l i d e (le_of_suc-le-suc h)

pub map-append : {A B : Type 0} (f : A → B) (l k : List A) → map f (l ++ k) ≡ map f l ++ map f k
map-append f [] k = refl
map-append f (x ∷ l) k = rw (map-append f l k)

pub map_snoc : {A B : Type 0} (f : A → B) (l : List A) (a : A) → map f (l ++ (a ∷ [])) ≡ map f l ++ (f a ∷ [])
map_snoc f l a = map-append f l (a ∷ [])

-- what holds at each place of a list, and of one more at its end
pub each_snoc : {A : Type 0} (P : ℕ → A → Type 0) (l : List A) (a d : A) → ((u : ℕ) → u < length l → P u (get_or l u d)) → P (length l) a
    → (u : ℕ) → u < suc (length l) → P u (get_or (l ++ (a ∷ [])) u d)
each_snoc P l a d h k u lt =
    ⊎_elim
    (λ e. rw e (rw (get_or-append_seam l a [] d) k))
    (λ b. rw (get_or-append l (a ∷ []) d u b) (h u b)) (eq-or-lt_of_le (le_of_suc-le-suc lt))

pub id-found : (p : Text) (l : List Text) → Memᴰ p l → (position p l < length l) × (get_or l (position p l) [] ≡ p)
unfolding position
id-found p [] m = absurd (Memᴰ.not-nil m)
id-found p (q ∷ l) m =
    cond_elim (λ n. (n < length (q ∷ l)) × (get_or (q ∷ l) n [] ≡ p)) (same p q) {x = 0} {y = suc (position p l)}
    (λ e. (omega arith, sym (same-eq p q e)))
    (λ e. let t = id-found p l (⊎_elim (λ h. absurd (same_differs p q e h)) (λ w. w) (Memᴰ.cases_cons m)) in (suc-le-suc t.0, t.1))

-- THE PATHS OF IDS
unfoldable pub paths_at : List Text → List ℕ → List Text
paths_at sources [] = []
paths_at sources (d ∷ ds) = get_or sources d [] ∷ paths_at sources ds

module _ (sources : List Text) where
  pub paths_snoc : (ds : List ℕ) (d : ℕ) → paths_at sources (ds ++ (d ∷ [])) ≡ paths_at sources ds ++ (get_or sources d [] ∷ [])
  unfolding paths_at
  paths_snoc [] d = refl
  paths_snoc (x ∷ ds) d = rw (paths_snoc ds d)

  pub paths_grow : (new : List Text) (ds : List ℕ) → ((d : ℕ) → Memᴰ d ds → d < length sources) → paths_at (sources ++ new) ds ≡ paths_at sources ds
  unfolding paths_at
  paths_grow new [] h = refl
  paths_grow new (x ∷ ds) h =
      let l = h x (Memᴰ.head refl) in
      rw (get_or-append sources new [] x l, paths_grow new ds (λ d m. h d (Memᴰ.tail m)))

  pub paths_mem : (ds : List ℕ) {d : ℕ} → Memᴰ d ds → Memᴰ (get_or sources d []) (paths_at sources ds)
  unfolding paths_at
  paths_mem [] m = absurd (Memᴰ.not-nil m)
  paths_mem (x ∷ ds) m = ⊎_elim (λ e. Memᴰ.head (ap (λ (n : ℕ). get_or sources n []) e)) (λ m'. Memᴰ.tail (paths_mem ds m')) (Memᴰ.cases_cons m)

  pub mem_paths : (ds : List ℕ) {p : Text} → Memᴰ p (paths_at sources ds) → (d : ℕ) × (Memᴰ d ds × (p ≡ get_or sources d []))
  unfolding paths_at
  mem_paths [] m = absurd (Memᴰ.not-nil m)
  mem_paths (x ∷ ds) m =
      ⊎_elim (λ e. (x, (Memᴰ.head refl, e))) (λ m'. let t = mem_paths ds m' in (t.0, (Memᴰ.tail t.1.0, t.1.1))) (Memᴰ.cases_cons m)

  -- ids of different paths are different
  pub paths-once : (ds : List ℕ) → Once (paths_at sources ds) → Once ds
  unfolding paths_at
  paths-once [] o = none
  paths-once (x ∷ ds) (more f o) = more (λ m. f (paths_mem ds m)) (paths-once ds o)

-- EACH ONCE, AT ITS FIRST PLACE
pub firsts-append : (seen a b : List Text) → firsts seen (a ++ b) ≡ firsts seen a ++ firsts (seen ++ firsts seen a) b
unfolding firsts
firsts-append seen [] b = rw append-nil
firsts-append seen (p ∷ a) b = go (member p seen) (firsts-append seen a b) (firsts-append (seen ++ (p ∷ [])) a b)
  where
    go : (t : Bool) → firsts seen (a ++ b) ≡ firsts seen a ++ firsts (seen ++ firsts seen a) b
        → firsts (seen ++ (p ∷ [])) (a ++ b) ≡ firsts (seen ++ (p ∷ [])) a ++ firsts ((seen ++ (p ∷ [])) ++ firsts (seen ++ (p ∷ [])) a) b
        → cond t (firsts seen (a ++ b)) (p ∷ firsts (seen ++ (p ∷ [])) (a ++ b))
        ≡ cond t (firsts seen a) (p ∷ firsts (seen ++ (p ∷ [])) a) ++ firsts (seen ++ cond t (firsts seen a) (p ∷ firsts (seen ++ (p ∷ [])) a)) b
    go true e f = e
    go false e f = rw (f, append_snoc seen p (firsts (seen ++ (p ∷ [])) a))

pub firsts-sound : (seen l : List Text) {x : Text} → Memᴰ x (firsts seen l) → Memᴰ x l × (Memᴰ x seen → ⊥)
unfolding firsts
firsts-sound seen [] m = absurd (Memᴰ.not-nil m)
firsts-sound seen (p ∷ l) {x} m =
    cond_elim (λ k. Memᴰ x k → Memᴰ x (p ∷ l) × (Memᴰ x seen → ⊥)) (member p seen) {x = firsts seen l} {y = p ∷ firsts (seen ++ (p ∷ [])) l}
    (λ e m'. let t = firsts-sound seen l m' in (Memᴰ.tail t.0, t.1))
    (λ e m'. ⊎_elim
    (λ q. (Memᴰ.head q, λ h. member_false e (Memᴰ.cast (sym q) h)))
    (λ w. let t = firsts-sound (seen ++ (p ∷ [])) l w in (Memᴰ.tail t.0, λ h. t.1 (Memᴰ.append_left _ h)))
    (Memᴰ.cases_cons m')) m

pub firsts-complete : (seen l : List Text) {x : Text} → Memᴰ x l → (Memᴰ x seen → ⊥) → Memᴰ x (firsts seen l)
unfolding firsts
firsts-complete seen [] m n = absurd (Memᴰ.not-nil m)
firsts-complete seen (p ∷ l) {x} m n =
    cond_elim (Memᴰ x) (member p seen) {x = firsts seen l} {y = p ∷ firsts (seen ++ (p ∷ [])) l}
    (λ e. ⊎_elim (λ q. absurd (n (Memᴰ.cast q (member_true p seen e)))) (λ w. firsts-complete seen l w n) (Memᴰ.cases_cons m))
    (λ e. go (same x p) refl (λ w n'. firsts-complete (seen ++ (p ∷ [])) l w n'))
  where
    go : (b : Bool) → same x p ≡ b → (Memᴰ x l → (Memᴰ x (seen ++ (p ∷ [])) → ⊥) → Memᴰ x (firsts (seen ++ (p ∷ [])) l)) → Memᴰ x (p ∷ firsts (seen ++ (p ∷ [])) l)
    go true q k = Memᴰ.head (same-eq x p q)
    go false q k = Memᴰ.tail (k
        (⊎_elim (λ h. absurd (same_differs x p q h)) (λ w. w) (Memᴰ.cases_cons m))
        (λ h. ⊎_elim n (same_differs x p q) (mem_snoc seen h)))

pub firsts-once : (seen l : List Text) → Once (firsts seen l)
unfolding firsts
firsts-once seen [] = none
firsts-once seen (p ∷ l) =
    cond_elim Once (member p seen) {x = firsts seen l} {y = p ∷ firsts (seen ++ (p ∷ [])) l}
    (λ e. firsts-once seen l)
    (λ e. more (λ m. (firsts-sound (seen ++ (p ∷ [])) l m).1 (Memᴰ.append_right seen (Memᴰ.head refl))) (firsts-once (seen ++ (p ∷ [])) l))

-- IMPORTS THAT CAN BE READ
module _ (files : List Text) where
  pub readable-cons : (i : Import) (is : List Import) → readable files (i ∷ is) ≡ readable files (i ∷ []) ++ readable files is
  unfolding readable
  readable-cons i is = go (member i.path files)
    where
      go : (t : Bool) → cond t (i.path ∷ readable files is) (readable files is) ≡ cond t (i.path ∷ []) [] ++ readable files is
      go true = refl
      go false = refl

  pub readable-sound : (is : List Import) {p : Text} → Memᴰ p (readable files is) → (i : Import) × (Memᴰ i is × ((p ≡ i.path) × Memᴰ p files))
  unfolding readable
  readable-sound [] m = absurd (Memᴰ.not-nil m)
  readable-sound (i ∷ is) {p} m =
      let later : Memᴰ p (readable files is) → (j : Import) × (Memᴰ j (i ∷ is) × ((p ≡ j.path) × Memᴰ p files)) =
      λ w. ((readable-sound is w).0, (Memᴰ.tail (readable-sound is w).1.0, (readable-sound is w).1.1)) in
      cond_elim (λ k. Memᴰ p k → (j : Import) × (Memᴰ j (i ∷ is) × ((p ≡ j.path) × Memᴰ p files))) (member i.path files) {x = i.path ∷ readable files is} {y = readable files is}
      (λ e m'. ⊎_elim (λ q. (i, (Memᴰ.head refl, (q, Memᴰ.cast q (member_true _ files e))))) later (Memᴰ.cases_cons m'))
      (λ e m'. later m') m

  pub readable-complete : {is : List Import} {i : Import} → Memᴰ i is → Memᴰ i.path files → Memᴰ i.path (readable files is)
  unfolding readable
  readable-complete {is = []} m h = absurd (Memᴰ.not-nil m)
  readable-complete {is = j ∷ is} {i} m h =
      cond_elim (Memᴰ i.path) (member j.path files) {x = j.path ∷ readable files is} {y = readable files is}
      (λ e. ⊎_elim (λ q. Memᴰ.head (ap (λ (k : Import). k.path) q)) (λ w. Memᴰ.tail (readable-complete w h)) (Memᴰ.cases_cons m))
      (λ e. ⊎_elim (λ q. absurd (member_false e (Memᴰ.cast (ap (λ (k : Import). k.path) (sym q)) h))) (λ w. readable-complete w h) (Memᴰ.cases_cons m))
