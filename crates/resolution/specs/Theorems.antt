-- What resolution promises of every bundle's lists. Assumes nothing.
use Rattle.std.specs.Prelude.{ℕ, suc, ◌≤◌, ◌<◌, Bool, cond, ◌&&◌, ◌||◌, not, ◌⊎◌, ◌≡◌, eqb, leb, get_or, Option, None, Some}
use Rattle.std.proofs.Common.{arith, inl, inr, sym, ap, ◌∙◌, length-append, eq-eqb, ne_eqb, eqb-true}
use Rattle.std.proofs.Math.Bool.{true, false}
use Rattle.std.proofs.Math.Logic.{⊎_elim}
use Rattle.std.proofs.Math.Path.{refl}
use mathlib.Core.List.Memᴰ
use mathlib.Core.List.{List, [], ◌∷◌, ◌++◌, map, Memᴰ}
use Rattle.std.proofs.Math.ListN.{length}
use Rattle.names.specs.Bytes.{ascii, slash, same, member, all, all-each, same-eq, same_refl, different, and_left, and_right, false_true}
use Rattle.names.specs.Path.{root, is_path, components, well_formed}
use Rattle.names.specs.Prefix.{starts_with, directly_in, child, child_file}
use Rattle.names.specs.Identifier.{is_identifier, class, letter, digit, inside, name_limit}
use Rattle.names.specs.Keywords.{is_crate}
use Rattle.names.specs.PathTheorems.{starts_with_trans, starts_with_root, equal-prefixes, not-below, form}
use Rattle.names.specs.FolderTheorems.{Plain, child-below}
use Rattle.bundle.specs.Bundle.{Text, Remapping}
use Rattle.card.specs.Card.{child-long}
use Rattle.resolution.specs.Lists.{Lists}
use Rattle.resolution.specs.Call.{position}
use Rattle.resolution.specs.LongestLaws.{none-some, Best, found-tried, any_order}
use Rattle.resolution.specs.Resolution.{package_roots, get_package_root, applies, remapping_for, Missing, no_path, Lookup, found, missing, is_folder, is_file, exists, build_and_verify_path, Fault, to, fails, or_itself, resolve_below, resolve_crate_path, same_root, check_local_file_imported_as_external, external, resolve_external_path, resolve_path_internal, no_file_fault, own_file_fault}

-- the same elements, in whatever order
pub record Same {A : Type 0} (l k : List A) : Type 0 where
  pub there : (x : A) → Memᴰ x l → Memᴰ x k
  pub back : (x : A) → Memᴰ x k → Memᴰ x l

-- THE REMAPPING TAKEN
applied : (file name : Text) (r : Remapping) → applies file name r ≡ true → (starts_with file r.context ≡ true) × (r.name ≡ name)
unfolding applies
applied file name r h =
    (and_left (starts_with file r.context) (same r.name name) h, same-eq _ _ (and_right (starts_with file r.context) (same r.name name) h))

applying : (file name : Text) (r : Remapping) → starts_with file r.context ≡ true → r.name ≡ name → applies file name r ≡ true
unfolding applies
applying file name r h e = rw (h, e, same_refl name)

module _ (b : Lists) (file name : Text) where
  -- its context is a prefix of the importer, by whole components, and no other of that name with such a context is longer
  pub record Taken (r : Remapping) : Type 0 where
    pub listed : Memᴰ r b.remappings
    pub named : r.name ≡ name
    pub prefix : starts_with file r.context ≡ true
    pub most : (q : Remapping) → Memᴰ q b.remappings → q.name ≡ name → starts_with file q.context ≡ true → length q.context ≤ length r.context

  abbrev size : Remapping → ℕ
  size r = length r.context

  pub taken : (r : Remapping) → remapping_for b file name ≡ Some r → Taken r
  unfolding remapping_for
  taken r h =
      let t : Best size (applies file name) b.remappings r = rw h at (found-tried size (applies file name) b.remappings) in
      record {
        listed = t.among;
        named = (applied file name r t.passes).1;
        prefix = (applied file name r t.passes).0;
        most = λ q m e p. t.most q m (applying file name q p e);
      }

  -- where none is taken, none of that name has such a context
  pub none-taken : remapping_for b file name ≡ None → (q : Remapping) → Memᴰ q b.remappings → q.name ≡ name → starts_with file q.context ≡ true → ⊥
  unfolding remapping_for
  none-taken h q m e p =
      (rw h at (found-tried size (applies file name) b.remappings)) q m (applying file name q p e)

-- two remappings of one name in one context are one (13), and contexts are paths
pub record Distinct (l : List Remapping) : Type 0 where
  pub path : (r : Remapping) → Memᴰ r l → is_path r.context ≡ true
  pub one : (r q : Remapping) → Memᴰ r l → Memᴰ q l → r.context ≡ q.context → r.name ≡ q.name → r ≡ q

-- the remapping taken does not depend on the order in which they are listed
pub taken_in_any-order : (b c : Lists) (file name : Text) → Distinct b.remappings → Same b.remappings c.remappings
    → remapping_for b file name ≡ remapping_for c file name
unfolding remapping_for
taken_in_any-order b c file name d s = any_order (λ r. length r.context) (applies file name) b.remappings c.remappings s.there s.back alike
  where
    alike : (r q : Remapping) → Memᴰ r b.remappings → Memᴰ q b.remappings → applies file name r ≡ true → applies file name q ≡ true
        → length r.context ≡ length q.context → r ≡ q
    alike r q m n h i e =
        let x = applied file name r h in
        let y = applied file name q i in
        d.one r q m n (equal-prefixes file r.context q.context (d.path r m) (d.path q n) x.0 y.0 e) (x.1 ∙ sym y.1)

-- PACKAGE ROOTS
module _ (b : Lists) (file : Text) where
  pub record Rooted (p : Text) : Type 0 where
    pub listed : Memᴰ p (package_roots b)
    pub prefix : starts_with file p ≡ true
    pub most : (q : Text) → Memᴰ q (package_roots b) → starts_with file q ≡ true → length q ≤ length p

  pub rooted : (p : Text) → get_package_root b file ≡ Some p → Rooted p
  unfolding get_package_root
  rooted p h =
      let t : Best length (starts_with file) (package_roots b) p = rw h at (found-tried length (starts_with file) (package_roots b)) in
      record { listed = t.among; prefix = t.passes; most = t.most }

  pub none-rooted : get_package_root b file ≡ None → (q : Text) → Memᴰ q (package_roots b) → starts_with file q ≡ true → ⊥
  unfolding get_package_root
  none-rooted h = rw h at (found-tried length (starts_with file) (package_roots b))

pub rooted_in_any-order : (b c : Lists) (file : Text) → ((p : Text) → Memᴰ p (package_roots b) → is_path p ≡ true) → Same (package_roots b) (package_roots c)
    → get_package_root b file ≡ get_package_root c file
unfolding get_package_root
rooted_in_any-order b c file d s =
    any_order length (starts_with file) (package_roots b) (package_roots c) s.there s.back
    (λ p q m n h i e. equal-prefixes file p q (d p m) (d q n) h i e)

-- the package roots of remappings in another order are the same
target-there : (l k : List Remapping) → ((r : Remapping) → Memᴰ r l → Memᴰ r k) → (p : Text) → Memᴰ p (map (λ r. r.target) l) → Memᴰ p (map (λ r. r.target) k)
target-there [] k f p m = absurd (Memᴰ.not-nil m)
target-there (r ∷ l) k f p m =
    ⊎_elim (λ e. mapped k (f r (Memᴰ.head refl)) e) (λ n. target-there l k (λ q i. f q (Memᴰ.tail i)) p n) (Memᴰ.cases_cons m)
  where
    mapped : (k : List Remapping) → Memᴰ r k → p ≡ r.target → Memᴰ p (map (λ r. r.target) k)
    mapped [] m e = absurd (Memᴰ.not-nil m)
    mapped (q ∷ k) m e = ⊎_elim (λ x. Memᴰ.head (e ∙ ap (λ (r : Remapping). r.target) x)) (λ n. Memᴰ.tail (mapped k n e)) (Memᴰ.cases_cons m)

pub same-roots : (b c : Lists) → b.root ≡ c.root → Same b.remappings c.remappings → Same (package_roots b) (package_roots c)
same-roots b c e s = record {
  there = λ p m. ⊎_elim (λ x. Memᴰ.head (x ∙ e)) (λ n. Memᴰ.tail (target-there _ _ s.there p n)) (Memᴰ.cases_cons m);
  back = λ p m. ⊎_elim (λ x. Memᴰ.head (x ∙ sym e)) (λ n. Memᴰ.tail (target-there _ _ s.back p n)) (Memᴰ.cases_cons m);
}

-- THE PRACTICE'S CASE, for all names: a context p never applies to a file below p with more bytes appended to its last
-- component, as `/r/payroll/m.simf` and `/r/pay`. Nor does a package root.
module _ (b : Lists) (p more : Text) (x : ℕ) (h : is_path p ≡ true) (n : p ≡ root → ⊥) (k : x ≡ slash → ⊥) where
  pub payroll : (name : Text) (r : Remapping) → remapping_for b (p ++ (x ∷ more)) name ≡ Some r → r.context ≡ p → ⊥
  payroll name r t e =
      let f = rw e at (taken b (p ++ (x ∷ more)) name r t).prefix in
      false_true (sym (not-below p more x h n k) ∙ f)

  pub payroll_root : get_package_root b (p ++ (x ∷ more)) ≡ Some p → ⊥
  payroll_root t = false_true (sym (not-below p more x h n k) ∙ (rooted b (p ++ (x ∷ more)) p t).prefix)

-- THE ARCHITECTS' CASE: with contexts `/` and p of one name, files below p take the second, all others the first
root_path : is_path root ≡ true
unfolding is_path components same well_formed all
root_path = refl

some-length : (p : Text) → is_path p ≡ true → 1 ≤ length p
some-length [] h = absurd (omega (arith, (form [] h).led_by))
some-length (a ∷ p) h = omega arith

pub record Architects (b : Lists) (name p : Text) (r q : Remapping) : Type 0 where
  pub first : Memᴰ r b.remappings
  pub second : Memᴰ q b.remappings
  pub first_name : r.name ≡ name
  pub second_name : q.name ≡ name
  pub first_context : r.context ≡ root
  pub second_context : q.context ≡ p
  pub others : (x : Remapping) → Memᴰ x b.remappings → x.name ≡ name → (x ≡ r) ⊎ (x ≡ q)

module _ (b : Lists) (name p : Text) (r q : Remapping) (h : is_path p ≡ true) (n : p ≡ root → ⊥) (a : Architects b name p r q) (file : Text) where
  everywhere : starts_with file r.context ≡ true
  everywhere = rw a.first_context (starts_with_root file)

  pub below-takes : starts_with file p ≡ true → remapping_for b file name ≡ Some q
  below-takes s = go (remapping_for b file name) refl
    where
      here : starts_with file q.context ≡ true
      here = rw a.second_context s

      go : (o : Option Remapping) → remapping_for b file name ≡ o → o ≡ Some q
      go None e = absurd (none-taken b file name e r a.first a.first_name everywhere)
      go (Some x) e =
          let t = taken b file name x e in
          let shorter : (x ≡ r) → ⊥ = λ i.
          let m : length p ≤ length root = rw (a.second_context, i, a.first_context) at (t.most q a.second a.second_name here) in
          n (equal-prefixes file p root h root_path s (starts_with_root file) (omega (arith, some-length p h))) in
          ⊎_elim (λ i. absurd (shorter i)) (λ i. ap Some i) (a.others x t.listed t.named)

  pub others-take : starts_with file p ≡ false → remapping_for b file name ≡ Some r
  others-take s = go (remapping_for b file name) refl
    where
      below : {c : Text} → c ≡ p → starts_with file c ≡ true → ⊥
      below e k = false_true (sym s ∙ rw e at k)

      go : (o : Option Remapping) → remapping_for b file name ≡ o → o ≡ Some r
      go None e = absurd (none-taken b file name e r a.first a.first_name everywhere)
      go (Some x) e =
          let t = taken b file name x e in
          ⊎_elim (λ i. ap Some i) (λ i. absurd (below (ap (λ (r : Remapping). r.context) i ∙ a.second_context) t.prefix)) (a.others x t.listed t.named)

-- WHAT A USE RESOLVES TO
-- a segment can stand in a path: it has a byte, and no slash
not_slash : ℕ → Bool
not_slash b = not (eqb b slash)

plain : (n : Text) → 1 ≤ length n → all not_slash n ≡ true → Plain n
unfolding not_slash
plain n l h = record { some_byte = l; no_slash = λ k i e. false_true (sym (rw (eq-eqb _ _ e)) ∙ all-each not_slash n h k i) }

all_append : (f : ℕ → Bool) (s t : Text) → all f s ≡ true → all f t ≡ true → all f (s ++ t) ≡ true
unfolding all
all_append f [] t h k = k
all_append f (a ∷ s) t h k = rw (and_left (f a) (all f s) h, all_append f s t (and_right (f a) (all f s) h) k)

class-plain : (b : ℕ) → (class b ≡ 0 → ⊥) → not_slash b ≡ true
unfolding not_slash class letter digit
class-plain b k = rw (ne_eqb b slash (λ e. k (ap class e)))

inside-plain : (b : ℕ) → inside b ≡ true → not_slash b ≡ true
inside-plain b h = class-plain b (λ z. false_true (sym (rw (eq-eqb (class b) 0 z)) ∙ h))

all_plain : (n : Text) → all inside n ≡ true → all not_slash n ≡ true
unfolding all
all_plain [] h = refl
all_plain (b ∷ n) h = rw (inside-plain b (and_left (inside b) (all inside n) h)) (all_plain n (and_right (inside b) (all inside n) h))

identifier-plain : (n : Text) → is_identifier n ≡ true → (1 ≤ length n) × (all not_slash n ≡ true)
unfolding is_identifier all
identifier-plain [] h = absurd (false_true h)
identifier-plain (b ∷ n) h =
    let r = and_right (leb (length (b ∷ n)) name_limit) (eqb (class b) 1 && all inside n) h in
    let e = eqb-true (class b) 1 (and_left (eqb (class b) 1) (all inside n) r) in
    (omega arith, rw (class-plain b (λ z. omega arith)) (all_plain n (and_right (eqb (class b) 1) (all inside n) r)))

pub segment-plain : (n : Text) → is_identifier n ≡ true → Plain n
segment-plain n h = let i = identifier-plain n h in plain n i.0 i.1

pub file-plain : (n : Text) → is_identifier n ≡ true → Plain (n ++ ascii ".simf")
unfolding ascii all not_slash
file-plain n h =
    let i = identifier-plain n h in
    plain (n ++ ascii ".simf") (omega (arith, length-append n (ascii ".simf"), i.0)) (all_append not_slash n (ascii ".simf") i.1 refl)

-- listed, as a file or as a folder
abbrev pub is_listed : Lists → Text → Bool
is_listed b p = member p b.files || member p b.folders

-- THE LOOKUP'S TESTS: no name leads to `/`, so below a folder they ask what is listed
pub folder-below : (b : Lists) (d n : Text) → 1 ≤ length n → is_folder b (child d n) ≡ member (child d n) b.folders
unfolding is_folder member
folder-below b d n l = rw (different (child d n) root (λ e. child-long d n l (ap length e)))

pub exists_below : (b : Lists) (d n : Text) → exists b (child_file d n) ≡ is_listed b (child_file d n)
unfolding is_file child_file ascii
exists_below b d n = rw (folder-below b d (n ++ ascii ".simf") (omega (arith, length-append n (ascii ".simf"))))

pub found-listed : (b : Lists) (base : Text) (parts : List Text) (p : Text) (rest : List Text) → build_and_verify_path b base parts ≡ found p rest → is_listed b p ≡ true
unfolding build_and_verify_path
found-listed b base [] p rest h = absurd (lost h)
  where
    lost : {m : Missing} → missing m ≡ found p rest → ⊥
    lost h = let z : ◌≡◌ {A = ℕ} 0 1 = cc in omega arith
found-listed b base (part ∷ parts) p rest h =
    go (is_folder b (child base part)) (exists b (child_file base part)) refl (found-listed b (child base part) parts p rest) h
  where
    go : (t u : Bool) → exists b (child_file base part) ≡ u
        → (build_and_verify_path b (child base part) parts ≡ found p rest → is_listed b p ≡ true)
        → cond t (build_and_verify_path b (child base part) parts) (cond u (found (child_file base part) parts) (missing (no_path (child_file base part)))) ≡ found p rest
        → is_listed b p ≡ true
    go true u e r h = r h
    go false true e r h = let q : child_file base part ≡ p = cc in rw (← q) (sym (exists_below b base part) ∙ e)
    go false false e r h = let z : ◌≡◌ {A = ℕ} 0 1 = cc in absurd (omega arith)

-- a path that is found lies below the base that it was searched from
abbrev AllPaths : List Text → Type 0
AllPaths l = (p : Text) → member p l ≡ true → is_path p ≡ true

pub found_below : (b : Lists) (base : Text) (parts : List Text) (p : Text) (rest : List Text)
    → AllPaths b.folders → is_path base ≡ true → all is_identifier parts ≡ true
    → build_and_verify_path b base parts ≡ found p rest → starts_with p base ≡ true
unfolding build_and_verify_path all child_file
found_below b base [] p rest f k i h = absurd (lost h)
  where
    lost : {m : Missing} → missing m ≡ found p rest → ⊥
    lost h = let z : ◌≡◌ {A = ℕ} 0 1 = cc in omega arith
found_below b base (part ∷ parts) p rest f k i h =
    go (is_folder b (child base part)) refl (exists b (child base (part ++ ascii ".simf")))
    (λ q. found_below b (child base part) parts p rest f q (and_right (is_identifier part) (all is_identifier parts) i)) h
  where
    word : is_identifier part ≡ true
    word = and_left (is_identifier part) (all is_identifier parts) i

    go : (t : Bool) → is_folder b (child base part) ≡ t → (u : Bool)
        → (is_path (child base part) ≡ true → build_and_verify_path b (child base part) parts ≡ found p rest → starts_with p (child base part) ≡ true)
        → cond t (build_and_verify_path b (child base part) parts) (cond u (found (child base (part ++ ascii ".simf")) parts) (missing (no_path (child base (part ++ ascii ".simf"))))) ≡ found p rest
        → starts_with p base ≡ true
    go true e u r h = starts_with_trans p (child base part) base (r (f _ (sym (folder-below b base part (segment-plain part word).some_byte) ∙ e)) h) (child-below base part k (segment-plain part word))
    go false e true r h = let q : child base (part ++ ascii ".simf") ≡ p = cc in rw (← q) (child-below base (part ++ ascii ".simf") k (file-plain part word))
    go false e false r h = let z : ◌≡◌ {A = ℕ} 0 1 = cc in absurd (omega arith)

-- THE WHOLE
-- where a use is searched from: the importer's package root, or the target of the remapping taken
abbrev target_of : Option Remapping → Option Text
target_of None = None
target_of (Some r) = Some r.target

abbrev pub base_of : Lists → Text → Text → Option Text
base_of b file name = cond (is_crate name) (get_package_root b file) (target_of (remapping_for b file name))

-- the folders and the package roots are paths
pub record Paths (b : Lists) : Type 0 where
  pub folders : AllPaths b.folders
  pub roots : (p : Text) → Memᴰ p (package_roots b) → is_path p ≡ true

target-root : (b : Lists) (r : Remapping) → Memᴰ r b.remappings → Memᴰ r.target (package_roots b)
target-root b r m = Memᴰ.tail (go b.remappings m)
  where
    go : (l : List Remapping) → Memᴰ r l → Memᴰ r.target (map (λ r. r.target) l)
    go [] m = absurd (Memᴰ.not-nil m)
    go (q ∷ l) m = ⊎_elim (λ e. Memᴰ.head (ap (λ (r : Remapping). r.target) e)) (λ n. Memᴰ.tail (go l n)) (Memᴰ.cases_cons m)

module _ (b : Lists) (file : Text) (parts : List Text) (p : Text) (rest : List Text) where
  refused : {e : Fault} → fails e ≡ to p rest → ⊥
  refused h = let z : ◌≡◌ {A = ℕ} 0 1 = cc in omega arith

  module _ (base : Text) where
    -- a crate path that is not lost was found below the root, or is the importer itself, directly in the root
    crate_cases : (l : Lookup) → or_itself base file parts l ≡ to p rest → (l ≡ found p rest) ⊎ ((p ≡ file) × (directly_in file base ≡ true))
    crate_cases (found q m) h = inl (cc)
    crate_cases (missing m) h = go (directly_in file base) refl h
      where
        go : (t : Bool) → directly_in file base ≡ t → cond t (to file parts) (fails (no_file_fault m)) ≡ to p rest → (missing m ≡ found p rest) ⊎ ((p ≡ file) × (directly_in file base ≡ true))
        go true e h = inr (cc, e)
        go false e h = absurd (refused h)

  -- an external path was found, and is not the importer's own
  external_cases : (l : Lookup) → external b file l ≡ to p rest → (l ≡ found p rest) × (check_local_file_imported_as_external b file p ≡ false)
  external_cases (missing m) h = absurd (refused h)
  external_cases (found q m) h = go (check_local_file_imported_as_external b file q) refl h
    where
      go : (t : Bool) → check_local_file_imported_as_external b file q ≡ t → cond t (fails own_file_fault) (to q m) ≡ to p rest → (found q m ≡ found p rest) × (check_local_file_imported_as_external b file p ≡ false)
      go true e h = absurd (refused h)
      go false e h = let x : q ≡ p = cc in (cc, rw (← x) e)

  -- what a use resolves to is found below its base, or is the importer itself, directly in its package root
  record Came (name base : Text) : Type 0 where
    from : base_of b file name ≡ Some base
    how : (build_and_verify_path b base parts ≡ found p rest) ⊎ ((p ≡ file) × (directly_in file base ≡ true))

  came : (name : Text) → resolve_path_internal b file (name ∷ parts) ≡ to p rest → (base : Text) × Came name base
  unfolding resolve_path_internal resolve_crate_path
  came name h = go (is_crate name) refl h
    where
      below : is_crate name ≡ true → (o : Option Text) → get_package_root b file ≡ o → resolve_below b file parts o ≡ to p rest → (base : Text) × Came name base
      below c None e h = absurd (refused h)
      below c (Some base) e h = (base, record { from = rw (c, e); how = crate_cases base (build_and_verify_path b base parts) h })

      outside : is_crate name ≡ false → (o : Option Remapping) → remapping_for b file name ≡ o → resolve_external_path b file parts o ≡ to p rest → (base : Text) × Came name base
      outside c None e h = absurd (refused h)
      outside c (Some r) e h =
          (r.target, record { from = rw (c, e); how = inl (external_cases (build_and_verify_path b r.target parts) h).0 })

      go : (t : Bool) → is_crate name ≡ t → cond t (resolve_below b file parts (get_package_root b file)) (resolve_external_path b file parts (remapping_for b file name)) ≡ to p rest → (base : Text) × Came name base
      go true c h = below c (get_package_root b file) refl h
      go false c h = outside c (remapping_for b file name) refl h

  module _ (name : Text) (h : resolve_path_internal b file (name ∷ parts) ≡ to p rest) where
    -- A RESOLVED PATH IS LISTED, where the importer is
    pub resolved-listed : is_listed b file ≡ true → is_listed b p ≡ true
    resolved-listed l =
        let c = came name h in
        ⊎_elim (λ f. found-listed b c.0 parts p rest f) (λ i. rw i.0 l) c.1.how

    -- it lies below the base it was searched from
    pub resolved-below : Paths b → all is_identifier parts ≡ true → (base : Text) × ((base_of b file name ≡ Some base) × (starts_with p base ≡ true))
    unfolding directly_in
    resolved-below q i =
        let c = came name h in
        (c.0, (c.1.from, ⊎_elim (λ f. found_below b c.0 parts p rest q.folders (q.roots c.0 (rooted_base c.0 c.1.from)) i f) (itself c.0) c.1.how))
      where
        itself : (base : Text) → (p ≡ file) × (directly_in file base ≡ true) → starts_with p base ≡ true
        itself base j = rw j.0 (and_left (starts_with file base) _ j.1)

        rooted_base : (base : Text) → base_of b file name ≡ Some base → Memᴰ base (package_roots b)
        rooted_base base e = go (is_crate name) e
          where
            target : (o : Option Remapping) → remapping_for b file name ≡ o → target_of o ≡ Some base → Memᴰ base (package_roots b)
            target None k e = absurd (none-some e)
            target (Some r) k e = let x : r.target ≡ base = cc in rw (← x) (target-root b r (taken b file name r k).listed)

            go : (t : Bool) → cond t (get_package_root b file) (target_of (remapping_for b file name)) ≡ Some base → Memᴰ base (package_roots b)
            go true e = (rooted b file base e).listed
            go false e = target (remapping_for b file name) refl e

    -- and the importer's own package root never comes back from an external use
    pub never_own : is_crate name ≡ false → (base : Text) → get_package_root b file ≡ Some base → get_package_root b p ≡ Some base → ⊥
    unfolding resolve_path_internal check_local_file_imported_as_external
    never_own c base e k = outside (remapping_for b file name) (rw c at h)
      where
        outside : (o : Option Remapping) → resolve_external_path b file parts o ≡ to p rest → ⊥
        outside None h = refused h
        outside (Some r) h =
            let x : same_root (get_package_root b file) (get_package_root b p) ≡ false = (external_cases (build_and_verify_path b r.target parts) h).1 in
            false_true (sym (rw (e, k) at x) ∙ same_refl base)

-- THE ANSWER: the file, or the folder, of the index that is told is the resolved path
pub position-is : (p : Text) (l : List Text) (d : Text) → member p l ≡ true → get_or l (position p l) d ≡ p
unfolding member position
position-is p [] d h = absurd (false_true h)
position-is p (q ∷ l) d h = go (same p q) refl (position-is p l d) h
  where
    go : (t : Bool) → same p q ≡ t → (member p l ≡ true → get_or l (position p l) d ≡ p) → (t || member p l) ≡ true → get_or (q ∷ l) (cond t 0 (suc (position p l))) d ≡ p
    go true e r h = sym (same-eq p q e)
    go false e r h = r h

pub position-small : (p : Text) (l : List Text) → member p l ≡ true → position p l < length l
unfolding member position
position-small p [] h = absurd (false_true h)
position-small p (q ∷ l) h = go (same p q) (position-small p l) h
  where
    go : (t : Bool) → (member p l ≡ true → position p l < length l) → (t || member p l) ≡ true → cond t 0 (suc (position p l)) < length (q ∷ l)
    go true r h = omega arith
    go false r h = omega (arith, r h)
