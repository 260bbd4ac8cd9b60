-- THE LOOKUP, AND 20 TO 25, exactly when: said a second way, without the lookup's recursion. Of any lists. Assumes nothing.
use Prim.Native.Nat.{ℕ, zero, suc, ◌≤◌, ◌<◌}
use Rattle.std.proofs.Common.{not-suc-le-zero, le_of_suc-le-suc, arith, sym, ◌∙◌, ltb-true, ltb-false}
use Rattle.std.specs.Prelude.{Bool, cond, ◌⊎◌, ◌↔◌, ◌≡◌, ltb, length, get_or, drop, Option, None, Some}
use Rattle.std.proofs.Math.Bool.{true, false}
use Rattle.std.proofs.Math.Logic.{inl, inr, ⊎_elim}
use Rattle.std.proofs.Math.Path.{refl, ap}
use mathlib.Core.List.{List, [], ◌∷◌, Memᴰ}
use Rattle.names.specs.Bytes.{member, same-eq, same_refl, false_true, not_true}
use Rattle.names.specs.Prefix.{starts_with, directly_in, child, child_file}
use Rattle.names.specs.Keywords.{is_crate}
use Rattle.bundle.specs.Bundle.{Text, Remapping}
use Rattle.resolution.specs.Lists.{Lists}
use Rattle.resolution.specs.LongestLaws.{none-some}
use Rattle.resolution.specs.Call.{position, answer, resolve_in}
use Rattle.resolution.specs.Results.{File, Folder, Refused}
use Rattle.resolution.specs.Resolution.{package_roots, get_package_root, remapping_for, Missing, in_folder, no_path, Lookup, found, missing, is_folder, exists, build_and_verify_path, Fault, empty_use_fault, unknown_library_fault, no_library_file_fault, no_file_fault, own_file_fault, no_root_fault, number, Resolved, to, fails, or_itself, resolve_below, resolve_crate_path, same_root, check_local_file_imported_as_external, external, resolve_external_path, resolve_path_internal}
use Rattle.resolution.specs.Theorems.{taken, none-taken, rooted, none-rooted}

-- THE LOOKUP, IN WORDS
-- the folder that the first k segments lead to from the base, each below the one before
unfoldable pub folder_after : Text → List Text → ℕ → Text
folder_after base parts zero = base
folder_after base parts (suc k) = child (folder_after base parts k) (get_or parts k [])

-- the file that segment k names there, with `.simf` added
abbrev pub file_named : Text → List Text → ℕ → Text
file_named base parts k = child_file (folder_after base parts k) (get_or parts k [])

module _ (b : Lists) (base : Text) (parts : List Text) where
  -- segment k is the first that isn't a folder: all before it enter folders
  pub record FirstNoFolder (k : ℕ) : Type 0 where
    pub there : k < length parts
    pub before : (i : ℕ) → i < k → is_folder b (folder_after base parts (suc i)) ≡ true
    pub itself : is_folder b (folder_after base parts (suc k)) ≡ false

  -- the first segment that isn't a folder names a file, or a folder of that name; the rest is module path
  pub record FoundAt (p : Text) (rest : List Text) : Type 0 where
    pub segment : ℕ
    pub first : FirstNoFolder segment
    pub names : p ≡ file_named base parts segment
    pub listed : exists b p ≡ true
    pub left : rest ≡ drop (suc segment) parts

  -- it names a path that is neither
  pub record NotListed (p : Text) : Type 0 where
    pub segment : ℕ
    pub first : FirstNoFolder segment
    pub names : p ≡ file_named base parts segment
    pub not_listed : exists b p ≡ false

  -- the segments ran out: all enter folders, and the last is this one
  pub record RanOut (p : Text) : Type 0 where
    pub every : (i : ℕ) → i < length parts → is_folder b (folder_after base parts (suc i)) ≡ true
    pub last : p ≡ folder_after base parts (length parts)

  abbrev Says : Lookup → Type 0
  Says (found p rest) = FoundAt p rest
  Says (missing (in_folder p)) = RanOut p
  Says (missing (no_path p)) = NotListed p

after_shift : (base part : Text) (parts : List Text) (k : ℕ) → folder_after base (part ∷ parts) (suc k) ≡ folder_after (child base part) parts k
unfolding folder_after
after_shift base part parts zero = refl
after_shift base part parts (suc k) = ap (λ (d : Text). child d (get_or parts k [])) (after_shift base part parts k)

-- a first segment that enters a folder
module _ (b : Lists) (base part : Text) (parts : List Text) (e : is_folder b (child base part) ≡ true) where
  enters_shift : (k : ℕ) → ((i : ℕ) → i < k → is_folder b (folder_after (child base part) parts (suc i)) ≡ true)
      → (i : ℕ) → i < suc k → is_folder b (folder_after base (part ∷ parts) (suc i)) ≡ true
  unfolding folder_after
  enters_shift k f zero h = e
  enters_shift k f (suc i) h = ap (is_folder b) (after_shift base part parts (suc i)) ∙ f i (le_of_suc-le-suc h)

  first_shift : (k : ℕ) → FirstNoFolder b (child base part) parts k → FirstNoFolder b base (part ∷ parts) (suc k)
  first_shift k f = record {
    there = omega (arith, f.there);
    before = enters_shift k f.before;
    itself = ap (is_folder b) (after_shift base part parts (suc k)) ∙ f.itself;
  }

  file_shift : (k : ℕ) → file_named base (part ∷ parts) (suc k) ≡ file_named (child base part) parts k
  file_shift k = ap (λ (d : Text). child_file d (get_or parts k [])) (after_shift base part parts k)

  says_enter : (l : Lookup) → Says b (child base part) parts l → Says b base (part ∷ parts) l
  says_enter (found p rest) s = record {
    segment = suc s.segment;
    first = first_shift s.segment s.first;
    names = s.names ∙ sym (file_shift s.segment);
    listed = s.listed;
    left = s.left;
  }
  says_enter (missing (in_folder p)) s = record { every = enters_shift (length parts) s.every; last = s.last ∙ sym (after_shift base part parts (length parts)) }
  says_enter (missing (no_path p)) s = record {
    segment = suc s.segment;
    first = first_shift s.segment s.first;
    names = s.names ∙ sym (file_shift s.segment);
    not_listed = s.not_listed;
  }

says : (b : Lists) (base : Text) (parts : List Text) → Says b base parts (build_and_verify_path b base parts)
unfolding build_and_verify_path folder_after
says b base [] = record { every = λ i h. absurd (not-suc-le-zero h); last = refl }
says b base (part ∷ parts) = go (is_folder b (child base part)) refl (exists b (child_file base part)) refl (says b (child base part) parts)
  where
    here : is_folder b (child base part) ≡ false → FirstNoFolder b base (part ∷ parts) 0
    here e = record { there = omega arith; before = λ i h. absurd (not-suc-le-zero h); itself = e }

    go : (t : Bool) → is_folder b (child base part) ≡ t → (u : Bool) → exists b (child_file base part) ≡ u
        → Says b (child base part) parts (build_and_verify_path b (child base part) parts)
        → Says b base (part ∷ parts) (cond t (build_and_verify_path b (child base part) parts) (cond u (found (child_file base part) parts) (missing (no_path (child_file base part)))))
    go true e u f s = says_enter b base part parts e (build_and_verify_path b (child base part) parts) s
    go false e true f s = record { segment = 0; first = here e; names = refl; listed = f; left = refl }
    go false e false f s = record { segment = 0; first = here e; names = refl; not_listed = f }

module _ (b : Lists) (base : Text) (parts : List Text) where
  -- there is one first segment that isn't a folder, at most
  pub first_one : (k j : ℕ) → FirstNoFolder b base parts k → FirstNoFolder b base parts j → k ≡ j
  first_one k j f g = go (ltb k j) (ltb j k) refl refl
    where
      go : (t u : Bool) → ltb k j ≡ t → ltb j k ≡ u → k ≡ j
      go true u e i = absurd (false_true (sym f.itself ∙ g.before k (ltb-true k j e)))
      go false true e i = absurd (false_true (sym g.itself ∙ f.before j (ltb-true j k i)))
      go false false e i = let x : j ≤ k = ltb-false k j e in let y : k ≤ j = ltb-false j k i in omega arith

  one-file : {p q : Text} (k j : ℕ) → FirstNoFolder b base parts k → FirstNoFolder b base parts j → p ≡ file_named base parts k → q ≡ file_named base parts j → p ≡ q
  one-file k j f g x y = x ∙ (ap (file_named base parts) (first_one k j f g) ∙ sym y)

  ran_on : (p : Text) (k : ℕ) → FirstNoFolder b base parts k → RanOut b base parts p → ⊥
  ran_on p k f r = false_true (sym f.itself ∙ r.every k f.there)

  -- FOUND exactly where the first segment that isn't a folder names, with `.simf` added, a file or a folder (C5). What
  -- follows that segment is left.
  pub found_exactly : (p : Text) (rest : List Text) → (build_and_verify_path b base parts ≡ found p rest) ↔ FoundAt b base parts p rest
  found_exactly p rest = (λ h. rw h at (says b base parts), λ f. go f (build_and_verify_path b base parts) (says b base parts))
    where
      go : FoundAt b base parts p rest → (l : Lookup) → Says b base parts l → l ≡ found p rest
      go f (found q r) s =
          let x : q ≡ p = one-file s.segment f.segment s.first f.first s.names f.names in
          let y : r ≡ rest = s.left ∙ (ap (λ (k : ℕ). drop (suc k) parts) (first_one s.segment f.segment s.first f.first) ∙ sym f.left) in
          cc
      go f (missing (in_folder q)) s = absurd (ran_on q f.segment f.first s)
      go f (missing (no_path q)) s =
          let x : q ≡ p = one-file s.segment f.segment s.first f.first s.names f.names in
          absurd (false_true (sym s.not_listed ∙ (ap (exists b) x ∙ f.listed)))

  -- MISSING exactly where the path that it names is neither a file nor a folder ..
  pub not-listed_exactly : (p : Text) → (build_and_verify_path b base parts ≡ missing (no_path p)) ↔ NotListed b base parts p
  not-listed_exactly p = (λ h. rw h at (says b base parts), λ f. go f (build_and_verify_path b base parts) (says b base parts))
    where
      go : NotListed b base parts p → (l : Lookup) → Says b base parts l → l ≡ missing (no_path p)
      go f (found q r) s =
          let x : q ≡ p = one-file s.segment f.segment s.first f.first s.names f.names in
          absurd (false_true (sym f.not_listed ∙ (ap (exists b) (sym x) ∙ s.listed)))
      go f (missing (in_folder q)) s = absurd (ran_on q f.segment f.first s)
      go f (missing (no_path q)) s =
          let x : q ≡ p = one-file s.segment f.segment s.first f.first s.names f.names in
          cc

  -- .. or the segments ran out: they all enter folders
  pub ran_out_exactly : (p : Text) → (build_and_verify_path b base parts ≡ missing (in_folder p)) ↔ RanOut b base parts p
  ran_out_exactly p = (λ h. rw h at (says b base parts), λ f. go f (build_and_verify_path b base parts) (says b base parts))
    where
      go : RanOut b base parts p → (l : Lookup) → Says b base parts l → l ≡ missing (in_folder p)
      go f (found q r) s = absurd (ran_on p s.segment s.first f)
      go f (missing (in_folder q)) s = let x : q ≡ p = s.last ∙ sym f.last in cc
      go f (missing (no_path q)) s = absurd (ran_on p s.segment s.first f)

-- 20 TO 25, IN WORDS: a use in a file, its first word and what follows it
module _ (b : Lists) (file : Text) where
  -- the file lies under no package root
  abbrev pub UnderNoRoot : Type 0
  UnderNoRoot = (p : Text) → Memᴰ p (package_roots b) → starts_with file p ≡ true → ⊥

  -- no remapping of the name has a context that is a prefix of the file
  abbrev pub NoRemapping : Text → Type 0
  NoRemapping name = (r : Remapping) → Memᴰ r b.remappings → r.name ≡ name → starts_with file r.context ≡ true → ⊥

  pub under_no_root : (get_package_root b file ≡ None) ↔ UnderNoRoot
  under_no_root = (none-rooted b file, λ u. go u (get_package_root b file) refl)
    where
      go : UnderNoRoot → (o : Option Text) → get_package_root b file ≡ o → o ≡ None
      go u None e = refl
      go u (Some p) e = let r = rooted b file p e in absurd (u p r.listed r.prefix)

  pub no_remapping : (name : Text) → (remapping_for b file name ≡ None) ↔ NoRemapping name
  no_remapping name = (none-taken b file name, λ u. go u (remapping_for b file name) refl)
    where
      go : NoRemapping name → (o : Option Remapping) → remapping_for b file name ≡ o → o ≡ None
      go u None e = refl
      go u (Some r) e = let t = taken b file name r e in absurd (u r t.listed t.named t.prefix)

  module _ (name : Text) (parts : List Text) where
    -- 21: not `crate`, and no remapping
    pub record UnknownLibrary : Type 0 where
      pub word : is_crate name ≡ false
      pub nothing : NoRemapping name

    -- 22: not `crate`, a remapping is taken, and the lookup below its target finds nothing
    pub record NoLibraryFile (m : Missing) : Type 0 where
      pub word : is_crate name ≡ false
      pub remapping : Remapping
      pub takes : remapping_for b file name ≡ Some remapping
      pub lookup : build_and_verify_path b remapping.target parts ≡ missing m

    -- 23: `crate`, the lookup below the importer's package root finds nothing, and the importer isn't directly in that root (C4)
    pub record NoFile (m : Missing) : Type 0 where
      pub word : is_crate name ≡ true
      pub root : Text
      pub roots : get_package_root b file ≡ Some root
      pub lookup : build_and_verify_path b root parts ≡ missing m
      pub not_in_root : directly_in file root ≡ false

    -- 24: external, found, and the importer has a package root, which is also that of the path found
    pub record OwnFile : Type 0 where
      pub word : is_crate name ≡ false
      pub remapping : Remapping
      pub takes : remapping_for b file name ≡ Some remapping
      pub path : Text
      pub rest : List Text
      pub lookup : build_and_verify_path b remapping.target parts ≡ found path rest
      pub root : Text
      pub importers : get_package_root b file ≡ Some root
      pub its_own : get_package_root b path ≡ Some root

    -- 25: `crate`, and the importer lies under no root
    pub record NoRoot : Type 0 where
      pub word : is_crate name ≡ true
      pub nothing : UnderNoRoot

    -- RESOLVED otherwise: `crate`, and found below the importer's package root ..
    pub record CrateFile (p : Text) (rest : List Text) : Type 0 where
      pub word : is_crate name ≡ true
      pub root : Text
      pub roots : get_package_root b file ≡ Some root
      pub lookup : build_and_verify_path b root parts ≡ found p rest

    -- .. or not found there, the importer directly in that root: to itself, the segments after `crate` left (C4) ..
    pub record Itself (p : Text) (rest : List Text) : Type 0 where
      pub word : is_crate name ≡ true
      pub root : Text
      pub roots : get_package_root b file ≡ Some root
      pub why : Missing
      pub lookup : build_and_verify_path b root parts ≡ missing why
      pub in_root : directly_in file root ≡ true
      pub is : p ≡ file
      pub left : rest ≡ parts

    -- .. or external, and found below the target of the remapping taken, under another package root than the importer's
    pub record LibraryFile (p : Text) (rest : List Text) : Type 0 where
      pub word : is_crate name ≡ false
      pub remapping : Remapping
      pub takes : remapping_for b file name ≡ Some remapping
      pub lookup : build_and_verify_path b remapping.target parts ≡ found p rest
      pub not_own : (root : Text) → get_package_root b file ≡ Some root → get_package_root b p ≡ Some root → ⊥

    abbrev pub ResolvesTo : Text → List Text → Type 0
    ResolvesTo p rest = CrateFile p rest ⊎ (Itself p rest ⊎ LibraryFile p rest)

    abbrev Meets : Resolved → Type 0
    Meets (to p rest) = ResolvesTo p rest
    Meets (fails empty_use_fault) = ⊥
    Meets (fails unknown_library_fault) = UnknownLibrary
    Meets (fails (no_library_file_fault m)) = NoLibraryFile m
    Meets (fails (no_file_fault m)) = NoFile m
    Meets (fails own_file_fault) = OwnFile
    Meets (fails no_root_fault) = NoRoot

-- one root, or not
one-root : (x y : Option Text) → same_root x y ≡ true → (root : Text) × ((x ≡ Some root) × (y ≡ Some root))
one-root None y h = absurd (false_true h)
one-root (Some p) None h = absurd (false_true h)
one-root (Some p) (Some q) h = (p, (refl, ap Some (sym (same-eq p q h))))

two-roots : (x y : Option Text) → same_root x y ≡ false → (root : Text) → x ≡ Some root → y ≡ Some root → ⊥
two-roots x y h root e f = false_true (sym (rw (e, f) at h) ∙ same_refl root)

module _ (b : Lists) (file name : Text) (parts : List Text) where
  meets : Meets b file name parts (resolve_path_internal b file (name ∷ parts))
  unfolding resolve_path_internal resolve_crate_path check_local_file_imported_as_external
  meets = go (is_crate name) refl
    where
      below : is_crate name ≡ true → (o : Option Text) → get_package_root b file ≡ o → Meets b file name parts (resolve_below b file parts o)
      below c None e = record { word = c; nothing = none-rooted b file e }
      below c (Some root) e = at (build_and_verify_path b root parts) refl
        where
          at : (l : Lookup) → build_and_verify_path b root parts ≡ l → Meets b file name parts (or_itself root file parts l)
          at (found p rest) f = inl (record { word = c; root = root; roots = e; lookup = f })
          at (missing m) f = in_it (directly_in file root) refl
            where
              in_it : (t : Bool) → directly_in file root ≡ t → Meets b file name parts (cond t (to file parts) (fails (no_file_fault m)))
              in_it true d = inr (inl (record { word = c; root = root; roots = e; why = m; lookup = f; in_root = d; is = refl; left = refl }))
              in_it false d = record { word = c; root = root; roots = e; lookup = f; not_in_root = d }

      outside : is_crate name ≡ false → (o : Option Remapping) → remapping_for b file name ≡ o → Meets b file name parts (resolve_external_path b file parts o)
      outside c None e = record { word = c; nothing = none-taken b file name e }
      outside c (Some r) e = at (build_and_verify_path b r.target parts) refl
        where
          at : (l : Lookup) → build_and_verify_path b r.target parts ≡ l → Meets b file name parts (external b file l)
          at (missing m) f = record { word = c; remapping = r; takes = e; lookup = f }
          at (found p rest) f = own (same_root (get_package_root b file) (get_package_root b p)) refl
            where
              own : (t : Bool) → same_root (get_package_root b file) (get_package_root b p) ≡ t → Meets b file name parts (cond t (fails own_file_fault) (to p rest))
              own true d =
                  let o = one-root (get_package_root b file) (get_package_root b p) d in
                  record { word = c; remapping = r; takes = e; path = p; rest = rest; lookup = f; root = o.0; importers = o.1.0; its_own = o.1.1 }
              own false d =
                  inr (inr (record { word = c; remapping = r; takes = e; lookup = f; not_own = two-roots (get_package_root b file) (get_package_root b p) d }))

      go : (t : Bool) → is_crate name ≡ t → Meets b file name parts (cond t (resolve_below b file parts (get_package_root b file)) (resolve_external_path b file parts (remapping_for b file name)))
      go true c = below c (get_package_root b file) refl
      go false c = outside c (remapping_for b file name) refl

-- 20 exactly where there is no segment
pub empty_use : (b : Lists) (file : Text) (segments : List Text) → (resolve_path_internal b file segments ≡ fails empty_use_fault) ↔ (segments ≡ [])
unfolding resolve_path_internal
empty_use b file segments = (there segments, λ e. rw e)
  where
    there : (l : List Text) → resolve_path_internal b file l ≡ fails empty_use_fault → l ≡ []
    there [] h = refl
    there (name ∷ parts) h = absurd (rw h at (meets b file name parts))

module _ (b : Lists) (file name : Text) (parts : List Text) where
  -- 21
  pub unknown_library : (resolve_path_internal b file (name ∷ parts) ≡ fails unknown_library_fault) ↔ UnknownLibrary b file name parts
  unfolding resolve_path_internal
  unknown_library = (λ h. rw h at (meets b file name parts), λ u. rw (u.word, (no_remapping b file name).1 u.nothing))

  -- 22
  pub no_library_file : (m : Missing) → (resolve_path_internal b file (name ∷ parts) ≡ fails (no_library_file_fault m)) ↔ NoLibraryFile b file name parts m
  unfolding resolve_path_internal
  no_library_file m = (λ h. rw h at (meets b file name parts), λ u. rw (u.word, u.takes, u.lookup))

  -- 23
  pub no_file : (m : Missing) → (resolve_path_internal b file (name ∷ parts) ≡ fails (no_file_fault m)) ↔ NoFile b file name parts m
  unfolding resolve_path_internal resolve_crate_path
  no_file m = (λ h. rw h at (meets b file name parts), λ u. rw (u.word, u.roots, u.lookup, u.not_in_root))

  -- 24
  pub own-file : (resolve_path_internal b file (name ∷ parts) ≡ fails own_file_fault) ↔ OwnFile b file name parts
  unfolding resolve_path_internal check_local_file_imported_as_external
  own-file = (λ h. rw h at (meets b file name parts), λ u. rw (u.word, u.takes, u.lookup, u.importers, u.its_own, same_refl u.root))

  -- 25
  pub no_root : (resolve_path_internal b file (name ∷ parts) ≡ fails no_root_fault) ↔ NoRoot b file name parts
  unfolding resolve_path_internal resolve_crate_path
  no_root = (λ h. rw h at (meets b file name parts), λ u. rw (u.word, (under_no_root b file).1 u.nothing))

  -- RESOLVED exactly otherwise
  pub resolved : (p : Text) (rest : List Text) → (resolve_path_internal b file (name ∷ parts) ≡ to p rest) ↔ ResolvesTo b file name parts p rest
  unfolding resolve_path_internal resolve_crate_path check_local_file_imported_as_external
  resolved p rest = (λ h. rw h at (meets b file name parts), λ u. ⊎_elim crate_found (λ v. ⊎_elim to-itself outside v) u)
    where
      crate_found : CrateFile b file name parts p rest → resolve_path_internal b file (name ∷ parts) ≡ to p rest
      crate_found u = rw (u.word, u.roots, u.lookup)

      to-itself : Itself b file name parts p rest → resolve_path_internal b file (name ∷ parts) ≡ to p rest
      to-itself u = rw (u.word, u.roots, u.lookup, u.in_root, u.is, u.left)

      outside : LibraryFile b file name parts p rest → resolve_path_internal b file (name ∷ parts) ≡ to p rest
      outside u =
          let other : same_root (get_package_root b file) (get_package_root b p) ≡ false =
          not_true (same_root (get_package_root b file) (get_package_root b p)) (λ d. let o = one-root (get_package_root b file) (get_package_root b p) d in u.not_own o.0 o.1.0 o.1.1) in
          rw (u.word, u.takes, u.lookup, other)

  -- AN IMPORTER UNDER NO ROOT never gets 24 ..
  pub never_own-file : UnderNoRoot b file → resolve_path_internal b file (name ∷ parts) ≡ fails own_file_fault → ⊥
  never_own-file u h = none-some (sym ((under_no_root b file).1 u) ∙ (own-file.0 h).importers)

  -- .. but what the lookup finds
  pub outside-found : UnderNoRoot b file → is_crate name ≡ false → (r : Remapping) → remapping_for b file name ≡ Some r → (p : Text) (rest : List Text)
      → build_and_verify_path b r.target parts ≡ found p rest → resolve_path_internal b file (name ∷ parts) ≡ to p rest
  outside-found u c r t p rest f =
      (resolved p rest).1 (inr (inr (record { word = c; remapping = r; takes = t; lookup = f; not_own = λ root e i. none-some (sym ((under_no_root b file).1 u) ∙ e) })))

-- THE CALL, where bundle and arguments are in form
answer-below : (b : Lists) (r : Resolved) → answer b r ≡ Refused 29 0 → ⊥
answer-below b (to p rest) h = no (member p b.files) h
  where
    no : (t : Bool) → cond t (File (position p b.files) (length rest)) (Folder (position p b.folders) (length rest)) ≡ Refused 29 0 → ⊥
    no true h = let z : ◌≡◌ {A = ℕ} 0 1 = cc in omega arith
    no false h = let z : ◌≡◌ {A = ℕ} 0 1 = cc in omega arith
answer-below b (fails e) h = let z : number e ≡ 29 = cc in no e z
  where
    no : (e : Fault) → number e ≡ 29 → ⊥
    no empty_use_fault z = omega arith
    no unknown_library_fault z = omega arith
    no (no_library_file_fault m) z = omega arith
    no (no_file_fault m) z = omega arith
    no own_file_fault z = omega arith
    no no_root_fault z = omega arith

-- 29 exactly where the importer isn't a listed file
pub unknown_importer : (b : Lists) (file : Text) (segments : List Text) → (resolve_in b file segments ≡ Refused 29 0) ↔ (member file b.files ≡ false)
unfolding resolve_in
unknown_importer b file segments = (λ h. not_true (member file b.files) (λ m. answer-below b (resolve_path_internal b file segments) (rw m at h)), λ m. rw m)
