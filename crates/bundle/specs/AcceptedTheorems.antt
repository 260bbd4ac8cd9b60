-- WHAT ACCEPTANCE IMPLIES, said once: what holds of the value of every bundle that is not refused. Assumes nothing.
use Rattle.std.specs.Prelude.{ℕ, zero, suc, ◌≤◌, ◌<◌, Bool, true, false, ◌&&◌, not, ◌≡◌, refl, length, get_or}
use Rattle.std.proofs.Common.{not-suc-le-zero, le_of_suc-le-suc, arith, ⊎_elim, sym, ap}
use mathlib.Core.List.Memᴰ
use mathlib.Core.List.{List, [], ◌∷◌, ◌++◌, map, Memᴰ}
use Rattle.names.specs.Bytes.{same, member, equal-same, false_true, and_left, and_right}
use Rattle.names.specs.Path.{is_path, components, well_formed}
use Rattle.names.specs.Path.{root as slash-path}
use Rattle.names.specs.Prefix.{directly_in, parent}
use Rattle.names.specs.Identifier.{is_identifier}
use Rattle.names.specs.Keywords.{is_crate, is_keyword}
use Rattle.names.specs.FolderTheorems.{directly_in_parent}
use Rattle.bundle.specs.Bundle.{Text, Remapping, File, Bundle, with_slash}
use Rattle.bundle.specs.Limits.{capacity, folder_limit, remapping_limit, file_limit, item_limit, use_limit, depth_limit}
use Rattle.bundle.specs.declared.Width.TheVariants.{Word}
use Rattle.bundle.specs.Encode.{fields}
use Rattle.bundle.specs.Conflicts.{any}
use Rattle.bundle.specs.Stand.{Bytes}
use Rattle.bundle.specs.Read.{value, read}
use Rattle.bundle.specs.Form.{Every, IsPath, IsName, FormedRemapping, FormedFile, Formed, file_items, file_uses, fresh, usable, alike, usable_all, WellFormed}
use Rattle.bundle.specs.Members.{member_true, mem_member, any_true, mem_any, every_mem, mem_get_d}
use Rattle.bundle.specs.Versions.{folders-within, files-within, uses-within}
use Rattle.bundle.specs.Theorems.{sound}

-- the paths that are listed, folders before files
abbrev pub paths_listed : Bundle → List Text
paths_listed b = b.folders ++ map (λ f. f.path) b.files

-- a remapping's name that is kept: 11, 12
pub record UsableName (t : Text) : Type 0 where
  pub identifier : IsName t
  pub no_crate : is_crate t ≡ false
  pub no_keyword : is_keyword t ≡ false

pub record Accepted (b : Bundle) : Type 0 where
  -- 3: at least one file, and nothing over its limit
  pub some_file : 1 ≤ length b.files
  pub file_count_within : length b.files ≤ file_limit
  pub folder_count_within : length b.folders ≤ folder_limit
  pub remapping_count_within : length b.remappings ≤ remapping_limit
  pub item_count_within : file_items b.files ≤ item_limit
  pub use_count_within : file_uses b.files ≤ use_limit
  -- the header's length counts it
  pub size : length (fields b) < capacity Word
  -- 4 to 6: every path and every item is in form
  pub root_path : IsPath b.root
  pub paths : (p : Text) → Memᴰ p (paths_listed b) → IsPath p
  pub context_path : (r : Remapping) → Memᴰ r b.remappings → IsPath r.context
  pub target_path : (r : Remapping) → Memᴰ r b.remappings → IsPath r.target
  pub items : (f : File) → Memᴰ f b.files → Formed f.items depth_limit
  -- 7: every two listed paths differ, and none is `/`
  pub path_once : (i j : ℕ) → i < length (paths_listed b) → j < length (paths_listed b) → get_or (paths_listed b) i [] ≡ get_or (paths_listed b) j [] → i ≡ j
  pub not_slash : Memᴰ slash-path (paths_listed b) → ⊥
  -- 8: every parent is `/` or a listed folder
  pub parents : (p : Text) → Memᴰ p (paths_listed b) → Memᴰ (parent p) (with_slash b.folders)
  -- 9, 10: root, contexts and targets are `/` or listed folders
  pub root_listed : Memᴰ b.root (with_slash b.folders)
  pub context_listed : (r : Remapping) → Memᴰ r b.remappings → Memᴰ r.context (with_slash b.folders)
  pub target_listed : (r : Remapping) → Memᴰ r b.remappings → Memᴰ r.target (with_slash b.folders)
  -- 11, 12
  pub names : (r : Remapping) → Memᴰ r b.remappings → UsableName r.name
  -- 13: no context has a name twice
  pub remapping_once : (i j : ℕ) (d : Remapping) → i < length b.remappings → j < length b.remappings
      → (get_or b.remappings i d).context ≡ (get_or b.remappings j d).context → (get_or b.remappings i d).name ≡ (get_or b.remappings j d).name → i ≡ j

-- TESTS
not-held : (x : Bool) → not x ≡ true → x ≡ true → ⊥
not-held true h k = false_true h
not-held false h k = false_true k

not_false : (x : Bool) → not x ≡ true → x ≡ false
not_false true h = absurd (false_true h)
not_false false h = refl

file-form : (l : List File) → Every FormedFile l → (p : Text) → Memᴰ p (map (λ f. f.path) l) → IsPath p
unfolding Every
file-form [] e p m = absurd (Memᴰ.not-nil m)
file-form (f ∷ l) e p m = ⊎_elim (λ q. rw q e.0.0) (λ n. file-form l e.1 p n) (Memᴰ.cases_cons m)

-- PATHS, 7 and 8
module _ (F : List Text) where
  record FreshHead (seen : List Text) (p : Text) (l : List Text) : Type 0 where
    new : Memᴰ p seen → ⊥
    below : any (directly_in p) F ≡ true
    rest : fresh (seen ++ (p ∷ [])) F l ≡ true

  fresh-head : (seen : List Text) (p : Text) (l : List Text) → fresh seen F (p ∷ l) ≡ true → FreshHead seen p l
  unfolding fresh
  fresh-head seen p l h =
      let a = and_left (not (member p seen)) _ h in
      let b = and_right (not (member p seen)) (any (directly_in p) F && fresh (seen ++ (p ∷ [])) F l) h in
      record {
        new = λ m. not-held (member p seen) a (mem_member m);
        below = and_left (any (directly_in p) F) (fresh (seen ++ (p ∷ [])) F l) b;
        rest = and_right (any (directly_in p) F) (fresh (seen ++ (p ∷ [])) F l) b;
      }

  -- none was seen before
  fresh-new : (seen l : List Text) → fresh seen F l ≡ true → (p : Text) → Memᴰ p l → Memᴰ p seen → ⊥
  fresh-new seen [] h p m k = Memᴰ.not-nil m
  fresh-new seen (q ∷ l) h p m k =
      let d = fresh-head seen q l h in
      ⊎_elim (λ e. d.new (Memᴰ.cast (sym e) k)) (λ n. fresh-new (seen ++ (q ∷ [])) l d.rest p n (Memᴰ.append_left (q ∷ []) k)) (Memᴰ.cases_cons m)

  fresh-below : (seen l : List Text) → fresh seen F l ≡ true → (p : Text) → Memᴰ p l → any (directly_in p) F ≡ true
  fresh-below seen [] h p m = absurd (Memᴰ.not-nil m)
  fresh-below seen (q ∷ l) h p m =
      let d = fresh-head seen q l h in
      ⊎_elim (λ e. rw e d.below) (λ n. fresh-below (seen ++ (q ∷ [])) l d.rest p n) (Memᴰ.cases_cons m)

  fresh-once : (seen l : List Text) → fresh seen F l ≡ true → (i j : ℕ) → i < length l → j < length l → get_or l i [] ≡ get_or l j [] → i ≡ j
  fresh-once seen [] h i j k m e = absurd (not-suc-le-zero k)
  fresh-once seen (q ∷ l) h zero zero k m e = refl
  fresh-once seen (q ∷ l) h zero (suc j) k m e =
      absurd (fresh-new (seen ++ (q ∷ [])) l (fresh-head seen q l h).rest q (Memᴰ.cast e (mem_get_d l j [] (le_of_suc-le-suc m))) (Memᴰ.append_right seen (Memᴰ.head refl)))
  fresh-once seen (q ∷ l) h (suc i) zero k m e =
      absurd (fresh-new (seen ++ (q ∷ [])) l (fresh-head seen q l h).rest q (Memᴰ.cast (sym e) (mem_get_d l i [] (le_of_suc-le-suc k))) (Memᴰ.append_right seen (Memᴰ.head refl)))
  fresh-once seen (q ∷ l) h (suc i) (suc j) k m e =
      ap suc (fresh-once (seen ++ (q ∷ [])) l (fresh-head seen q l h).rest i j (le_of_suc-le-suc k) (le_of_suc-le-suc m) e)

-- REMAPPINGS, 9 to 13
module _ (F : List Text) where
  record UsableHead (seen : List Remapping) (r : Remapping) (l : List Remapping) : Type 0 where
    context : Memᴰ r.context F
    target : Memᴰ r.target F
    name : usable r.name ≡ true
    new : any (alike r) seen ≡ true → ⊥
    rest : usable_all F (seen ++ (r ∷ [])) l ≡ true

  usable-head : (seen : List Remapping) (r : Remapping) (l : List Remapping) → usable_all F seen (r ∷ l) ≡ true → UsableHead seen r l
  unfolding usable_all
  usable-head seen r l h =
      let a = and_right (member r.context F) _ h in
      let b = and_right (member r.target F) _ a in
      let c = and_right (usable r.name) _ b in
      record {
        context = member_true _ F (and_left (member r.context F) _ h);
        target = member_true _ F (and_left (member r.target F) _ a);
        name = and_left (usable r.name) _ b;
        new = not-held (any (alike r) seen) (and_left (not (any (alike r) seen)) _ c);
        rest = and_right (not (any (alike r) seen)) _ c;
      }

  record UsableOne (r : Remapping) : Type 0 where
    context : Memᴰ r.context F
    target : Memᴰ r.target F
    name : usable r.name ≡ true

  usable-each : (seen l : List Remapping) → usable_all F seen l ≡ true → (r : Remapping) → Memᴰ r l → UsableOne r
  usable-each seen [] h r m = absurd (Memᴰ.not-nil m)
  usable-each seen (q ∷ l) h r m =
      let d = usable-head seen q l h in
      ⊎_elim (λ e. rw e (record { context = d.context; target = d.target; name = d.name })) (λ n. usable-each (seen ++ (q ∷ [])) l d.rest r n) (Memᴰ.cases_cons m)

  alike-new : (seen l : List Remapping) → usable_all F seen l ≡ true → (q x : Remapping) → Memᴰ q l → Memᴰ x seen → alike q x ≡ true → ⊥
  alike-new seen [] h q x m n e = Memᴰ.not-nil m
  alike-new seen (r ∷ l) h q x m n e =
      let d = usable-head seen r l h in
      ⊎_elim (λ i. d.new (mem_any (alike r) n (rw i at e)))
      (λ k. alike-new (seen ++ (r ∷ [])) l d.rest q x k (Memᴰ.append_left (r ∷ []) n) e) (Memᴰ.cases_cons m)

  alike_is : (r q : Remapping) → r.context ≡ q.context → r.name ≡ q.name → alike r q ≡ true
  unfolding alike
  alike_is r q e f = rw (equal-same _ _ e, equal-same _ _ f)

  usable-once : (seen l : List Remapping) → usable_all F seen l ≡ true → (i j : ℕ) (d : Remapping) → i < length l → j < length l
      → (get_or l i d).context ≡ (get_or l j d).context → (get_or l i d).name ≡ (get_or l j d).name → i ≡ j
  usable-once seen [] h i j d k m e f = absurd (not-suc-le-zero k)
  usable-once seen (q ∷ l) h zero zero d k m e f = refl
  usable-once seen (q ∷ l) h zero (suc j) d k m e f =
      absurd (alike-new (seen ++ (q ∷ [])) l (usable-head seen q l h).rest (get_or l j d) q (mem_get_d l j d (le_of_suc-le-suc m)) (Memᴰ.append_right seen (Memᴰ.head refl)) (alike_is (get_or l j d) q (sym e) (sym f)))
  usable-once seen (q ∷ l) h (suc i) zero d k m e f =
      absurd (alike-new (seen ++ (q ∷ [])) l (usable-head seen q l h).rest (get_or l i d) q (mem_get_d l i d (le_of_suc-le-suc k)) (Memᴰ.append_right seen (Memᴰ.head refl)) (alike_is (get_or l i d) q e f))
  usable-once seen (q ∷ l) h (suc i) (suc j) d k m e f =
      ap suc (usable-once (seen ++ (q ∷ [])) l (usable-head seen q l h).rest i j d (le_of_suc-le-suc k) (le_of_suc-le-suc m) e f)

usable-name : (t : Text) → usable t ≡ true → UsableName t
unfolding usable
usable-name t h =
    let a = and_right (not (is_crate t)) (is_identifier t && not (is_keyword t)) h in
    record {
      identifier = and_left (is_identifier t) (not (is_keyword t)) a;
      no_crate = not_false (is_crate t) (and_left (not (is_crate t)) _ h);
      no_keyword = not_false (is_keyword t) (and_right (is_identifier t) (not (is_keyword t)) a);
    }

slash-form : IsPath slash-path
unfolding is_path components same well_formed Rattle.names.specs.Bytes.all
slash-form = refl

-- OF EVERY WELL-FORMED BUNDLE
module _ (b : Bundle) (w : WellFormed b) where
  folder-form : (d : Text) → Memᴰ d (with_slash b.folders) → IsPath d
  folder-form d m = ⊎_elim (λ e. rw e slash-form) (λ n. every_mem IsPath w.form.folders n) (Memᴰ.cases_cons m)

  path-form : (p : Text) → Memᴰ p (paths_listed b) → IsPath p
  path-form p m = ⊎_elim (λ n. every_mem IsPath w.form.folders n) (λ n. file-form b.files w.form.files p n) (Memᴰ.append_cases b.folders m)

  parent_listed : (p : Text) → Memᴰ p (paths_listed b) → Memᴰ (parent p) (with_slash b.folders)
  parent_listed p m =
      let d = any_true (directly_in p) (with_slash b.folders) (fresh-below (with_slash b.folders) (slash-path ∷ []) (paths_listed b) w.free.paths p m) in
      Memᴰ.cast (directly_in_parent p d.0 (folder-form d.0 d.1.0) d.1.1) d.1.0

  pub accepted_implies : Accepted b
  accepted_implies =
      let each : (r : Remapping) → Memᴰ r b.remappings → FormedRemapping r = λ r m. every_mem FormedRemapping w.form.remappings m in
      let one = usable-each (with_slash b.folders) [] b.remappings w.free.remappings in
      record {
        some_file = w.form.some_file;
        file_count_within = omega (arith, w.form.file_count_within, files-within b.version);
        folder_count_within = omega (arith, w.form.folder_count_within, folders-within b.version);
        remapping_count_within = w.form.remapping_count_within;
        item_count_within = w.form.item_count_within;
        use_count_within = omega (arith, w.form.use_count_within, uses-within b.version);
        size = w.form.size;
        root_path = w.form.root;
        paths = path-form;
        context_path = λ r m. (each r m).0;
        target_path = λ r m. (each r m).1.1;
        items = λ f m. (every_mem FormedFile w.form.files m).1;
        path_once = fresh-once (with_slash b.folders) (slash-path ∷ []) (paths_listed b) w.free.paths;
        not_slash = λ m. fresh-new (with_slash b.folders) (slash-path ∷ []) (paths_listed b) w.free.paths slash-path m (Memᴰ.head refl);
        parents = parent_listed;
        root_listed = member_true b.root (with_slash b.folders) w.free.root;
        context_listed = λ r m. (one r m).context;
        target_listed = λ r m. (one r m).target;
        names = λ r m. usable-name r.name (one r m).name;
        remapping_once = usable-once (with_slash b.folders) [] b.remappings w.free.remappings;
      }

-- OF EVERY ACCEPTED BUNDLE
pub accepted-read : (s : List ℕ) → Bytes s → (b : Bundle) → read s ≡ value b → Accepted b
accepted-read s B b h = accepted_implies b (sound s B b h).1
