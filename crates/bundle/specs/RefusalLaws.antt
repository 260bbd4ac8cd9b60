-- Laws behind the theorems of refusals: each test of 7 to 13, and the words that it stands for. Assumes nothing.
use Rattle.std.specs.Prelude.{ℕ, zero, suc, ◌+◌, ◌<◌, Bool, ◌&&◌, ◌≡◌, ◌⊎◌, ltb, get_or, take, drop}
use Rattle.std.proofs.Common.{suc-le-suc, not-suc-le-zero, le_of_suc-le-suc, sym, ◌∙◌, inl, inr, ⊎_elim, drop_of_length-le, ltb-true, ltb-false}
use native.Mathlib.Omega.{arith}
use Rattle.std.proofs.Math.Bool.{true, false, cond, not}
use Rattle.std.proofs.Math.Path.{refl, ap, subst}
use mathlib.Core.List.Memᴰ
use mathlib.Core.List.{List, [], ◌∷◌, ◌++◌, map, Memᴰ}
use Rattle.std.proofs.Math.ListN.{length}
use Rattle.std.proofs.Math.Seq.{take-nil}
use Rattle.names.specs.Bytes.{ascii, same, member, all, false_true, and_left, and_right, not_true, same-eq, equal-same}
use Rattle.names.specs.Path.{root, is_path, components, well_formed}
use Rattle.names.specs.PathTheorems.{form as path-form}
use Rattle.names.specs.Prefix.{directly_in, parent}
use Rattle.names.specs.FolderTheorems.{directly_in_parent, parent_directly_in}
use Rattle.names.specs.Identifier.{is_identifier}
use Rattle.names.specs.Keywords.{is_crate, is_keyword, keywords}
use Rattle.bundle.specs.Bundle.{Text, File, Remapping}
use Rattle.bundle.specs.Limits.{header}
use Rattle.bundle.specs.Scan.{byte, text}
use Rattle.bundle.specs.Decode.{each, far, after, after_file, after_remapping, decode, file_at, remapping_at, folder_count, folder_first, remapping_count, remapping_first, file_count, file_first}
use Rattle.bundle.specs.Conflicts.{Placed, PlacedRemapping, placed_at, placed_remapping_at, texts, or_else, any, listed, located, same_remapping, remapped, folders, files, remappings, all_folders}
use Rattle.bundle.specs.Conflicts.{named as name_told}
use Rattle.bundle.specs.ListLaws.{texts-each, each_at, each-length}
use Rattle.bundle.specs.Form.{InForm, IsPath, FormedFile, FormedRemapping}
use Rattle.bundle.specs.Free.{texts-append, paths-each}
use Rattle.bundle.specs.Answers.{refused-ok, refused-number, refused-place}
use Rattle.bundle.specs.Members.{member_true, mem_member, member_false, not-member, any_true, mem_any, every_mem, mem_get_d, mem_map}
use Rattle.bundle.specs.First.{first_told}
use Rattle.bundle.specs.Refusals.{IsFolder, paths, none, path_at, ListedBefore, as_root, as_earlier, remapping_of, Repeated, Reserved, OddName, Misplaced, nowhere, a_file}
use Rattle.bundle.specs.Refusals as words
use Rattle.bundle.specs.Results.{Checked}
use Rattle.bundle.specs.Results.{Ok, Refused}

-- ONE TEST AFTER ANOTHER
pub or-told : (a b : Checked) {n p : ℕ} → or_else a b ≡ Refused n p → (a ≡ Refused n p) ⊎ ((a ≡ Ok) × (b ≡ Refused n p))
or-told Ok b h = inr (refl, h)
or-told (Refused m q) b h = inl h

-- the test of a path, given those before it
unfoldable pub path_told : List Text → List Placed → Placed → Checked
path_told F seen p =
    cond (member p.string (root ∷ texts seen)) (Refused 7 p.place) (cond (any (directly_in p.string) F) Ok (Refused 8 p.place))

pub listed-first : (F : List Text) (ps seen : List Placed) → listed (root ∷ texts seen) F ps ≡ first_told (path_told F) seen ps
unfolding listed first_told path_told
listed-first F [] seen = refl
listed-first F (p ∷ ps) seen =
    go (member p.string (root ∷ texts seen)) (any (directly_in p.string) F) _ _
    (ap (λ (l : List Text). listed (root ∷ l) F ps) (sym (texts-append seen (p ∷ []))) ∙ listed-first F ps (seen ++ (p ∷ [])))
  where
    go : (a b : Bool) (X Y : Checked) → X ≡ Y
        → cond a (Refused 7 p.place) (cond b X (Refused 8 p.place)) ≡ or_else (cond a (Refused 7 p.place) (cond b Ok (Refused 8 p.place))) Y
    go true b X Y e = refl
    go false true X Y e = e
    go false false X Y e = refl

-- the test of a remapping, given those before it
unfoldable pub remap_told : List Text → List Text → List PlacedRemapping → PlacedRemapping → Checked
remap_told F G seen r =
    or_else (located F G r.context)
    (or_else (located F G r.target)
    (or_else (name_told r.name) (cond (any (same_remapping r) seen) (Refused 13 r.context.place) Ok)))

pub remapped-first : (F G : List Text) (l seen : List PlacedRemapping) → remapped F G seen l ≡ first_told (remap_told F G) seen l
unfolding remapped first_told remap_told
remapped-first F G [] seen = refl
remapped-first F G (r ∷ l) seen =
    go (located F G r.context) (located F G r.target) (name_told r.name) (any (same_remapping r) seen) _ _ (remapped-first F G l (seen ++ (r ∷ [])))
  where
    go : (a b c : Checked) (x : Bool) (X Y : Checked) → X ≡ Y
        → or_else a (or_else b (or_else c (cond x (Refused 13 r.context.place) X)))
        ≡ or_else (or_else a (or_else b (or_else c (cond x (Refused 13 r.context.place) Ok)))) Y
    go (Refused n p) b c x X Y e = refl
    go Ok (Refused n p) c x X Y e = refl
    go Ok Ok (Refused n p) x X Y e = refl
    go Ok Ok Ok true X Y e = refl
    go Ok Ok Ok false X Y e = e

-- WHAT STANDS BEFORE INDEX i
take_mem : {A : Type 0} (l : List A) (i : ℕ) (d : A) {a : A} → Memᴰ a (take i l) → (j : ℕ) × ((j < i) × (a ≡ get_or l j d))
take_mem [] zero d m = absurd (Memᴰ.not-nil m)
take_mem [] (suc i) d m = absurd (Memᴰ.not-nil m)
take_mem (x ∷ l) zero d m = absurd (Memᴰ.not-nil m)
take_mem {A} (x ∷ l) (suc i) d {a} m = go (Memᴰ.cases_cons m) (take_mem l i d)
  where
    go : (a ≡ x) ⊎ Memᴰ a (take i l) → (Memᴰ a (take i l) → (j : ℕ) × ((j < i) × (a ≡ get_or l j d))) → (j : ℕ) × ((j < suc i) × (a ≡ get_or (x ∷ l) j d))
    go (inl e) k = (0, (omega arith, e))
    go (inr m') k = let r = k m' in (suc r.0, (suc-le-suc r.1.0, r.1.1))

mem_take : {A : Type 0} (l : List A) (i j : ℕ) (d : A) → j < i → j < length l → Memᴰ (get_or l j d) (take i l)
mem_take [] i j d h k = absurd (not-suc-le-zero k)
mem_take (x ∷ l) zero j d h k = absurd (not-suc-le-zero h)
mem_take (x ∷ l) (suc i) zero d h k = Memᴰ.head refl
mem_take (x ∷ l) (suc i) (suc j) d h k = Memᴰ.tail (mem_take l i j d (le_of_suc-le-suc h) (le_of_suc-le-suc k))

texts_mem : (l : List Placed) {t : Text} → Memᴰ t (texts l) → (p : Placed) × (Memᴰ p l × (t ≡ p.string))
texts_mem [] m = absurd (Memᴰ.not-nil m)
texts_mem (p ∷ l) {t} m = go (Memᴰ.cases_cons m) (texts_mem l)
  where
    go : (t ≡ p.string) ⊎ Memᴰ t (texts l) → (Memᴰ t (texts l) → (q : Placed) × (Memᴰ q l × (t ≡ q.string)))
        → (q : Placed) × (Memᴰ q (p ∷ l) × (t ≡ q.string))
    go (inl e) k = (p, (Memᴰ.head refl, e))
    go (inr m') k = let r = k m' in (r.0, (Memᴰ.tail r.1.0, r.1.1))

-- A PATH'S TESTS
module _ (s : List ℕ) (i : ℕ) where
  pub before-only : member (path_at s i).string (root ∷ texts (take i (paths s))) ≡ true → ListedBefore s i
  before-only e = go (Memᴰ.cases_cons (member_true (path_at s i).string (root ∷ texts (take i (paths s))) e))
    where
      go : ((path_at s i).string ≡ root) ⊎ Memᴰ (path_at s i).string (texts (take i (paths s))) → ListedBefore s i
      go (inl q) = as_root q
      go (inr m) =
          let r = texts_mem (take i (paths s)) m in
          let k = take_mem (paths s) i none r.1.0 in
          as_earlier k.0 k.1.0 (r.1.1 ∙ ap (λ (p : Placed). p.string) k.1.1)

  pub before-all : i < length (paths s) → ListedBefore s i → member (path_at s i).string (root ∷ texts (take i (paths s))) ≡ true
  before-all h (as_root q) = mem_member (Memᴰ.head q)
  before-all h (as_earlier j b e) =
      mem_member (Memᴰ.tail (Memᴰ.cast e (mem_map (λ (p : Placed). p.string) (mem_take (paths s) i j none b (omega arith)))))

pub parent-only : (F : List Text) (t : Text) → ((d : Text) → Memᴰ d F → is_path d ≡ true) → any (directly_in t) F ≡ true → Memᴰ (parent t) F
parent-only F t P e =
    let r = any_true (directly_in t) F e in
    Memᴰ.cast (directly_in_parent t r.0 (P r.0 r.1.0) r.1.1) r.1.0

pub parent-all : (F : List Text) (t : Text) → is_path t ≡ true → (t ≡ root → ⊥) → Memᴰ (parent t) F → any (directly_in t) F ≡ true
parent-all F t h n m = mem_any (directly_in t) m (parent_directly_in t (parent t) h n refl)

-- 9 and 10
module _ (s : List ℕ) (p : Placed) where
  pub located_in : IsFolder s p.string → located (all_folders s) (texts (files s)) p ≡ Ok
  unfolding located
  located_in m = rw (mem_member m)

  pub located-ok : located (all_folders s) (texts (files s)) p ≡ Ok → IsFolder s p.string
  unfolding located
  located-ok h = go (member p.string (all_folders s)) refl (member p.string (texts (files s))) h
    where
      go : (a : Bool) → member p.string (all_folders s) ≡ a → (b : Bool) → cond a Ok (cond b (Refused 10 p.place) (Refused 9 p.place)) ≡ Ok → IsFolder s p.string
      go true e b h = member_true p.string (all_folders s) e
      go false e true h = absurd (refused-ok h)
      go false e false h = absurd (refused-ok h)

  pub located-only : {n q : ℕ} → located (all_folders s) (texts (files s)) p ≡ Refused n q → Misplaced s p.string n × (p.place ≡ q)
  unfolding located
  located-only {n} {q} h = go (member p.string (all_folders s)) refl (member p.string (texts (files s))) refl h
    where
      go : (a : Bool) → member p.string (all_folders s) ≡ a → (b : Bool) → member p.string (texts (files s)) ≡ b
          → cond a Ok (cond b (Refused 10 p.place) (Refused 9 p.place)) ≡ Refused n q → Misplaced s p.string n × (p.place ≡ q)
      go true e b f h = absurd (refused-ok (sym h))
      go false e true f h =
          (subst (λ (x : ℕ). Misplaced s p.string x) (refused-number h) (a_file (member_false e) (member_true p.string (texts (files s)) f)), refused-place h)
      go false e false f h =
          (subst (λ (x : ℕ). Misplaced s p.string x) (refused-number h) (nowhere (member_false e) (member_false f)), refused-place h)

  pub located-all : {n : ℕ} → Misplaced s p.string n → located (all_folders s) (texts (files s)) p ≡ Refused n p.place
  unfolding located
  located-all (nowhere a b) = rw (not-member p.string (all_folders s) a, not-member p.string (texts (files s)) b)
  located-all (a_file a b) = rw (not-member p.string (all_folders s) a, mem_member b)

-- 11 and 12
pub crate_only : (t : Text) → is_crate t ≡ true → Reserved t
unfolding is_crate
crate_only t e = same-eq t (ascii "crate") e

pub crate_all : (t : Text) → Reserved t → is_crate t ≡ true
unfolding is_crate
crate_all t e = equal-same t (ascii "crate") e

not_crate : (t : Text) → (Reserved t → ⊥) → is_crate t ≡ false
not_crate t f = not_true (is_crate t) (λ e. f (crate_only t e))

usual-only : (t : Text) → (is_identifier t && not (is_keyword t)) ≡ true → OddName t → ⊥
unfolding is_keyword
usual-only t e (words.form f) = false_true (sym f ∙ and_left (is_identifier t) (not (member t keywords)) e)
usual-only t e (words.keyword m) = false_true (sym (rw (mem_member m)) ∙ and_right (is_identifier t) (not (member t keywords)) e)

odd_only : (t : Text) → (is_identifier t && not (is_keyword t)) ≡ false → OddName t
unfolding is_keyword
odd_only t e = go (is_identifier t) refl (member t keywords) refl e
  where
    go : (a : Bool) → is_identifier t ≡ a → (b : Bool) → member t keywords ≡ b → (a && not b) ≡ false → OddName t
    go false f b g h = words.form f
    go true f true g h = words.keyword (member_true t keywords g)
    go true f false g h = absurd (false_true (sym h))

usual-all : (t : Text) → (OddName t → ⊥) → (is_identifier t && not (is_keyword t)) ≡ true
usual-all t f = go (is_identifier t && not (is_keyword t)) refl
  where
    go : (b : Bool) → (is_identifier t && not (is_keyword t)) ≡ b → b ≡ true
    go true e = refl
    go false e = absurd (f (odd_only t e))

odd_all : (t : Text) → OddName t → (is_identifier t && not (is_keyword t)) ≡ false
odd_all t o = not_true (is_identifier t && not (is_keyword t)) (λ e. usual-only t e o)

module _ (p : Placed) where
  pub name-ok : name_told p ≡ Ok → (Reserved p.string → ⊥) × (OddName p.string → ⊥)
  unfolding name_told
  name-ok h = go (is_crate p.string) refl (is_identifier p.string && not (is_keyword p.string)) refl h
    where
      go : (a : Bool) → is_crate p.string ≡ a → (b : Bool) → (is_identifier p.string && not (is_keyword p.string)) ≡ b
          → cond a (Refused 11 p.place) (cond b Ok (Refused 12 p.place)) ≡ Ok → (Reserved p.string → ⊥) × (OddName p.string → ⊥)
      go true e b f h = absurd (refused-ok h)
      go false e false f h = absurd (refused-ok h)
      go false e true f h = ((λ r. false_true (sym e ∙ crate_all p.string r)), usual-only p.string f)

  pub name_in : (Reserved p.string → ⊥) → (OddName p.string → ⊥) → name_told p ≡ Ok
  unfolding name_told
  name_in r o = rw (not_crate p.string r, usual-all p.string o)

  pub name-only : {n q : ℕ} → name_told p ≡ Refused n q → (((n ≡ 11) × Reserved p.string) ⊎ ((n ≡ 12) × ((Reserved p.string → ⊥) × OddName p.string))) × (p.place ≡ q)
  unfolding name_told
  name-only {n} {q} h = go (is_crate p.string) refl (is_identifier p.string && not (is_keyword p.string)) refl h
    where
      go : (a : Bool) → is_crate p.string ≡ a → (b : Bool) → (is_identifier p.string && not (is_keyword p.string)) ≡ b
          → cond a (Refused 11 p.place) (cond b Ok (Refused 12 p.place)) ≡ Refused n q
          → (((n ≡ 11) × Reserved p.string) ⊎ ((n ≡ 12) × ((Reserved p.string → ⊥) × OddName p.string))) × (p.place ≡ q)
      go true e b f h = (inl (sym (refused-number h), crate_only p.string e), refused-place h)
      go false e true f h = absurd (refused-ok (sym h))
      go false e false f h = (inr (sym (refused-number h), ((λ r. false_true (sym e ∙ crate_all p.string r)), odd_only p.string f)), refused-place h)

  pub name_11 : Reserved p.string → name_told p ≡ Refused 11 p.place
  unfolding name_told
  name_11 r = rw (crate_all p.string r)

  pub name_12 : (Reserved p.string → ⊥) → OddName p.string → name_told p ≡ Refused 12 p.place
  unfolding name_told
  name_12 r o = rw (not_crate p.string r, odd_all p.string o)

-- 13
module _ (s : List ℕ) (i : ℕ) where
  pub repeated-only : any (same_remapping (remapping_of s i)) (take i (remappings s)) ≡ true → Repeated s i
  unfolding same_remapping
  repeated-only e =
      let r = any_true (same_remapping (remapping_of s i)) (take i (remappings s)) e in
      let k = take_mem (remappings s) i (record { context = none; name = none; target = none }) r.1.0 in
      let c = and_left (same (remapping_of s i).context.string r.0.context.string) (same (remapping_of s i).name.string r.0.name.string) r.1.1 in
      let n = and_right (same (remapping_of s i).context.string r.0.context.string) (same (remapping_of s i).name.string r.0.name.string) r.1.1 in
      record {
        earlier = k.0;
        before = k.1.0;
        same_context = same-eq (remapping_of s i).context.string r.0.context.string c ∙ ap (λ (q : PlacedRemapping). q.context.string) k.1.1;
        same_name = same-eq (remapping_of s i).name.string r.0.name.string n ∙ ap (λ (q : PlacedRemapping). q.name.string) k.1.1;
      }

  pub repeated-all : i < length (remappings s) → Repeated s i → any (same_remapping (remapping_of s i)) (take i (remappings s)) ≡ true
  unfolding same_remapping
  repeated-all h r =
      let b = r.before in
      mem_any (same_remapping (remapping_of s i)) (mem_take (remappings s) i r.earlier (record { context = none; name = none; target = none }) b (omega arith))
      (rw (equal-same (remapping_of s i).context.string (remapping_of s r.earlier).context.string r.same_context, equal-same (remapping_of s i).name.string (remapping_of s r.earlier).name.string r.same_name))

-- WHAT IS LISTED
each_mem : {A : Type 0} (next : ℕ → ℕ) (get : ℕ → A) (n at : ℕ) {a : A} → Memᴰ a (each next get n at) → (x : ℕ) × (a ≡ get x)
unfolding each
each_mem next get zero at m = absurd (Memᴰ.not-nil m)
each_mem next get (suc n) at {a} m = go (Memᴰ.cases_cons m) (each_mem next get n (next at))
  where
    go : (a ≡ get at) ⊎ Memᴰ a (each next get n (next at)) → (Memᴰ a (each next get n (next at)) → (x : ℕ) × (a ≡ get x)) → (x : ℕ) × (a ≡ get x)
    go (inl e) k = (at, e)
    go (inr m') k = k m'

-- every listed path is a string with its place, and every remapping stands somewhere
pub path-placed : (s : List ℕ) (i : ℕ) → i < length (paths s) → (x : ℕ) × (path_at s i ≡ placed_at s x)
path-placed s i h = go (Memᴰ.append_cases (folders s) (mem_get_d (paths s) i none h))
  where
    go : Memᴰ (path_at s i) (folders s) ⊎ Memᴰ (path_at s i) (files s) → (x : ℕ) × (path_at s i ≡ placed_at s x)
    go (inl m) = each_mem (after s) (placed_at s) (folder_count s) (folder_first s) m
    go (inr m) = each_mem (after_file s) (placed_at s) (file_count s) (file_first s) m

-- IN FORM
root_path : is_path root ≡ true
unfolding is_path components well_formed all same
root_path = refl

module _ (s : List ℕ) (I : InForm (decode s)) where
  folder-path : (t : Text) → Memᴰ t (texts (folders s)) → is_path t ≡ true
  unfolding decode
  folder-path t m = every_mem IsPath I.folders (rw (texts-each s (after s) (folder_count s) (folder_first s)) at m)

  map_mem : (l : List File) {t : Text} → Memᴰ t (map (λ (f : File). f.path) l) → (f : File) × (Memᴰ f l × (t ≡ f.path))
  map_mem [] m = absurd (Memᴰ.not-nil m)
  map_mem (f ∷ l) {t} m = go (Memᴰ.cases_cons m) (map_mem l)
    where
      go : (t ≡ f.path) ⊎ Memᴰ t (map (λ (g : File). g.path) l) → (Memᴰ t (map (λ (g : File). g.path) l) → (g : File) × (Memᴰ g l × (t ≡ g.path)))
          → (g : File) × (Memᴰ g (f ∷ l) × (t ≡ g.path))
      go (inl e) k = (f, (Memᴰ.head refl, e))
      go (inr m') k = let r = k m' in (r.0, (Memᴰ.tail r.1.0, r.1.1))

  file-path : (t : Text) → Memᴰ t (texts (files s)) → is_path t ≡ true
  unfolding decode
  file-path t m =
      let m' = rw (paths-each s (file_count s) (file_first s)) at m in
      let r = map_mem (each (after_file s) (file_at s) (file_count s) (file_first s)) m' in
      let w : FormedFile r.0 = every_mem FormedFile I.files r.1.0 in
      rw r.1.1 w.0

  pub folders-path : (t : Text) → IsFolder s t → is_path t ≡ true
  folders-path t m = ⊎_elim (λ e. rw e root_path) (λ m'. folder-path t m') (Memᴰ.cases_cons m)

  pub listed-path : (i : ℕ) → i < length (paths s) → is_path (path_at s i).string ≡ true
  listed-path i h =
      let m = mem_get_d (paths s) i none h in
      ⊎_elim (λ a. folder-path (path_at s i).string (mem_map (λ (p : Placed). p.string) a)) (λ b. file-path (path_at s i).string (mem_map (λ (p : Placed). p.string) b))
      (Memᴰ.append_cases (folders s) m)

-- a path's string has a byte, so its place lies before the end
pub inside : (s : List ℕ) (at : ℕ) → is_path (text s at) ≡ true → at < length s
inside s at h = go (ltb at (length s)) refl
  where
    go : (b : Bool) → ltb at (length s) ≡ b → at < length s
    go true e = ltb-true at (length s) e
    go false e =
        let l = ltb-false at (length s) e in
        let z : drop (at + 1) s ≡ [] = drop_of_length-le s {i = at + 1} (omega arith) in
        let y : text s at ≡ [] = ap (λ (x : List ℕ). take (byte s at) x) z ∙ take-nil (byte s at) in
        let x : get_or (text s at) 0 0 ≡ 47 = (path-form (text s at) h).led_by in
        let w : ◌≡◌ {A = ℕ} 0 47 = rw y at x in
        absurd (omega arith)

-- WHERE THE PLACES LIE
module _ (s : List ℕ) (I : InForm (decode s)) where
  pub path_inside : (i : ℕ) → i < length (paths s) → (path_at s i).place < length s
  unfolding placed_at
  path_inside i h =
      let x = path-placed s i h in
      let t : is_path (text s x.0) ≡ true = subst (λ (p : Placed). is_path p.string ≡ true) x.1 (listed-path s I i h) in
      subst (λ (p : Placed). p.place < length s) (sym x.1) (inside s x.0 t)

  pub root-inside : header < length s
  unfolding decode
  root-inside = inside s header I.root

  abbrev remapping_place : ℕ → ℕ
  remapping_place i = far (after_remapping s) i (remapping_first s)

  remapping-placed : (i : ℕ) → i < length (remappings s) → remapping_of s i ≡ placed_remapping_at s (remapping_place i)
  remapping-placed i h =
      let l = each-length (after_remapping s) (placed_remapping_at s) (remapping_count s) (remapping_first s) in
      each_at (after_remapping s) (placed_remapping_at s) (remapping_count s) i (remapping_first s) (record { context = none; name = none; target = none }) (omega arith)

  remapping-formed : (i : ℕ) → i < length (remappings s) → FormedRemapping (remapping_at s (remapping_place i))
  unfolding decode
  remapping-formed i h =
      let l = each-length (after_remapping s) (placed_remapping_at s) (remapping_count s) (remapping_first s) in
      let k = each-length (after_remapping s) (remapping_at s) (remapping_count s) (remapping_first s) in
      let no : Remapping = record { context = []; name = []; target = [] } in
      let e = each_at (after_remapping s) (remapping_at s) (remapping_count s) i (remapping_first s) no (omega arith) in
      subst FormedRemapping e (every_mem FormedRemapping I.remappings (mem_get_d (each (after_remapping s) (remapping_at s) (remapping_count s) (remapping_first s)) i no (omega arith)))

  pub remapping-inside : (i : ℕ) → i < length (remappings s)
      → ((remapping_of s i).context.place < length s) × ((remapping_of s i).name.place < length s) × ((remapping_of s i).target.place < length s)
  unfolding placed_remapping_at placed_at remapping_at
  remapping-inside i h =
      let f = remapping-formed i h in
      let c : remapping_place i < length s = inside s (remapping_place i) f.0 in
      let t : after s (after s (remapping_place i)) < length s = inside s (after s (after s (remapping_place i))) f.1.1 in
      let n : after s (remapping_place i) < length s = omega arith in
      rw (remapping-placed i h) (c, n, t)
