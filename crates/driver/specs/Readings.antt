-- A reading on the record is `load` on paths. Assumes nothing.
use Prim.Native.Nat.{ℕ, zero, suc, ◌+◌, ◌≤◌, ◌<◌}
use Rattle.std.proofs.Common.{add-one, ◌∙◌, length-append, take-suc, take-suc-set, length-take-le, get_or-take, arith, ⊎_elim, sym, ap, subst, lt-ltb, le-ltb, ltb-true, ltb-false, eqb-true}
use Rattle.std.specs.Prelude.{Bool, true, false, cond, ◌≡◌, refl, eqb, ltb, take, drop, set, length, get_or}
use mathlib.Core.List.Memᴰ
use mathlib.Core.List.{List, [], ◌∷◌, ◌++◌, map, Memᴰ}
use Rattle.std.proofs.lemmas.Bool.{eqb-false}
use Rattle.std.proofs.lemmas.List.{length-map, drop-append-le}
use Rattle.std.proofs.Math.Seq.{take-set-le}
use Rattle.refusal.specs.declared.Cause.TheVariants.{NoFile}
use Rattle.refusal.specs.Numbers.{refusal}
use Rattle.names.specs.Bytes.{same, member, false_true, same_refl, different}
use Rattle.bundle.specs.Bundle.{Text}
use Rattle.bundle.specs.Limits.{file_limit, folder_limit, use_limit}
use Rattle.resolution.specs.Lists.{Lists}
use Rattle.resolution.specs.Call.{position}
use Rattle.resolution.specs.declared.Target.{Target}
use Rattle.resolution.specs.declared.Target.TheVariants.{File, Folder}
use Rattle.driver.specs.declared.record.Graph.{Graph}
use Rattle.driver.specs.declared.record.Import.{Import as Gathered}
use Rattle.driver.specs.declared.readings.Reading.TheVariants.{Nothing, Listed, New, Told}
use Rattle.discovery.specs.Discovery.{Import, Loading, holds, add_once, load, load_all}
use Rattle.discovery.specs.Reached.{Once}
use Rattle.discovery.specs.Facts.{get_d_mem, map_snoc, cond_elim, mem_member, member_false, not-member, mem_snoc, once_snoc, pigeons}
use Rattle.discovery.specs.Search.{index_in, eqb-swap, holds-index}
use Rattle.driver.specs.Record.{pushed_fault, pushed_unit, pushed_id, pushed_unread, unit_of, is_unread, applied, no_import, read_import, NewRoom, ReadRoom, read_to, ReadsRoom, Wide, wide_fault, wide_unit, wide_id, wide_unread}
use Rattle.driver.specs.Meaning.{FirstOf, faults_of, file_path, folder_path, target_path, import_told, Aimed, AllAimed, pushed, pushed_mem, fault-pushed}

module _ (l : List Text) where
  abbrev at : ℕ → Text
  at x = get_or l x []

  first-same : (x y : ℕ) → FirstOf l x → FirstOf l y → same (at x) (at y) ≡ eqb y x
  first-same x y f g = go (eqb y x) refl
    where
      go : (t : Bool) → eqb y x ≡ t → same (at x) (at y) ≡ t
      go true e = rw (eqb-true y x e) (same_refl (at x))
      go false e = different (at x) (at y) (λ q. eqb-false y x e (sym g.first ∙ (ap (λ (p : Text). position p l) (sym q) ∙ f.first)))

  -- to look for a path among paths is to look for its place among places
  module _ (x : ℕ) (f : FirstOf l x) where
    pub place_is : (k : List ℕ) → ((y : ℕ) → Memᴰ y k → FirstOf l y) → position (at x) (map at k) ≡ index_in x k
    unfolding position index_in
    place_is [] h = refl
    place_is (y ∷ k) h =
        rw (first-same x y f (h y (Memᴰ.head refl)), place_is k (λ z m. h z (Memᴰ.tail m)))

    held : (k : List ℕ) → ((y : ℕ) → Memᴰ y k → FirstOf l y) → member (at x) (map at k) ≡ holds x k
    unfolding member holds
    held [] h = refl
    held (y ∷ k) h = rw (first-same x y f (h y (Memᴰ.head refl)), held k (λ z m. h z (Memᴰ.tail m)), eqb-swap y x) refl

    pub member_is : (k : List ℕ) → ((y : ℕ) → Memᴰ y k → FirstOf l y) → member (at x) (map at k) ≡ ltb (index_in x k) (length k)
    member_is k h = held k h ∙ holds-index x k

-- what is in a list has a place below its length
index_mem : {x : ℕ} {k : List ℕ} → Memᴰ x k → index_in x k < length k
unfolding index_in
index_mem {x} {k = y ∷ k} m =
    cond_elim (λ n. n < length (y ∷ k)) (eqb y x) {x = 0} {y = suc (index_in x k)} (λ e. omega arith)
    (λ e. let r = ⊎_elim (λ q. absurd (eqb-false y x e (sym q))) (λ w. index_mem w) (Memᴰ.cases_cons m) in omega arith)
index_mem {x} {k = []} m = absurd (Memᴰ.not-nil m)

holds_mem : {x : ℕ} {k : List ℕ} → Memᴰ x k → holds x k ≡ true
holds_mem {x} {k} m = holds-index x k ∙ lt-ltb (index_in x k) (length k) (index_mem m)

-- different numbers below n are no more than n
unfoldable up_to : ℕ → List ℕ
up_to zero = []
up_to (suc n) = n ∷ up_to n

up_to-length : (n : ℕ) → length (up_to n) ≡ n
unfolding up_to
up_to-length zero = refl
up_to-length (suc n) = ap suc (up_to-length n)

up_to_mem : (n x : ℕ) → x < n → Memᴰ x (up_to n)
unfolding up_to
up_to_mem zero x h = absurd (omega arith)
up_to_mem (suc n) x h = go (eqb x n) refl (up_to_mem n x)
  where
    go : (t : Bool) → eqb x n ≡ t → (x < n → Memᴰ x (up_to n)) → Memᴰ x (n ∷ up_to n)
    go true e k = Memᴰ.head (eqb-true x n e)
    go false e k = let ne = eqb-false x n e in Memᴰ.tail (k (omega arith))

pub few-places : {k : List ℕ} → Once k → (n : ℕ) → ((x : ℕ) → Memᴰ x k → x < n) → length k ≤ n
few-places {k} o n h = let p = pigeons o (up_to n) (λ x m. up_to_mem n x (h x m)) in omega (arith, up_to-length n)

-- THE RECORD AS PATHS
abbrev pub sources_of : Lists → Graph → List Text
sources_of b g = map (file_path b) (take g.units g.files)

abbrev pub invalid_of : Lists → Graph → List Text
invalid_of b g = map (folder_path b) (take g.unread g.folders)

-- while the imports of a unit are loaded whose list starts at first
abbrev pub loading_of : Lists → ℕ → Graph → Loading
loading_of b first g = record {
  sources = sources_of b g;
  list = drop first (take g.count g.ids);
  invalid = invalid_of b g;
  faults = faults_of g;
}

-- what each reading keeps
pub record Kept (b : Lists) (first : ℕ) (g : Graph) : Type 0 where
  pub wide : Wide g
  pub list : first ≤ g.count
  pub units : (x : ℕ) → Memᴰ x (take g.units g.files) → FirstOf b.files x
  pub units_once : Once (take g.units g.files)
  pub units_fit : g.units ≤ length b.files
  pub unread : (x : ℕ) → Memᴰ x (take g.unread g.folders) → FirstOf b.folders x
  pub no_files : (x : ℕ) → Memᴰ x (take g.unread g.folders) → member (folder_path b x) b.files ≡ false
  pub unread_once : Once (take g.unread g.folders)
  pub unread_fit : g.unread ≤ length b.folders

-- what a reading leaves as it was, and how far it grows
pub record Grown (g r : Graph) : Type 0 where
  pub start : r.start ≡ g.start
  pub len : r.len ≡ g.len
  pub imports : r.imports ≡ g.imports
  pub import_count : r.import_count ≡ g.import_count
  pub more : g.count ≤ r.count
  pub ids : (k : ℕ) → k ≤ g.count → take k r.ids ≡ take k g.ids
  pub units_more : g.units ≤ r.units
  pub files : (k : ℕ) → k ≤ g.units → take k r.files ≡ take k g.files

pub record After (b : Lists) (first : ℕ) (g : Graph) (i : Import) (r : Graph) : Type 0 where
  pub is : loading_of b first r ≡ load b.files i (loading_of b first g)
  pub kept : Kept b first r
  pub grown : Grown g r
  pub ids_more : r.count ≤ g.count + 1
  pub faults_more : r.fault_count ≤ g.fault_count + 1

pub grown-none : (g : Graph) → Grown g g
grown-none g = record { start = refl; len = refl; imports = refl; import_count = refl; more = omega arith; ids = λ k h. refl; units_more = omega arith; files = λ k h. refl }

module _ (l : List ℕ) (n x : ℕ) (h : n < length l) where
  pushed-once : Once (take n l) → (Memᴰ x (take n l) → ⊥) → Once (take (n + 1) (set l n x))
  pushed-once o f = rw (add-one n, take-suc-set l n x h) (once_snoc o f)

module _ (b : Lists) (first : ℕ) (g : Graph) (k : Kept b first g) (few : length b.files ≤ file_limit) (folders-few : length b.folders ≤ folder_limit) (room : g.count < use_limit) (faults-room : g.fault_count < use_limit) where
  units-are : length (take g.units g.files) ≡ g.units
  units-are = let a = k.wide in let u = k.units_fit in length-take-le g.units g.files (omega arith)

  unread-are : length (take g.unread g.folders) ≡ g.unread
  unread-are = let a = k.wide in let u = k.unread_fit in length-take-le g.unread g.folders (omega arith)

  -- no file could not be read
  files_valid : (p : Text) → member p b.files ≡ true → member p (invalid_of b g) ≡ false
  files_valid p m = not-member p (invalid_of b g) (λ w.
      let t = Memᴰ.of_map (folder_path b) (take g.unread g.folders) w in
      false_true (sym (k.no_files t.0 t.1) ∙ (ap (λ (q : Text). member q b.files) t.2 ∙ m)))

  -- every unit is a file
  sources-files : (p : Text) → member p b.files ≡ false → member p (sources_of b g) ≡ false
  sources-files p m = not-member p (sources_of b g) (λ w.
      let t = Memᴰ.of_map (file_path b) (take g.units g.files) w in
      let f = k.units t.0 t.1 in
      member_false m (Memᴰ.cast (sym t.2) (at_mem b.files t.0 f.within)))
    where
      at_mem : (l : List Text) (x : ℕ) → x < length l → Memᴰ (get_or l x []) l
      at_mem l x h = get_d_mem l x [] h

  -- A FILE, by its first place
  module _ (t mark : ℕ) (f : FirstOf b.files t) where
    abbrev of_file : Import
    of_file = record { path = file_path b t; mark = mark }

    is-file : member (file_path b t) b.files ≡ true
    is-file = mem_member (get_d_mem b.files t [] f.within)

    known : member (file_path b t) (sources_of b g) ≡ ltb (unit_of g t) g.units
    known = member_is b.files t f (take g.units g.files) k.units ∙ ap (ltb (unit_of g t)) units-are

    id-is : position (file_path b t) (sources_of b g) ≡ unit_of g t
    id-is = place_is b.files t f (take g.units g.files) k.units

    listed : (unit_of g t < g.units) → holds (unit_of g t) (drop first (take g.count g.ids)) ≡ true → After b first g of_file g
    unfolding load add_once
    listed h e = record {
      is = rw (files_valid (file_path b t) is-file, known, lt-ltb (unit_of g t) g.units h, id-is, e);
      kept = k;
      grown = grown-none g;
      ids_more = omega arith;
      faults_more = omega arith;
    }

    -- one more id
    grown-id : (w : Graph) (id : ℕ) → w.ids ≡ g.ids → w.count ≡ g.count → Grown g w → Grown g (pushed_id w id)
    grown-id w id ei ec r = record {
      start = r.start;
      len = r.len;
      imports = r.imports;
      import_count = r.import_count;
      more = omega arith;
      ids = λ n h. rw (ei, ec) (take-set-le n g.ids g.count id h);
      units_more = r.units_more;
      files = r.files;
    }

    list-more : (id : ℕ) → drop first (take (g.count + 1) (set g.ids g.count id)) ≡ drop first (take g.count g.ids) ++ (id ∷ [])
    list-more id =
        let a = k.wide in
        let h : g.count < length g.ids = omega arith in
        let l = length-take-le g.count g.ids (omega arith) in
        let c = k.list in
        rw (add-one g.count, take-suc-set g.ids g.count id h) (drop-append-le first (take g.count g.ids) (id ∷ []) (omega arith))

    another : (unit_of g t < g.units) → holds (unit_of g t) (drop first (take g.count g.ids)) ≡ false → After b first g of_file (pushed_id g (unit_of g t))
    unfolding load add_once
    another h e = record {
      is = rw (files_valid (file_path b t) is-file, known, lt-ltb (unit_of g t) g.units h, id-is, e, list-more (unit_of g t));
      kept = record {
        wide = wide_id g k.wide (unit_of g t);
        list = let c = k.list in omega arith;
        units = k.units;
        units_once = k.units_once;
        units_fit = k.units_fit;
        unread = k.unread;
        no_files = k.no_files;
        unread_once = k.unread_once;
        unread_fit = k.unread_fit;
      };
      grown = grown-id g (unit_of g t) refl refl (grown-none g);
      ids_more = omega arith;
      faults_more = omega arith;
    }

    -- a unit that is not there yet: there is room for it
    module _ (h : g.units ≤ unit_of g t) where
      not_there : Memᴰ t (take g.units g.files) → ⊥
      not_there m = let i = index_mem m in let u = units-are in omega arith

      pub unit-fits : g.units < length b.files
      unit-fits =
          let p = few-places (once_snoc k.units_once not_there) (length b.files)
          (λ x m. ⊎_elim (λ w. (k.units x w).within) (λ e. rw e f.within) (mem_snoc (take g.units g.files) m)) in
          let u = units-are in
          omega (arith, length-append (take g.units g.files) (t ∷ []))

      fresh : After b first g of_file (pushed_id (pushed_unit g t) g.units)
      unfolding load
      fresh =
          let lt : g.units < length g.files = let a = k.wide in omega (arith, unit-fits) in
          record {
            is =
                rw (files_valid (file_path b t) is-file, known, le-ltb (unit_of g t) g.units h, is-file, pushed (file_path b) g.files g.units t lt, list-more g.units)
                (ap (λ (id : ℕ). record {
                  sources = sources_of b g ++ (file_path b t ∷ []);
                  list = drop first (take g.count g.ids) ++ (id ∷ []);
                  invalid = invalid_of b g;
                  faults = faults_of g;
                }) (sym (length-map (take g.units g.files) (file_path b) ∙ units-are)));
            kept = record {
              wide = wide_id (pushed_unit g t) (wide_unit g k.wide t) g.units;
              list = let c = k.list in omega arith;
              units = λ x m. ⊎_elim (k.units x) (λ e. subst (λ (y : ℕ). FirstOf b.files y) (sym e) f) (mem_snoc (take g.units g.files) (pushed_mem g.files g.units t lt x m));
              units_once = pushed-once g.files g.units t lt k.units_once not_there;
              units_fit = let u = unit-fits in omega arith;
              unread = k.unread;
              no_files = k.no_files;
              unread_once = k.unread_once;
              unread_fit = k.unread_fit;
            };
            grown = grown-id (pushed_unit g t) g.units refl refl
                (record { start = refl; len = refl; imports = refl; import_count = refl; more = omega arith; ids = λ n q. refl; units_more = omega arith; files = λ n q. take-set-le n g.files g.units t q });
            ids_more = omega arith;
            faults_more = omega arith;
          }

  -- A FOLDER, by its first place
  module _ (j mark : ℕ) (f : FirstOf b.folders j) (not-file : member (folder_path b j) b.files ≡ false) where
    abbrev of_folder : Import
    of_folder = record { path = folder_path b j; mark = mark }

    told : member (folder_path b j) (invalid_of b g) ≡ is_unread g j
    told = held b.folders j f (take g.unread g.folders) k.unread

    skipped : is_unread g j ≡ true → After b first g of_folder g
    unfolding load
    skipped h = record {
      is = rw (told, h);
      kept = k;
      grown = grown-none g;
      ids_more = omega arith;
      faults_more = omega arith;
    }

    module _ (h : is_unread g j ≡ false) where
      not-told : Memᴰ j (take g.unread g.folders) → ⊥
      not-told m = false_true (sym h ∙ holds_mem m)

      pub folder-fits : g.unread < length b.folders
      folder-fits =
          let p = few-places (once_snoc k.unread_once not-told) (length b.folders)
          (λ x m. ⊎_elim (λ w. (k.unread x w).within) (λ e. rw e f.within) (mem_snoc (take g.unread g.folders) m)) in
          let u = unread-are in
          omega (arith, length-append (take g.unread g.folders) (j ∷ []))

      failed : After b first g of_folder (pushed_fault (pushed_unread g j) (refusal NoFile mark))
      unfolding load
      failed =
          let lt : g.unread < length g.folders = let a = k.wide in omega (arith, folder-fits) in
          record {
            is = rw (told, h, sources-files (folder_path b j) not-file, not-file, pushed (folder_path b) g.folders g.unread j lt, fault-pushed g k.wide (refusal NoFile mark) faults-room);
            kept = record {
              wide = wide_fault (pushed_unread g j) (wide_unread g k.wide j) (refusal NoFile mark);
              list = k.list;
              units = k.units;
              units_once = k.units_once;
              units_fit = k.units_fit;
              unread = λ x m. ⊎_elim (k.unread x) (λ e. subst (λ (y : ℕ). FirstOf b.folders y) (sym e) f) (mem_snoc (take g.unread g.folders) (pushed_mem g.folders g.unread j lt x m));
              no_files = λ x m. ⊎_elim (k.no_files x) (λ e. subst (λ (y : ℕ). member (folder_path b y) b.files ≡ false) (sym e) not-file) (mem_snoc (take g.unread g.folders) (pushed_mem g.folders g.unread j lt x m));
              unread_once = pushed-once g.folders g.unread j lt k.unread_once not-told;
              unread_fit = let u = folder-fits in omega arith;
            };
            grown = record { start = refl; len = refl; imports = refl; import_count = refl; more = omega arith; ids = λ n q. refl; units_more = omega arith; files = λ n q. refl };
            ids_more = omega arith;
            faults_more = omega arith;
          }

  -- A TARGET, by its first place
  pub read_step : (t : Target) (mark : ℕ) → Aimed b t → After b first g (record { path = target_path b t; mark = mark }) (read_import g first (record { target = t; mark = mark }))
  read_step (File t) mark f = go (ltb (unit_of g t) g.units) (holds (unit_of g t) (drop first (take g.count g.ids))) refl refl
    where
      go : (u h : Bool) → ltb (unit_of g t) g.units ≡ u → holds (unit_of g t) (drop first (take g.count g.ids)) ≡ h → After b first g (of_file t mark f) (applied (cond u (cond h Nothing (Listed (unit_of g t))) (New t)) g mark)
      go true true e q = listed t mark f (ltb-true (unit_of g t) g.units e) q
      go true false e q = another t mark f (ltb-true (unit_of g t) g.units e) q
      go false h e q = fresh t mark f (ltb-false (unit_of g t) g.units e)
  read_step (Folder j) mark f = go (is_unread g j) refl
    where
      go : (u : Bool) → is_unread g j ≡ u → After b first g (of_folder j mark f.0 f.1) (applied (cond u Nothing (Told j)) g mark)
      go true e = skipped j mark f.0 f.1 e
      go false e = failed j mark f.0 f.1 e

  -- there is room for it
  pub read-room : (t : Target) → Aimed b t → ReadRoom g first t
  read-room t a = record {
    list = k.list;
    ids = room;
    faults = faults-room;
    units = let u = k.units_fit in omega arith;
    unread = let u = k.unread_fit in omega arith;
    new = new-room t a;
  }
    where
      new-room : (t : Target) → Aimed b t → NewRoom g t
      new-room (File t) f = λ h. let w = unit-fits t 0 f h in omega arith
      new-room (Folder j) f = λ h. let w = folder-fits j 0 f.0 f.1 h in omega arith

-- ALL READINGS OF A UNIT
load-all_snoc : (files : List Text) (is : List Import) (i : Import) (s : Loading) → load_all files (is ++ (i ∷ [])) s ≡ load files i (load_all files is s)
unfolding load_all
load-all_snoc files [] i s = refl
load-all_snoc files (x ∷ is) i s = load-all_snoc files is i (load files x s)

grown-then : {g w r : Graph} → Grown g w → Grown w r → Grown g r
grown-then a c = record {
  start = c.start ∙ a.start;
  len = c.len ∙ a.len;
  imports = c.imports ∙ a.imports;
  import_count = c.import_count ∙ a.import_count;
  more = let x = a.more in let y = c.more in omega arith;
  ids = λ k h. let x = a.more in c.ids k (omega arith) ∙ a.ids k h;
  units_more = let x = a.units_more in let y = c.units_more in omega arith;
  files = λ k h. let x = a.units_more in c.files k (omega arith) ∙ a.files k h;
}

-- the first i imports
abbrev imports_to : Lists → Graph → ℕ → List Import
imports_to b g i = map (import_told b) (take i g.imports)

pub record ReadTo (b : Lists) (g : Graph) (i : ℕ) : Type 0 where
  pub is : loading_of b g.count (read_to g g.count i) ≡ load_all b.files (imports_to b g i) (loading_of b g.count g)
  pub kept : Kept b g.count (read_to g g.count i)
  pub grown : Grown g (read_to g g.count i)
  pub ids : (read_to g g.count i).count ≤ g.count + i
  pub faults : (read_to g g.count i).fault_count ≤ g.fault_count + i

-- the lists of a bundle have at most this many files and folders
pub record Few (b : Lists) : Type 0 where
  pub files : length b.files ≤ file_limit
  pub folders : length b.folders ≤ folder_limit

module _ (b : Lists) (few : Few b) (g : Graph) (k : Kept b g.count g) (aimed : AllAimed b g)
    (room : g.count + g.import_count ≤ use_limit) (faults-room : g.fault_count + g.import_count ≤ use_limit) where
  abbrev gathered_at : ℕ → Gathered
  gathered_at i = get_or g.imports i no_import

  module _ (i : ℕ) (h : i < g.import_count) where
    aimed_at : Aimed b (gathered_at i).target
    aimed_at =
        let a = k.wide in
        let l = length-take-le g.import_count g.imports (omega arith) in
        aimed (gathered_at i) (Memᴰ.cast (sym (get_or-take g.import_count g.imports i no_import h)) (get_d_mem (take g.import_count g.imports) i no_import (omega arith)))

    imports-suc : imports_to b g (suc i) ≡ imports_to b g i ++ (import_told b (gathered_at i) ∷ [])
    imports-suc = let a = k.wide in let lt : i < length g.imports = omega arith in rw (take-suc g.imports i no_import lt) (map_snoc (import_told b) (take i g.imports) (gathered_at i))

  abbrev done : ℕ → Graph
  done i = read_to g g.count i

  read_next : (i : ℕ) → i < g.import_count → ReadTo b g i → After b g.count (done i) (import_told b (gathered_at i)) (read_import (done i) g.count (gathered_at i))
  read_next i h r =
      let a = r.ids in
      let c = r.faults in
      read_step b g.count (done i) r.kept few.files few.folders (omega arith) (omega arith) (gathered_at i).target (gathered_at i).mark (aimed_at i h)

  pub read-to : (i : ℕ) → i ≤ g.import_count → ReadTo b g i
  unfolding read_to load_all
  read-to zero h = record { is = refl; kept = k; grown = grown-none g; ids = omega arith; faults = omega arith }
  read-to (suc i) h =
      let r = read-to i (omega arith) in
      let s = read_next i (omega arith) r in
      let x = r.ids in
      let y = r.faults in
      let v = s.ids_more in
      let w = s.faults_more in
      record {
        is = s.is ∙ (ap (load b.files (import_told b (gathered_at i))) r.is
            ∙ (sym (load-all_snoc b.files (imports_to b g i) (import_told b (gathered_at i)) (loading_of b g.count g))
            ∙ ap (λ (is : List Import). load_all b.files is (loading_of b g.count g)) (sym (imports-suc i (omega arith)))));
        kept = s.kept;
        grown = grown-then r.grown s.grown;
        ids = omega arith;
        faults = omega arith;
      }

  pub reads-room : (unit : ℕ) → unit < file_limit → ReadsRoom g unit
  reads-room unit h =
      let a = read-to g.import_count (omega arith) in
      let m = a.grown.more in
      let n = a.ids in
      record {
        unit_small = h;
        imports = omega arith;
        each = λ i lt.
            let r = read-to i (omega arith) in
            let x = r.ids in
            let y = r.faults in
            read-room b g.count (done i) r.kept few.files few.folders (omega arith) (omega arith) (gathered_at i).target (aimed_at i lt);
        grows = m;
        ids = omega arith;
      }
