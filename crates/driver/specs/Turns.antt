-- The record after each unit is the definition's graph. Assumes nothing.
use Rattle.std.specs.Prelude.{ℕ, zero, suc, ◌+◌, ◌-◌, ◌≤◌, ◌<◌, Bool, true, false, cond, ◌≡◌, take, set, Result, Ok, Err}
use Rattle.std.proofs.Common.{not-suc-le-zero, le_of_suc-le-suc, eq-or-lt_of_le, sym, subst, ◌∙◌, length-append, drop_of_length-le, take-suc, length-take-le, take-take, get_or-take, lt-ltb, le-ltb}
use native.Mathlib.Omega.{arith}
use Rattle.std.proofs.Math.Logic.{⊎_elim}
use Rattle.std.proofs.Math.Path.{refl, ap}
use mathlib.Core.List.Memᴰ
use mathlib.Core.List.{List, [], ◌∷◌, ◌++◌, map, Memᴰ}
use Rattle.std.proofs.Math.ListN.{length, get_or, drop, get_or-map}
use Rattle.std.proofs.lemmas.List.{length-map, drop-take, take-map}
use Rattle.std.proofs.Math.Seq.{get_or-set_same, get_or-set_other}
use Rattle.names.specs.Bytes.{member, same, same_refl}
use Rattle.bundle.specs.Bundle.{Text, File, Bundle}
use Rattle.bundle.specs.Limits.{file_limit, use_limit}
use Rattle.resolution.specs.Lists.{Lists, lists_of}
use Rattle.resolution.specs.Call.{position}
use Rattle.resolution.specs.Told.{answered}
use Rattle.resolution.specs.declared.Found.{Found}
use Rattle.refusal.specs.declared.Cause.{Cause}
use Rattle.resolution.specs.Resolution.{resolve_path_internal}
use Rattle.driver.specs.declared.record.Graph.{Graph}
use Rattle.discovery.specs.Discovery.{Use, uses, program_of, ResolvedUse, resolve_single, use_cache, Fault, Import, lookup_faults, valid_imports, Loading, load_all, turn, turns, start, paths_of, discover_dependencies}
use Rattle.discovery.specs.Discovery as definition
use Rattle.discovery.specs.Reached.{Once, none, more}
use Rattle.discovery.specs.Facts.{mem_member, member_true, mem_get_d, once-place, id-found, get_d_mem, get_d_any}
use Rattle.discovery.specs.Room.{Roomy}
use Rattle.discovery.specs.Weight.{sum_uses, weigh}
use Rattle.driver.specs.Record.{entry_alone, looked, looked_use, looked_all, no_imports, read_out, read_all, with_list, ReadsRoom, Wide, wide_entry, wide_list}
use Rattle.driver.specs.Meaning.{FirstOf, file_path, folder_path, faults_of, AllAimed, Means, lookups_mean}
use Rattle.driver.specs.Readings.{Kept, Few, sources_of, invalid_of, loading_of, ReadTo, read-to, reads-room}

-- THE RECORD AS A GRAPH
-- what unit u lists
abbrev pub list_of : Graph → ℕ → List ℕ
list_of g u = take (get_or g.len u 0) (drop (get_or g.start u 0) g.ids)

-- the lists of the first n units
unfoldable pub first_lists : ℕ → (ℕ → List ℕ) → List (List ℕ)
first_lists zero f = []
first_lists (suc n) f = first_lists n f ++ (f n ∷ [])

-- after n units were handled
abbrev pub graph_to : Bundle → ℕ → Graph → definition.Graph
graph_to b n g = record {
  sources = sources_of (lists_of b) g;
  dependencies = first_lists n (list_of g);
  invalid = invalid_of (lists_of b) g;
  faults = faults_of g;
}

-- in the end
abbrev pub graph_of : Bundle → Graph → definition.Graph
graph_of b g = graph_to b g.units g

pub length-lists : (n : ℕ) (f : ℕ → List ℕ) → length (first_lists n f) ≡ n
unfolding first_lists
length-lists zero f = refl
length-lists (suc n) f = let r = length-lists n f in omega (arith, length-append (first_lists n f) (f n ∷ []))

lists_agree : (n : ℕ) (f h : ℕ → List ℕ) → ((u : ℕ) → u < n → f u ≡ h u) → first_lists n f ≡ first_lists n h
unfolding first_lists
lists_agree zero f h e = refl
lists_agree (suc n) f h e = rw (lists_agree n f h (λ u lt. e u (omega arith)), e n (omega arith))

-- LISTS
-- a part that lies within what two lists have alike
part-alike : {A : Type 0} (a l c : ℕ) (x y : List A) → a + l ≤ c → take c x ≡ take c y → take l (drop a x) ≡ take l (drop a y)
part-alike a l c x y h e =
    sym (drop-take a l x) ∙ (ap (drop a) (sym (take-take (a + l) c x h) ∙ (ap (take (a + l)) e ∙ take-take (a + l) c y h)) ∙ drop-take a l y)

take_within : {A : Type 0} (k : ℕ) (l : List A) {p : A} → Memᴰ p (take k l) → Memᴰ p l
take_within zero l m = absurd (Memᴰ.not-nil m)
take_within (suc k) [] m = m
take_within (suc k) (y ∷ l) m = ⊎_elim (λ e. Memᴰ.head e) (λ w. Memᴰ.tail (take_within k l w)) (Memᴰ.cases_cons m)

once-take : {A : Type 0} {l : List A} (n : ℕ) → Once l → Once (take n l)
once-take zero o = none
once-take (suc n) none = none
once-take (suc n) (more {u = a} {l} f o) = more (λ m. f (take_within n l m)) (once-take n o)

-- PATHS OF PLACES
module _ (l : List Text) where
  paths-once : {k : List ℕ} → Once k → ((x : ℕ) → Memᴰ x k → FirstOf l x) → Once (map (λ x. get_or l x []) k)
  paths-once none h = none
  paths-once (more {u = a} {l = k} f o) h =
      more (λ m. let t = Memᴰ.of_map (λ (x : ℕ). get_or l x []) k m in
      let x = h a (Memᴰ.head refl) in
      let y = h t.0 (Memᴰ.tail t.1) in
      f (Memᴰ.cast (sym x.first ∙ (ap (λ (p : Text). position p l) (sym t.2) ∙ y.first)) t.1))
      (paths-once o (λ x m. h x (Memᴰ.tail m)))

sum_snoc : (fs : List File) (l : List Text) (p : Text) → sum_uses fs (l ++ (p ∷ [])) ≡ sum_uses fs l + length (uses (program_of fs p))
unfolding sum_uses
sum_snoc fs [] p = omega arith
sum_snoc fs (q ∷ l) p = let r = sum_snoc fs l p in omega arith

-- the items of the file at its first place
program-at : (fs : List File) (f : File) (x : ℕ) → x < length fs → get_or fs x f ≡ f → position f.path (map (λ y. y.path) fs) ≡ x → program_of fs f.path ≡ f.items
unfolding program_of position
program-at [] f x h e p = absurd (not-suc-le-zero h)
program-at (y ∷ fs) f x h e p = go (same f.path y.path) x h e p (program-at fs f)
  where
    go : (t : Bool) (x : ℕ) → x < length (y ∷ fs) → get_or (y ∷ fs) x f ≡ f → cond t 0 (suc (position f.path (map (λ z. z.path) fs))) ≡ x
        → ((x : ℕ) → x < length fs → get_or fs x f ≡ f → position f.path (map (λ z. z.path) fs) ≡ x → program_of fs f.path ≡ f.items)
        → cond t y.items (program_of fs f.path) ≡ f.items
    go true zero h e p r = ap (λ (z : File). z.items) e
    go true (suc x) h e p r = absurd (omega arith)
    go false zero h e p r = absurd (omega arith)
    go false (suc x) h e p r = r x (le_of_suc-le-suc h) e (omega arith)

-- LOOKUPS leave all but the faults and the imports
record Same (g r : Graph) : Type 0 where
  files : r.files ≡ g.files
  units : r.units ≡ g.units
  ids : r.ids ≡ g.ids
  count : r.count ≡ g.count
  folders : r.folders ≡ g.folders
  unread : r.unread ≡ g.unread

record Framed (g r : Graph) : Type 0 where
  same : Same g r
  start : r.start ≡ g.start
  len : r.len ≡ g.len
  faults : g.fault_count ≤ r.fault_count

-- n lookups
abbrev Looked : Graph → Graph → ℕ → Type 0
Looked g r n = Framed g r × (r.fault_count + r.import_count ≤ g.fault_count + g.import_count + n)

same_none : (g : Graph) → Same g g
same_none g = record { files = refl; units = refl; ids = refl; count = refl; folders = refl; unread = refl }

framed_looked : (x : Result Found Cause) (mark : ℕ) (g : Graph) → Looked g (looked x mark g) 1
framed_looked (Ok f) mark g = (record { same = record { files = refl; units = refl; ids = refl; count = refl; folders = refl; unread = refl }; start = refl; len = refl; faults = omega arith }, omega arith)
framed_looked (Err c) mark g = (record { same = record { files = refl; units = refl; ids = refl; count = refl; folders = refl; unread = refl }; start = refl; len = refl; faults = omega arith }, omega arith)

framed_all : (b : Lists) (file : Text) (us : List Use) (g : Graph) → Looked g (looked_all b file us g) (length us)
unfolding looked_all
framed_all b file [] g = (record { same = same_none g; start = refl; len = refl; faults = omega arith }, omega arith)
framed_all b file (u ∷ us) g =
    let a = framed_looked (answered b (resolve_path_internal b file u.segments)) u.mark g in
    let r = framed_all b file us (looked_use b file u g) in
    let x = a.0.same in
    let y = r.0.same in
    let k = a.1 in
    let m = r.1 in
    let v = a.0.faults in
    let w = r.0.faults in (
      record {
        same = record {
          files = y.files ∙ x.files;
          units = y.units ∙ x.units;
          ids = y.ids ∙ x.ids;
          count = y.count ∙ x.count;
          folders = y.folders ∙ x.folders;
          unread = y.unread ∙ x.unread;
        };
        start = r.0.start ∙ a.0.start;
        len = r.0.len ∙ a.0.len;
        faults = omega arith;
      },
      omega arith,
    )

-- WHAT HOLDS AFTER n UNITS
pub record Invariant (b : Bundle) (n : ℕ) (g : Graph) : Type 0 where
  pub kept : Kept (lists_of b) 0 g
  pub some : 0 < g.units
  pub handled : n ≤ g.units
  -- each list lies within the ids
  pub lists : (u : ℕ) → u < n → get_or g.start u 0 + get_or g.len u 0 ≤ g.count
  -- a use gives one id or one fault at most
  pub ids_weigh : g.count ≤ sum_uses b.files (take n (sources_of (lists_of b) g))
  pub faults_weigh : g.fault_count ≤ sum_uses b.files (take n (sources_of (lists_of b) g))
  -- the turns that are left lead to the definition's graph
  pub left : turns (length b.files - n) (paths_of b) (use_cache b) (graph_to b n g) ≡ discover_dependencies b

kept_from : {b : Lists} {a : ℕ} {g : Graph} (c : ℕ) → Kept b a g → c ≤ g.count → Kept b c g
kept_from c k h = record {
  wide = k.wide;
  list = h;
  units = k.units;
  units_once = k.units_once;
  units_fit = k.units_fit;
  unread = k.unread;
  no_files = k.no_files;
  unread_once = k.unread_once;
  unread_fit = k.unread_fit;
}

-- what is the same is kept
kept_same : {b : Lists} {a : ℕ} {g w : Graph} → Same g w → Wide w → Kept b a g → Kept b a w
kept_same {b} {a} {g} {w} f z k = record {
  wide = z;
  list = let c = f.count in let l = k.list in omega arith;
  units = λ x m. k.units x (subst (λ (l : List ℕ). Memᴰ x l) units-same m);
  units_once = subst (λ (l : List ℕ). Once l) (sym units-same) k.units_once;
  units_fit = let u = f.units in let l = k.units_fit in omega arith;
  unread = λ x m. k.unread x (subst (λ (l : List ℕ). Memᴰ x l) unread-same m);
  no_files = λ x m. k.no_files x (subst (λ (l : List ℕ). Memᴰ x l) unread-same m);
  unread_once = subst (λ (l : List ℕ). Once l) (sym unread-same) k.unread_once;
  unread_fit = let u = f.unread in let l = k.unread_fit in omega arith;
}
  where
    units-same : take w.units w.files ≡ take g.units g.files
    units-same = ap (λ (n : ℕ). take n w.files) f.units ∙ ap (take g.units) f.files

    unread-same : take w.unread w.folders ≡ take g.unread g.folders
    unread-same = ap (λ (n : ℕ). take n w.folders) f.unread ∙ ap (take g.unread) f.folders

-- every unit is a file
source_file : (b : Bundle) (g : Graph) → Kept (lists_of b) 0 g → (p : Text) → Memᴰ p (sources_of (lists_of b) g) → Memᴰ p (paths_of b)
source_file b g k p m =
    let t = Memᴰ.of_map (file_path (lists_of b)) (take g.units g.files) m in
    Memᴰ.cast (sym t.2) (get_d_mem (paths_of b) t.0 [] (k.units t.0 t.1).within)

pub sources-count : (b : Bundle) → Roomy b → (n : ℕ) (g : Graph) → Invariant b n g → length (sources_of (lists_of b) g) ≡ g.units
sources-count b roomy n g v =
    let k = v.kept in
    let a = k.wide in
    let u = k.units_fit in
    let r = roomy.files in
    length-map (take g.units g.files) (file_path (lists_of b)) ∙ length-take-le g.units g.files (omega (arith, length-map b.files (λ (f : File). f.path)))

-- ONE UNIT: the n-th, at place x of the files, which is f
module _ (b : Bundle) (roomy : Roomy b) (n : ℕ) (g : Graph) (v : Invariant b n g) (waits : n < g.units) where
  abbrev place : ℕ
  place = get_or g.files n 0

  abbrev sources : List Text
  sources = sources_of (lists_of b) g

  few : Few (lists_of b)
  few = record { files = let r = roomy.files in omega (arith, length-map b.files (λ (f : File). f.path)); folders = roomy.folders }

  units-are : length sources ≡ g.units
  units-are = sources-count b roomy n g v

  first-place : FirstOf (paths_of b) place
  first-place =
      let k = v.kept in
      let a = k.wide in
      let u = k.units_fit in
      let w = few.files in
      let l = length-take-le g.units g.files (omega arith) in
      k.units place (Memᴰ.cast (sym (get_or-take g.units g.files n 0 waits)) (get_d_mem (take g.units g.files) n 0 (omega arith)))

  pub unit_small : n < file_limit
  unit_small = let u = v.kept.units_fit in let w = few.files in omega arith

  pub place-small : place < length b.files
  place-small = let w = first-place.within in omega (arith, length-map b.files (λ (f : File). f.path))

  path-at : get_or sources n [] ≡ file_path (lists_of b) place
  path-at =
      let u = units-are in
      get_d_any sources n [] (file_path (lists_of b) 0) (omega arith)
      ∙ (get_or-map (file_path (lists_of b)) (take g.units g.files) n 0 ∙ ap (file_path (lists_of b)) (get_or-take g.units g.files n 0 waits))

  module _ (f : File) (is : get_or b.files place f ≡ f) where
    pub path-is : file_path (lists_of b) place ≡ f.path
    path-is =
        let w = first-place.within in
        get_d_any (paths_of b) place [] f.path w ∙ (get_or-map (λ (y : File). y.path) b.files place f ∙ ap (λ (y : File). y.path) is)

    unit-path : get_or sources n [] ≡ f.path
    unit-path = path-at ∙ path-is

    pub position-is : position f.path (paths_of b) ≡ place
    position-is = ap (λ (p : Text). position p (paths_of b)) (sym path-is) ∙ first-place.first

    file-listed : member f.path (paths_of b) ≡ true
    file-listed = mem_member (Memᴰ.cast (sym path-is) (get_d_mem (paths_of b) place [] first-place.within))

    pub program : program_of b.files f.path ≡ f.items
    program = program-at b.files f place place-small is position-is

    abbrev its_uses : List Use
    its_uses = uses f.items

    -- the uses so far and those of this unit are no more than the bundle's
    pub weight : sum_uses b.files (take n sources) + length its_uses ≤ use_limit
    weight =
        let u = units-are in
        let o = once-take (suc n) (paths-once (paths_of b) v.kept.units_once v.kept.units) in
        let w = weigh o b.files (λ p m. source_file b g v.kept p (take_within (suc n) sources m)) in
        let e = ap (sum_uses b.files) (take-suc sources n [] (omega arith)) in
        let s = sum_snoc b.files (take n sources) (get_or sources n []) in
        let q : length (uses (program_of b.files (get_or sources n []))) ≡ length its_uses = ap (λ (p : Text). length (uses (program_of b.files p))) unit-path ∙ ap (λ i. length (uses i)) program in
        let r = roomy.uses in
        omega arith

    pub handled-small : (p : Text) → Memᴰ p (take n sources) → position p (paths_of b) < file_limit
    handled-small p m = let k = source_file b g v.kept p (take_within n sources m) in let w = few.files in omega (arith, (id-found p (paths_of b) k).0)

    -- it was not handled before
    pub not-before : (p : Text) → Memᴰ p (take n sources) → position p (paths_of b) ≡ place → ⊥
    not-before p m e =
        let u = units-are in
        let k = source_file b g v.kept p (take_within n sources m) in
        let same-path : p ≡ f.path =
        sym (id-found p (paths_of b) k).1 ∙ (ap (λ (i : ℕ). get_or (paths_of b) i []) (e ∙ sym position-is) ∙ (id-found f.path (paths_of b) (member_true f.path (paths_of b) file-listed)).1) in
        let q = mem_get_d [] m in
        let l = length-take-le n sources (omega arith) in
        let lt : q.0 < n = omega (arith, q.1.0) in
        let o = once-place [] (paths-once (paths_of b) v.kept.units_once v.kept.units) q.0 n (omega arith) (omega arith) (sym (get_or-take n sources q.0 [] lt) ∙ (q.1.1 ∙ (same-path ∙ sym unit-path))) in
        omega arith

    pub uses-fit : length its_uses ≤ use_limit
    uses-fit = let w = weight in omega arith

    pub faults-fit : g.fault_count + length its_uses ≤ use_limit
    faults-fit = let w = weight in let x = v.faults_weigh in omega arith

    -- after the lookups
    abbrev seen : Graph
    seen = looked_all (lists_of b) f.path its_uses (no_imports g)

    -- what the code's lookups leave
    pub seen-is : (lists : Lists) (file : Text) (us : List Use) (w : Graph) → lists ≡ lists_of b → file ≡ f.path → us ≡ its_uses → w ≡ looked_all lists file us (no_imports g) → w ≡ seen
    seen-is lists file us w e p q h =
        h ∙ (ap (λ (l : Lists). looked_all l file us (no_imports g)) e ∙ (ap (λ (x : Text). looked_all (lists_of b) x us (no_imports g)) p ∙ ap (λ (x : List Use). looked_all (lists_of b) f.path x (no_imports g)) q))

    framed : Looked (no_imports g) seen (length its_uses)
    framed = framed_all (lists_of b) f.path its_uses (no_imports g)

    means : Means (lists_of b) (no_imports g) seen (lookup_faults (map (resolve_single (lists_of b) f.path) its_uses)) (valid_imports (map (resolve_single (lists_of b) f.path) its_uses))
    means =
        let w = weight in
        let x = v.faults_weigh in
        lookups_mean (lists_of b) f.path file-listed its_uses (no_imports g) v.kept.wide (omega arith) (omega arith)

    seen-kept : Kept (lists_of b) seen.count seen
    seen-kept =
        kept_from seen.count
        (kept_same {g = no_imports g} framed.0.same means.wide
        (kept_same {g = g} {w = no_imports g} (record { files = refl; units = refl; ids = refl; count = refl; folders = refl; unread = refl }) v.kept.wide v.kept)) (omega arith)

    seen-aimed : AllAimed (lists_of b) seen
    seen-aimed = means.aimed (λ i m. absurd (Memᴰ.not-nil m))

    ids-room : seen.count + seen.import_count ≤ use_limit
    ids-room = let w = weight in let x = v.ids_weigh in let c = framed.0.same.count in let q = framed.1 in let z = framed.0.faults in omega arith

    faults-room : seen.fault_count + seen.import_count ≤ use_limit
    faults-room = let w = weight in let x = v.faults_weigh in let q = framed.1 in omega arith

    pub reads_fit : ReadsRoom seen n
    reads_fit =
        let u = v.kept.units_fit in
        let w = few.files in
        reads-room (lists_of b) few seen seen-kept seen-aimed ids-room faults-room n (omega arith)

    -- a turn is made
    one-turn : (k : ℕ) → turns (suc k) (paths_of b) (use_cache b) (graph_to b n g) ≡ turns k (paths_of b) (use_cache b) (turn (paths_of b) (use_cache b) (graph_to b n g))
    unfolding turns
    one-turn k =
        let c = length-lists n (list_of g) in
        let u = units-are in
        let lt : length (first_lists n (list_of g)) < length sources = omega arith in
        rw (lt-ltb (length (first_lists n (list_of g))) (length sources) lt)

    -- after the readings
    read : ReadTo (lists_of b) seen seen.import_count
    read = read-to (lists_of b) few seen seen-kept seen-aimed ids-room faults-room seen.import_count (omega arith)

    abbrev out : Graph
    out = read_out seen

    abbrev resolved : List ResolvedUse
    resolved = map (resolve_single (lists_of b) f.path) its_uses

    cached : use_cache b (get_or sources n []) ≡ resolved
    unfolding use_cache
    cached = rw (unit-path, program)

    loading_is : loading_of (lists_of b) seen.count seen ≡ record { sources = sources; list = []; invalid = invalid_of (lists_of b) g; faults = faults_of g ++ lookup_faults resolved }
    loading_is =
        let s = framed.0.same in
        let k = seen-kept in
        let a = k.wide in
        let c = ids-room in
        let l = length-take-le seen.count seen.ids (omega arith) in
        let e : drop seen.count (take seen.count seen.ids) ≡ [] = drop_of_length-le (take seen.count seen.ids) {i = seen.count} (omega arith) in
        let x : sources_of (lists_of b) seen ≡ sources = ap (λ (k : ℕ). map (file_path (lists_of b)) (take k seen.files)) s.units ∙ ap (λ (k : List ℕ). map (file_path (lists_of b)) (take g.units k)) s.files in
        let y : invalid_of (lists_of b) seen ≡ invalid_of (lists_of b) g = ap (λ (k : ℕ). map (folder_path (lists_of b)) (take k seen.folders)) s.unread ∙ ap (λ (k : List ℕ). map (folder_path (lists_of b)) (take g.unread k)) s.folders in
        loading_eq x e y means.faults
      where
        loading_eq : {a a' c c' : List Text} {l l' : List ℕ} {d d' : List Fault} → a ≡ a' → l ≡ l' → c ≡ c' → d ≡ d'
            → ◌≡◌ {A = Loading} (record { sources = a; list = l; invalid = c; faults = d }) (record { sources = a'; list = l'; invalid = c'; faults = d' })
        loading_eq p q r s = cc

    out-is : loading_of (lists_of b) seen.count out ≡ load_all (paths_of b) (valid_imports resolved) (record { sources = sources; list = []; invalid = invalid_of (lists_of b) g; faults = faults_of g ++ lookup_faults resolved })
    out-is =
        read.is ∙ (ap (λ (is : List Import). load_all (paths_of b) is (loading_of (lists_of b) seen.count seen)) means.imports
        ∙ ap (load_all (paths_of b) (valid_imports resolved)) loading_is)

    abbrev result : Graph
    result = read_all seen n

    lists-before : (u : ℕ) → u < n → list_of result u ≡ list_of g u
    unfolding read_all
    lists-before u lt =
        let s = framed.0 in
        let ne : u ≡ n → ⊥ = λ e. omega arith in
        let es : get_or (set out.start n seen.count) u 0 ≡ get_or g.start u 0 = get_or-set_other out.start n u seen.count 0 ne ∙ ap (λ (l : List ℕ). get_or l u 0) (read.grown.start ∙ s.start) in
        let el : get_or (set out.len n (out.count - seen.count)) u 0 ≡ get_or g.len u 0 = get_or-set_other out.len n u (out.count - seen.count) 0 ne ∙ ap (λ (l : List ℕ). get_or l u 0) (read.grown.len ∙ s.len) in
        let c = s.same.count in
        let h = v.lists u lt in
        rw (es, el) (part-alike (get_or g.start u 0) (get_or g.len u 0) g.count out.ids g.ids h
        (read.grown.ids g.count (omega arith) ∙ ap (take g.count) s.same.ids))

    list-here : list_of result n ≡ drop seen.count (take out.count out.ids)
    unfolding read_all
    list-here =
        let a = read.kept.wide in
        let m = unit_small in
        let lt : n < length out.start = omega arith in
        let lu : n < length out.len = omega arith in
        let q = read.grown.more in
        let e : seen.count + (out.count - seen.count) ≡ out.count = omega arith in
        rw (get_or-set_same out.start n seen.count 0 lt, get_or-set_same out.len n (out.count - seen.count) 0 lu)
        (sym (drop-take seen.count (out.count - seen.count) out.ids) ∙ ap (λ (k : ℕ). drop seen.count (take k out.ids)) e)

    turned : graph_to b (suc n) result ≡ turn (paths_of b) (use_cache b) (graph_to b n g)
    unfolding turn first_lists read_all
    turned =
        let e : first_lists n (list_of result) ≡ first_lists n (list_of g) = lists_agree n (list_of result) (list_of g) lists-before in
        let c = length-lists n (list_of g) in
        rw (c, cached, ← out-is, e, list-here)

    -- THE INVARIANT AFTER IT
    take-sources : (h : Graph) (k : ℕ) → k ≤ h.units → take k (sources_of (lists_of b) h) ≡ map (file_path (lists_of b)) (take k h.files)
    take-sources h k le = take-map (file_path (lists_of b)) k (take h.units h.files) ∙ ap (map (file_path (lists_of b))) (take-take k h.units h.files le)

    pub sources-before : take (suc n) (sources_of (lists_of b) out) ≡ take n sources ++ (f.path ∷ [])
    sources-before =
        let m = read.grown.units_more in
        let s = framed.0.same in
        let e = s.units in
        let u = units-are in
        take-sources out (suc n) (omega arith)
        ∙ (ap (map (file_path (lists_of b))) (read.grown.files (suc n) (omega arith) ∙ ap (take (suc n)) s.files)
        ∙ (sym (take-sources g (suc n) waits) ∙ (take-suc sources n [] (omega arith) ∙ ap (λ (p : Text). take n sources ++ (p ∷ [])) unit-path)))

    pub sum_is : sum_uses b.files (take (suc n) (sources_of (lists_of b) out)) ≡ sum_uses b.files (take n sources) + length its_uses
    sum_is =
        ap (sum_uses b.files) sources-before ∙ (sum_snoc b.files (take n sources) f.path
        ∙ ap (λ i. sum_uses b.files (take n sources) + length (uses i)) program)

    out-kept : Kept (lists_of b) 0 result
    unfolding read_all
    out-kept =
        kept_from 0 (kept_same {g = out} {w = with_list out n seen.count (out.count - seen.count)}
        (record { files = refl; units = refl; ids = refl; count = refl; folders = refl; unread = refl }) (wide_list out read.kept.wide n seen.count (out.count - seen.count)) read.kept) (omega arith)

    steps_left : length b.files - n ≡ suc (length b.files - suc n)
    steps_left = let u = v.kept.units_fit in omega (arith, length-map b.files (λ (y : File). y.path))

    left_after : turns (length b.files - suc n) (paths_of b) (use_cache b) (graph_to b (suc n) result) ≡ discover_dependencies b
    left_after =
        ap (turns (length b.files - suc n) (paths_of b) (use_cache b)) turned ∙ (sym (one-turn (length b.files - suc n)) ∙ (ap (λ (k : ℕ). turns k (paths_of b) (use_cache b) (graph_to b n g)) (sym steps_left) ∙ v.left))

    lists-after : (u : ℕ) → u < suc n → get_or result.start u 0 + get_or result.len u 0 ≤ result.count
    unfolding read_all
    lists-after u lt =
        let a = read.kept.wide in
        let m = unit_small in
        let q = read.grown.more in
        let c = framed.0.same.count in
        ⊎_elim
        (λ e. let lt' : u < length out.start = omega arith in
        let lu : u < length out.len = omega arith in
        rw (← e, get_or-set_same out.start u seen.count 0 lt', get_or-set_same out.len u (out.count - seen.count) 0 lu) (omega arith))
        (λ w. let ne : u ≡ n → ⊥ = λ e. omega arith in
        let es : get_or (set out.start n seen.count) u 0 ≡ get_or g.start u 0 = get_or-set_other out.start n u seen.count 0 ne ∙ ap (λ (l : List ℕ). get_or l u 0) (read.grown.start ∙ framed.0.start) in
        let el : get_or (set out.len n (out.count - seen.count)) u 0 ≡ get_or g.len u 0 = get_or-set_other out.len n u (out.count - seen.count) 0 ne ∙ ap (λ (l : List ℕ). get_or l u 0) (read.grown.len ∙ framed.0.len) in
        let h = v.lists u w in
        omega arith)
        (eq-or-lt_of_le (le_of_suc-le-suc lt))

    pub next : Invariant b (suc n) result
    unfolding read_all
    next = record {
      kept = out-kept;
      some = let m = read.grown.units_more in let e = framed.0.same.units in omega arith;
      handled = let m = read.grown.units_more in let e = framed.0.same.units in omega arith;
      lists = lists-after;
      ids_weigh =
          let s = sum_is in
          let x = v.ids_weigh in
          let c = framed.0.same.count in
          let q = framed.1 in
          let z = framed.0.faults in
          let r = read.ids in
          omega arith;
      faults_weigh =
          let s = sum_is in
          let x = v.faults_weigh in
          let q = framed.1 in
          let r = read.faults in
          omega arith;
      left = left_after;
    }

entry_first : (p : Text) (l : List Text) → position p (p ∷ l) ≡ 0
unfolding position
entry_first p l = rw (same_refl p)

-- BEFORE THE FIRST UNIT
pub entry-only : (b : Bundle) → Roomy b → Invariant b 0 entry_alone
unfolding first_lists discover_dependencies
entry-only b roomy = record {
  kept = record {
    wide = wide_entry;
    list = omega arith;
    units = λ x m. rw (Memᴰ.eq_of_singleton m) (entry_place (paths_of b) some-path);
    units_once = more Memᴰ.not-nil none;
    units_fit = some-path;
    unread = λ x m. absurd (Memᴰ.not-nil m);
    no_files = λ x m. absurd (Memᴰ.not-nil m);
    unread_once = none;
    unread_fit = omega arith;
  };
  some = omega arith;
  handled = omega arith;
  lists = λ u lt. absurd (not-suc-le-zero lt);
  ids_weigh = omega arith;
  faults_weigh = omega arith;
  left = let e : length b.files - 0 ≡ length b.files = omega arith in
      ap (λ (k : ℕ). turns k (paths_of b) (use_cache b) (graph_to b 0 entry_alone)) e ∙ ap (turns (length b.files) (paths_of b) (use_cache b)) (starts (paths_of b) some-path);
}
  where
    some-path : 0 < length (paths_of b)
    some-path = let s = roomy.some in omega (arith, length-map b.files (λ (y : File). y.path))

    starts : (l : List Text) → 0 < length l → ◌≡◌ {A = definition.Graph} (record { sources = get_or l 0 [] ∷ []; dependencies = []; invalid = []; faults = [] }) (start l)
    starts [] h = absurd (not-suc-le-zero h)
    starts (p ∷ l) h = refl

    entry_place : (l : List Text) → 0 < length l → FirstOf l 0
    entry_place [] h = absurd (not-suc-le-zero h)
    entry_place (p ∷ l) h = record { within = h; first = entry_first p l }

-- AFTER THE LAST UNIT
no_turn : (k : ℕ) (b : Bundle) (d : definition.Graph) → length d.sources ≤ length d.dependencies → turns k (paths_of b) (use_cache b) d ≡ d
unfolding turns
no_turn zero b d h = refl
no_turn (suc k) b d h = rw (le-ltb (length d.dependencies) (length d.sources) h)

-- what the record holds in the end
pub record Discovers (b : Bundle) (g : Graph) : Type 0 where
  pub is : graph_of b g ≡ discover_dependencies b
  pub some : 0 < g.units
  pub units : g.units ≤ file_limit
  pub ids : g.count ≤ use_limit
  pub faults : g.fault_count ≤ use_limit
  -- each list lies within the ids
  pub lists : (u : ℕ) → u < g.units → get_or g.start u 0 + get_or g.len u 0 ≤ g.count

pub all_units : (b : Bundle) (n : ℕ) (g : Graph) → Invariant b n g → n ≡ g.units → Roomy b → Discovers b g
all_units b n g v e roomy =
    let k = v.kept in
    let a = k.wide in
    let u = k.units_fit in
    let w = roomy.files in
    let m = length-map b.files (λ (y : File). y.path) in
    let l = length-map (take g.units g.files) (file_path (lists_of b)) ∙ length-take-le g.units g.files (omega arith) in
    let d = length-lists n (list_of g) in
    let o = once-take n (paths-once (paths_of b) k.units_once k.units) in
    let s = weigh o b.files (λ q i. source_file b g k q (take_within n (sources_of (lists_of b) g) i)) in
    let r = roomy.uses in
    let x = v.ids_weigh in
    let y = v.faults_weigh in
    record {
      is = ap (λ (j : ℕ). graph_to b j g) (sym e) ∙ (sym (no_turn (length b.files - n) b (graph_to b n g) (omega arith)) ∙ v.left);
      some = v.some;
      units = omega arith;
      ids = omega arith;
      faults = omega arith;
      lists = λ j lt. v.lists j (omega arith);
    }
