-- The code's record of the graph, and what a lookup and a reading push. Assumes nothing.
use Rattle.std.specs.Prelude.{ℕ, zero, suc, ◌+◌, ◌-◌, ◌≤◌, ◌<◌, Bool, true, false, cond, ltb, ◌≡◌, refl, length, set, take, drop, get_or, replicate, eqb, Result, Ok, Err, Some, None}
use Rattle.std.specs.List.{position, list_any}
use Rattle.std.proofs.Common.{arith, sym, ap, ◌∙◌, add-one, drop-cons, drop_of_length-le, length-set, length-take-le}
use Rattle.std.proofs.lemmas.List.{length-replicate, drop-take}
use mathlib.Core.List.{List, [], ◌∷◌}
use Rattle.refusal.specs.declared.Cause.{Cause}
use Rattle.refusal.specs.declared.Cause.TheVariants.{Cut, NoFile}
use Rattle.refusal.specs.declared.Refusal.{Refusal}
use Rattle.refusal.specs.Numbers.{refusal}
use Rattle.bundle.specs.Bundle.{Text}
use Rattle.bundle.specs.Limits.{file_limit, folder_limit, use_limit}
use Rattle.resolution.specs.Lists.{Lists}
use Rattle.resolution.specs.Resolution.{resolve_path_internal}
use Rattle.resolution.specs.Told.{answered}
use Rattle.resolution.specs.declared.Found.{Found}
use Rattle.resolution.specs.declared.Target.{Target}
use Rattle.resolution.specs.declared.Target.TheVariants.{File, Folder}
use Rattle.driver.specs.declared.record.Graph.{Graph}
use Rattle.driver.specs.declared.record.Import.{Import}
use Rattle.driver.specs.declared.readings.Reading.{Reading}
use Rattle.driver.specs.declared.readings.Reading.TheVariants.{Nothing, Listed, New, Told}
use Rattle.discovery.specs.Discovery.{Use, holds}
use Rattle.discovery.specs.Search.{index_in, index_is, holds_is}

abbrev pub pushed_fault : Graph → Refusal → Graph
pushed_fault g e = record g { faults = set g.faults g.fault_count e; fault_count = g.fault_count + 1 }

abbrev pub pushed_import : Graph → Import → Graph
pushed_import g i = record g { imports = set g.imports g.import_count i; import_count = g.import_count + 1 }

abbrev pub pushed_unit : Graph → ℕ → Graph
pushed_unit g file = record g { files = set g.files g.units file; units = g.units + 1 }

abbrev pub pushed_id : Graph → ℕ → Graph
pushed_id g id = record g { ids = set g.ids g.count id; count = g.count + 1 }

abbrev pub pushed_unread : Graph → ℕ → Graph
pushed_unread g folder = record g { folders = set g.folders g.unread folder; unread = g.unread + 1 }

-- before the lookups of a unit
abbrev pub no_imports : Graph → Graph
no_imports g = record g { import_count = 0 }

-- the list of a unit is set
abbrev pub with_list : Graph → ℕ → ℕ → ℕ → Graph
with_list g unit first len = record g { start = set g.start unit first; len = set g.len unit len }

abbrev pub no_import : Import
no_import = record { target = File 0; mark = 0 }

-- BEFORE THE FIRST UNIT: file 0 is the entry
abbrev pub entry_alone : Graph
entry_alone = record {
  files = replicate file_limit 0;
  start = replicate file_limit 0;
  len = replicate file_limit 0;
  units = 1;
  ids = replicate use_limit 0;
  count = 0;
  faults = replicate use_limit (refusal Cut 0);
  fault_count = 0;
  folders = replicate folder_limit 0;
  unread = 0;
  imports = replicate use_limit no_import;
  import_count = 0;
}

-- each array has its elements
abbrev pub Wide : Graph → Type 0
Wide g =
    (length g.files ≡ file_limit) × (length g.start ≡ file_limit) × (length g.len ≡ file_limit) × (length g.ids ≡ use_limit)
    × (length g.faults ≡ use_limit) × (length g.folders ≡ folder_limit) × (length g.imports ≡ use_limit)

pub wide_entry : Wide entry_alone
wide_entry = (
  length-replicate {A = ℕ} file_limit 0,
  length-replicate {A = ℕ} file_limit 0,
  length-replicate {A = ℕ} file_limit 0,
  length-replicate {A = ℕ} use_limit 0,
  length-replicate {A = Refusal} use_limit (refusal Cut 0),
  length-replicate {A = ℕ} folder_limit 0,
  length-replicate {A = Import} use_limit no_import,
)

module _ (g : Graph) (w : Wide g) where
  pub wide_fault : (e : Refusal) → Wide (pushed_fault g e)
  wide_fault e = simp length-set w

  pub wide_import : (i : Import) → Wide (pushed_import g i)
  wide_import i = simp length-set w

  pub wide_unit : (file : ℕ) → Wide (pushed_unit g file)
  wide_unit file = simp length-set w

  pub wide_id : (id : ℕ) → Wide (pushed_id g id)
  wide_id id = simp length-set w

  pub wide_unread : (folder : ℕ) → Wide (pushed_unread g folder)
  wide_unread folder = simp length-set w

  pub wide_list : (unit first len : ℕ) → Wide (with_list g unit first len)
  wide_list unit first len = simp length-set w

-- A LOOKUP pushes a fault or an import
abbrev pub looked : Result Found Cause → ℕ → Graph → Graph
looked (Ok f) mark g = pushed_import g (record { target = f.target; mark = mark })
looked (Err c) mark g = pushed_fault g (refusal c mark)

abbrev pub looked_use : Lists → Text → Use → Graph → Graph
looked_use b file u g = looked (answered b (resolve_path_internal b file u.segments)) u.mark g

-- all lookups, in item order
unfoldable pub looked_all : Lists → Text → List Use → Graph → Graph
looked_all b file [] g = g
looked_all b file (u ∷ us) g = looked_all b file us (looked_use b file u g)

-- each pushes one at most
pub looked-faults : (x : Result Found Cause) (mark : ℕ) (g : Graph) → (looked x mark g).fault_count ≤ g.fault_count + 1
looked-faults (Ok f) mark g = omega arith
looked-faults (Err c) mark g = omega arith

pub looked-imports : (x : Result Found Cause) (mark : ℕ) (g : Graph) → (looked x mark g).import_count ≤ g.import_count + 1
looked-imports (Ok f) mark g = omega arith
looked-imports (Err c) mark g = omega arith

-- THE LOOP OVER THE USES OF A FILE: i lookups are done of those of us, from g₀ to g
pub record LookedTo (b : Lists) (file : Text) (us : List Use) (g₀ g : Graph) (i : ℕ) : Type 0 where
  pub left : looked_all b file (drop i us) g ≡ looked_all b file us g₀
  pub faults : g.fault_count ≤ g₀.fault_count + i
  pub imports : g.import_count ≤ g₀.import_count + i

module _ (b : Lists) (file : Text) (us : List Use) (g₀ : Graph) where
  pub looked-none : LookedTo b file us g₀ g₀ 0
  looked-none = record { left = refl; faults = omega arith; imports = omega arith }

  pub looked-one : (g : Graph) (i : ℕ) (u : Use) → LookedTo b file us g₀ g i → i < length us → get_or us i u ≡ u → LookedTo b file us g₀ (looked_use b file u g) (i + 1)
  unfolding looked_all
  looked-one g i u h lt e =
      let x = h.faults in
      let y = h.imports in
      let step : looked_all b file (drop i us) g ≡ looked_all b file (drop (suc i) us) (looked_use b file (get_or us i u) g) = ap (λ (l : List Use). looked_all b file l g) (drop-cons us i u lt) in
      record {
        left = rw (add-one i) (ap (λ (v : Use). looked_all b file (drop (suc i) us) (looked_use b file v g)) (sym e) ∙ (sym step ∙ h.left));
        faults = omega (arith, looked-faults (answered b (resolve_path_internal b file u.segments)) u.mark g);
        imports = omega (arith, looked-imports (answered b (resolve_path_internal b file u.segments)) u.mark g);
      }

  -- what the code's lookup pushes
  pub looked-next : (g w : Graph) (i : ℕ) (u : Use) (x : Result Found Cause) → LookedTo b file us g₀ g i → i < length us → get_or us i u ≡ u → x ≡ answered b (resolve_path_internal b file u.segments)
      → w ≡ looked x u.mark g → LookedTo b file us g₀ w (i + 1)
  looked-next g w i u x h lt e a c = rw (c, a) (looked-one g i u h lt e)

  pub looked-done : (g : Graph) (i : ℕ) → LookedTo b file us g₀ g i → length us ≤ i → g ≡ looked_all b file us g₀
  unfolding looked_all
  looked-done g i h le = let e : drop i us ≡ [] = drop_of_length-le us le in ap (λ (l : List Use). looked_all b file l g) (sym e) ∙ h.left

-- A READING, of a unit whose list starts at first
abbrev pub unit_of : Graph → ℕ → ℕ
unit_of g file = index_in file (take g.units g.files)

abbrev pub is_unread : Graph → ℕ → Bool
is_unread g folder = holds folder (take g.unread g.folders)

-- what it comes to
abbrev pub reading_of : Graph → ℕ → Target → Reading
reading_of g first (File file) =
    cond (ltb (unit_of g file) g.units) (cond (holds (unit_of g file) (drop first (take g.count g.ids))) Nothing (Listed (unit_of g file))) (New file)
reading_of g first (Folder folder) = cond (is_unread g folder) Nothing (Told folder)

-- what the code finds
module _ (g : Graph) (first : ℕ) where
  module _ (file : ℕ) (few : g.units ≤ length g.files) where
    unit-is : position (λ f. eqb f file) (take g.units g.files) ≡ cond (ltb (unit_of g file) g.units) (Some (unit_of g file)) None
    unit-is = rw (index_is file (take g.units g.files), length-take-le g.units g.files few) refl

    pub reading-known : first ≤ g.count → (id : ℕ) (b : Bool) → position (λ f. eqb f file) (take g.units g.files) ≡ Some id → b ≡ list_any (λ i. eqb i id) (take (g.count - first) (drop first g.ids)) → cond b Nothing (Listed id) ≡ reading_of g first (File file)
    reading-known k id b e h = go (ltb (unit_of g file) g.units) (unit_of g file) (sym unit-is ∙ e)
      where
        the-list : drop first (take g.count g.ids) ≡ take (g.count - first) (drop first g.ids)
        the-list = let e : g.count ≡ first + (g.count - first) = omega arith in ap (λ (n : ℕ). drop first (take n g.ids)) e ∙ drop-take first (g.count - first) g.ids

        go : (t : Bool) (n : ℕ) → cond t (Some n) None ≡ Some id → cond b Nothing (Listed id) ≡ cond t (cond (holds n (drop first (take g.count g.ids))) Nothing (Listed n)) (New file)
        go true n q = let s : n ≡ id = cc in rw (s, h, holds_is id (drop first (take g.count g.ids)), the-list) refl
        go false n q = cc

    pub reading-new : position (λ f. eqb f file) (take g.units g.files) ≡ None → New file ≡ reading_of g first (File file)
    reading-new e = go (ltb (unit_of g file) g.units) (sym unit-is ∙ e)
      where
        go : (t : Bool) → cond t (Some (unit_of g file)) None ≡ None → New file ≡ cond t (cond (holds (unit_of g file) (drop first (take g.count g.ids))) Nothing (Listed (unit_of g file))) (New file)
        go true q = cc
        go false q = refl

  pub reading-folder : (folder : ℕ) (b : Bool) → b ≡ list_any (λ f. eqb f folder) (take g.unread g.folders) → cond b Nothing (Told folder) ≡ reading_of g first (Folder folder)
  reading-folder folder b h = ap (λ (b : Bool). cond b Nothing (Told folder)) (h ∙ sym (holds_is folder (take g.unread g.folders)))

-- and what is then pushed, for a use at a mark
abbrev pub applied : Reading → Graph → ℕ → Graph
applied Nothing g mark = g
applied (Listed id) g mark = pushed_id g id
applied (New file) g mark = pushed_id (pushed_unit g file) g.units
applied (Told folder) g mark = pushed_fault (pushed_unread g folder) (refusal NoFile mark)

abbrev pub read_import : Graph → ℕ → Import → Graph
read_import g first i = applied (reading_of g first i.target) g i.mark

-- room for what is new
abbrev pub NewRoom : Graph → Target → Type 0
NewRoom g (File file) = g.units ≤ unit_of g file → g.units < file_limit
NewRoom g (Folder folder) = is_unread g folder ≡ false → g.unread < folder_limit

-- room for it
pub record ReadRoom (g : Graph) (first : ℕ) (target : Target) : Type 0 where
  pub list : first ≤ g.count
  pub ids : g.count < use_limit
  pub faults : g.fault_count < use_limit
  pub units : g.units ≤ file_limit
  pub unread : g.unread ≤ folder_limit
  pub new : NewRoom g target

-- ALL READINGS OF A UNIT: i of them, where its list starts at first
unfoldable pub read_to : Graph → ℕ → ℕ → Graph
read_to g first zero = g
read_to g first (suc i) = read_import (read_to g first i) first (get_or g.imports i no_import)

abbrev pub read_out : Graph → Graph
read_out g = read_to g g.count g.import_count

unfoldable pub read_all : Graph → ℕ → Graph
read_all g unit = with_list (read_out g) unit g.count ((read_out g).count - g.count)

-- room for them
pub record ReadsRoom (g : Graph) (unit : ℕ) : Type 0 where
  pub unit_small : unit < file_limit
  pub imports : g.import_count ≤ use_limit
  pub each : (i : ℕ) → i < g.import_count → ReadRoom (read_to g g.count i) g.count (get_or g.imports i no_import).target
  pub grows : g.count ≤ (read_out g).count
  pub ids : (read_out g).count ≤ use_limit

pub read_more : (g : Graph) (first i : ℕ) (w : Graph) (r : Reading) → w ≡ read_to g first i → r ≡ reading_of w first (get_or g.imports i no_import).target → applied r w (get_or g.imports i no_import).mark ≡ read_to g first (i + 1)
unfolding read_to
read_more g first i w r e h = rw (add-one i, h, e) refl

pub read_none : (g : Graph) (first : ℕ) → g ≡ read_to g first 0
unfolding read_to
read_none g first = refl

pub read_done : (g : Graph) (unit i : ℕ) (w : Graph) → w ≡ read_to g g.count i → i ≡ g.import_count → with_list w unit g.count (w.count - g.count) ≡ read_all g unit
unfolding read_all
read_done g unit i w e h = rw (e, h) refl
