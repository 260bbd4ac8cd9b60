-- A report of an accepted bundle is never longer than 4,096 bytes: a use tells one fault at most, an enum one, and unit 0 one.
-- Assumes nothing.
use Rattle.std.specs.Prelude.{ℕ, ◌+◌, ◌≤◌, Bool, true, false, cond, ◌≡◌, refl, List, [], ◌∷◌, ◌++◌, map, length}
use Rattle.std.proofs.Common.{arith, ap, subst, length-append}
use Rattle.std.proofs.lemmas.List.{length-map}
use Rattle.names.specs.Bytes.{member}
use Rattle.bundle.specs.Bundle.{Text, File, Bundle}
use Rattle.bundle.specs.Answers.{value-ok}
use Rattle.bundle.specs.Form.{item_count, file_items, WellFormed}
use Rattle.bundle.specs.Limits.{use_limit, item_limit}
use Rattle.bundle.specs.Read.{value, verdict, read}
use Rattle.bundle.specs.Stand.{Bytes}
use Rattle.bundle.specs.Theorems.{sound}
use Rattle.resolution.specs.Lists.{lists_of}
use Rattle.resolution.specs.Resolution.{Resolved, to, fails}
use Rattle.discovery.specs.Discovery.{uses, program_of, ResolvedUse, resolve_single, use_cache, Fault, Import, fault_of, import_of, lookup_faults, valid_imports, paths_of, discover_dependencies}
use Rattle.discovery.specs.Facts.{paths_at}
use Rattle.discovery.specs.InTurn.{unread, unread_of, paths_in, unread_in_turn, first_of_path, readings_of, reading_fault, faults_of_file, faults_in_turn}
use Rattle.discovery.specs.InTurnTheorems.{faults_in_turn_lem}
use Rattle.discovery.specs.Room.{Roomy, bytes-roomy}
use Rattle.discovery.specs.Weight.{sum_uses, units_weigh, reached-file, sum_of, total_of, weigh_of}
use Rattle.order.specs.Run.{linked, ordered, files_of}
use Rattle.order.specs.Report.{fault, report_length}
use Rattle.order.specs.Theorems.{faults_of, first_half}
use Rattle.assembly.specs.Assemble.{items_of, enum_declarations, foreign_enum_fault, has_main, no_main_fault, assembly_faults}
use Rattle.assembly.specs.Faults.{enums_of, main_fault}
use Rattle.assembly.specs.EnumRoom.{enums_few}
use Rattle.assembly.specs.Theorems.{assembly, FaultsFrom, of_discovery, of_step5}
use Rattle.linker.specs.Link.{faulty, link_bundle}
use Rattle.linker.specs.Theorems.{faults-only}
use Rattle.printing.specs.Reported.{faults-length}
use Rattle.printing.specs.Sizes.{report_size}

-- DISCOVERY: each use fails or is an import
one_each : (m : ℕ) (x : Resolved) → length (fault_of m x) + length (import_of m x) ≡ 1
one_each m (to p rest) = refl
one_each m (fails f) = refl

each_use : (rs : List ResolvedUse) → length (lookup_faults rs) + length (valid_imports rs) ≡ length rs
unfolding lookup_faults valid_imports
each_use [] = refl
each_use (r ∷ rs) =
    omega (arith, each_use rs, one_each r.mark r.resolved, length-append (fault_of r.mark r.resolved) (lookup_faults rs), length-append (import_of r.mark r.resolved) (valid_imports rs))

-- an import tells one fault of reading at most
unread-few : (files : List Text) (is : List Import) → length (unread files is) ≤ length is
unfolding unread
unread-few files [] = omega arith
unread-few files (i ∷ is) = go (member i.path files) (unread-few files is)
  where
    go : (c : Bool) → length (unread files is) ≤ length is → length (cond c (unread files is) (i ∷ unread files is)) ≤ length (i ∷ is)
    go true h = omega arith
    go false h = omega arith

firsts-few : (seen : List Text) (is : List Import) → length (first_of_path seen is) ≤ length is
unfolding first_of_path
firsts-few seen [] = omega arith
firsts-few seen (i ∷ is) = go (member i.path seen) (firsts-few seen is) (firsts-few (seen ++ (i.path ∷ [])) is)
  where
    go : (c : Bool) → length (first_of_path seen is) ≤ length is → length (first_of_path (seen ++ (i.path ∷ [])) is) ≤ length is
        → length (cond c (first_of_path seen is) (i ∷ first_of_path (seen ++ (i.path ∷ [])) is)) ≤ length (i ∷ is)
    go true h k = omega arith
    go false h k = omega arith

-- a file has no more faults than uses
file-few : (b : Bundle) (before : List Text) (f : Text) → length (faults_of_file b before f) ≤ length (uses (program_of b.files f))
unfolding faults_of_file readings_of unread_of use_cache
file-few b before f =
    let rs = use_cache b f in
    let a = each_use rs in
    let c = unread-few (paths_of b) (valid_imports rs) in
    let d = firsts-few (paths_in (unread_in_turn b before)) (unread_of b f) in
    let e = length-map (readings_of b before f) reading_fault in
    let g = length-append (lookup_faults rs) (map reading_fault (readings_of b before f)) in
    let u = length-map (uses (program_of b.files f)) (resolve_single (lists_of b) f) in
    omega arith

turn-few : (b : Bundle) (before l : List Text) → length (faults_in_turn b before l) ≤ sum_uses b.files l
unfolding faults_in_turn sum_uses
turn-few b before [] = omega arith
turn-few b before (f ∷ fs) =
    let h = file-few b before f in
    let k = turn-few b (before ++ (f ∷ [])) fs in
    omega (arith, length-append (faults_of_file b before f) (faults_in_turn b (before ++ (f ∷ [])) fs))

pub discovery-few : (b : Bundle) → Roomy b → length (faults_of b) ≤ use_limit
discovery-few b r =
    let k = r.uses in
    let e = ap length (faults_in_turn_lem b) in
    omega (arith, turn-few b [] (discover_dependencies b).sources, units_weigh b)

-- STEP 5: an enum is an item (`enums_few` of assembly)
items-total : (fs : List File) → total_of item_count fs ≡ file_items fs
unfolding total_of file_items
items-total [] = refl
items-total (f ∷ fs) = let h = items-total fs in omega arith

-- of some units, and of others behind them
units-few : (b : Bundle) (l k : List ℕ) → length (enums_of b l) ≤ sum_of item_count b.files (files_of b (l ++ k))
unfolding enums_of sum_of paths_at
units-few b [] k = omega arith
units-few b (u ∷ l) k =
    let h = units-few b l k in
    let e = enums_few (items_of b u) in
    omega (arith, length-append (enum_declarations (items_of b u)) (enums_of b l))

main-few : (b : Bundle) → length (main_fault b) ≤ 1
unfolding main_fault
main-few b = go (has_main (items_of b 0))
  where
    go : (c : Bool) → length (cond c [] (no_main_fault ∷ [])) ≤ 1
    go true = omega arith
    go false = omega arith

pub step5-few : (b : Bundle) → WellFormed b → (o : List ℕ) → ordered b ≡ linked o → length (assembly_faults b o) ≤ item_limit + 1
step5-few b w o e =
    let a = assembly b w o e in
    let l = (first_half b w.form.some_file).order o e in
    let g = weigh_of item_count l.once b.files (λ p m. reached-file b p (l.sound p m)) in
    let k = ap (λ (r : List ℕ). sum_of item_count b.files (files_of b r)) a.last in
    let u = units-few b a.before (0 ∷ []) in
    let t = items-total b.files in
    let c = w.form.item_count_within in
    let m = main-few b in
    let f = ap length a.faults in
    let n = length-map (enums_of b a.before) foreign_enum_fault in
    omega (arith, length-append (map foreign_enum_fault (enums_of b a.before)) (main_fault b))

pub read-roomy : (s : List ℕ) → Bytes s → (b : Bundle) → read s ≡ value b → Roomy b
unfolding read
read-roomy s B b v = let q = value-ok (verdict s) _ b v in subst Roomy q.1 (bytes-roomy s B q.0)

-- A REPORT OF FAULTS FITS in the program's: 3 bytes a fault
pub report-fits : (s : List ℕ) → Bytes s → (b : Bundle) → read s ≡ value b → (l : List Fault) → link_bundle b ≡ faulty l → report_length (map fault l) ≤ report_size
report-fits s B b v l e = go (faults-only s b v l e).from
  where
    go : FaultsFrom b l → report_length (map fault l) ≤ report_size
    go (of_discovery q) = let z = ap length q in omega (arith, faults-length l, discovery-few b (read-roomy s B b v))
    go (of_step5 o h q) = let z = ap length q in omega (arith, faults-length l, step5-few b (sound s B b v).1 o h)
