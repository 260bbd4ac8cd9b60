-- What discovery is to find in item order and file by file, said without its loop: uses, imports and faults. Assumes nothing.
use Rattle.std.specs.Prelude.{ℕ, ◌<◌, cond, ◌≡◌}
use mathlib.Core.List.{List, [], ◌∷◌, ◌++◌, map, Memᴰ}
use Rattle.names.specs.Bytes.{member}
use Rattle.bundle.specs.Bundle.{Text, Element, Head, Items, named, use_of, module_of, ignored, Bundle}
use Rattle.discovery.specs.Discovery.{Use, Fault, Import, lookup_faults, valid_imports, use_cache, unreadable, entry_of, paths_of}
use Rattle.discovery.specs.Reached.{Reached, firsts, imports_of}

-- USES IN ITEM ORDER
-- the use stands among items: itself, in an inline module at any depth, or among the items after the first
pub data Stands (u : Use) : Items → Type 0 where
  here : {m v : ℕ} {segments : List Text} {elements : List Element} {rest : Items} → u ≡ record { mark = m; segments = segments } → Stands u (use_of m v segments elements rest)
  inside : {m v : ℕ} {name : Text} {inner rest : Items} → Stands u inner → Stands u (module_of m v name inner rest)
  after_named : {head : Head} {rest : Items} → Stands u rest → Stands u (named head rest)
  after_use : {m v : ℕ} {segments : List Text} {elements : List Element} {rest : Items} → Stands u rest → Stands u (use_of m v segments elements rest)
  after_module : {m v : ℕ} {name : Text} {inner rest : Items} → Stands u rest → Stands u (module_of m v name inner rest)
  after_ignored : {m v : ℕ} {rest : Items} → Stands u rest → Stands u (ignored m v rest)

-- each number is below all after it
pub data Increasing : List ℕ → Type 0 where
  none : Increasing []
  more : {m : ℕ} {l : List ℕ} → ((x : ℕ) → Memᴰ x l → m < x) → Increasing l → Increasing (m ∷ l)

-- FILES IN TURN
-- what the files import, file by file
unfoldable pub imports_in_turn : Bundle → List Text → List Text
imports_in_turn b [] = []
imports_in_turn b (f ∷ fs) = imports_of b f ++ imports_in_turn b fs

-- reached files: the entry, then what each of them in turn imports, each file at its first place
pub record BreadthFirst (b : Bundle) (l : List Text) : Type 0 where
  pub reached : (p : Text) → Memᴰ p l → Reached b p
  pub in_turn : l ≡ firsts [] (entry_of (paths_of b) ++ imports_in_turn b l)

-- THE PATHS THAT CAN'T BE READ
-- those of some imports, in their order
unfoldable pub unread : List Text → List Import → List Import
unread files [] = []
unread files (i ∷ is) = cond (member i.path files) (unread files is) (i ∷ unread files is)

-- those that the uses of a file resolve to, in use order
unfoldable pub unread_of : Bundle → Text → List Import
unread_of b f = unread (paths_of b) (valid_imports (use_cache b f))

unfoldable pub unread_in_turn : Bundle → List Text → List Import
unread_in_turn b [] = []
unread_in_turn b (f ∷ fs) = unread_of b f ++ unread_in_turn b fs

abbrev pub paths_in : List Import → List Text
paths_in l = map (λ i. i.path) l

-- of the imports of one path the first alone; those of the first list's paths left out
unfoldable pub first_of_path : List Text → List Import → List Import
first_of_path seen [] = []
first_of_path seen (i ∷ is) = cond (member i.path seen) (first_of_path seen is) (i ∷ first_of_path (seen ++ (i.path ∷ [])) is)

-- those of a file that no file before it has
unfoldable pub readings_of : Bundle → List Text → Text → List Import
readings_of b before f = first_of_path (paths_in (unread_in_turn b before)) (unread_of b f)

unfoldable pub readings_in_turn : Bundle → List Text → List Text → List Import
readings_in_turn b before [] = []
readings_in_turn b before (f ∷ fs) = readings_of b before f ++ readings_in_turn b (before ++ (f ∷ [])) fs

-- THE FAULTS
-- 23, at the mark of the use
abbrev pub reading_fault : Import → Fault
reading_fault i = record { number = unreadable; place = i.mark }

-- of a file: those of its lookups in use order, then those of its readings in use order
unfoldable pub faults_of_file : Bundle → List Text → Text → List Fault
faults_of_file b before f = lookup_faults (use_cache b f) ++ map reading_fault (readings_of b before f)

unfoldable pub faults_in_turn : Bundle → List Text → List Text → List Fault
faults_in_turn b before [] = []
faults_in_turn b before (f ∷ fs) = faults_of_file b before f ++ faults_in_turn b (before ++ (f ∷ [])) fs
