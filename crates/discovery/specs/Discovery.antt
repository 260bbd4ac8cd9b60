-- Step 3: discovery. The names are those of driver/mod.rs. Assumes nothing.
use Rattle.std.specs.Prelude.{ℕ, zero, suc, Bool, false, cond, ◌||◌, List, [], ◌∷◌, ◌++◌, map, eqb, ltb, length, get_or}
use Rattle.names.specs.Bytes.{same, member}
use Rattle.bundle.specs.Bundle.{Text, Items, none, named, use_of, module_of, ignored, File, Bundle}
use Rattle.resolution.specs.Lists.{Lists, lists_of}
use Rattle.resolution.specs.Call.{position}
use Rattle.resolution.specs.Resolution.{Resolved, to, fails, number, resolve_path_internal}

-- THE USES OF A FILE
pub record Use : Type 0 where
  pub mark : ℕ
  pub segments : List Text

-- in item order, those of inline modules included
unfoldable pub uses : Items → List Use
uses none = []
uses (named head rest) = uses rest
uses (use_of m v segments elements rest) = record { mark = m; segments = segments } ∷ uses rest
uses (module_of m v name inner rest) = uses inner ++ uses rest
uses (ignored m v rest) = uses rest

-- the items of the file of a path
unfoldable pub program_of : List File → Text → Items
program_of [] p = none
program_of (f ∷ fs) p = cond (same p f.path) f.items (program_of fs p)

-- RESOLVE_IMPORTS
-- what a use, known by its mark, resolves to
pub record ResolvedUse : Type 0 where
  pub mark : ℕ
  pub resolved : Resolved

abbrev pub resolve_single : Lists → Text → Use → ResolvedUse
resolve_single l file u = record { mark = u.mark; resolved = resolve_path_internal l file u.segments }

-- what the uses of a file resolve to, in item order
unfoldable pub use_cache : Bundle → Text → List ResolvedUse
use_cache b file = map (resolve_single (lists_of b) file) (uses (program_of b.files file))

-- a record of the report: number and place
pub record Fault : Type 0 where
  pub number : ℕ
  pub place : ℕ

-- a path that a use resolves to, with the use's mark
pub record Import : Type 0 where
  pub path : Text
  pub mark : ℕ

abbrev pub fault_of : ℕ → Resolved → List Fault
fault_of mark (to p rest) = []
fault_of mark (fails f) = record { number = number f; place = mark } ∷ []

abbrev pub import_of : ℕ → Resolved → List Import
import_of mark (to p rest) = record { path = p; mark = mark } ∷ []
import_of mark (fails f) = []

unfoldable pub lookup_faults : List ResolvedUse → List Fault
lookup_faults [] = []
lookup_faults (r ∷ rs) = fault_of r.mark r.resolved ++ lookup_faults rs

unfoldable pub valid_imports : List ResolvedUse → List Import
valid_imports [] = []
valid_imports (r ∷ rs) = import_of r.mark r.resolved ++ valid_imports rs

-- LOAD_AND_PARSE_DEPENDENCIES
-- the number of a path that can't be read
abbrev pub unreadable : ℕ
unreadable = 23

-- while the imports of a unit are loaded: the paths of the units by id, the unit's list, the paths that could not be read, the faults
pub record Loading : Type 0 where
  pub sources : List Text
  pub list : List ℕ
  pub invalid : List Text
  pub faults : List Fault

unfoldable pub holds : ℕ → List ℕ → Bool
holds d [] = false
holds d (x ∷ l) = eqb d x || holds d l

-- a list holds an id once
unfoldable pub add_once : ℕ → List ℕ → List ℕ
add_once d l = cond (holds d l) l (l ++ (d ∷ []))

-- one import, where these files can be read: one that could not be read is skipped, a known one listed, a new one gets the next id
unfoldable pub load : List Text → Import → Loading → Loading
load files i s =
    cond (member i.path s.invalid) s
    (cond (member i.path s.sources)
    (record { sources = s.sources; list = add_once (position i.path s.sources) s.list; invalid = s.invalid; faults = s.faults })
    (cond (member i.path files)
    (record { sources = s.sources ++ (i.path ∷ []); list = s.list ++ (length s.sources ∷ []); invalid = s.invalid; faults = s.faults })
    (record {
      sources = s.sources;
      list = s.list;
      invalid = s.invalid ++ (i.path ∷ []);
      faults = s.faults ++ (record { number = unreadable; place = i.mark } ∷ []);
    })))

unfoldable pub load_all : List Text → List Import → Loading → Loading
load_all files [] s = s
load_all files (i ∷ is) s = load_all files is (load files i s)

-- DISCOVER_DEPENDENCIES
-- the paths of the units by id, the list of each unit that was handled, the paths that could not be read, and the faults in
-- the order of their pushes
pub record Graph : Type 0 where
  pub sources : List Text
  pub dependencies : List (List ℕ)
  pub invalid : List Text
  pub faults : List Fault

-- the first unit that was not handled: the queue holds it and the units after it
abbrev pub current : Graph → ℕ
current g = length g.dependencies

abbrev pub handled : Graph → Loading → Graph
handled g s = record {
  sources = s.sources;
  dependencies = g.dependencies ++ (s.list ∷ []);
  invalid = s.invalid;
  faults = s.faults;
}

-- all lookups of the unit at the head of the queue, then all its readings
abbrev pub turn_with : List Text → List ResolvedUse → Graph → Graph
turn_with files rs g =
    handled g (load_all files (valid_imports rs)
    (record { sources = g.sources; list = []; invalid = g.invalid; faults = g.faults ++ lookup_faults rs }))

unfoldable pub turn : List Text → (Text → List ResolvedUse) → Graph → Graph
turn files cache g = turn_with files (cache (get_or g.sources (current g) [])) g

-- until the queue is empty; the first number bounds the turns
unfoldable pub turns : ℕ → List Text → (Text → List ResolvedUse) → Graph → Graph
turns zero files cache g = g
turns (suc k) files cache g =
    cond (ltb (current g) (length g.sources)) (turns k files cache (turn files cache g)) g

-- the first file is the entry
abbrev pub entry_of : List Text → List Text
entry_of [] = []
entry_of (p ∷ l) = p ∷ []

abbrev pub start : List Text → Graph
start files = record { sources = entry_of files; dependencies = []; invalid = []; faults = [] }

abbrev pub paths_of : Bundle → List Text
paths_of b = map (λ f. f.path) b.files

unfoldable pub discover_dependencies : Bundle → Graph
discover_dependencies b = turns (length b.files) (paths_of b) (use_cache b) (start (paths_of b))
