-- Step 5: the units of a linked order become one program. The names are those of resolve_order.rs. Assumes nothing.
use Rattle.std.specs.Prelude.{ℕ, zero, suc, Bool, false, cond, ◌&&◌, ◌||◌, List, [], ◌∷◌, ◌++◌, map, eqb, get_or}
use Rattle.names.specs.Bytes.{ascii, same}
use Rattle.names.specs.Decimal.{unit_name}
use Rattle.bundle.specs.Bundle.{Text, Items, none, named, use_of, module_of, ignored, Bundle}
use Rattle.resolution.specs.Lists.{lists_of}
use Rattle.resolution.specs.Resolution.{Resolved, to, fails, resolve_path_internal}
use Rattle.resolution.specs.Call.{position}
use Rattle.discovery.specs.Discovery.{Fault, program_of}
use Rattle.order.specs.Run.{ordered, units_of}
use Rattle.order.specs.Outcome as steps
use Rattle.order.specs.Outcome.{and_then}
pub use Rattle.order.specs.Outcome.{faulty, closed, ended, result, unless}

-- kinds of items
abbrev pub function_kind : ℕ
function_kind = 2

abbrev pub enum_kind : ℕ
enum_kind = 4

-- the specification's numbers
abbrev pub no_main : ℕ
no_main = 27

abbrev pub foreign_enum : ℕ
foreign_enum = 28

-- REWRITE_USE
-- `crate`, the target's unit name, then its module path. A use that fails never comes here: discovery told it, which prevents
-- step 5 (`uses_found` in Theorems).
abbrev pub new_path : List Text → Resolved → List Text
new_path units (to p rest) = ascii "crate" ∷ unit_name (position p units) ∷ rest
new_path units (fails f) = []

-- the new path of a use of a file
unfoldable pub rewrite_use : Bundle → Text → List Text → List Text
rewrite_use b file segments = new_path (units_of b) (resolve_path_internal (lists_of b) file segments)

-- REWRITE_ITEM
-- items one after the other: a use's path is rewritten, in inline modules too; its elements, its visibility and all other items
-- stay; ignored items go. Each item keeps its mark.
unfoldable pub rewrite_items : (List Text → List Text) → Items → Items
rewrite_items path none = none
rewrite_items path (named head rest) = named head (rewrite_items path rest)
rewrite_items path (use_of m v segments elements rest) = use_of m v (path segments) elements (rewrite_items path rest)
rewrite_items path (module_of m v name inner rest) = module_of m v name (rewrite_items path inner) (rewrite_items path rest)
rewrite_items path (ignored m v rest) = rewrite_items path rest

-- the path of a unit, and the items of its file
abbrev pub file_of : Bundle → ℕ → Text
file_of b u = get_or (units_of b) u []

abbrev pub items_of : Bundle → ℕ → Items
items_of b u = program_of b.files (file_of b u)

unfoldable pub local_items : Bundle → ℕ → Items
local_items b u = rewrite_items (rewrite_use b (file_of b u)) (items_of b u)

-- ASSEMBLE_PROGRAM
-- each unit is a private module, with mark 0, named `unit_` and its id in decimal
unfoldable pub assembled : Bundle → List ℕ → Items
assembled b [] = none
assembled b (u ∷ l) = module_of 0 0 (unit_name u) (local_items b u) (assembled b l)

-- FAULTS
-- the marks of all enums, those of inline modules included
unfoldable pub enum_declarations : Items → List ℕ
enum_declarations none = []
enum_declarations (named head rest) = cond (eqb head.kind enum_kind) (head.mark ∷ enum_declarations rest) (enum_declarations rest)
enum_declarations (use_of m v segments elements rest) = enum_declarations rest
enum_declarations (module_of m v name inner rest) = enum_declarations inner ++ enum_declarations rest
enum_declarations (ignored m v rest) = enum_declarations rest

abbrev pub foreign_enum_fault : ℕ → Fault
foreign_enum_fault mark = record { number = foreign_enum; place = mark }

-- every unit but 0
unfoldable pub forbid_enum_dec_in_deps : ℕ → Items → List Fault
forbid_enum_dec_in_deps zero is = []
forbid_enum_dec_in_deps (suc u) is = map foreign_enum_fault (enum_declarations is)

-- a function named `main` among items, and not inside their modules
unfoldable pub has_main : Items → Bool
has_main none = false
has_main (named head rest) = (eqb head.kind function_kind && same head.name (ascii "main")) || has_main rest
has_main (use_of m v segments elements rest) = has_main rest
has_main (module_of m v name inner rest) = has_main rest
has_main (ignored m v rest) = has_main rest

abbrev pub no_main_fault : Fault
no_main_fault = record { number = no_main; place = 0 }

-- unit 0 alone
unfoldable pub main_faults : ℕ → Items → List Fault
main_faults zero is = cond (has_main is) [] (no_main_fault ∷ [])
main_faults (suc u) is = []

-- in the order of the pushes
unfoldable pub assembly_faults : Bundle → List ℕ → List Fault
assembly_faults b [] = []
assembly_faults b (u ∷ l) = main_faults u (local_items b u) ++ (forbid_enum_dec_in_deps u (local_items b u) ++ assembly_faults b l)

-- STEPS 3 TO 5
-- the ids of the units in linked order, and the program
pub record Built : Type 0 where
  pub ids : List ℕ
  pub items : Items

-- the faults of discovery or of step 5, a ring, or a program
abbrev pub Outcome : Type 0
Outcome = steps.Outcome Built

abbrev pub program : List ℕ → Items → Outcome
program o p = result (record { ids = o; items = p })

-- faults of step 5 leave no program
abbrev pub step5 : List Fault → List ℕ → Items → Outcome
step5 fs o p = unless fs (program o p)

-- discovery faults and a ring prevent step 5
abbrev pub assemble_after : Bundle → steps.Outcome (List ℕ) → Outcome
assemble_after b x = and_then x (λ o. step5 (assembly_faults b o) o (assembled b o))

unfoldable pub linearize_and_assemble : Bundle → Outcome
linearize_and_assemble b = assemble_after b (ordered b)
