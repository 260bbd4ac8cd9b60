-- THE LINES `has` of a tree (docs/SPECIFICATION.md 8). Assumes nothing.
use Rattle.std.specs.Prelude.{ℕ, zero, suc, cond, List, [], ◌∷◌, ◌++◌, eqb, length, get_or}
use Rattle.names.specs.Bytes.{ascii}
use Rattle.names.specs.Decimal.{decimal}
use Rattle.text.specs.Words.{Text, spelled}
use Rattle.scope_tree.specs.Flat.{Entry, none}

-- the module of a scope among the entries l: `crate` and the modules around it, outermost first. The first number bounds how deep it lies
unfoldable pub module_path : ℕ → List Entry → ℕ → Text
module_path zero l s = ascii "crate"
module_path (suc k) l zero = ascii "crate"
module_path (suc k) l (suc i) = module_path k l (get_or l i none).scope ++ (ascii "::" ++ spelled (get_or l i none).shows.name)

-- "`has` module, kind, name, mark reached"
abbrev pub has_line : List Entry → Entry → List Text
has_line l e =
    ascii "has" ∷ module_path (length l) l e.scope ∷ decimal e.shows.kind ∷ spelled e.shows.name ∷ decimal e.shows.mark ∷ []

-- "entries in order made", "units not shown"
unfoldable pub has_lines : List Entry → List Entry → List (List Text)
has_lines l [] = []
has_lines l (e ∷ es) = cond (eqb e.scope 0) (has_lines l es) (has_line l e ∷ has_lines l es)
