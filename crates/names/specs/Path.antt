-- Paths: `/`, or components each led by `/`. As bytes, and as a list of components. Assumes nothing.
use Rattle.std.specs.Prelude.{ℕ, Bool, cond, ◌&&◌, not, List, [], ◌∷◌, ◌++◌, eqb, leb, length, get_or, drop}
use Rattle.names.specs.Bytes.{ascii, slash, same, all}
use Rattle.names.specs.Identifier.{name_limit, between}

-- the most components of a path, and the most bytes
abbrev pub component_limit : ℕ
component_limit = 16

abbrev pub path_limit : ℕ
path_limit = 255

-- a byte in front of the first piece
unfoldable pub onto : ℕ → List (List ℕ) → List (List ℕ)
onto b [] = (b ∷ []) ∷ []
onto b (c ∷ cs) = (b ∷ c) ∷ cs

-- the pieces between slashes
unfoldable pub split : List ℕ → List (List ℕ)
split [] = [] ∷ []
split (b ∷ s) = cond (eqb b slash) ([] ∷ split s) (onto b (split s))

abbrev pub root : List ℕ
root = slash ∷ []

-- a path's components: none of `/`, else the pieces after the leading slash. (The first byte of other bytes is passed over.)
unfoldable pub components : List ℕ → List (List ℕ)
components s = cond (same s root) [] (split (drop 1 s))

-- the path with these components
unfoldable pub led : List (List ℕ) → List ℕ
led [] = []
led (c ∷ cs) = slash ∷ (c ++ led cs)

unfoldable pub render : List (List ℕ) → List ℕ
render [] = root
render (c ∷ cs) = led (c ∷ cs)

-- a byte that may stand in a component
abbrev pub printable : ℕ → Bool
printable b = between 0x21 0x7e b && not (eqb b slash)

-- 1 to 32 bytes from 21 to 7E hexadecimal, no `/`, not `.` or `..`
unfoldable pub is_component : List ℕ → Bool
is_component c =
    leb 1 (length c) && (leb (length c) name_limit && (all printable c && (not (same c (ascii ".")) && not (same c (ascii "..")))))

-- the form of a list of components
unfoldable pub well_formed : List (List ℕ) → Bool
well_formed cs = leb (length cs) component_limit && all is_component cs

-- the specification's path form
unfoldable pub is_path : List ℕ → Bool
is_path s = eqb (get_or s 0 0) slash && (leb (length s) path_limit && well_formed (components s))
