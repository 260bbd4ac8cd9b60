-- Paths below paths, by whole components. Assumes nothing.
use Rattle.std.specs.Prelude.{ℕ, suc, Bool, true, false, cond, ◌&&◌, List, [], ◌∷◌, ◌++◌, eqb, length}
use Rattle.names.specs.Bytes.{ascii, slash, same}
use Rattle.names.specs.Path.{components, render, root}

-- whether the list begins with the other, component by component
unfoldable pub begins : List (List ℕ) → List (List ℕ) → Bool
begins cs [] = true
begins [] (d ∷ ds) = false
begins (c ∷ cs) (d ∷ ds) = same c d && begins cs ds

-- source.rs `starts_with`: the path f lies at or below the path p
unfoldable pub starts_with : List ℕ → List ℕ → Bool
starts_with f p = begins (components f) (components p)

-- how many components a path has
abbrev pub depth : List ℕ → ℕ
depth s = length (components s)

-- resolution.rs `parent() == Some(root)`: the path f lies in the folder d, and in no folder between
unfoldable pub directly_in : List ℕ → List ℕ → Bool
directly_in f d = starts_with f d && eqb (depth f) (suc (depth d))

unfoldable pub init : List (List ℕ) → List (List ℕ)
init [] = []
init (c ∷ []) = []
init (c ∷ (d ∷ ds)) = c ∷ init (d ∷ ds)

-- the folder that a path lies in; `/` of `/`
unfoldable pub parent : List ℕ → List ℕ
parent s = render (init (components s))

-- a folder's path as it stands before the slash of what it holds: nothing of `/`
unfoldable pub stem_of : List ℕ → List ℕ
stem_of d = cond (same d root) [] d

-- the path of a name below a folder, of whatever length
unfoldable pub child : List ℕ → List ℕ → List ℕ
child d name = stem_of d ++ (slash ∷ name)

-- the path of the file that a name below a folder stands for
unfoldable pub child_file : List ℕ → List ℕ → List ℕ
child_file d name = child d (name ++ ascii ".simf")
