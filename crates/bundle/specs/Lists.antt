-- Past a value of a list of paths. Assumes nothing.
use Rattle.std.specs.Prelude.{ℕ, Bool, true, false, List}
use Rattle.bundle.specs.Decode.{after, after_file}

-- past a file, or a folder
abbrev pub skip : Bool → List ℕ → ℕ → ℕ
skip true s = after_file s
skip false s = after s
