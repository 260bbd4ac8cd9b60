-- What discovery is to find, said without a walk: which file imports which, and which are reached. Assumes nothing.
use Rattle.std.specs.Prelude.{◌≡◌, cond}
use mathlib.Core.List.{List, [], ◌∷◌, ◌++◌, Memᴰ}
use Rattle.names.specs.Bytes.{member}
use Rattle.bundle.specs.Bundle.{Text, Bundle}
use Rattle.resolution.specs.Lists.{lists_of}
use Rattle.resolution.specs.Resolution.{to, resolve_path_internal}
pub use Rattle.graph.specs.Order.{Once, none, more}
use Rattle.discovery.specs.Discovery.{Use, uses, program_of, Import, valid_imports, use_cache, paths_of}

-- file f imports file g: some use of f, at any depth, resolves to the readable g
pub record Imports (b : Bundle) (f g : Text) : Type 0 where
  pub by : Use
  pub rest : List Text
  pub used : Memᴰ by (uses (program_of b.files f))
  pub resolves : resolve_path_internal (lists_of b) f by.segments ≡ to g rest
  pub readable : Memᴰ g (paths_of b)

-- reached are the entry and what reached files import
pub data Reached (b : Bundle) : Text → Type 0 where
  entry : {p : Text} {ps : List Text} → paths_of b ≡ p ∷ ps → Reached b p
  imported : {f g : Text} → Reached b f → Imports b f g → Reached b g

-- the paths that can be read, of imports in their order
unfoldable pub readable : List Text → List Import → List Text
readable files [] = []
readable files (i ∷ is) = cond (member i.path files) (i.path ∷ readable files is) (readable files is)

-- each once, at its first place; those of the first list left out
unfoldable pub firsts : List Text → List Text → List Text
firsts seen [] = []
firsts seen (p ∷ ps) = cond (member p seen) (firsts seen ps) (p ∷ firsts (seen ++ (p ∷ [])) ps)

-- the readable files that the uses of a file resolve to, each once, in the order of first use
unfoldable pub imports_of : Bundle → Text → List Text
imports_of b f = firsts [] (readable (paths_of b) (valid_imports (use_cache b f)))
