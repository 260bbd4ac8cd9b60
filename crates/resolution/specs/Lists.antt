-- What resolution looks at in a bundle: its root and its lists of paths. Assumes nothing.
use Rattle.std.specs.Prelude.{List, map}
use Rattle.bundle.specs.Bundle.{Text, Remapping, Bundle}

pub record Lists : Type 0 where
  -- the package root of the entry
  pub root : Text
  -- the folders that are listed, so without `/`
  pub folders : List Text
  pub remappings : List Remapping
  pub files : List Text

abbrev pub lists_of : Bundle → Lists
lists_of b = record {
  root = b.root;
  folders = b.folders;
  remappings = b.remappings;
  files = map (λ f. f.path) b.files;
}
