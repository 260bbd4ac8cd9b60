-- The refusals 7 to 13, of a bundle that passes 1 to 6. Assumes nothing.
use Rattle.std.specs.Prelude.{ℕ, Bool, false, cond, ◌&&◌, ◌||◌, not, List, [], ◌∷◌, ◌++◌, map}
use Rattle.names.specs.Bytes.{same, member}
use Rattle.names.specs.Path.{root}
use Rattle.names.specs.Prefix.{directly_in}
use Rattle.names.specs.Identifier.{is_identifier}
use Rattle.names.specs.Keywords.{is_crate, is_keyword}
use Rattle.bundle.specs.Bundle.{Text, with_slash}
use Rattle.bundle.specs.Limits.{header, folder_width, file_width}
use Rattle.bundle.specs.Scan.{text, version_of}
use Rattle.bundle.specs.Decode.{counted_by, counted, after, after_remapping, after_file, folders_at, remappings_at, files_at}
use Rattle.bundle.specs.Results.{Checked}
use Rattle.bundle.specs.Results.{Ok, Refused}

-- a string and its place, the offset of its length byte
pub record Placed : Type 0 where
  pub place : ℕ
  pub string : Text

pub record PlacedRemapping : Type 0 where
  pub context : Placed
  pub name : Placed
  pub target : Placed

unfoldable pub placed_at : List ℕ → ℕ → Placed
placed_at s at = record { place = at; string = text s at }

unfoldable pub placed_remapping_at : List ℕ → ℕ → PlacedRemapping
placed_remapping_at s at = record {
  context = placed_at s at;
  name = placed_at s (after s at);
  target = placed_at s (after s (after s at));
}

abbrev pub texts : List Placed → List Text
texts = map (λ p. p.string)

-- the second test, where the first finds nothing
abbrev pub or_else : Checked → Checked → Checked
or_else Ok c = c
or_else (Refused n p) c = Refused n p

-- whether a test holds of some element
unfoldable pub any : {A : Type 0} → (A → Bool) → List A → Bool
any f [] = false
any f (a ∷ l) = f a || any f l

-- path by path: 7 where it is listed before, 8 where it lies directly in none of the folders, `/` among them
unfoldable pub listed : List Text → List Text → List Placed → Checked
listed seen folders [] = Ok
listed seen folders (p ∷ ps) =
    cond (member p.string seen) (Refused 7 p.place)
    (cond (any (directly_in p.string) folders) (listed (seen ++ (p.string ∷ [])) folders ps) (Refused 8 p.place))

-- a root, context or target: 10 where it is a file, 9 where it isn't listed
unfoldable pub located : List Text → List Text → Placed → Checked
located folders files p =
    cond (member p.string folders) Ok
    (cond (member p.string files) (Refused 10 p.place) (Refused 9 p.place))

-- a remapping's name: 11 for `crate`, 12 where it fails the identifier form or is another keyword
unfoldable pub named : Placed → Checked
named p =
    cond (is_crate p.string) (Refused 11 p.place)
    (cond (is_identifier p.string && not (is_keyword p.string)) Ok (Refused 12 p.place))

-- two remappings of one name in one context
unfoldable pub same_remapping : PlacedRemapping → PlacedRemapping → Bool
same_remapping r q = same r.context.string q.context.string && same r.name.string q.name.string

-- per remapping context, target, name, 13
unfoldable pub remapped : List Text → List Text → List PlacedRemapping → List PlacedRemapping → Checked
remapped folders files seen [] = Ok
remapped folders files seen (r ∷ rs) =
    or_else (located folders files r.context)
    (or_else (located folders files r.target)
    (or_else (named r.name)
    (cond (any (same_remapping r) seen) (Refused 13 r.context.place) (remapped folders files (seen ++ (r ∷ [])) rs))))

-- what the bytes list
abbrev pub folders : List ℕ → List Placed
folders s = counted_by (folder_width (version_of s)) (after s) (placed_at s) s (folders_at s)

abbrev pub files : List ℕ → List Placed
files s = counted_by (file_width (version_of s)) (after_file s) (placed_at s) s (files_at s)

abbrev pub remappings : List ℕ → List PlacedRemapping
remappings s = counted (after_remapping s) (placed_remapping_at s) s (remappings_at s)

-- `/` counts as listed before all others
abbrev pub all_folders : List ℕ → List Text
all_folders s = with_slash (texts (folders s))

-- 7 and 8 path by path; then the remappings; then the root
unfoldable pub conflicts : List ℕ → Checked
conflicts s =
    or_else (listed (root ∷ []) (all_folders s) (folders s ++ files s))
    (or_else (remapped (all_folders s) (texts (files s)) [] (remappings s))
    (located (all_folders s) (texts (files s)) (placed_at s header)))
