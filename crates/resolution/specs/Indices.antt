-- What the code's inner answers mean: indices of a card. Assumes nothing.
use Rattle.std.specs.Prelude.{ℕ, ◌-◌, ◌≤◌, ◌<◌, true, false, cond, List, [], ◌≡◌, eqb, ltb, length, get_or, Option, None, Some, option_map}
use Rattle.names.specs.Bytes.{member}
use Rattle.bundle.specs.Bundle.{Text, Remapping}
use Rattle.bundle.specs.Limits.{remapping_limit}
use Rattle.bundle.specs.Decode.{decode}
use Rattle.names.specs.Path.{component_limit}
use Rattle.names.specs.Prefix.{child}
use Rattle.card.specs.Layout.{node_limit, parent_at, map_at}
use Rattle.card.specs.declared.parts.Card.{Card}
use Rattle.card.specs.Tree.{ascends}
use Rattle.card.specs.Card.{nodes_in}
use Rattle.resolution.specs.Lists.{Lists, lists_of}
use Rattle.resolution.specs.Resolution.{applies, Lookup, found, missing, is_folder, exists}
use Rattle.resolution.specs.declared.listing.Spot.{Spot}
use Rattle.resolution.specs.Results.{Resolution, File, Folder, Refused}

-- the lists of a bundle
abbrev pub lists_in : List ℕ → Lists
lists_in s = lists_of (decode s)

-- the path of an index
abbrev pub path_in : List ℕ → ℕ → Text
path_in s i = get_or (nodes_in s) i []

-- f is the index of a file
pub record Importer (s : List ℕ) (f : ℕ) : Type 0 where
  pub file : length (decode s).folders < f
  pub listed : f < length (nodes_in s)

-- the index of the file of a path
abbrev pub ImporterIs : List ℕ → Text → Option ℕ → Type 0
ImporterIs s file (Some f) = Importer s f × (path_in s f ≡ file)
ImporterIs s file None = member file (lists_in s).files ≡ false

-- d is the index of a folder, `/` among them
abbrev pub IsFolder : List ℕ → ℕ → Type 0
IsFolder s d = d ≤ length (decode s).folders

-- the folder of a name in the folder of index dir
abbrev pub Enters : List ℕ → ℕ → Text → Option ℕ → Type 0
Enters s dir name (Some d) = IsFolder s d × ((is_folder (lists_in s) (child (path_in s dir) name) ≡ true) × (path_in s d ≡ child (path_in s dir) name))
Enters s dir name None = is_folder (lists_in s) (child (path_in s dir) name) ≡ false

-- WHAT IS FOUND, where there are so many folders: which file, or which folder, and how many segments are left
abbrev pub resolved_at : ℕ → ℕ → ℕ → Resolution
resolved_at folders t left = cond (ltb folders t) (File (t - 1 - folders) left) (Folder (t - 1) left)

-- after a failed lookup below the root of index base: the file of index f, where its parent is the root
abbrev pub itself_in : Card → ℕ → ℕ → ℕ → Resolution
itself_in c f base n = cond (eqb (parent_at c f) base) (resolved_at c.folders f n) (Refused 23 0)

-- index t is that of a listed path
pub record Listed (s : List ℕ) (p : Text) (t : ℕ) : Type 0 where
  pub some : t ≡ 0 → ⊥
  pub listed : t < length (nodes_in s)
  pub path : path_in s t ≡ p

-- the path t, where so many segments are left
abbrev pub located : List ℕ → Text → ℕ → Option Spot → Type 0
located s t left (Some h) = Listed s t h.index × (h.left ≡ left)
located s t left None = exists (lists_in s) t ≡ false

-- the code's answer to a lookup
abbrev pub Tells : List ℕ → Option Spot → Lookup → Type 0
Tells s (Some h) (found p rest) = Listed s p h.index × (h.left ≡ length rest)
Tells s (Some h) (missing m) = ⊥
Tells s None (found p rest) = ⊥
Tells s None (missing m) = Unit

-- THE REMAPPING TAKEN, by its place in the list
abbrev pub no_remapping : Remapping
no_remapping = record { context = []; name = []; target = [] }

abbrev pub remapping_in : List ℕ → ℕ → Remapping
remapping_in s j = get_or (decode s).remappings j no_remapping

abbrev pub chosen : List ℕ → Option ℕ → Option Remapping
chosen s o = option_map (remapping_in s) o

-- of two, the one with the longer context: the first, where its context lies at or below the second's
abbrev pub further : Card → Option ℕ → ℕ → ℕ
further c None j = j
further c (Some a) j = cond (ascends component_limit (parent_at c) (map_at c a).context (map_at c j).context) a j

abbrev pub Within : Card → Option ℕ → Type 0
Within c None = Unit
Within c (Some a) = (a < remapping_limit) × ((map_at c a).context < node_limit)

-- one that the name in the file can take
abbrev pub CanTake : List ℕ → Text → Text → Option ℕ → Type 0
CanTake s file name (Some j) = (j < length (decode s).remappings) × (applies file name (remapping_in s j) ≡ true)
CanTake s file name None = Unit
