-- THE WORDS OF THE REFUSALS 7 to 13, without the scan: bytes in form, the first listed path that is not good, the first
-- remapping that is not good and the first of its tests that fails. Assumes nothing.
use Rattle.std.specs.Prelude.{ℕ, ◌<◌, false, ◌≡◌, length, get_or}
use mathlib.Core.List.{List, [], ◌++◌, Memᴰ}
use Rattle.names.specs.Bytes.{ascii}
use Rattle.names.specs.Path.{root}
use Rattle.names.specs.Prefix.{parent}
use Rattle.names.specs.Identifier.{is_identifier}
use Rattle.names.specs.Keywords.{keywords}
use Rattle.bundle.specs.Bundle.{Text, Bundle}
use Rattle.bundle.specs.Limits.{header}
use Rattle.bundle.specs.Encode.{encode}
use Rattle.bundle.specs.Scan.{text}
use Rattle.bundle.specs.Form.{InForm}
use Rattle.bundle.specs.Conflicts.{Placed, PlacedRemapping, texts, folders, files, remappings, all_folders}

-- THE BYTES ARE IN FORM, 1 to 6: they are what the encoder writes of a bundle in form
pub record BytesInForm (s : List ℕ) : Type 0 where
  pub bundle : Bundle
  pub encoded : s ≡ encode bundle
  pub in_form : InForm bundle

-- `/` or a listed folder; a listed file
abbrev pub IsFolder : List ℕ → Text → Type 0
IsFolder s t = Memᴰ t (all_folders s)

abbrev pub IsFile : List ℕ → Text → Type 0
IsFile s t = Memᴰ t (texts (files s))

-- THE LISTED PATHS, folders before files, by index
abbrev pub paths : List ℕ → List Placed
paths s = folders s ++ files s

abbrev pub none : Placed
none = record { place = 0; string = [] }

abbrev pub path_at : List ℕ → ℕ → Placed
path_at s i = get_or (paths s) i none

-- `/` counts as listed before all others
pub data ListedBefore (s : List ℕ) (i : ℕ) : Type 0 where
  as_root : (path_at s i).string ≡ root → ListedBefore s i
  as_earlier : (j : ℕ) → j < i → (path_at s i).string ≡ (path_at s j).string → ListedBefore s i

-- the parent is `/` or a folder listed anywhere
abbrev pub HasParent : List ℕ → ℕ → Type 0
HasParent s i = IsFolder s (parent (path_at s i).string)

pub record GoodPath (s : List ℕ) (i : ℕ) : Type 0 where
  pub new : ListedBefore s i → ⊥
  pub in_folder : HasParent s i

abbrev pub GoodPaths : List ℕ → Type 0
GoodPaths s = (i : ℕ) → i < length (paths s) → GoodPath s i

-- THE REMAPPINGS, by index
abbrev pub remapping_of : List ℕ → ℕ → PlacedRemapping
remapping_of s i = get_or (remappings s) i (record { context = none; name = none; target = none })

-- an earlier remapping has this context and this name
pub record Repeated (s : List ℕ) (i : ℕ) : Type 0 where
  pub earlier : ℕ
  pub before : earlier < i
  pub same_context : (remapping_of s i).context.string ≡ (remapping_of s earlier).context.string
  pub same_name : (remapping_of s i).name.string ≡ (remapping_of s earlier).name.string

-- `crate`; a name that fails the identifier form or is one of `KEYWORDS`
abbrev pub Reserved : Text → Type 0
Reserved t = t ≡ ascii "crate"

pub data OddName (t : Text) : Type 0 where
  form : is_identifier t ≡ false → OddName t
  keyword : Memᴰ t keywords → OddName t

pub record GoodRemapping (s : List ℕ) (i : ℕ) : Type 0 where
  pub context : IsFolder s (remapping_of s i).context.string
  pub target : IsFolder s (remapping_of s i).target.string
  pub unreserved : Reserved (remapping_of s i).name.string → ⊥
  pub usual : OddName (remapping_of s i).name.string → ⊥
  pub new : Repeated s i → ⊥

abbrev pub GoodRemappings : List ℕ → Type 0
GoodRemappings s = (i : ℕ) → i < length (remappings s) → GoodRemapping s i

-- the entry's package root
abbrev pub root_of : List ℕ → Text
root_of s = text s header

-- THE FIRST THAT IS NOT GOOD: all before it are
pub record FirstPath (s : List ℕ) (i : ℕ) : Type 0 where
  pub formed : BytesInForm s
  pub within : i < length (paths s)
  pub before : (j : ℕ) → j < i → GoodPath s j

pub record FirstRemapping (s : List ℕ) (i : ℕ) : Type 0 where
  pub formed : BytesInForm s
  pub all_paths : GoodPaths s
  pub within : i < length (remappings s)
  pub before : (j : ℕ) → j < i → GoodRemapping s j

-- a root, context or target that is no folder: 9 nowhere, 10 a file
pub data Misplaced (s : List ℕ) (t : Text) : ℕ → Type 0 where
  nowhere : (IsFolder s t → ⊥) → (IsFile s t → ⊥) → Misplaced s t 9
  a_file : (IsFolder s t → ⊥) → IsFile s t → Misplaced s t 10

-- THE REFUSALS 7 to 13, each with its number and its place
pub data Refusal (s : List ℕ) : ℕ → ℕ → Type 0 where
  -- the first listed path that is not good: listed before, or else an orphan
  twice : (i : ℕ) → FirstPath s i → ListedBefore s i → Refusal s 7 (path_at s i).place
  orphan : (i : ℕ) → FirstPath s i → (ListedBefore s i → ⊥) → (HasParent s i → ⊥) → Refusal s 8 (path_at s i).place
  -- the first remapping that is not good: its context, then its target, then its name, then 13 at its context
  bad_context : (i : ℕ) {n : ℕ} → FirstRemapping s i → Misplaced s (remapping_of s i).context.string n → Refusal s n (remapping_of s i).context.place
  bad_target : (i : ℕ) {n : ℕ} → FirstRemapping s i → IsFolder s (remapping_of s i).context.string
      → Misplaced s (remapping_of s i).target.string n → Refusal s n (remapping_of s i).target.place
  reserved : (i : ℕ) → FirstRemapping s i → IsFolder s (remapping_of s i).context.string → IsFolder s (remapping_of s i).target.string
      → Reserved (remapping_of s i).name.string → Refusal s 11 (remapping_of s i).name.place
  odd_name : (i : ℕ) → FirstRemapping s i → IsFolder s (remapping_of s i).context.string → IsFolder s (remapping_of s i).target.string
      → (Reserved (remapping_of s i).name.string → ⊥) → OddName (remapping_of s i).name.string → Refusal s 12 (remapping_of s i).name.place
  same_remapping_case : (i : ℕ) → FirstRemapping s i → IsFolder s (remapping_of s i).context.string → IsFolder s (remapping_of s i).target.string
      → (Reserved (remapping_of s i).name.string → ⊥) → (OddName (remapping_of s i).name.string → ⊥)
      → Repeated s i → Refusal s 13 (remapping_of s i).context.place
  -- the root, where all of these are good
  bad_root : {n : ℕ} → BytesInForm s → GoodPaths s → GoodRemappings s → Misplaced s (root_of s) n → Refusal s n header

-- 7 at p: the first path that is not good stands there, and is listed before
abbrev pub Twice : List ℕ → ℕ → Type 0
Twice s p = (i : ℕ) × (FirstPath s i × ListedBefore s i × ((path_at s i).place ≡ p))

-- 8 at p: the first path that is not good stands there, is not listed before, and its parent isn't `/` or a listed folder
abbrev pub Orphan : List ℕ → ℕ → Type 0
Orphan s p = (i : ℕ) × (FirstPath s i × (ListedBefore s i → ⊥) × (HasParent s i → ⊥) × ((path_at s i).place ≡ p))

-- NONE OF THESE
pub record Faultless (s : List ℕ) : Type 0 where
  pub formed : BytesInForm s
  pub all_paths : GoodPaths s
  pub all_remappings : GoodRemappings s
  pub root_folder : IsFolder s (root_of s)
