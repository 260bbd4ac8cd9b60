-- The units of a linked order as the code has them: files by their places in the bundle, ids in an array. Premises of contracts, and
-- the bytes of units and programs. Assumes nothing.
use Rattle.std.specs.Prelude.{ℕ, ◌≤◌, ◌<◌, ◌≡◌, List, length, get_or, take}
use Rattle.names.specs.Decimal.{unit_name}
use Rattle.bundle.specs.Bundle.{none, Bundle}
use Rattle.bundle.specs.Bundle as bundle
use Rattle.bundle.specs.Encode.{items}
use Rattle.bundle.specs.Decode.{decode}
use Rattle.bundle.specs.Read.{verdict}
use Rattle.bundle.specs.Results.{Ok}
use Rattle.resolution.specs.Call.{position}
use Rattle.discovery.specs.Discovery.{paths_of}
use Rattle.driver.specs.Complete.{Knows}
use Rattle.discovery.specs.declared.known.Known.{Known}
use Rattle.discovery.specs.Places.{Places}
use Rattle.order.specs.Run.{linked, ordered, units_of}
use Rattle.order.specs.Call.{unit_files}
use Rattle.assembly.specs.Assemble.{file_of, local_items, assembled}

-- the files of the units of a checked bundle
pub record UnitsGiven (s : List ℕ) (k : Known) (units : ℕ) : Type 0 where
  pub checked : verdict s ≡ Ok
  pub files_are : take units k.files ≡ unit_files (decode s)
  pub fits : units ≤ length k.files
  -- what every use of a unit resolves to, and where each file stands
  pub known : Knows (decode s) k
  pub places : Places s k

-- and their linked order
pub record OrderGiven (s : List ℕ) (k : Known) (ids : List ℕ) (units : ℕ) : Type 0 where
  pub of_units : UnitsGiven s k units
  pub order : ordered (decode s) ≡ linked (take units ids)
  pub ids_fit : units ≤ length ids

-- the same of the files alone
pub record FilesGiven (s files : List ℕ) (units : ℕ) : Type 0 where
  pub checked : verdict s ≡ Ok
  pub files_are : take units files ≡ unit_files (decode s)
  pub fits : units ≤ length files

pub record OrderedFilesGiven (s files ids : List ℕ) (units : ℕ) : Type 0 where
  pub of_units : FilesGiven s files units
  pub order : ordered (decode s) ≡ linked (take units ids)
  pub ids_fit : units ≤ length ids

-- one of them
pub record OneUnit (s files : List ℕ) (u : ℕ) : Type 0 where
  pub checked : verdict s ≡ Ok
  pub fits : u < length files
  pub is_unit : u < length (units_of (decode s))
  pub index : get_or files u 0 ≡ position (file_of (decode s) u) (paths_of (decode s))

-- and where each file stands
pub record PlacedUnit (s : List ℕ) (k : Known) (u : ℕ) : Type 0 where
  pub of_unit : OneUnit s k.files u
  pub places : Places s k

-- A UNIT IN THE IMAGE
unfoldable pub unit_bytes : Bundle → ℕ → List ℕ
unit_bytes b u = items (bundle.module_of 0 0 (unit_name u) (local_items b u) none)

unfoldable pub program_bytes : Bundle → List ℕ → List ℕ
program_bytes b o = items (assembled b o)
