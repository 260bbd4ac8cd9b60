-- Steps 1 and 2: what a use resolves to. The names are those of resolution.rs. Assumes nothing.
use Rattle.std.specs.Prelude.{ℕ, Bool, false, cond, ◌&&◌, ◌||◌, List, [], ◌∷◌, map, length, Option, None, Some}
use Rattle.names.specs.Bytes.{same, member}
use Rattle.names.specs.Prefix.{starts_with, directly_in, child, child_file}
use Rattle.names.specs.Keywords.{is_crate}
use Rattle.bundle.specs.Bundle.{Text, Remapping, with_slash}
use Rattle.resolution.specs.Lists.{Lists}
use Rattle.resolution.specs.Longest.{tried}

-- STEP 1
-- the entry root and all targets
abbrev pub package_roots : Lists → List Text
package_roots b = b.root ∷ map (λ r. r.target) b.remappings

-- the package root of a file
unfoldable pub get_package_root : Lists → Text → Option Text
get_package_root b file = tried length (starts_with file) (package_roots b)

-- a remapping that a name in a file can take
unfoldable pub applies : Text → Text → Remapping → Bool
applies file name r = starts_with file r.context && same r.name name

unfoldable pub remapping_for : Lists → Text → Text → Option Remapping
remapping_for b file name = tried (λ r. length r.context) (applies file name) b.remappings

-- STEP 2
-- WHAT THE LOOKUP ASKS of a path: whether it is a folder, as `/` is without being listed; whether it is a file; whether it is either
unfoldable pub is_folder : Lists → Text → Bool
is_folder b p = member p (with_slash b.folders)

unfoldable pub is_file : Lists → Text → Bool
is_file b p = member p b.files

abbrev pub exists : Lists → Text → Bool
exists b p = is_file b p || is_folder b p

-- why a lookup finds nothing: the segments ran out in this folder; there is nothing of this path
pub data Missing : Type 0 where
  in_folder : Text → Missing
  no_path : Text → Missing

-- what a lookup finds: a listed path, with the module path that is left
pub data Lookup : Type 0 where
  found : Text → List Text → Lookup
  missing : Missing → Lookup

-- Segments enter folders; the first that isn't one names the file. A folder of the file's name is found too: only reading
-- refuses it.
unfoldable pub build_and_verify_path : Lists → Text → List Text → Lookup
build_and_verify_path b path [] = missing (in_folder path)
build_and_verify_path b path (part ∷ parts) =
    cond (is_folder b (child path part))
    (build_and_verify_path b (child path part) parts)
    (cond (exists b (child_file path part))
    (found (child_file path part) parts)
    (missing (no_path (child_file path part))))

-- 20 to 25
pub data Fault : Type 0 where
  empty_use_fault : Fault
  unknown_library_fault : Fault
  no_library_file_fault : Missing → Fault
  no_file_fault : Missing → Fault
  own_file_fault : Fault
  no_root_fault : Fault

abbrev pub number : Fault → ℕ
number empty_use_fault = 20
number unknown_library_fault = 21
number (no_library_file_fault m) = 22
number (no_file_fault m) = 23
number own_file_fault = 24
number no_root_fault = 25

-- the path with the module path that is left, or a fault
pub data Resolved : Type 0 where
  to : Text → List Text → Resolved
  fails : Fault → Resolved

-- C4: after a failed `crate` path, a file directly in its package root resolves to itself
abbrev pub or_itself : Text → Text → List Text → Lookup → Resolved
or_itself root file parts (found p rest) = to p rest
or_itself root file parts (missing m) = cond (directly_in file root) (to file parts) (fails (no_file_fault m))

abbrev pub resolve_below : Lists → Text → List Text → Option Text → Resolved
resolve_below b file parts None = fails no_root_fault
resolve_below b file parts (Some root) = or_itself root file parts (build_and_verify_path b root parts)

unfoldable pub resolve_crate_path : Lists → Text → List Text → Resolved
resolve_crate_path b file parts = resolve_below b file parts (get_package_root b file)

-- whether both are the same root
abbrev pub same_root : Option Text → Option Text → Bool
same_root None y = false
same_root (Some p) None = false
same_root (Some p) (Some q) = same p q

unfoldable pub check_local_file_imported_as_external : Lists → Text → Text → Bool
check_local_file_imported_as_external b file p = same_root (get_package_root b file) (get_package_root b p)

abbrev pub external : Lists → Text → Lookup → Resolved
external b file (found p rest) = cond (check_local_file_imported_as_external b file p) (fails own_file_fault) (to p rest)
external b file (missing m) = fails (no_library_file_fault m)

abbrev pub resolve_external_path : Lists → Text → List Text → Option Remapping → Resolved
resolve_external_path b file parts None = fails unknown_library_fault
resolve_external_path b file parts (Some r) = external b file (build_and_verify_path b r.target parts)

unfoldable pub resolve_path_internal : Lists → Text → List Text → Resolved
resolve_path_internal b file [] = fails empty_use_fault
resolve_path_internal b file (name ∷ parts) =
    cond (is_crate name) (resolve_crate_path b file parts) (resolve_external_path b file parts (remapping_for b file name))
