-- What any bytes are: the bundle that they are, or a number from 1 to 13 and a place. Assumes nothing.
use Rattle.std.specs.Prelude.{ℕ, ◌<◌, List, length}
use Rattle.bundle.specs.Bundle.{Bundle}
use Rattle.bundle.specs.Limits.{capacity, folder_width, file_width, most_folders, remapping_limit, most_files}
use Rattle.bundle.specs.Scan.{byte, version_of, count, scan_header, scan_path, scan_list, scan_count, scan_files, scan_end}
use Rattle.bundle.specs.Decode.{decode}
use Rattle.bundle.specs.Conflicts.{or_else, conflicts}
use Rattle.bundle.specs.Results.{Scan}
use Rattle.bundle.specs.Results.{Next, Bad}
use Rattle.bundle.specs.Results.{Walk}
use Rattle.bundle.specs.Results.{Past, Fault}
use Rattle.bundle.specs.declared.Width.TheVariants.{Byte}
use Rattle.bundle.specs.declared.Field.TheVariants.{Path, Remapping}
use Rattle.bundle.specs.Results.{Checked}
use Rattle.bundle.specs.Results.{Ok, Refused}

-- numbers that are bytes
abbrev pub Bytes : List ℕ → Type 0
Bytes s = (i : ℕ) → byte s i < capacity Byte

abbrev pub after : Scan → (ℕ → Checked) → Checked
after (Next at) f = f at
after (Bad n p) f = Refused n p

abbrev pub after_walk : Walk → (ℕ → Checked) → Checked
after_walk (Past at count uses) f = f at
after_walk (Fault n p) f = Refused n p

-- the files, and no bytes left over
unfoldable pub files : List ℕ → ℕ → Checked
files s at =
    after (scan_count (file_width (version_of s)) 1 (most_files (version_of s)) s (length s) at) (λ first.
    after_walk (scan_files (count (file_width (version_of s)) s at) s (length s) first 0 0) (λ last.
    after (scan_end (length s) last) (λ _. Ok)))

-- the folders, the remappings, then the files
unfoldable pub lists : List ℕ → ℕ → Checked
lists s at =
    after (scan_list (folder_width (version_of s)) Path (most_folders (version_of s)) s (length s) at) (λ remappings.
    after (scan_list Byte Remapping remapping_limit s (length s) remappings) (files s))

-- 1 to 6: header, root, then the lists
unfoldable pub form : List ℕ → Checked
form s = after (scan_header s) (λ root. after (scan_path s (length s) root) (lists s))

-- 1 to 13
unfoldable pub verdict : List ℕ → Checked
verdict s = or_else (form s) (conflicts s)

-- the number and the place of an answer; 0 where nothing is told
unfoldable pub number_of : Checked → ℕ
number_of Ok = 0
number_of (Refused n p) = n

unfoldable pub place_of : Checked → ℕ
place_of Ok = 0
place_of (Refused n p) = p

pub data Reading : Type 0 where
  value : Bundle → Reading
  refused : ℕ → ℕ → Reading

abbrev pub reading : Checked → Bundle → Reading
reading Ok b = value b
reading (Refused n p) b = refused n p

unfoldable pub read : List ℕ → Reading
read s = reading (verdict s) (decode s)
