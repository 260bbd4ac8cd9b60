-- A checked bundle has room for its uses: what its acceptance implies, in the counts that discovery's arrays hold. Assumes nothing.
use Rattle.std.specs.Prelude.{ℕ, ◌+◌, ◌≤◌, ◌<◌, ◌≡◌, refl, List, [], ◌∷◌, length}
use Rattle.std.proofs.Common.{arith, length-append}
use Rattle.bundle.specs.Bundle.{Items, none, named, use_of, module_of, ignored, File, Bundle}
use Rattle.bundle.specs.Limits.{file_width, most_files, folder_limit, file_limit, use_limit}
use Rattle.bundle.specs.Scan.{version_of, scan_count}
use Rattle.bundle.specs.Decode.{after_file, file_at, files_at, file_count, file_first, decode}
use Rattle.bundle.specs.Form.{use_count, file_uses}
use Rattle.bundle.specs.Read.{files, verdict}
use Rattle.bundle.specs.Stand.{Bytes}
use Rattle.bundle.specs.Steps.{count_next}
use Rattle.bundle.specs.ListLaws.{each-length}
use Rattle.bundle.specs.SoundBundle.{went_on, form-parts, both-pass}
use Rattle.bundle.specs.Theorems.{accepted}
use Rattle.bundle.specs.AcceptedTheorems.{accepted-read}
use Rattle.bundle.specs.Results.{Ok}
use Rattle.discovery.specs.Discovery.{uses}

-- the uses of all files
unfoldable pub total_uses : List File → ℕ
total_uses [] = 0
total_uses (f ∷ fs) = length (uses f.items) + total_uses fs

-- discovery meets exactly the uses that the check counts
uses-counted : (x : Items) → length (uses x) ≡ use_count x
unfolding uses use_count
uses-counted none = refl
uses-counted (named head rest) = uses-counted rest
uses-counted (use_of m v segments elements rest) = omega (arith, uses-counted rest)
uses-counted (module_of m v name inner rest) = omega (arith, length-append (uses inner) (uses rest), uses-counted inner, uses-counted rest)
uses-counted (ignored m v rest) = uses-counted rest

total-counted : (l : List File) → total_uses l ≡ file_uses l
unfolding total_uses file_uses
total-counted [] = refl
total-counted (f ∷ fs) = omega (arith, uses-counted f.items, total-counted fs)

-- at least one file, and no more files, folders and uses than the arrays hold
pub record Roomy (b : Bundle) : Type 0 where
  pub some : 0 < length b.files
  pub files : length b.files ≤ file_limit
  pub uses : total_uses b.files ≤ use_limit
  pub folders : length b.folders ≤ folder_limit

pub bytes-roomy : (s : List ℕ) → Bytes s → verdict s ≡ Ok → Roomy (decode s)
bytes-roomy s B h =
    let a = accepted-read s B (decode s) (accepted s h) in
    record { some = a.some_file; files = a.file_count_within; uses = omega (arith, a.use_count_within, total-counted (decode s).files); folders = a.folder_count_within }

-- OF ANY NUMBERS that pass, bytes or not: the count of files
pub record Counted (b : Bundle) : Type 0 where
  pub some : 0 < length b.files
  pub files : length b.files ≤ file_limit

pub checked-roomy : (s : List ℕ) → verdict s ≡ Ok → Counted (decode s)
unfolding decode files
checked-roomy s h =
    let v = version_of s in
    let m = went_on (scan_count (file_width v) 1 (most_files v) s (length s) (files_at s)) (form-parts s (both-pass s h).0).files_pass in
    let k = count_next s (length s) (files_at s) (file_width v) 1 (most_files v) m.first in
    let n = each-length (after_file s) (file_at s) (file_count s) (file_first s) in
    record { some = omega (arith, k.2); files = omega (arith, k.3) }
