-- The resolution call: its tests in the specification's order, and its answer. Assumes nothing.
use Rattle.std.specs.Prelude.{ℕ, suc, cond, List, [], ◌∷◌, length}
use Rattle.names.specs.Bytes.{same, member}
use Rattle.names.specs.Path.{is_path}
use Rattle.bundle.specs.Bundle.{Text}
use Rattle.bundle.specs.Limits.{segment_limit}
use Rattle.bundle.specs.Scan.{text, and_then, scan_list, scan_end}
use Rattle.bundle.specs.Decode.{after, counted}
use Rattle.bundle.specs.Read.{Reading, value, refused, read}
use Rattle.bundle.specs.declared.Width.TheVariants.{Byte}
use Rattle.bundle.specs.Results.{Scan}
use Rattle.bundle.specs.Results.{Next, Bad}
use Rattle.bundle.specs.declared.Field.TheVariants.{Name}
use Rattle.resolution.specs.Lists.{Lists, lists_of}
use Rattle.resolution.specs.Resolution.{Resolved, to, fails, number, resolve_path_internal}
use Rattle.resolution.specs.Results.{Resolution, File, Folder, Refused}

-- how many paths stand before a path in a list
unfoldable pub position : Text → List Text → ℕ
position p [] = 0
position p (q ∷ l) = cond (same p q) 0 (suc (position p l))

-- the answer: which file, or which folder, and how many segments are left; a fault at place 0
abbrev pub answer : Lists → Resolved → Resolution
answer b (to p rest) =
    cond (member p b.files) (File (position p b.files) (length rest)) (Folder (position p b.folders) (length rest))
answer b (fails e) = Refused (number e) 0

-- a use's segments as a bundle has them: a count, and as many names; nothing after them
unfoldable pub scan_segments : List ℕ → Scan
scan_segments u = and_then (scan_list Byte Name segment_limit u (length u) 0) (scan_end (length u))

abbrev pub segments : List ℕ → List Text
segments u = counted (after u) (text u) u 0

-- 29, then 20 to 25
unfoldable pub resolve_in : Lists → Text → List Text → Resolution
resolve_in b file parts = cond (member file b.files) (answer b (resolve_path_internal b file parts)) (Refused 29 0)

-- the segments' count and forms, at place 0
abbrev pub formed : Scan → Lists → Text → List Text → Resolution
formed (Bad n p) b file parts = Refused n 0
formed (Next at) b file parts = resolve_in b file parts

-- the bundle first, then the arguments
abbrev pub lent : Reading → Text → List ℕ → Resolution
lent (refused n p) file u = Refused n p
lent (value b) file u = cond (is_path file) (formed (scan_segments u) (lists_of b) file (segments u)) (Refused 4 0)

unfoldable pub resolve : List ℕ → Text → List ℕ → Resolution
resolve s file u = lent (read s) file u
