-- LAWS for the code: the path of a unit's file, one unit more, and the lines piece by piece. Assumes nothing.
use Rattle.std.specs.Prelude.{ℕ, ◌+◌, ◌<◌, ◌≤◌, ◌≡◌, List, [], ◌∷◌, ◌++◌, map, length, get_or, take}
use Rattle.std.proofs.Common.{ap, ◌∙◌, append_assoc, take_all}
use Rattle.names.specs.Bytes.{ascii}
use Rattle.names.specs.Decimal.{decimal}
use Rattle.bundle.specs.Bundle.{File}
use Rattle.bundle.specs.Decode.{decode, file_at}
use Rattle.bundle.specs.Limits.{file_limit}
use Rattle.text.specs.Words.{Text, line, lines}
use Rattle.text.specs.LineLaws.{lines_more}
use Rattle.order.specs.Run.{units_of}
use Rattle.assembly.specs.Assemble.{file_of}
use Rattle.assembly.specs.Given.{OneUnit}
use Rattle.assembly.specs.GivenLaws.{index-few, path-is}
use Rattle.printing.specs.Lines.{unit_line}

pub index_few : (s files : List ℕ) (u : ℕ) → OneUnit s files u → get_or files u 0 < file_limit
index_few s files u x = index-few s files u x

pub path_is : (s files : List ℕ) (u place : ℕ) → OneUnit s files u → ((d : File) → get_or files u 0 < length (decode s).files → get_or (decode s).files (get_or files u 0) d ≡ file_at s place) → (file_at s place).path ≡ file_of (decode s) u
path_is s files u place x g = path-is s files u x place g

pub units_more : (s : List ℕ) (us : List ℕ) (i : ℕ) → i < length us → lines (map (unit_line (units_of (decode s))) (take (i + 1) us)) ≡ lines (map (unit_line (units_of (decode s))) (take i us)) ++ line (unit_line (units_of (decode s)) (get_or us i 0))
units_more s us i h = lines_more (unit_line (units_of (decode s))) us i 0 h

pub ruleset units = (index_few, path_is)

-- A LINE, piece by piece
abbrev unit_pieces : ℕ → Text → Text
unit_pieces n path = ((((117 ∷ 110 ∷ 105 ∷ 116 ∷ 32 ∷ []) ++ decimal n) ++ (32 ∷ [])) ++ path) ++ (10 ∷ [])

pub unit_told : (paths : List Text) (u n : ℕ) (path : Text) → n ≡ u → path ≡ get_or paths u [] → unit_pieces n path ≡ line (unit_line paths u)
unfolding line ascii
unit_told paths u n path e f = ap (λ m. unit_pieces m path) e ∙ (ap (unit_pieces u) f ∙ simp append_assoc)

-- the line `ok`, then all units
pub ok_told : (paths : List Text) (us : List ℕ) (i : ℕ) → length us ≤ i
    → (((111 ∷ 107 ∷ 32 ∷ []) ++ decimal (length us)) ++ (10 ∷ [])) ++ lines (map (unit_line paths) (take i us)) ≡ lines ((ascii "ok" ∷ decimal (length us) ∷ []) ∷ map (unit_line paths) us)
unfolding lines line ascii
ok_told paths us i h =
    ap (λ (l : List ℕ). (((111 ∷ 107 ∷ 32 ∷ []) ++ decimal (length us)) ++ (10 ∷ [])) ++ lines (map (unit_line paths) l)) (take_all i us h)
    ∙ simp append_assoc
