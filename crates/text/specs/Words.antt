-- Lines of words apart by one blank, and a name as it is printed. Assumes nothing.
use Rattle.std.specs.Prelude.{ℕ, zero, suc, ◌/◌, ◌%◌, ◌^◌, cond, List, [], ◌∷◌, ◌++◌, eqb}
use Rattle.names.specs.Bytes.{ascii}
use Rattle.names.specs.Decimal.{decimal}
use Rattle.names.specs.declared.Name.{Name}

abbrev pub Text : Type 0
Text = List ℕ

-- A LINE: words apart by one blank, and its end
unfoldable pub line : List Text → Text
line [] = 10 ∷ []
line (w ∷ []) = w ++ (10 ∷ [])
line (w ∷ (x ∷ ws)) = w ++ (32 ∷ line (x ∷ ws))

unfoldable pub lines : List (List Text) → Text
lines [] = []
lines (l ∷ ls) = line l ++ lines ls

-- "`no` number place"
abbrev pub no_line : ℕ → ℕ → List Text
no_line n p = ascii "no" ∷ decimal n ∷ decimal p ∷ []

-- A NAME: the bytes of its words, big-endian, up to the first 0; the first number is how many bytes of the word are left
unfoldable pub bytes_of : ℕ → ℕ → Text
bytes_of zero w = []
bytes_of (suc k) w = cond (eqb (w / 256 ^ k % 256) 0) [] (w / 256 ^ k % 256 ∷ bytes_of k w)

unfoldable pub spelled : Name → Text
spelled n = bytes_of 8 n.w0 ++ bytes_of 8 n.w1 ++ bytes_of 8 n.w2 ++ bytes_of 8 n.w3
