-- Remapping lists of Solidity projects, `context:prefix=target` one to a line, and the version 1 remapping section that they
-- stand for: docs/SPECIFICATION.md 10. Assumes nothing.
use Rattle.std.specs.Prelude.{ℕ, ◌+◌, Bool, true, false, cond, ◌||◌, List, [], ◌∷◌, map, eqb, ltb, leb, length}
use Rattle.names.specs.Bytes.{slash, same}
use Rattle.names.specs.Path.{onto, root, is_path}
use Rattle.bundle.specs.Bundle.{Text, Remapping}
use Rattle.bundle.specs.Limits.{remapping_limit}
use Rattle.bundle.specs.Encode.{counted, remapping}
use Rattle.bundle.specs.Conflicts.{or_else}
use Rattle.bundle.specs.Results.{Checked}
use Rattle.bundle.specs.Results.{Ok}
use Rattle.bundle.specs.Results.{Refused as Fault}
use Rattle.encoder.specs.Started.{started}

abbrev pub line_feed : ℕ
line_feed = 0x0a

abbrev pub equals : ℕ
equals = 0x3d

abbrev pub colon : ℕ
colon = 0x3a

-- the most bytes of a name: what a string's length byte counts
abbrev pub name_size : ℕ
name_size = 255

-- SPLITTING: whether a byte stands in a text, what stands before the first, and what stands behind it
unfoldable pub has : ℕ → Text → Bool
has c [] = false
has c (b ∷ t) = eqb b c || has c t

unfoldable pub before : ℕ → Text → Text
before c [] = []
before c (b ∷ t) = cond (eqb b c) [] (b ∷ before c t)

unfoldable pub behind : ℕ → Text → Text
behind c [] = []
behind c (b ∷ t) = cond (eqb b c) t (behind c t)

-- the pieces between the bytes c
unfoldable pub pieces : ℕ → Text → List Text
pieces c [] = [] ∷ []
pieces c (b ∷ t) = cond (eqb b c) ([] ∷ pieces c t) (onto b (pieces c t))

-- one slash at the end is dropped
unfoldable pub dropped : Text → Text
dropped [] = []
dropped (b ∷ []) = cond (eqb b slash) [] (b ∷ [])
dropped (b ∷ (d ∷ t)) = b ∷ dropped (d ∷ t)

-- A LINE is what stands between line feeds; its place is the offset of its first byte
pub record Line : Type 0 where
  pub place : ℕ
  pub text : Text

unfoldable pub placed : ℕ → List Text → List Line
placed p [] = []
placed p (t ∷ ts) = record { place = p; text = t } ∷ placed (p + length t + 1) ts

-- the lines that have a byte; empty ones are skipped
unfoldable pub content : List Line → List Line
content [] = []
content (l ∷ ls) = cond (eqb (length l.text) 0) (content ls) (l ∷ content ls)

abbrev pub lines_from : ℕ → Text → List Line
lines_from p s = content (placed p (pieces line_feed s))

abbrev pub lines_of : Text → List Line
lines_of s = lines_from 0 s

-- A LINE'S PARTS: it splits at its first `=`, the left half at its first `:`; without `:` the context is `/`
abbrev pub left : Text → Text
left t = before equals t

abbrev pub right : Text → Text
right t = behind equals t

unfoldable pub context_in : Text → Text
context_in l = cond (has colon l) (before colon l) root

unfoldable pub prefix_in : Text → Text
prefix_in l = cond (has colon l) (behind colon l) l

-- one slash at the end of prefix or target goes, unless it is the whole target
unfoldable pub name_in : Text → Text
name_in l = dropped (prefix_in l)

unfoldable pub target_in : Text → Text
target_in r = cond (same r root) root (dropped r)

-- the remapping that a line stands for
unfoldable pub remapping_of : Text → Remapping
remapping_of t = record { context = context_in (left t); name = name_in (left t); target = target_in (right t) }

-- where in the line the prefix starts, and the target
unfoldable pub name_place : Text → ℕ
name_place l = cond (has colon l) (length (before colon l) + 1) 0

abbrev pub target_place : Text → ℕ
target_place t = length (left t) + 1

-- THE TESTS: a number and a place, unless something holds
abbrev pub unless : Bool → ℕ → ℕ → Checked
unless true n p = Ok
unless false n p = Fault n p

-- a line after n lines with content: 3 for the thirty-third, 52 without `=`, 4 for its context and its target, 12 for its name
unfoldable pub line_verdict : ℕ → Line → Checked
line_verdict n l =
    let t = l.text in
    let r = remapping_of t in
    or_else (unless (ltb n remapping_limit) 3 l.place)
    (or_else (unless (has equals t) 52 l.place)
    (or_else (unless (is_path r.context) 4 l.place)
    (or_else (unless (is_path r.target) 4 (l.place + target_place t))
    (unless (leb (length r.name) name_size) 12 (l.place + name_place (left t))))))

-- lines in order
unfoldable pub lines_verdict : ℕ → List Line → Checked
lines_verdict n [] = Ok
lines_verdict n (l ∷ ls) = or_else (line_verdict n l) (lines_verdict (n + 1) ls)

unfoldable pub verdict : Text → Checked
verdict s = lines_verdict 0 (lines_of s)

-- THE SECTION: the encoder's, of the remappings that the lines stand for, in line order
unfoldable pub remappings_of : List Line → List Remapping
remappings_of ls = map (λ l. remapping_of l.text) ls

unfoldable pub section : Text → List ℕ
section s = counted remapping (remappings_of (lines_of s))

-- what a list is answered: the section's length, or a number and a place
pub data Lines : Type 0 where
  Section : ℕ → Lines
  Refused : ℕ → ℕ → Lines

-- THE ANSWER: a refused line's number and place; then 14 at place 0 where the section has no room; then its length
unfoldable pub lines_answer : Text → ℕ → Lines
lines_answer s room =
    go (or_else (verdict s) (unless (leb (length (section s)) room) 14 0))
  where
    go : Checked → Lines
    go Ok = Section (length (section s))
    go (Fault n p) = Refused n p

-- the buffer then: the section at its start and the rest as it was; as it was where the list is refused
unfoldable pub lines_buffer : Text → List ℕ → List ℕ
lines_buffer s out = go (lines_answer s (length out))
  where
    go : Lines → List ℕ
    go (Section n) = started (section s) out
    go (Refused n p) = out
