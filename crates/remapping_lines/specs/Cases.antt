-- Cases of remapping lists, computed over the definitions. Assumes nothing.
use Rattle.std.specs.Prelude.{ℕ, zero, suc, Bool, true, false, ◌&&◌, ◌≡◌, refl, List, [], ◌∷◌, ◌++◌, map, eqb, length, replicate}
use Prim.Native.String.{String}
use Rattle.names.specs.Bytes.{ascii, same, all}
use Rattle.names.specs.Path.{onto, split, components, is_component, well_formed, is_path}
use Rattle.bundle.specs.Bundle.{Text}
use Rattle.bundle.specs.Encode.{string, joined, counted, remapping}
use Rattle.remapping_lines.specs.Lines.{line_feed, has, before, behind, pieces, dropped, placed, content, context_in, prefix_in, name_in, target_in, remapping_of, name_place, line_verdict, lines_verdict, verdict, remappings_of, section, lines_answer, lines_buffer}
use Rattle.remapping_lines.specs.Lines.{Lines}
use Rattle.remapping_lines.specs.Lines.{Section, Refused}

-- a buffer of n bytes
unfoldable pub buffer : ℕ → List ℕ
buffer n = replicate n 0xee

abbrev pub is_section : ℕ → Lines → Bool
is_section n (Section m) = eqb n m
is_section n (Refused w p) = false

abbrev pub is_refused : ℕ → ℕ → Lines → Bool
is_refused w p (Section n) = false
is_refused w p (Refused m q) = eqb w m && eqb p q

-- the list is written as these bytes, with one byte more behind them that stays
unfoldable pub writes : Text → List ℕ → Bool
writes s bytes =
    is_section (length bytes) (lines_answer s (suc (length bytes))) && same (lines_buffer s (buffer (suc (length bytes)))) (bytes ++ buffer 1)

-- it is refused with a number and a place, and the buffer stays
unfoldable pub turned : Text → ℕ → ℕ → Bool
turned s w p = is_refused w p (lines_answer s 40) && same (lines_buffer s (buffer 40)) (buffer 40)

-- a list of one line and its remapping
unfoldable pub means : String → String → String → String → Bool
means line context name target = writes (ascii line) (1 ∷ (string (ascii context) ++ (string (ascii name) ++ string (ascii target))))

unfoldable pub back : String → ℕ → ℕ → Bool
back line w p = turned (ascii line) w p

-- a line feed between
infixr 30 ◌then◌
abbrev pub ◌then◌ : Text → Text → Text
s then t = s ++ (line_feed ∷ t)

-- n times the line `a=/b`, each with its line feed
unfoldable pub good : ℕ → Text
good zero = []
good (suc n) = ascii "a=/b" then good n

unfoldable pub letters : ℕ → Text
letters n = replicate n 97

-- each row is a test that has to hold
unfoldable pub rows : List Bool
rows =
    -- no line with content
    writes [] (0 ∷ []) ∷ writes ([] then ([] then [])) (0 ∷ []) ∷ is_refused 14 0 (lines_answer [] 0)
    -- one line, with and without a context, a colon, a slash at an end
    ∷ means "lib=/l" "/" "lib" "/l" ∷ is_section 10 (lines_answer (ascii "lib=/l") 10) ∷ is_refused 14 0 (lines_answer (ascii "lib=/l") 9)
    ∷ means "/r:lib=/l" "/r" "lib" "/l" ∷ means "lib/=/l/" "/" "lib" "/l" ∷ means "lib=//" "/" "lib" "/" ∷ means "lib=/" "/" "lib" "/"
    ∷ means "/=/b" "/" "" "/b" ∷ means "=/b" "/" "" "/b" ∷ means "//=/b" "/" "/" "/b" ∷ back "lib=/l//" 4 4
    -- the first `=`, and the first `:` of the left half
    ∷ means "a=/b:c" "/" "a" "/b:c" ∷ means "a=/b=c" "/" "a" "/b=c" ∷ means "/x:b:c=/d" "/x" "b:c" "/d" ∷ back "/a=b:c=/d" 4 3
    -- a context keeps its slash, and an empty one is no path
    ∷ back "/r/:a=/b" 4 0 ∷ back ":a=/b" 4 0 ∷ back "r:a=/b" 4 0
    -- a target that is none
    ∷ back "=" 4 1 ∷ turned (ascii "a=/b" then ascii "=") 4 6 ∷ back "a=b" 4 2 ∷ back "/r:a=b" 4 5
    -- 52 before 4, the context before the target, and the first line that is refused
    ∷ back "x" 52 0 ∷ back ":" 52 0 ∷ back ":=" 4 0 ∷ turned (ascii "a=/b" then (ascii "x" then ascii "=")) 52 5
    -- only a line feed ends a line: a carriage return is a byte of it, a blank too
    ∷ turned (13 ∷ line_feed ∷ []) 52 0 ∷ turned (ascii "a=/b" ++ (13 ∷ line_feed ∷ [])) 4 2 ∷ back " " 52 0
    -- empty lines are skipped and not counted, the last line feed may lack
    ∷ writes ([] then (ascii "a=/b" then ([] then ascii "c=/d"))) (2 ∷ (joined string (map ascii ("/" ∷ "a" ∷ "/b" ∷ "/" ∷ "c" ∷ "/d" ∷ []))))
    ∷ writes (ascii "a=/b" then []) (1 ∷ joined string (map ascii ("/" ∷ "a" ∷ "/b" ∷ [])))
    -- equal lines, `crate` and other words wait for the bundle
    ∷ means "crate=/l" "/" "crate" "/l" ∷ means "@openzeppelin/=/lib" "/" "@openzeppelin" "/lib"
    ∷ writes (ascii "a=/b" then ascii "a=/b") (2 ∷ (joined string (map ascii ("/" ∷ "a" ∷ "/b" ∷ "/" ∷ "a" ∷ "/b" ∷ []))))
    -- 32 lines, 33 lines, the thirty-third without `=`, and 52 in the thirty-second
    ∷ is_section 225 (lines_answer (good 32) 225) ∷ is_refused 14 0 (lines_answer (good 32) 224) ∷ turned (good 33) 3 160 ∷ turned (good 32 ++ ascii "x") 3 160
    ∷ turned (good 31 ++ (ascii "x" then good 2)) 52 155
    -- names of 255 and 256 bytes, after the drop
    ∷ is_section 262 (lines_answer (letters 255 ++ ascii "=/b") 300) ∷ is_section 262 (lines_answer (letters 255 ++ ascii "/=/b") 300)
    ∷ turned (letters 256 ++ ascii "=/b") 12 0 ∷ turned (letters 256 ++ ascii "/=/b") 12 0 ∷ turned (ascii "/r:" ++ (letters 257 ++ ascii "=/b")) 12 3
    ∷ turned (letters 256 ++ ascii "=b") 4 257
    -- a line that is refused comes before a short buffer
    ∷ is_refused 52 5 (lines_answer (ascii "a=/b" then ascii "x") 0) ∷ []

pub cases : all (λ (t : Bool). t) rows ≡ true
unfolding all rows buffer writes turned means back good letters ascii same onto split components is_component well_formed is_path string joined counted remapping has before behind pieces dropped placed content context_in prefix_in name_in target_in remapping_of name_place line_verdict lines_verdict verdict remappings_of section lines_answer lines_buffer
cases = refl
