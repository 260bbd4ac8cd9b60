-- The printed case, the cases of the header and of cuts, and a case of each number, computed. Assumes nothing.
use Rattle.std.specs.Prelude.{ℕ, zero, suc, ◌≤◌, ◌≡◌, refl, Bool, true, false, List, [], ◌∷◌, ◌++◌, map, length, replicate, drop}
use Rattle.std.proofs.Common.{arith, ◌∙◌}
use Rattle.names.specs.Bytes.{ascii, same, member, all}
use Rattle.names.specs.Path.{is_path, is_component, well_formed, split, onto, components}
use Rattle.names.specs.Prefix.{directly_in, starts_with, begins}
use Rattle.names.specs.Identifier.{is_identifier, class, letter, digit}
use Rattle.names.specs.Keywords.{is_crate, is_keyword, keywords}
use Rattle.bundle.specs.Bundle.{Text, Items, none, use_of, module_of, ignored, Remapping, File, Bundle}
use Rattle.bundle.specs.Encode.{two, string, joined, counted, sized, element, items, remapping, file, fields, encode}
use Rattle.bundle.specs.Limits.{depth_limit}
use Rattle.bundle.specs.Scan.{walk_then, scan_items, times, scan_string, scan_formed, scan_alias, scan_field, scan_count, scan_list, scan_use, scan_length, scan_mark, scan_head, scan_body, scan_end, scan_item_with, siblings, scan_module, scan_file, scan_files, scan_header}
use Rattle.bundle.specs.Decode.{each, far, element_at, remapping_at, item_at, items_by, items_at, file_at, decode}
use Rattle.bundle.specs.Conflicts.{or_else, placed_at, placed_remapping_at, any, listed, located, same_remapping, remapped, conflicts}
use Rattle.bundle.specs.Conflicts as conflict
use Rattle.bundle.specs.Read.{Reading, value, refused, after, after_walk, form, lists, files, verdict, read}
use Rattle.bundle.specs.CaseLaws.{item, many, ignored_item, use_item, many-ignored, many-uses}
use Rattle.bundle.specs.Results.{Walk}
use Rattle.bundle.specs.Results.{Past, Fault}
use Rattle.bundle.specs.Results.{Checked}
use Rattle.bundle.specs.Results.{Ok, Refused}

-- THE PRINTED CASE
unfoldable printed : Bundle
printed = record {
  version = 1;
  root = ascii "/r";
  folders = ascii "/r" ∷ [];
  remappings = [];
  files =
      record {
        path = ascii "/r/main.simf";
        items =
            use_of 27 0 (ascii "crate" ∷ ascii "a" ∷ []) (record { name = ascii "f"; alias = [] } ∷ [])
            (item 2 44 0 (ascii "main") none);
      } ∷ record { path = ascii "/r/a.simf"; items = item 2 65 1 (ascii "f") none } ∷ [];
}

-- its bytes: a use at 27, functions at 44 and 65
unfoldable printed_bytes : List ℕ
printed_bytes =
    (1 ∷ 0 ∷ 68 ∷ []) ++ (2 ∷ ascii "/r") ++ (1 ∷ 2 ∷ ascii "/r") ++ (0 ∷ [])
    ++ (2 ∷ 12 ∷ ascii "/r/main.simf") ++ (0 ∷ 26 ∷ [])
    ++ (0 ∷ 15 ∷ 3 ∷ 0 ∷ 2 ∷ 5 ∷ ascii "crate") ++ (1 ∷ ascii "a") ++ (1 ∷ 1 ∷ ascii "f") ++ (0 ∷ [])
    ++ (0 ∷ 7 ∷ 2 ∷ 0 ∷ 4 ∷ ascii "main")
    ++ (9 ∷ ascii "/r/a.simf") ++ (0 ∷ 6 ∷ []) ++ (0 ∷ 4 ∷ 2 ∷ 1 ∷ 1 ∷ ascii "f")

printed-written : encode printed ≡ printed_bytes
unfolding printed printed_bytes ascii encode fields sized two string counted joined remapping file items element
printed-written = refl

printed-length : length (encode printed) ≡ 71
unfolding printed ascii encode fields sized two string counted joined remapping file items element
printed-length = refl

printed-read : read (encode printed) ≡ value printed
unfolding printed ascii encode fields sized two string counted joined remapping file items element read verdict form lists files scan_header scan_string scan_formed scan_count scan_list times scan_field scan_files scan_file scan_length siblings scan_item_with scan_module scan_head scan_mark scan_body scan_use scan_alias scan_end is_path is_identifier class letter digit all same components split onto well_formed is_component conflicts listed located conflict.named remapped same_remapping placed_at placed_remapping_at each far any member directly_in starts_with begins is_crate is_keyword keywords decode file_at items_at items_by item_at element_at remapping_at
printed-read = refl

-- EVERY FIELD AND EVERY KIND, as bytes and as data
unfoldable kinds_bytes : List ℕ
kinds_bytes =
    -- version and length; the root `/`; a folder `/a`; in `/` the name l for `/a`; a file `/m` with 43 bytes of items
    (1 ∷ 0 ∷ 63 ∷ []) ++ (1 ∷ 47 ∷ []) ++ (1 ∷ 2 ∷ 47 ∷ 97 ∷ []) ++ (1 ∷ 1 ∷ 47 ∷ 1 ∷ 108 ∷ 2 ∷ 47 ∷ 97 ∷ []) ++ (1 ∷ 2 ∷ 47 ∷ 109 ∷ 0 ∷ 43 ∷ [])
    -- a type alias T, a public enum E, a module m with a public function f
    ++ (0 ∷ 4 ∷ 1 ∷ 0 ∷ 1 ∷ 84 ∷ []) ++ (0 ∷ 4 ∷ 4 ∷ 1 ∷ 1 ∷ 69 ∷ []) ++ (0 ∷ 10 ∷ 5 ∷ 0 ∷ 1 ∷ 109 ∷ []) ++ (0 ∷ 4 ∷ 2 ∷ 1 ∷ 1 ∷ 102 ∷ [])
    -- a public use of a with f and g as h; an ignored item
    ++ (0 ∷ 13 ∷ 3 ∷ 1 ∷ 1 ∷ 1 ∷ 97 ∷ 2 ∷ 1 ∷ 102 ∷ 0 ∷ 1 ∷ 103 ∷ 1 ∷ 104 ∷ []) ++ (0 ∷ 2 ∷ 6 ∷ 0 ∷ [])

unfoldable kinds : Bundle
kinds = record {
  version = 1;
  root = ascii "/";
  folders = ascii "/a" ∷ [];
  remappings = record { context = ascii "/"; name = ascii "l"; target = ascii "/a" } ∷ [];
  files =
      record {
        path = ascii "/m";
        items =
            item 1 23 0 (ascii "T")
            (item 4 29 1 (ascii "E")
            (module_of 35 0 (ascii "m") (item 2 41 1 (ascii "f") none)
            (use_of 47 1 (ascii "a" ∷ []) (record { name = ascii "f"; alias = [] } ∷ record { name = ascii "g"; alias = ascii "h" } ∷ [])
            (ignored 62 0 none))));
      } ∷ [];
}

kinds-read : read kinds_bytes ≡ value kinds
unfolding kinds kinds_bytes ascii encode fields sized two string counted joined remapping file items element read verdict form lists files scan_header scan_string scan_formed scan_count scan_list times scan_field scan_files scan_file scan_length siblings scan_item_with scan_module scan_head scan_mark scan_body scan_use scan_alias scan_end is_path is_identifier class letter digit all same components split onto well_formed is_component conflicts listed located conflict.named remapped same_remapping placed_at placed_remapping_at each far any member directly_in starts_with begins is_crate is_keyword keywords decode file_at items_at items_by item_at element_at remapping_at
kinds-read = refl

-- BYTES AS THEY STAND
-- a bundle with the root `/` and one file `/m` that has these item bytes; they start at 13
unfoldable raw : List ℕ → List ℕ
raw items = 1 ∷ sized (1 ∷ 47 ∷ 0 ∷ 0 ∷ 1 ∷ 2 ∷ 47 ∷ 109 ∷ sized items)

-- a row of refusals: bytes, number and place
record Row : Type 0 where
  bytes : List ℕ
  number : ℕ
  place : ℕ

abbrev row : List ℕ → ℕ → ℕ → Row
row s n p = record { bytes = s; number = n; place = p }

-- header and cuts, by 01's order of tests
bytes-rows : List Row
bytes-rows =
    -- under 3 bytes; the version; more declared than there is; less, before any field is read
    row [] 1 0 ∷ row (2 ∷ 0 ∷ []) 1 0 ∷ row (2 ∷ 0 ∷ 9 ∷ []) 2 0 ∷ row (1 ∷ 0 ∷ 1 ∷ []) 1 1 ∷ row (1 ∷ 0 ∷ 1 ∷ 0 ∷ 255 ∷ []) 1 4
    -- a missing field at its container's end
    ∷ row (1 ∷ 0 ∷ 0 ∷ []) 1 3 ∷ row (raw (0 ∷ 0 ∷ [])) 1 15
    -- one byte of a length; a length past the end; left-over bytes in an item
    ∷ row (raw (0 ∷ [])) 1 13 ∷ row (raw (0 ∷ 3 ∷ 6 ∷ 0 ∷ [])) 1 13 ∷ row (raw (0 ∷ 3 ∷ 6 ∷ 0 ∷ 7 ∷ [])) 1 17
    -- kind 9 in a one-byte item is 6 at the kind; no visibility; visibility 2
    ∷ row (raw (0 ∷ 1 ∷ 9 ∷ [])) 6 15 ∷ row (raw (0 ∷ 1 ∷ 6 ∷ [])) 1 16 ∷ row (raw (0 ∷ 2 ∷ 6 ∷ 2 ∷ [])) 6 16
    -- a name past its item's end; no element count; 17 segments; 33 elements
    ∷ row (raw (0 ∷ 4 ∷ 2 ∷ 0 ∷ 2 ∷ 97 ∷ [])) 1 17 ∷ row (raw (0 ∷ 3 ∷ 3 ∷ 0 ∷ 0 ∷ [])) 1 18
    ∷ row (raw (0 ∷ 3 ∷ 3 ∷ 0 ∷ 17 ∷ [])) 3 17 ∷ row (raw (0 ∷ 4 ∷ 3 ∷ 0 ∷ 0 ∷ 33 ∷ [])) 3 18
    -- a name's form; an alias's
    ∷ row (raw (0 ∷ 4 ∷ 2 ∷ 0 ∷ 1 ∷ 49 ∷ [])) 5 17 ∷ row (raw (0 ∷ 8 ∷ 3 ∷ 0 ∷ 0 ∷ 1 ∷ 1 ∷ 102 ∷ 1 ∷ 32 ∷ [])) 5 21
    -- a segment's form, before the element count; an element's
    ∷ row (raw (0 ∷ 6 ∷ 3 ∷ 0 ∷ 1 ∷ 1 ∷ 49 ∷ 33 ∷ [])) 5 18 ∷ row (raw (0 ∷ 7 ∷ 3 ∷ 0 ∷ 0 ∷ 1 ∷ 1 ∷ 49 ∷ 0 ∷ [])) 5 19
    -- a file's path, before its item length; a file's item length past the end; bytes left over after the last file
    ∷ row (1 ∷ sized (1 ∷ 47 ∷ 0 ∷ 0 ∷ 1 ∷ 1 ∷ 109 ∷ 0 ∷ 9 ∷ [])) 4 8
    ∷ row (1 ∷ sized (1 ∷ 47 ∷ 0 ∷ 0 ∷ 1 ∷ 2 ∷ 47 ∷ 109 ∷ 0 ∷ 1 ∷ [])) 1 11 ∷ row (1 ∷ sized (1 ∷ 47 ∷ 0 ∷ 0 ∷ 1 ∷ 2 ∷ 47 ∷ 109 ∷ 0 ∷ 0 ∷ 9 ∷ [])) 1 13
    -- a folder's length past the end
    ∷ row (1 ∷ sized (1 ∷ 47 ∷ 1 ∷ 5 ∷ 47 ∷ 97 ∷ [])) 1 6
    -- a place past 65,535
    ∷ row (1 ∷ 255 ∷ 255 ∷ replicate 65536 0) 1 65538
    ∷ []

-- VALUES
abbrev at_root : List Text → List Remapping → List File → List ℕ
at_root fs rs gs = encode (record { version = 1; root = ascii "/"; folders = fs; remappings = rs; files = gs })

abbrev empty : Text → File
empty p = record { path = p; items = none }

abbrev main : File
main = empty (ascii "/m")

abbrev remap : Text → Text → Text → Remapping
remap c n t = record { context = c; name = n; target = t }

-- n modules `a`, each in the one before, and what the last holds
unfoldable nested : ℕ → Items → Items
nested zero inner = inner
nested (suc n) inner = module_of 0 0 (ascii "a") (nested n inner) none

abbrev holding : Items → List ℕ
holding is = at_root [] [] (record { path = ascii "/m"; items = is } ∷ [])

value-rows : List Row
value-rows =
    -- counts: 65 folders, no file, 65 files; depth 9
    row (at_root (replicate 65 (ascii "/a")) [] (main ∷ [])) 3 5 ∷ row (at_root [] [] []) 3 7
    ∷ row (at_root [] [] (replicate 65 main)) 3 7
    ∷ row (at_root [] (replicate 33 (remap [] [] [])) []) 3 6
    -- as many as may be: 64 folders, 64 files, 32 remappings
    ∷ row (at_root (replicate 64 (ascii "/a")) [] (main ∷ [])) 7 9 ∷ row (at_root [] [] (replicate 64 main)) 7 13
    ∷ row (at_root [] (replicate 32 (remap (ascii "/") (ascii "l") (ascii "/"))) (main ∷ [])) 13 13
    -- depth 9 comes before the name
    ∷ row (holding (nested 9 none)) 3 61 ∷ row (holding (nested 8 (module_of 0 0 (ascii "1") none none))) 3 61
    -- forms
    ∷ row (at_root (ascii "/a/" ∷ []) [] (main ∷ [])) 4 6 ∷ row (at_root [] [] (empty (ascii "m") ∷ [])) 4 8
    ∷ row (holding (item 1 0 0 (ascii "a-b") none)) 5 17
    -- 4 at the root, at a context, at a target
    ∷ row (encode (record { version = 1; root = ascii "r"; folders = []; remappings = []; files = main ∷ [] })) 4 3
    ∷ row (at_root [] (remap (ascii "a") (ascii "l") (ascii "a") ∷ []) (main ∷ [])) 4 7
    ∷ row (at_root [] (remap (ascii "/") (ascii "l") (ascii "a") ∷ []) (main ∷ [])) 4 11
    -- 7 before 8 of one path; a folder after its child; a parent that is a file; `/` listed
    ∷ row (at_root (ascii "/a" ∷ ascii "/a" ∷ []) [] (main ∷ [])) 7 9
    ∷ row (at_root [] [] (main ∷ main ∷ [])) 7 13
    ∷ row (at_root (ascii "/" ∷ []) [] (main ∷ [])) 7 6
    ∷ row (at_root (ascii "/a/b" ∷ ascii "/c/d" ∷ ascii "/a" ∷ ascii "/c/d" ∷ []) [] (main ∷ [])) 8 11
    ∷ row (at_root [] [] (main ∷ empty (ascii "/m/n") ∷ [])) 8 13
    -- folders before files: a folder and a file of one path; an orphan folder and a file twice
    ∷ row (at_root (ascii "/m" ∷ []) [] (main ∷ [])) 7 11
    ∷ row (at_root (ascii "/a/b" ∷ []) [] (main ∷ main ∷ [])) 8 6
    -- context, target, name, 13, and the root last
    ∷ row (at_root [] (remap (ascii "/a") (ascii "crate") (ascii "/b") ∷ []) (main ∷ [])) 9 7
    ∷ row (at_root [] (remap (ascii "/") (ascii "crate") (ascii "/m") ∷ []) (main ∷ [])) 10 15
    ∷ row (at_root [] (remap (ascii "/") (ascii "crate") (ascii "/") ∷ []) (main ∷ [])) 11 9
    ∷ row (at_root [] (remap (ascii "/") (ascii "use") (ascii "/") ∷ []) (main ∷ [])) 12 9
    ∷ row (at_root [] (remap (ascii "/") [] (ascii "/") ∷ []) (main ∷ [])) 12 9
    ∷ row (at_root [] (replicate 2 (remap (ascii "/") (ascii "l") (ascii "/"))) (main ∷ [])) 13 13
    ∷ row (encode (record { version = 1; root = ascii "/q"; folders = []; remappings = []; files = main ∷ [] })) 9 3
    ∷ row (encode (record { version = 1; root = ascii "/m"; folders = []; remappings = []; files = main ∷ [] })) 10 3
    ∷ row (encode (record { version = 1; root = ascii "/q"; folders = []; remappings = remap (ascii "/") (ascii "use") (ascii "/") ∷ []; files = main ∷ [] })) 12 10
    ∷ []

answers : List Row → List Reading
answers = map (λ r. read r.bytes)

told : List Row → List Reading
told = map (λ r. refused r.number r.place)

bytes-told : answers bytes-rows ≡ told bytes-rows
unfolding raw bytes-rows answers told ascii encode fields sized two string counted joined remapping file items element read verdict form lists files scan_header scan_string scan_formed scan_count scan_list times scan_field scan_files scan_file scan_length siblings scan_item_with scan_module scan_head scan_mark scan_body scan_use scan_alias scan_end is_path is_identifier class letter digit all same components split onto well_formed is_component conflicts listed located conflict.named remapped same_remapping placed_at placed_remapping_at each far any member directly_in starts_with begins is_crate is_keyword keywords decode file_at items_at items_by item_at element_at remapping_at
bytes-told = refl

values-told : answers value-rows ≡ told value-rows
unfolding nested value-rows answers told ascii encode fields sized two string counted joined remapping file items element read verdict form lists files scan_header scan_string scan_formed scan_count scan_list times scan_field scan_files scan_file scan_length siblings scan_item_with scan_module scan_head scan_mark scan_body scan_use scan_alias scan_end is_path is_identifier class letter digit all same components split onto well_formed is_component conflicts listed located conflict.named remapped same_remapping placed_at placed_remapping_at each far any member directly_in starts_with begins is_crate is_keyword keywords decode file_at items_at items_by item_at element_at remapping_at
values-told = refl

-- WHAT IS LET THROUGH
accepted : Reading → Bool
accepted (value b) = true
accepted (refused n p) = false

-- a path of n components of k bytes
unfoldable long : ℕ → ℕ → Text
long k zero = []
long k (suc n) = 47 ∷ (replicate k 97 ++ long k n)

-- the folders above a path of n components of k bytes
unfoldable above : ℕ → ℕ → List Text
above k zero = []
above k (suc n) = long k (suc n) ∷ above k n

-- depth 8; 16 segments and 32 elements; a path of 16 components and 255 bytes; a folder after its child
taken-rows : List (List ℕ)
taken-rows =
    holding (nested 8 none)
    ∷ holding (use_of 0 0 (replicate 16 (ascii "a")) (replicate 32 (record { name = ascii "a"; alias = ascii "b" })) none)
    ∷ at_root (above 15 15) [] (empty (long 15 15 ++ long 14 1) ∷ [])
    ∷ at_root (ascii "/a/b" ∷ ascii "/a" ∷ []) [] (main ∷ [])
    ∷ []

taken : map (λ s. accepted (read s)) taken-rows ≡ true ∷ true ∷ true ∷ true ∷ []
unfolding nested long above taken-rows accepted ascii encode fields sized two string counted joined remapping file items element read verdict form lists files scan_header scan_string scan_formed scan_count scan_list times scan_field scan_files scan_file scan_length siblings scan_item_with scan_module scan_head scan_mark scan_body scan_use scan_alias scan_end is_path is_identifier class letter digit all same components split onto well_formed is_component conflicts listed located conflict.named remapped same_remapping placed_at placed_remapping_at each far any member directly_in starts_with begins is_crate is_keyword keywords decode file_at items_at items_by item_at element_at remapping_at
taken = refl

-- THE LIMITS ON ITEMS AND USES: what follows 1,024 items, and 256 uses
unfoldable after_items : List ℕ → List ℕ
after_items last = raw (many ignored_item 1024 ++ last)

unfoldable after_uses : List ℕ → List ℕ
after_uses last = raw (many use_item 256 ++ last)

-- one more item of visibility 2, and one of a bad name
abbrev bad_visibility : List ℕ
bad_visibility = 0 ∷ 2 ∷ 6 ∷ 2 ∷ []

abbrev bad_name : List ℕ
bad_name = 0 ∷ 4 ∷ 2 ∷ 0 ∷ 1 ∷ 49 ∷ []

limit-rows : List Row
limit-rows =
    -- the 1,025th item, and the 257th use, at its start; after its visibility and before its name
    row (after_items ignored_item) 3 4109 ∷ row (after_uses use_item) 3 1549
    ∷ row (after_items bad_visibility) 6 4112 ∷ row (after_items bad_name) 3 4109
    ∷ []

-- no more of them are let through
full-rows : List (List ℕ)
full-rows = after_items [] ∷ after_uses [] ∷ []

-- the bytes are read up to the items, which end at `end`
abbrev with_items : List ℕ → ℕ → Checked
with_items s end =
    or_else (after_walk (walk_then (scan_items depth_limit s end 13 0 0) (scan_files 0 s end)) (λ last. after (scan_end end last) (λ _. Ok))) (conflicts s)

before-items : (verdict (after_items ignored_item) ≡ with_items (after_items ignored_item) 4113)
    × (verdict (after_uses use_item) ≡ with_items (after_uses use_item) 1555)
    × (verdict (after_items bad_visibility) ≡ with_items (after_items bad_visibility) 4113)
    × (verdict (after_items bad_name) ≡ with_items (after_items bad_name) 4115)
    × (verdict (after_items []) ≡ with_items (after_items []) 4109)
    × (verdict (after_uses []) ≡ with_items (after_uses []) 1549)
unfolding after_items after_uses raw many sized two string counted joined element verdict form lists files scan_header scan_string scan_formed scan_count scan_list times scan_field scan_files scan_file scan_length scan_end is_path all same components split onto well_formed is_component ascii
before-items = (refl, refl, refl, refl, refl, refl)

-- the last item
last-item : (scan_items depth_limit (after_items ignored_item) 4113 4109 1024 0 ≡ Fault 3 4109)
    × (scan_items depth_limit (after_uses use_item) 1555 1549 256 256 ≡ Fault 3 1549)
    × (scan_items depth_limit (after_items bad_visibility) 4113 4109 1024 0 ≡ Fault 6 4112)
    × (scan_items depth_limit (after_items bad_name) 4115 4109 1024 0 ≡ Fault 3 4109)
    × (scan_items depth_limit (after_items []) 4109 4109 1024 0 ≡ Past 4109 1024 0)
    × (scan_items depth_limit (after_uses []) 1549 1549 256 256 ≡ Past 1549 256 256)
unfolding after_items after_uses raw many sized two string counted joined element siblings scan_item_with scan_module scan_head scan_length scan_mark scan_body scan_use scan_list scan_count times scan_field scan_string scan_formed scan_alias scan_end
last-item = (refl, refl, refl, refl, refl, refl)

-- and those before it
items_stand : (last : List ℕ) → drop 13 (after_items last) ≡ many ignored_item 1024 ++ last
unfolding after_items raw sized two
items_stand last = refl

uses_stand : (last : List ℕ) → drop 13 (after_uses last) ≡ many use_item 256 ++ last
unfolding after_uses raw sized two
uses_stand last = refl

walked-items : (last : List ℕ) (end : ℕ) (w : Walk) → 4109 ≤ end → scan_items depth_limit (after_items last) end 4109 1024 0 ≡ w → scan_items depth_limit (after_items last) end 13 0 0 ≡ w
walked-items last end w h e = many-ignored (after_items last) depth_limit end 1024 13 0 0 last (items_stand last) (omega arith) (omega arith) (omega arith) ∙ e

walked-uses : (last : List ℕ) (end : ℕ) (w : Walk) → 1549 ≤ end → scan_items depth_limit (after_uses last) end 1549 256 256 ≡ w → scan_items depth_limit (after_uses last) end 13 0 0 ≡ w
walked-uses last end w h e = many-uses (after_uses last) depth_limit end 256 13 0 0 last (uses_stand last) (omega arith) (omega arith) (omega arith) ∙ e

limits_told : answers limit-rows ≡ told limit-rows
unfolding answers told limit-rows read
limits_told =
    let b = before-items in
    let l = last-item in
    let w : verdict (after_items ignored_item) ≡ Refused 3 4109 = b.0 ∙ rw (walked-items ignored_item 4113 _ (omega arith) l.0) in
    let x : verdict (after_uses use_item) ≡ Refused 3 1549 = b.1 ∙ rw (walked-uses use_item 1555 _ (omega arith) l.1) in
    let y : verdict (after_items bad_visibility) ≡ Refused 6 4112 = b.2 ∙ rw (walked-items bad_visibility 4113 _ (omega arith) l.2) in
    let z : verdict (after_items bad_name) ≡ Refused 3 4109 = b.3 ∙ rw (walked-items bad_name 4115 _ (omega arith) l.3) in
    rw (w, x, y, z)

full-free : (conflicts (after_items []) ≡ Ok) × (conflicts (after_uses []) ≡ Ok)
unfolding after_items after_uses raw many sized two string counted joined element conflicts listed located conflict.named remapped same_remapping placed_at placed_remapping_at each far any member directly_in starts_with begins is_crate is_keyword keywords same components split onto
full-free = (refl, refl)

full-taken : map (λ s. accepted (read s)) full-rows ≡ true ∷ true ∷ []
unfolding full-rows accepted read scan_files scan_end
full-taken =
    let b = before-items in
    let l = last-item in
    let f = full-free in
    let x : verdict (after_items []) ≡ Ok = b.4 ∙ rw (walked-items [] 4109 _ (omega arith) l.4, f.0) in
    let y : verdict (after_uses []) ≡ Ok = b.5 ∙ rw (walked-uses [] 1549 _ (omega arith) l.5, f.1) in
    rw (x, y)
