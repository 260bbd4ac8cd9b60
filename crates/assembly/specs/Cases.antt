-- Small bundles, from bytes: the program or the report of steps 3 to 5, and the image, computed. The images are those that the
-- Rust gives for the same bundles. Assumes nothing.
use Rattle.std.specs.Prelude.{ℕ, ◌≡◌, refl, List, [], ◌∷◌, map, length}
use Prim.Native.String.{String}
use Rattle.names.specs.Bytes.{ascii, same, member, all}
use Rattle.names.specs.Decimal.{digits, decimal, unit_name}
use Rattle.names.specs.Path.{is_path, is_component, well_formed, split, onto, components}
use Rattle.names.specs.Prefix.{directly_in, starts_with, begins, child, child_file, stem_of}
use Rattle.names.specs.Identifier.{is_identifier, class, letter, digit}
use Rattle.names.specs.Keywords.{is_crate, is_keyword, keywords}
use Rattle.bundle.specs.Bundle.{Text, Element, Items, none, use_of, module_of, ignored, Remapping, File, Bundle}
use Rattle.bundle.specs.Encode.{two, string, joined, counted, sized, element, items, remapping, file, fields, encode}
use Rattle.bundle.specs.Scan.{times, scan_string, scan_formed, scan_alias, scan_field, scan_count, scan_list, scan_use, scan_length, scan_mark, scan_head, scan_body, scan_end, scan_item_with, siblings, scan_module, scan_file, scan_files, scan_header}
use Rattle.bundle.specs.Decode.{each, far, element_at, remapping_at, item_at, items_by, items_at, file_at, decode}
use Rattle.bundle.specs.Conflicts.{placed_at, placed_remapping_at, any, listed, located, same_remapping, remapped, conflicts}
use Rattle.bundle.specs.Conflicts as conflict
use Rattle.bundle.specs.Read.{Reading, value, refused, form, lists, files, verdict, read}
use Rattle.bundle.specs.CaseLaws.{item}
use Rattle.resolution.specs.Longest.{insert, longest_first, first_of}
use Rattle.resolution.specs.Resolution.{get_package_root, applies, remapping_for, is_folder, is_file, build_and_verify_path, resolve_crate_path, check_local_file_imported_as_external, resolve_path_internal}
use Rattle.resolution.specs.Call.{position}
use Rattle.discovery.specs.Discovery.{uses, program_of, use_cache, lookup_faults, valid_imports, holds, add_once, load, load_all, turn, turns, discover_dependencies}
use Rattle.graph.specs.Linearize.{linearize, visit, memb, from}
use Rattle.graph.specs.Linearize as graph
use Rattle.order.specs.Run.{ordered}
use Rattle.assembly.specs.Assemble.{rewrite_use, rewrite_items, local_items, assembled, enum_declarations, forbid_enum_dec_in_deps, has_main, main_faults, assembly_faults, Outcome, faulty, closed, ended, result, program, linearize_and_assemble}
use Rattle.assembly.specs.Image.{image_bytes, items_length, imaging, lent_image}
use Rattle.assembly.specs.Results.{Imaged}
use Rattle.assembly.specs.Results as imaged

-- what is told of bytes: the outcome, and the image of its program
pub data AssembleCase : Type 0 where
  told : (x : Outcome) (image : List ℕ) → AssembleCase
  turned_back : ℕ → ℕ → AssembleCase

abbrev image_of : Outcome → List ℕ
image_of (faulty l) = []
image_of (closed r) = []
image_of (ended n p) = []
image_of (result q) = image_bytes q.items

unfoldable pub telling : Outcome → AssembleCase
telling x = told x (image_of x)

unfoldable pub assembling : Reading → AssembleCase
assembling (value b) = telling (linearize_and_assemble b)
assembling (refused n p) = turned_back n p

-- a row: a bundle, and what is told of its bytes
pub record Row : Type 0 where
  pub bundle : Bundle
  pub expected : AssembleCase

abbrev at_path : String → Items → File
at_path p is = record { path = ascii p; items = is }

abbrev below_r : List String → List Remapping → List File → Bundle
below_r folders rs fs = record { version = 1; root = ascii "/r"; folders = ascii "/r" ∷ map ascii folders; remappings = rs; files = fs }

abbrev plain : String → Element
plain n = record { name = ascii n; alias = [] }

abbrev renamed : String → String → Element
renamed n a = record { name = ascii n; alias = ascii a }

abbrev path : List String → List Text
path l = map ascii l

-- a unit of a program
abbrev unit : String → Items → Items → Items
unit n inner rest = module_of 0 0 (ascii n) inner rest

unfoldable pub rows : List Row
rows =
    -- the printed case: `crate::a` becomes `crate::unit_1`
    record {
      bundle = below_r [] []
          (at_path "/r/main.simf" (use_of 0 0 (path ("crate" ∷ "a" ∷ [])) (plain "f" ∷ []) (item 2 0 0 (ascii "main") none))
          ∷ at_path "/r/a.simf" (item 2 0 1 (ascii "f") none) ∷ []);
      expected = told (program (1 ∷ 0 ∷ [])
          (unit "unit_1" (item 2 65 1 (ascii "f") none)
          (unit "unit_0" (use_of 27 0 (path ("crate" ∷ "unit_1" ∷ [])) (plain "f" ∷ []) (item 2 44 0 (ascii "main") none)) none)))
          (1 ∷ 0 ∷ 59 ∷ 0 ∷ 15 ∷ 5 ∷ 0 ∷ 6 ∷ 117 ∷ 110 ∷ 105 ∷ 116 ∷ 95 ∷ 49 ∷ 0 ∷ 4 ∷ 2 ∷ 1 ∷ 1 ∷ 102 ∷ 0 ∷ 40 ∷ 5 ∷ 0 ∷ 6 ∷ 117 ∷ 110 ∷ 105 ∷ 116 ∷ 95 ∷ 48 ∷ 0 ∷ 20 ∷ 3 ∷ 0 ∷ 2 ∷ 5 ∷ 99 ∷ 114 ∷ 97 ∷ 116 ∷ 101 ∷ 6 ∷ 117 ∷ 110 ∷ 105 ∷ 116 ∷ 95 ∷ 49 ∷ 1 ∷ 1 ∷ 102 ∷ 0 ∷ 0 ∷ 7 ∷ 2 ∷ 0 ∷ 4 ∷ 109 ∷ 97 ∷ 105 ∷ 110 ∷ []);
    }
    -- C4: a use that resolves to its own file keeps the segments after `crate` as module path; ignored items go, nested ones too
    ∷ record {
      bundle = below_r [] []
          (at_path "/r/main.simf"
          (module_of 0 1 (ascii "m") (ignored 0 0 (module_of 0 1 (ascii "n") (item 2 0 1 (ascii "f") none) none))
          (ignored 0 0 (use_of 0 0 (path ("crate" ∷ "m" ∷ "n" ∷ [])) (renamed "f" "g" ∷ []) (item 2 0 0 (ascii "main") none)))) ∷ []);
      expected = told (program (0 ∷ [])
          (unit "unit_0"
          (module_of 27 1 (ascii "m") (module_of 37 1 (ascii "n") (item 2 43 1 (ascii "f") none) none)
          (use_of 53 0 (path ("crate" ∷ "unit_0" ∷ "m" ∷ "n" ∷ [])) (renamed "f" "g" ∷ []) (item 2 73 0 (ascii "main") none))) none))
          (1 ∷ 0 ∷ 65 ∷ 0 ∷ 63 ∷ 5 ∷ 0 ∷ 6 ∷ 117 ∷ 110 ∷ 105 ∷ 116 ∷ 95 ∷ 48 ∷ 0 ∷ 16 ∷ 5 ∷ 1 ∷ 1 ∷ 109 ∷ 0 ∷ 10 ∷ 5 ∷ 1 ∷ 1 ∷ 110 ∷ 0 ∷ 4 ∷ 2 ∷ 1 ∷ 1 ∷ 102 ∷ 0 ∷ 25 ∷ 3 ∷ 0 ∷ 4 ∷ 5 ∷ 99 ∷ 114 ∷ 97 ∷ 116 ∷ 101 ∷ 6 ∷ 117 ∷ 110 ∷ 105 ∷ 116 ∷ 95 ∷ 48 ∷ 1 ∷ 109 ∷ 1 ∷ 110 ∷ 1 ∷ 1 ∷ 102 ∷ 1 ∷ 103 ∷ 0 ∷ 7 ∷ 2 ∷ 0 ∷ 4 ∷ 109 ∷ 97 ∷ 105 ∷ 110 ∷ []);
    }
    -- a library, uses inside an inline module, and module paths that are left
    ∷ record {
      bundle = below_r ("/r/l" ∷ []) (record { context = ascii "/"; name = ascii "lib"; target = ascii "/r/l" } ∷ [])
          (at_path "/r/main.simf"
          (module_of 0 1 (ascii "m")
          (use_of 0 1 (path ("lib" ∷ "a" ∷ "k" ∷ [])) (plain "f" ∷ renamed "f" "h" ∷ [])
          (use_of 0 1 (path ("lib" ∷ "b" ∷ [])) (plain "T" ∷ []) none))
          (item 2 0 0 (ascii "main") none))
          ∷ at_path "/r/l/b.simf" (use_of 0 0 (path ("crate" ∷ "a" ∷ "k" ∷ [])) (plain "f" ∷ []) (item 1 0 1 (ascii "T") none))
          ∷ at_path "/r/l/a.simf" (module_of 0 1 (ascii "k") (item 2 0 1 (ascii "f") none) none) ∷ []);
      expected = told (program (1 ∷ 2 ∷ 0 ∷ [])
          (unit "unit_1" (module_of 147 1 (ascii "k") (item 2 153 1 (ascii "f") none) none)
          (unit "unit_2" (use_of 108 0 (path ("crate" ∷ "unit_1" ∷ "k" ∷ [])) (plain "f" ∷ []) (item 1 127 1 (ascii "T") none))
          (unit "unit_0"
          (module_of 43 1 (ascii "m")
          (use_of 49 1 (path ("crate" ∷ "unit_1" ∷ "k" ∷ [])) (plain "f" ∷ renamed "f" "h" ∷ [])
          (use_of 70 1 (path ("crate" ∷ "unit_2" ∷ [])) (plain "T" ∷ []) none))
          (item 2 85 0 (ascii "main") none)) none))))
          (1 ∷ 0 ∷ 140 ∷ 0 ∷ 21 ∷ 5 ∷ 0 ∷ 6 ∷ 117 ∷ 110 ∷ 105 ∷ 116 ∷ 95 ∷ 49 ∷ 0 ∷ 10 ∷ 5 ∷ 1 ∷ 1 ∷ 107 ∷ 0 ∷ 4 ∷ 2 ∷ 1 ∷ 1 ∷ 102 ∷ 0 ∷ 39 ∷ 5 ∷ 0 ∷ 6 ∷ 117 ∷ 110 ∷ 105 ∷ 116 ∷ 95 ∷ 50 ∷ 0 ∷ 22 ∷ 3 ∷ 0 ∷ 3 ∷ 5 ∷ 99 ∷ 114 ∷ 97 ∷ 116 ∷ 101 ∷ 6 ∷ 117 ∷ 110 ∷ 105 ∷ 116 ∷ 95 ∷ 49 ∷ 1 ∷ 107 ∷ 1 ∷ 1 ∷ 102 ∷ 0 ∷ 0 ∷ 4 ∷ 1 ∷ 1 ∷ 1 ∷ 84 ∷ 0 ∷ 74 ∷ 5 ∷ 0 ∷ 6 ∷ 117 ∷ 110 ∷ 105 ∷ 116 ∷ 95 ∷ 48 ∷ 0 ∷ 54 ∷ 5 ∷ 1 ∷ 1 ∷ 109 ∷ 0 ∷ 26 ∷ 3 ∷ 1 ∷ 3 ∷ 5 ∷ 99 ∷ 114 ∷ 97 ∷ 116 ∷ 101 ∷ 6 ∷ 117 ∷ 110 ∷ 105 ∷ 116 ∷ 95 ∷ 49 ∷ 1 ∷ 107 ∷ 2 ∷ 1 ∷ 102 ∷ 0 ∷ 1 ∷ 102 ∷ 1 ∷ 104 ∷ 0 ∷ 20 ∷ 3 ∷ 1 ∷ 2 ∷ 5 ∷ 99 ∷ 114 ∷ 97 ∷ 116 ∷ 101 ∷ 6 ∷ 117 ∷ 110 ∷ 105 ∷ 116 ∷ 95 ∷ 50 ∷ 1 ∷ 1 ∷ 84 ∷ 0 ∷ 0 ∷ 7 ∷ 2 ∷ 0 ∷ 4 ∷ 109 ∷ 97 ∷ 105 ∷ 110 ∷ []);
    }
    -- a nested enum of unit 1 is 28 with its mark, unit 0's own is none; then 27: a nested function `main` and another unit's
    -- type `main` are no main
    ∷ record {
      bundle = below_r [] []
          (at_path "/r/main.simf"
          (use_of 0 0 (path ("crate" ∷ "a" ∷ [])) (plain "f" ∷ [])
          (item 4 0 0 (ascii "e") (module_of 0 0 (ascii "m") (item 2 0 0 (ascii "main") none) none)))
          ∷ at_path "/r/a.simf"
          (item 2 0 1 (ascii "f")
          (module_of 0 1 (ascii "m") (ignored 0 0 (item 4 0 1 (ascii "k") none)) (item 1 0 0 (ascii "main") none))) ∷ []);
      expected = told (faulty (record { number = 28; place = 93 } ∷ record { number = 27; place = 0 } ∷ [])) [];
    }
    -- an unreached file's enum is not told
    ∷ record {
      bundle = below_r [] [] (at_path "/r/main.simf" none ∷ at_path "/r/a.simf" (item 4 0 1 (ascii "k") none) ∷ []);
      expected = told (faulty (record { number = 27; place = 0 } ∷ [])) [];
    }
    -- a ring prevents step 5, so no 27 or 28 is told; and so does a fault of discovery
    ∷ record {
      bundle = below_r [] []
          (at_path "/r/main.simf" (use_of 0 0 (path ("crate" ∷ "a" ∷ [])) [] none)
          ∷ at_path "/r/a.simf" (use_of 0 0 (path ("crate" ∷ "main" ∷ [])) [] (item 4 0 1 (ascii "k") none)) ∷ []);
      expected = told (closed (0 ∷ 1 ∷ [])) [];
    }
    ∷ record {
      bundle = below_r [] [] (at_path "/r/main.simf" (use_of 0 0 (path ("lib" ∷ "a" ∷ [])) [] none) ∷ []);
      expected = told (faulty (record { number = 21; place = 27 } ∷ [])) [];
    }
    ∷ []

pub rows_hold : map (λ r. assembling (read (encode r.bundle))) rows ≡ map (λ r. r.expected) rows
unfolding rows assembling telling ascii encode fields sized two string counted joined remapping file items element read verdict form lists files scan_header scan_string scan_formed scan_count scan_list times scan_field scan_files scan_file scan_length siblings scan_item_with scan_module scan_head scan_mark scan_body scan_use scan_alias scan_end is_path is_identifier class letter digit all same components split onto well_formed is_component conflicts listed located conflict.named remapped same_remapping placed_at placed_remapping_at each far any member directly_in starts_with begins child child_file stem_of is_crate is_keyword keywords decode file_at items_at items_by item_at element_at remapping_at insert longest_first first_of get_package_root applies remapping_for is_folder is_file build_and_verify_path resolve_crate_path check_local_file_imported_as_external resolve_path_internal uses program_of use_cache lookup_faults valid_imports position holds add_once load load_all turn turns discover_dependencies ordered linearize visit graph.each memb from digits decimal unit_name rewrite_use rewrite_items local_items assembled enum_declarations forbid_enum_dec_in_deps has_main main_faults assembly_faults linearize_and_assemble image_bytes
rows_hold = refl

-- BUFFERS
-- a program, a lent buffer, the answer, and what the buffer holds afterwards
pub record Lent : Type 0 where
  pub items : Items
  pub buffer : List ℕ
  pub answer : Imaged
  pub after : List ℕ

-- a unit with one item: 20 bytes, and the header
abbrev small_program : Items
small_program = unit "unit_0" (item 2 9 0 (ascii "main") none) none

abbrev filled : List ℕ → List ℕ
filled rest = 7 ∷ 7 ∷ 7 ∷ 7 ∷ 7 ∷ 7 ∷ 7 ∷ 7 ∷ 7 ∷ 7 ∷ 7 ∷ 7 ∷ 7 ∷ 7 ∷ 7 ∷ 7 ∷ 7 ∷ 7 ∷ 7 ∷ 7 ∷ 7 ∷ 7 ∷ rest

unfoldable pub lents : List Lent
lents =
    -- one byte too few: 14 at place 0, and the buffer is as it was
    record { items = small_program; buffer = filled []; answer = imaged.Refused 14 0; after = filled [] }
    -- just enough
    ∷ record {
      items = small_program;
      buffer = filled (7 ∷ []);
      answer = imaged.Image 23;
      after = 1 ∷ 0 ∷ 20 ∷ 0 ∷ 18 ∷ 5 ∷ 0 ∷ 6 ∷ 117 ∷ 110 ∷ 105 ∷ 116 ∷ 95 ∷ 48 ∷ 0 ∷ 7 ∷ 2 ∷ 0 ∷ 4 ∷ 109 ∷ 97 ∷ 105 ∷ 110 ∷ [];
    }
    -- the rest is as it was
    ∷ record {
      items = small_program;
      buffer = filled (7 ∷ 8 ∷ 9 ∷ []);
      answer = imaged.Image 23;
      after = 1 ∷ 0 ∷ 20 ∷ 0 ∷ 18 ∷ 5 ∷ 0 ∷ 6 ∷ 117 ∷ 110 ∷ 105 ∷ 116 ∷ 95 ∷ 48 ∷ 0 ∷ 7 ∷ 2 ∷ 0 ∷ 4 ∷ 109 ∷ 97 ∷ 105 ∷ 110 ∷ 8 ∷ 9 ∷ [];
    }
    ∷ []

pub lents_hold : (map (λ r. imaging r.items (length r.buffer)) lents ≡ map (λ r. r.answer) lents)
    × (map (λ r. lent_image r.items r.buffer) lents ≡ map (λ r. r.after) lents)
unfolding lents ascii imaging lent_image image_bytes items_length sized two string items
lents_hold = (refl, refl)
