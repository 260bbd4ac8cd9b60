-- C6, the printed case and small bundles, from bytes, computed. Assumes nothing.
use Rattle.std.specs.Prelude.{ℕ, ◌≡◌, refl, List, [], ◌∷◌, map}
use Prim.Native.String.{String}
use Rattle.names.specs.Bytes.{ascii, same, member, all}
use Rattle.names.specs.Path.{is_path, is_component, well_formed, split, onto, components}
use Rattle.names.specs.Prefix.{directly_in, starts_with, begins, child, child_file, stem_of}
use Rattle.names.specs.Identifier.{is_identifier, class, letter, digit}
use Rattle.names.specs.Keywords.{is_crate, is_keyword, keywords}
use Rattle.bundle.specs.Bundle.{Text, Items, none, use_of, module_of, ignored, File, Bundle}
use Rattle.bundle.specs.Encode.{two, string, joined, counted, sized, element, items, remapping, file, fields, encode}
use Rattle.bundle.specs.Scan.{times, scan_string, scan_formed, scan_alias, scan_field, scan_count, scan_list, scan_use, scan_length, scan_mark, scan_head, scan_body, scan_end, scan_item_with, siblings, scan_module, scan_file, scan_files, scan_header}
use Rattle.bundle.specs.Decode.{each, far, element_at, remapping_at, item_at, items_by, items_at, file_at, decode}
use Rattle.bundle.specs.Conflicts.{placed_at, placed_remapping_at, any, listed, located, same_remapping, remapped, conflicts}
use Rattle.bundle.specs.Conflicts as conflict
use Rattle.bundle.specs.Read.{Reading, value, refused, form, lists, files, verdict, read}
use Rattle.bundle.specs.CaseLaws.{item}
use Rattle.resolution.specs.Longest.{insert, longest_first, first_of}
use Rattle.resolution.specs.Resolution.{get_package_root, applies, remapping_for, is_folder, is_file, build_and_verify_path, resolve_crate_path, check_local_file_imported_as_external, resolve_path_internal}
use Rattle.resolution.specs.Call.{position}
use Rattle.discovery.specs.Discovery.{Fault, uses, program_of, use_cache, lookup_faults, valid_imports, holds, add_once, load, load_all, Graph, turn, turns, discover_dependencies}

-- what discovery tells of bytes: units, lists and faults
pub data DiscoveryCase : Type 0 where
  told : (units : List Text) (lists : List (List ℕ)) (faults : List Fault) → DiscoveryCase
  turned_back : ℕ → ℕ → DiscoveryCase

unfoldable pub telling : Graph → DiscoveryCase
telling g = told g.sources g.dependencies g.faults

unfoldable pub discovery : Reading → DiscoveryCase
discovery (value b) = telling (discover_dependencies b)
discovery (refused n p) = turned_back n p

-- a row: a bundle, and what is told of its bytes
pub record Row : Type 0 where
  pub bundle : Bundle
  pub expected : DiscoveryCase

abbrev fault : ℕ → ℕ → Fault
fault n p = record { number = n; place = p }

-- a use with no elements, and items after it; marks are not written, so they are left 0 here
abbrev use_path : List String → Items → Items
use_path path rest = use_of 0 0 (map ascii path) [] rest

abbrev within : String → Items → Items → Items
within name inner rest = module_of 0 0 (ascii name) inner rest

abbrev pub at_path : String → Items → File
at_path p is = record { path = ascii p; items = is }

abbrev pub below_r : List String → List File → Bundle
below_r folders fs = record { version = 1; root = ascii "/r"; folders = ascii "/r" ∷ map ascii folders; remappings = []; files = fs }

abbrev pub printed_entry : File
printed_entry = at_path "/r/main.simf" (use_of 0 0 (ascii "crate" ∷ ascii "a" ∷ []) (record { name = ascii "f"; alias = [] } ∷ []) (item 2 0 0 (ascii "main") none))

unfoldable pub rows : List Row
rows =
    -- the printed case, and without its second file: C4, the entry imports itself
    record {
      bundle = below_r [] (printed_entry ∷ at_path "/r/a.simf" (item 2 0 1 (ascii "f") none) ∷ []);
      expected = told (ascii "/r/main.simf" ∷ ascii "/r/a.simf" ∷ []) ((1 ∷ []) ∷ [] ∷ []) [];
    }
    ∷ record { bundle = below_r [] (printed_entry ∷ []); expected = told (ascii "/r/main.simf" ∷ []) ((0 ∷ []) ∷ []) [] }
    -- C6: the folder `/r/b.simf` is told at its first use, after the lookups of that file; lookup faults are told for each use
    ∷ record {
      bundle = below_r ("/r/b.simf" ∷ "/r/s" ∷ [])
          (at_path "/r/s/m.simf"
          (use_path ("crate" ∷ "b" ∷ []) (use_path ("lib" ∷ "x" ∷ [])
          (within "n" (use_path ("crate" ∷ "b" ∷ "q" ∷ []) (use_path ("crate" ∷ "a" ∷ []) none)) (use_path ("crate" ∷ "s" ∷ []) none))))
          ∷ at_path "/r/a.simf" (use_path ("crate" ∷ "b" ∷ []) (use_path [] (use_path ("crate" ∷ "a" ∷ []) (use_path ("crate" ∷ "zz" ∷ []) none))))
          ∷ []);
      expected = told (ascii "/r/s/m.simf" ∷ ascii "/r/a.simf" ∷ []) ((1 ∷ []) ∷ (1 ∷ []) ∷ [])
          (fault 21 55 ∷ fault 23 103 ∷ fault 23 41 ∷ fault 20 143 ∷ []);
    }
    -- ids in the order of discovery, uses of modules in their place, a list holds an id once; an unreached file's use is not told
    ∷ record {
      bundle = below_r []
          (at_path "/r/m.simf"
          (within "n" (within "o" (use_path ("crate" ∷ "b" ∷ []) none) none)
          (ignored 0 0 (use_path ("crate" ∷ "a" ∷ []) (use_path ("crate" ∷ "b" ∷ "x" ∷ []) none))))
          ∷ at_path "/r/a.simf" (use_path ("crate" ∷ "d" ∷ []) (use_path ("crate" ∷ "c" ∷ []) (use_path ("crate" ∷ "d" ∷ []) none)))
          ∷ at_path "/r/b.simf" (use_path ("crate" ∷ "c" ∷ []) (use_path ("crate" ∷ "m" ∷ []) (use_path ("crate" ∷ "b" ∷ []) none)))
          ∷ at_path "/r/c.simf" none
          ∷ at_path "/r/d.simf" (use_path ("crate" ∷ "a" ∷ []) none)
          ∷ at_path "/r/e.simf" (use_path ("lib" ∷ []) none)
          ∷ []);
      expected = told (ascii "/r/m.simf" ∷ ascii "/r/b.simf" ∷ ascii "/r/a.simf" ∷ ascii "/r/c.simf" ∷ ascii "/r/d.simf" ∷ [])
          ((1 ∷ 2 ∷ []) ∷ (3 ∷ 0 ∷ 1 ∷ []) ∷ (4 ∷ 3 ∷ []) ∷ [] ∷ (2 ∷ []) ∷ []) [];
    }
    ∷ []

pub rows_hold : map (λ r. discovery (read (encode r.bundle))) rows ≡ map (λ r. r.expected) rows
unfolding rows discovery telling ascii encode fields sized two string counted joined remapping file items element read verdict form lists files scan_header scan_string scan_formed scan_count scan_list times scan_field scan_files scan_file scan_length siblings scan_item_with scan_module scan_head scan_mark scan_body scan_use scan_alias scan_end is_path is_identifier class letter digit all same components split onto well_formed is_component conflicts listed located conflict.named remapped same_remapping placed_at placed_remapping_at each far any member directly_in starts_with begins child child_file stem_of is_crate is_keyword keywords decode file_at items_at items_by item_at element_at remapping_at insert longest_first first_of get_package_root applies remapping_for is_folder is_file build_and_verify_path resolve_crate_path check_local_file_imported_as_external resolve_path_internal uses program_of use_cache lookup_faults valid_imports position holds add_once load load_all turn turns discover_dependencies
rows_hold = refl
