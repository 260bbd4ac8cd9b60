-- C6, C7, C8, the printed case and small bundles, from bytes: the outcome, its files and its report, computed; and buffers that
-- a report fits or exceeds. Assumes nothing.
use Rattle.std.specs.Prelude.{ℕ, ◌≡◌, refl, List, [], ◌∷◌, map, length}
use Prim.Native.String.{String}
use Rattle.names.specs.Bytes.{ascii, same, member, all}
use Rattle.names.specs.Path.{is_path, is_component, well_formed, split, onto, components}
use Rattle.names.specs.Prefix.{directly_in, starts_with, begins, child, child_file, stem_of}
use Rattle.names.specs.Identifier.{is_identifier, class, letter, digit}
use Rattle.names.specs.Keywords.{is_crate, is_keyword, keywords}
use Rattle.bundle.specs.Bundle.{Text, Items, none, use_of, Bundle}
use Rattle.bundle.specs.Encode.{two, string, joined, counted, sized, element, items, remapping, file, fields, encode}
use Rattle.bundle.specs.Scan.{times, scan_string, scan_formed, scan_alias, scan_field, scan_count, scan_list, scan_use, scan_length, scan_mark, scan_head, scan_body, scan_end, scan_item_with, siblings, scan_module, scan_file, scan_files, scan_header}
use Rattle.bundle.specs.Decode.{each, far, element_at, remapping_at, item_at, items_by, items_at, file_at, decode}
use Rattle.bundle.specs.Conflicts.{placed_at, placed_remapping_at, any, listed, located, same_remapping, remapped, conflicts}
use Rattle.bundle.specs.Conflicts as conflict
use Rattle.bundle.specs.Read.{Reading, value, refused, form, lists, files, verdict, read}
use Rattle.bundle.specs.CaseLaws.{item}
use Rattle.resolution.specs.Longest.{insert, longest_first, first_of}
use Rattle.resolution.specs.Resolution.{get_package_root, applies, remapping_for, is_folder, is_file, build_and_verify_path, resolve_crate_path, check_local_file_imported_as_external, resolve_path_internal}
use Rattle.resolution.specs.Call.{position}
use Rattle.discovery.specs.Discovery.{Fault, uses, program_of, use_cache, lookup_faults, valid_imports, holds, add_once, load, load_all, turn, turns, discover_dependencies}
use Rattle.discovery.specs.Facts.{paths_at}
use Rattle.discovery.specs.Cases.{at_path, below_r, printed_entry}
use Rattle.graph.specs.Linearize.{linearize, visit, memb, from}
use Rattle.graph.specs.Linearize as graph
use Rattle.order.specs.Run.{Outcome, faulty, closed, ended, result, linked, ordered, files_of}
use Rattle.order.specs.Report.{Record, fault, ring, records_of, record_bytes, report_bytes, record_length, report_length, lent_report, reporting}
use Rattle.order.specs.Results.{Reported}
use Rattle.order.specs.Results as reported

-- what is told of bytes: the outcome, the files of its ids, and the bytes of the report
pub data OrderCase : Type 0 where
  told : (x : Outcome) (files : List Text) (report : List ℕ) → OrderCase
  turned_back : ℕ → ℕ → OrderCase

abbrev ids_of : Outcome → List ℕ
ids_of (faulty l) = []
ids_of (closed r) = r
ids_of (ended n p) = []
ids_of (result o) = o

unfoldable pub telling : Bundle → Outcome → OrderCase
telling b x = told x (files_of b (ids_of x)) (report_bytes (records_of x))

unfoldable pub ordering : Reading → OrderCase
ordering (value b) = telling b (ordered b)
ordering (refused n p) = turned_back n p

-- a row: a bundle, and what is told of its bytes
pub record Row : Type 0 where
  pub bundle : Bundle
  pub expected : OrderCase

abbrev fault_at : ℕ → ℕ → Fault
fault_at n p = record { number = n; place = p }

-- a use of a file of the root, with no elements, and items after it
abbrev imports : String → Items → Items
imports name rest = use_of 0 0 (ascii "crate" ∷ ascii name ∷ []) [] rest

unfoldable pub rows : List Row
rows =
    -- the printed case: what is imported stands first
    record {
      bundle = below_r [] (printed_entry ∷ at_path "/r/a.simf" (item 2 0 1 (ascii "f") none) ∷ []);
      expected = told (linked (1 ∷ 0 ∷ [])) (ascii "/r/a.simf" ∷ ascii "/r/main.simf" ∷ []) [];
    }
    -- C7: without its second file the entry imports only itself (C4), which is no ring
    ∷ record { bundle = below_r [] (printed_entry ∷ []); expected = told (linked (0 ∷ [])) (ascii "/r/main.simf" ∷ []) [] }
    -- C8: 0 imports 1, 1 imports 0
    ∷ record {
      bundle = below_r [] (at_path "/r/m.simf" (imports "a" none) ∷ at_path "/r/a.simf" (imports "m" none) ∷ []);
      expected = told (closed (0 ∷ 1 ∷ [])) (ascii "/r/m.simf" ∷ ascii "/r/a.simf" ∷ []) (26 ∷ 0 ∷ 0 ∷ 2 ∷ 0 ∷ 1 ∷ []);
    }
    -- C8: a ring starts at the earliest of its units on the walk, which came to 3 before 2
    ∷ record {
      bundle = below_r []
          (at_path "/r/m.simf" (imports "a" (imports "b" none)) ∷ at_path "/r/a.simf" (imports "c" none)
          ∷ at_path "/r/b.simf" (imports "c" none) ∷ at_path "/r/c.simf" (imports "b" none) ∷ []);
      expected = told (closed (3 ∷ 2 ∷ [])) (ascii "/r/c.simf" ∷ ascii "/r/b.simf" ∷ []) (26 ∷ 0 ∷ 0 ∷ 2 ∷ 3 ∷ 2 ∷ []);
    }
    -- an unreached ring is none; what two files import stands once
    ∷ record {
      bundle = below_r []
          (at_path "/r/m.simf" (imports "a" (imports "b" none)) ∷ at_path "/r/a.simf" (imports "c" none)
          ∷ at_path "/r/b.simf" (imports "c" (imports "a" none)) ∷ at_path "/r/c.simf" none
          ∷ at_path "/r/x.simf" (imports "y" none) ∷ at_path "/r/y.simf" (imports "x" none) ∷ []);
      expected = told (linked (3 ∷ 1 ∷ 2 ∷ 0 ∷ [])) (ascii "/r/c.simf" ∷ ascii "/r/a.simf" ∷ ascii "/r/b.simf" ∷ ascii "/r/m.simf" ∷ []) [];
    }
    -- a fault prevents step 4: of a bundle with a ring only the fault is told
    ∷ record {
      bundle = below_r []
          (at_path "/r/m.simf" (imports "a" (use_of 0 0 (ascii "lib" ∷ ascii "x" ∷ []) [] none)) ∷ at_path "/r/a.simf" (imports "m" none) ∷ []);
      expected = told (faulty (fault_at 21 38 ∷ [])) [] (21 ∷ 0 ∷ 38 ∷ []);
    }
    -- C6: the folder `/r/b.simf` can't be read; that is told once, though two files use it
    ∷ record {
      bundle = below_r ("/r/b.simf" ∷ [])
          (at_path "/r/m.simf" (imports "b" (imports "a" (imports "b" none))) ∷ at_path "/r/a.simf" (imports "b" none) ∷ []);
      expected = told (faulty (fault_at 23 34 ∷ [])) [] (23 ∷ 0 ∷ 34 ∷ []);
    }
    ∷ []

pub rows_hold : map (λ r. ordering (read (encode r.bundle))) rows ≡ map (λ r. r.expected) rows
unfolding rows ordering telling ascii encode fields sized two string counted joined remapping file items element read verdict form lists files scan_header scan_string scan_formed scan_count scan_list times scan_field scan_files scan_file scan_length siblings scan_item_with scan_module scan_head scan_mark scan_body scan_use scan_alias scan_end is_path is_identifier class letter digit all same components split onto well_formed is_component conflicts listed located conflict.named remapped same_remapping placed_at placed_remapping_at each far any member directly_in starts_with begins child child_file stem_of is_crate is_keyword keywords decode file_at items_at items_by item_at element_at remapping_at insert longest_first first_of get_package_root applies remapping_for is_folder is_file build_and_verify_path resolve_crate_path check_local_file_imported_as_external resolve_path_internal uses program_of use_cache lookup_faults valid_imports position holds add_once load load_all turn turns discover_dependencies ordered linearize visit graph.each memb from paths_at record_bytes report_bytes
rows_hold = refl

-- BUFFERS
-- a report, a lent buffer, the answer, and what the buffer holds afterwards
pub record Lent : Type 0 where
  pub report : List Record
  pub out : List ℕ
  pub answer : Reported
  pub held : List ℕ

abbrev two_faults : List Record
two_faults = fault (fault_at 21 300) ∷ fault (fault_at 23 41) ∷ []

unfoldable pub buffers : List Lent
buffers =
    -- one byte to spare; just enough; one too few
    record { report = two_faults; out = 9 ∷ 9 ∷ 9 ∷ 9 ∷ 9 ∷ 9 ∷ 8 ∷ []; answer = reported.Report 6; held = 21 ∷ 1 ∷ 44 ∷ 23 ∷ 0 ∷ 41 ∷ 8 ∷ [] }
    ∷ record { report = two_faults; out = 9 ∷ 9 ∷ 9 ∷ 9 ∷ 9 ∷ 9 ∷ []; answer = reported.Report 6; held = 21 ∷ 1 ∷ 44 ∷ 23 ∷ 0 ∷ 41 ∷ [] }
    ∷ record { report = two_faults; out = 9 ∷ 9 ∷ 9 ∷ 9 ∷ 9 ∷ []; answer = reported.Refused 14 0; held = 9 ∷ 9 ∷ 9 ∷ 9 ∷ 9 ∷ [] }
    -- a ring of three, with and without its space; nothing to tell
    ∷ record { report = ring (4 ∷ 2 ∷ 7 ∷ []) ∷ []; out = 9 ∷ 9 ∷ 9 ∷ 9 ∷ 9 ∷ 9 ∷ 9 ∷ []; answer = reported.Report 7; held = 26 ∷ 0 ∷ 0 ∷ 3 ∷ 4 ∷ 2 ∷ 7 ∷ [] }
    ∷ record { report = ring (4 ∷ 2 ∷ 7 ∷ []) ∷ []; out = 9 ∷ 9 ∷ 9 ∷ 9 ∷ 9 ∷ 9 ∷ []; answer = reported.Refused 14 0; held = 9 ∷ 9 ∷ 9 ∷ 9 ∷ 9 ∷ 9 ∷ [] }
    ∷ record { report = []; out = []; answer = reported.Report 0; held = [] }
    ∷ []

pub answers_hold : map (λ r. reporting r.report (length r.out)) buffers ≡ map (λ r. r.answer) buffers
unfolding buffers reporting report_length record_length
answers_hold = refl

pub buffers_hold : map (λ r. lent_report r.report r.out) buffers ≡ map (λ r. r.held) buffers
unfolding buffers lent_report report_length record_length report_bytes record_bytes joined
buffers_hold = refl
