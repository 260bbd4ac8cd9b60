-- Small bundles, from bytes: what the operation answers, and the tree, computed. The answers are those that the Rust gives for the
-- same bundles. Assumes nothing.
use Rattle.std.specs.Prelude.{ℕ, ◌≡◌, refl, List, [], ◌∷◌, map, replicate}
use Prim.Native.String.{String}
use Rattle.names.specs.Bytes.{ascii, same, member, all}
use Rattle.names.specs.Decimal.{digits, decimal, unit_name}
use Rattle.names.specs.Path.{is_path, is_component, well_formed, split, onto, components}
use Rattle.names.specs.Prefix.{directly_in, starts_with, begins, child, child_file, stem_of}
use Rattle.names.specs.Identifier.{is_identifier, class, letter, digit}
use Rattle.names.specs.Keywords.{is_crate, is_main, is_keyword, keywords}
use Rattle.names.specs.Packed.{word, packed, same_name}
use Rattle.names.specs.declared.Name.{Name}
use Rattle.bundle.specs.Bundle.{Text, Element, Items, none, use_of, module_of, File, Bundle}
use Rattle.bundle.specs.Encode.{two, string, joined, counted, sized, element, items, remapping, file, fields, encode}
use Rattle.bundle.specs.Scan.{times, scan_string, scan_formed, scan_alias, scan_field, scan_count, scan_list, scan_use, scan_length, scan_mark, scan_head, scan_body, scan_end, scan_item_with, siblings, scan_module, scan_file, scan_files, scan_header}
use Rattle.bundle.specs.Decode.{each, far, element_at, remapping_at, item_at, items_by, items_at, file_at, decode}
use Rattle.bundle.specs.Conflicts.{placed_at, placed_remapping_at, any, listed, located, same_remapping, remapped, conflicts}
use Rattle.bundle.specs.Conflicts as conflict
use Rattle.bundle.specs.Read.{Reading, value, refused, form, lists, files, verdict, read}
use Rattle.bundle.specs.CaseLaws.{item}
use Rattle.resolution.specs.Longest.{insert, longest_first, first_of}
use Rattle.resolution.specs.Resolution.{get_package_root, applies, remapping_for, is_folder, is_file, build_and_verify_path, resolve_crate_path, check_local_file_imported_as_external, resolve_path_internal}
use Rattle.resolution.specs.Call.{position}
use Rattle.discovery.specs.Discovery.{Fault, uses, program_of, use_cache, lookup_faults, valid_imports, holds, add_once, load, load_all, turn, turns, discover_dependencies}
use Rattle.graph.specs.Linearize.{linearize, visit, memb, from}
use Rattle.graph.specs.Linearize as graph
use Rattle.order.specs.Run.{ordered}
use Rattle.order.specs.Report.{reporting, report_length, record_length}
use Rattle.scope_tree.specs.Step.{shared, any_main, nav, stage, step}
use Rattle.scope_tree.specs.Step as tree
use Rattle.scope_tree.specs.Flat.{Entry, look, stack_names}
use Rattle.scope_tree.specs.Form.{after_strings, names_from, local_name, elements_from, string_fault, names_fault, elements_fault, after_elements, rest_fault, use_fault, use_call, call_of}
use Rattle.scope_tree.specs.Form as request
use Rattle.assembly.specs.Assemble.{rewrite_use, rewrite_items, local_items, assembled, enum_declarations, forbid_enum_dec_in_deps, has_main, main_faults, assembly_faults, linearize_and_assemble}
use Rattle.assembly.specs.Image.{image_bytes, items_length, segments_length, elements_length, imaging}
use Rattle.order.specs.Results.{Answer}
use Rattle.scope_walk.specs.Scopes.{scope_calls, walk_from, scope_walk}
use Rattle.linker.specs.Call.{link_answer}
use Rattle.linker.specs.Link.{Outcome, faulty, closed, ended, result, link_bundle}

-- an entry: its scope, kind, name and mark. The root is scope 0, the module at entry i is scope i + 1
pub record Shown : Type 0 where
  pub scope : ℕ
  pub kind : ℕ
  pub name : Name
  pub mark : ℕ

pub data LinkCase : Type 0 where
  turned_back : ℕ → ℕ → LinkCase
  faults : List Fault → LinkCase
  ring : List ℕ → LinkCase
  refusal : ℕ → ℕ → LinkCase
  -- the order, the entries in the order made, and the image
  links : List ℕ → List Shown → List ℕ → LinkCase

abbrev showing : Entry → Shown
showing e = record { scope = e.scope; kind = e.shows.kind; name = e.shows.name; mark = e.shows.mark }

unfoldable pub telling : Outcome → LinkCase
telling (faulty l) = faults l
telling (closed r) = ring r
telling (ended n p) = refusal n p
telling (result q) = links q.ids (map showing q.tree.entries) (image_bytes q.items)

unfoldable pub linking : Reading → LinkCase
linking (value b) = telling (link_bundle b)
linking (refused n p) = turned_back n p

-- a row: a bundle, and what is told of its bytes
pub record Row : Type 0 where
  pub bundle : Bundle
  pub expected : LinkCase

abbrev at_path : String → Items → File
at_path p is = record { path = ascii p; items = is }

abbrev below_r : List File → Bundle
below_r fs = record { version = 1; root = ascii "/r"; folders = ascii "/r" ∷ []; remappings = []; files = fs }

abbrev plain : String → Element
plain n = record { name = ascii n; alias = [] }

abbrev path : List String → List Text
path l = map ascii l

abbrev entry : ℕ → ℕ → String → ℕ → Shown
entry s k n m = record { scope = s; kind = k; name = packed (ascii n); mark = m }

abbrev main_of : Items → File
main_of is = at_path "/r/main.simf" is

abbrev main : Items
main = item 2 0 0 (ascii "main") none

unfoldable pub rows : List Row
rows =
    -- the printed case: its six lines are the order, and the entries but for the units
    record {
      bundle = below_r (main_of (use_of 0 0 (path ("crate" ∷ "a" ∷ [])) (plain "f" ∷ []) main) ∷ at_path "/r/a.simf" (item 2 0 1 (ascii "f") none) ∷ []);
      expected = links (1 ∷ 0 ∷ []) (entry 0 3 "unit_1" 0 ∷ entry 1 2 "f" 65 ∷ entry 0 3 "unit_0" 0 ∷ entry 3 2 "f" 65 ∷ entry 3 2 "main" 44 ∷ [])
          (1 ∷ 0 ∷ 59 ∷ 0 ∷ 15 ∷ 5 ∷ 0 ∷ 6 ∷ 117 ∷ 110 ∷ 105 ∷ 116 ∷ 95 ∷ 49 ∷ 0 ∷ 4 ∷ 2 ∷ 1 ∷ 1 ∷ 102 ∷ 0 ∷ 40 ∷ 5 ∷ 0 ∷ 6 ∷ 117 ∷ 110 ∷ 105 ∷ 116 ∷ 95 ∷ 48 ∷ 0 ∷ 20 ∷ 3 ∷ 0 ∷ 2 ∷ 5 ∷ 99 ∷ 114 ∷ 97 ∷ 116 ∷ 101 ∷ 6 ∷ 117 ∷ 110 ∷ 105 ∷ 116 ∷ 95 ∷ 49 ∷ 1 ∷ 1 ∷ 102 ∷ 0 ∷ 0 ∷ 7 ∷ 2 ∷ 0 ∷ 4 ∷ 109 ∷ 97 ∷ 105 ∷ 110 ∷ []);
    }
    -- without the second file: C4, the entry itself, in which there is no module `a`
    ∷ record {
      bundle = below_r (main_of (use_of 0 0 (path ("crate" ∷ "a" ∷ [])) (plain "f" ∷ []) main) ∷ []);
      expected = refusal 41 27;
    }
    -- a private item of another file, at the use's mark
    ∷ record {
      bundle = below_r (main_of (use_of 0 0 (path ("crate" ∷ "a" ∷ [])) (plain "f" ∷ []) main) ∷ at_path "/r/a.simf" (item 2 0 0 (ascii "f") none) ∷ []);
      expected = refusal 44 27;
    }
    -- a name held, at the mark of the item inside a module
    ∷ record {
      bundle = below_r (main_of (module_of 0 0 (ascii "m") (item 1 0 0 (ascii "T") (item 4 0 0 (ascii "T") none)) main) ∷ []);
      expected = refusal 48 39;
    }
    -- faults of step 5 come before step 6
    ∷ record {
      bundle = below_r (main_of (use_of 0 0 (path ("crate" ∷ "a" ∷ [])) (plain "f" ∷ []) none) ∷ []);
      expected = faults (record { number = 27; place = 0 } ∷ []);
    }
    ∷ []

pub rows_hold : map (λ r. linking (read (encode r.bundle))) rows ≡ map (λ r. r.expected) rows
unfolding rows linking telling ascii encode fields sized two string counted joined remapping file items element read verdict form lists files scan_header scan_string scan_formed scan_count scan_list times scan_field scan_files scan_file scan_length siblings scan_item_with scan_module scan_head scan_mark scan_body scan_use scan_alias scan_end is_path is_identifier class letter digit all same components split onto well_formed is_component conflicts listed located conflict.named remapped same_remapping placed_at placed_remapping_at each far any member directly_in starts_with begins child child_file stem_of is_crate is_keyword keywords decode file_at items_at items_by item_at element_at remapping_at insert longest_first first_of get_package_root applies remapping_for is_folder is_file build_and_verify_path resolve_crate_path check_local_file_imported_as_external resolve_path_internal uses program_of use_cache lookup_faults valid_imports position holds add_once load load_all turn turns discover_dependencies ordered linearize visit graph.each memb from digits decimal unit_name rewrite_use rewrite_items local_items assembled enum_declarations forbid_enum_dec_in_deps has_main main_faults assembly_faults linearize_and_assemble image_bytes is_main word packed same_name shared any_main nav tree.element stage step look stack_names request.string after_strings names_from local_name elements_from string_fault names_fault elements_fault after_elements rest_fault use_fault use_call call_of scope_calls walk_from scope_walk link_bundle
rows_hold = refl

-- BUFFERS
-- a bundle, the lengths of the lent buffers, and the numbers of the answer: number, place, report, units, image
pub record Lent : Type 0 where
  pub bundle : Bundle
  pub report : ℕ
  pub image : ℕ
  pub answer : List ℕ

abbrev pub numbers : Answer → List ℕ
numbers a = a.number ∷ a.place ∷ a.report ∷ a.units ∷ a.image ∷ []

abbrev pub two_files : Bundle
two_files = below_r (main_of (use_of 0 0 (path ("crate" ∷ "a" ∷ [])) (plain "f" ∷ []) main) ∷ at_path "/r/a.simf" (item 2 0 1 (ascii "f") none) ∷ [])

abbrev no_main : Bundle
no_main = below_r (main_of (item 1 0 0 (ascii "T") none) ∷ [])

abbrev held_twice : Bundle
held_twice = below_r (main_of (item 2 0 0 (ascii "main") main) ∷ [])

unfoldable pub lents : List Lent
lents =
    -- an image of 62 bytes: one byte too few is 14, and no report is asked for
    record { bundle = two_files; report = 0; image = 61; answer = 14 ∷ 0 ∷ 0 ∷ 0 ∷ 0 ∷ [] }
    ∷ record { bundle = two_files; report = 0; image = 62; answer = 0 ∷ 0 ∷ 0 ∷ 2 ∷ 62 ∷ [] }
    -- a report of one record, in just as many bytes and in one too few
    ∷ record { bundle = no_main; report = 3; image = 0; answer = 0 ∷ 0 ∷ 3 ∷ 0 ∷ 0 ∷ [] }
    ∷ record { bundle = no_main; report = 2; image = 0; answer = 14 ∷ 0 ∷ 0 ∷ 0 ∷ 0 ∷ [] }
    -- 49 at the second item's mark comes before 14 of the image
    ∷ record { bundle = held_twice; report = 0; image = 0; answer = 49 ∷ 36 ∷ 0 ∷ 0 ∷ 0 ∷ [] }
    ∷ []

pub lents_hold : map (λ r. numbers (link_answer (encode r.bundle) (replicate r.report 7) (replicate r.image 7))) lents ≡ map (λ r. r.answer) lents
unfolding lents link_answer imaging items_length segments_length elements_length reporting report_length record_length ascii encode fields sized two string counted joined remapping file items element read verdict form lists files scan_header scan_string scan_formed scan_count scan_list times scan_field scan_files scan_file scan_length siblings scan_item_with scan_module scan_head scan_mark scan_body scan_use scan_alias scan_end is_path is_identifier class letter digit all same components split onto well_formed is_component conflicts listed located conflict.named remapped same_remapping placed_at placed_remapping_at each far any member directly_in starts_with begins child child_file stem_of is_crate is_keyword keywords decode file_at items_at items_by item_at element_at remapping_at insert longest_first first_of get_package_root applies remapping_for is_folder is_file build_and_verify_path resolve_crate_path check_local_file_imported_as_external resolve_path_internal uses program_of use_cache lookup_faults valid_imports position holds add_once load load_all turn turns discover_dependencies ordered linearize visit graph.each memb from digits decimal unit_name rewrite_use rewrite_items local_items assembled enum_declarations forbid_enum_dec_in_deps has_main main_faults assembly_faults linearize_and_assemble image_bytes is_main word packed same_name shared any_main nav tree.element stage step look stack_names request.string after_strings names_from local_name elements_from string_fault names_fault elements_fault after_elements rest_fault use_fault use_call call_of scope_calls walk_from scope_walk link_bundle
lents_hold = refl
