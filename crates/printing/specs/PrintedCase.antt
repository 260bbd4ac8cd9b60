-- THE PRINTED CASE, computed from the bytes. Assumes nothing.
use Prim.Native.String.{String}
use Rattle.std.specs.Prelude.{◌≡◌, refl, List, [], ◌∷◌, ◌++◌, length}
use Rattle.names.specs.Bytes.{ascii, same, member, all}
use Rattle.names.specs.Decimal.{digits, decimal, unit_name}
use Rattle.names.specs.Path.{is_path, is_component, well_formed, split, onto, components}
use Rattle.names.specs.Prefix.{directly_in, starts_with, begins, child, child_file, stem_of}
use Rattle.names.specs.Identifier.{is_identifier, class, letter, digit}
use Rattle.names.specs.Keywords.{is_crate, is_main, is_keyword, keywords}
use Rattle.names.specs.Packed.{word, packed, same_name}
use Rattle.bundle.specs.Bundle.{Text, none, use_of, File, Bundle}
use Rattle.bundle.specs.Encode.{two, string, joined, counted, sized, element, items, remapping, file, fields, encode}
use Rattle.bundle.specs.Scan.{times, scan_string, scan_formed, scan_alias, scan_field, scan_count, scan_list, scan_use, scan_length, scan_mark, scan_head, scan_body, scan_end, scan_item_with, siblings, scan_module, scan_file, scan_files, scan_header}
use Rattle.bundle.specs.Decode.{each, far, element_at, remapping_at, item_at, items_by, items_at, file_at, decode}
use Rattle.bundle.specs.Conflicts.{placed_at, placed_remapping_at, any, listed, located, same_remapping, remapped, conflicts}
use Rattle.bundle.specs.Conflicts as conflict
use Rattle.bundle.specs.Read.{form, lists, files, verdict, read}
use Rattle.bundle.specs.CaseLaws.{item}
use Rattle.resolution.specs.Longest.{insert, longest_first, first_of}
use Rattle.resolution.specs.Resolution.{get_package_root, applies, remapping_for, is_folder, is_file, build_and_verify_path, resolve_crate_path, check_local_file_imported_as_external, resolve_path_internal}
use Rattle.resolution.specs.Call.{position}
use Rattle.discovery.specs.Discovery.{uses, program_of, use_cache, lookup_faults, valid_imports, holds, add_once, load, load_all, turn, turns, discover_dependencies}
use Rattle.graph.specs.Linearize.{linearize, visit, memb, from}
use Rattle.graph.specs.Linearize as graph
use Rattle.order.specs.Run.{ordered}
use Rattle.scope_tree.specs.Step.{shared, any_main, nav, stage, step}
use Rattle.scope_tree.specs.Step as tree
use Rattle.scope_tree.specs.Flat.{look, stack_names}
use Rattle.scope_tree.specs.Form.{after_strings, names_from, local_name, elements_from, string_fault, names_fault, elements_fault, after_elements, rest_fault, use_fault, use_call, call_of}
use Rattle.scope_tree.specs.Form as request
use Rattle.assembly.specs.Assemble.{rewrite_use, rewrite_items, local_items, assembled, enum_declarations, forbid_enum_dec_in_deps, has_main, main_faults, assembly_faults, linearize_and_assemble}
use Rattle.assembly.specs.Image.{items_length, segments_length, elements_length}
use Rattle.scope_walk.specs.Scopes.{scope_calls, walk_from, scope_walk}
use Rattle.linker.specs.Link.{link_bundle}
use Rattle.text.specs.Words.{line, lines, bytes_of, spelled}
use Rattle.printing.specs.Lines.{outcome_lines, reading_lines, printed}
use Rattle.tree_lines.specs.Entries.{module_path, has_lines}

abbrev main_file : File
main_file = record { path = ascii "/r/main.simf"; items = use_of 0 0 (ascii "crate" ∷ ascii "a" ∷ []) (record { name = ascii "f"; alias = [] } ∷ []) (item 2 0 0 (ascii "main") none) }

abbrev a_file : File
a_file = record { path = ascii "/r/a.simf"; items = item 2 0 1 (ascii "f") none }

abbrev of_files : List File → Bundle
of_files fs = record { version = 1; root = ascii "/r"; folders = ascii "/r" ∷ []; remappings = []; files = fs }

unfoldable pub text_of : List String → Text
text_of [] = []
text_of (s ∷ l) = ascii s ++ (10 ∷ text_of l)

-- 01: "the 71 bytes" of two files print six lines; without the second file `no 41 27`
pub printed_case : (length (encode (of_files (main_file ∷ a_file ∷ []))) ≡ 71)
    × (printed (encode (of_files (main_file ∷ a_file ∷ []))) ≡ text_of ("ok 2" ∷ "unit 1 /r/a.simf" ∷ "unit 0 /r/main.simf" ∷ "has crate::unit_1 2 f 65" ∷ "has crate::unit_0 2 f 65" ∷ "has crate::unit_0 2 main 44" ∷ []))
    × (printed (encode (of_files (main_file ∷ []))) ≡ text_of ("no 41 27" ∷ []))
unfolding line lines bytes_of spelled module_path has_lines outcome_lines reading_lines printed text_of ascii encode fields sized two string counted joined remapping file items element read verdict form lists files scan_header scan_string scan_formed scan_count scan_list times scan_field scan_files scan_file scan_length siblings scan_item_with scan_module scan_head scan_mark scan_body scan_use scan_alias scan_end is_path is_identifier class letter digit all same components split onto well_formed is_component conflicts listed located conflict.named remapped same_remapping placed_at placed_remapping_at each far any member directly_in starts_with begins child child_file stem_of is_crate is_keyword keywords decode file_at items_at items_by item_at element_at remapping_at insert longest_first first_of get_package_root applies remapping_for is_folder is_file build_and_verify_path resolve_crate_path check_local_file_imported_as_external resolve_path_internal uses program_of use_cache lookup_faults valid_imports position holds add_once load load_all turn turns discover_dependencies ordered linearize visit graph.each memb from digits decimal unit_name rewrite_use rewrite_items local_items assembled enum_declarations forbid_enum_dec_in_deps has_main main_faults assembly_faults linearize_and_assemble is_main word packed same_name shared any_main nav tree.element stage step look stack_names request.string after_strings names_from local_name elements_from string_fault names_fault elements_fault after_elements rest_fault use_fault use_call call_of scope_calls walk_from scope_walk link_bundle items_length segments_length elements_length
printed_case = (refl, refl, refl)
