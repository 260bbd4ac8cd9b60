-- The corner cases of resolution.rs, C1 to C5, and a case of each number, over bundles in bytes. Assumes nothing.
use Rattle.std.specs.Prelude.{ℕ, List, [], ◌∷◌, ◌++◌, map, ◌≡◌, refl, replicate}
use Prim.Native.String.{String}
use Rattle.names.specs.Bytes.{ascii, same, member, all}
use Rattle.names.specs.Path.{is_path, is_component, well_formed, split, onto, components}
use Rattle.names.specs.Prefix.{directly_in, starts_with, begins, child, child_file, stem_of}
use Rattle.names.specs.Identifier.{is_identifier, class, letter, digit}
use Rattle.names.specs.Keywords.{is_crate, is_keyword, keywords}
use Rattle.bundle.specs.Bundle.{Text, none, Remapping}
use Rattle.bundle.specs.Encode.{two, string, joined, counted, sized, element, items, remapping, file, fields, encode}
use Rattle.bundle.specs.Scan.{times, scan_string, scan_formed, scan_alias, scan_field, scan_count, scan_list, scan_use, scan_length, scan_mark, scan_head, scan_body, scan_end, scan_item_with, siblings, scan_module, scan_file, scan_files, scan_header}
use Rattle.bundle.specs.Decode.{each, far, element_at, remapping_at, item_at, items_by, items_at, file_at, decode}
use Rattle.bundle.specs.Conflicts.{placed_at, placed_remapping_at, any, listed, located, same_remapping, remapped, conflicts}
use Rattle.bundle.specs.Conflicts as conflict
use Rattle.bundle.specs.Read.{form, lists, files, verdict, read}
use Rattle.resolution.specs.Longest.{insert, longest_first, first_of}
use Rattle.resolution.specs.Resolution.{get_package_root, applies, remapping_for, is_folder, is_file, build_and_verify_path, resolve_crate_path, check_local_file_imported_as_external, resolve_path_internal}
use Rattle.resolution.specs.Call.{position, scan_segments, resolve_in, resolve}
use Rattle.resolution.specs.Results.{Resolution, File, Folder, Refused}

-- a use in a file of a bundle in bytes, and what it resolves to; the use's segments are bytes too
pub record Row : Type 0 where
  pub bundle : List ℕ
  pub importer : Text
  pub use_bytes_lem : List ℕ
  pub answer : Resolution

abbrev texts : List String → List Text
texts = map ascii

abbrev path : List String → List ℕ
path ws = counted string (texts ws)

abbrev bytes : String → List String → List Remapping → List String → List ℕ
bytes root folders rs gs =
    encode (record {
      version = 1;
      root = ascii root;
      folders = texts folders;
      remappings = rs;
      files = map (λ p. record { path = ascii p; items = none }) gs;
    })

abbrev remap : String → String → String → Remapping
remap c n t = record { context = ascii c; name = ascii n; target = ascii t }

abbrev row : List ℕ → String → List String → Resolution → Row
row s file ws r = record { bundle = s; importer = ascii file; use_bytes_lem = path ws; answer = r }

-- C1: `/r/pay` has a library, `/r/payroll` has none
abbrev pay : List ℕ
pay = bytes "/r" ("/r" ∷ "/r/pay" ∷ "/r/payroll" ∷ "/l" ∷ []) (remap "/r/pay" "lib" "/l" ∷ [])
    ("/r/pay/m.simf" ∷ "/r/payroll/m.simf" ∷ "/l/x.simf" ∷ [])

-- C1: the folder `/r/b.simf` is a package root, and so its own: it isn't `/r`'s, which would be 24
abbrev own_root : List ℕ
own_root = bytes "/q" ("/q" ∷ "/r" ∷ "/r/b.simf" ∷ []) (remap "/" "lib" "/r" ∷ remap "/" "inner" "/r/b.simf" ∷ []) ("/r/m.simf" ∷ "/r/n.simf" ∷ [])

-- C2: contexts `/` and `/r/pay`, in either order
abbrev contexts : List Remapping → List ℕ
contexts rs = bytes "/r" ("/r" ∷ "/r/pay" ∷ "/a" ∷ "/b" ∷ []) rs ("/r/pay/m.simf" ∷ "/r/m.simf" ∷ "/a/x.simf" ∷ "/b/x.simf" ∷ [])

-- C3: folder `a` beside file `a.simf`; C5: a folder `b.simf`
abbrev beside : List ℕ
beside = bytes "/r" ("/r" ∷ "/r/a" ∷ "/r/b.simf" ∷ []) [] ("/r/main.simf" ∷ "/r/a.simf" ∷ "/r/a/c.simf" ∷ [])

pub corner_rows : List Row
corner_rows =
    row pay "/r/pay/m.simf" ("lib" ∷ "x" ∷ []) (File 2 0)
    ∷ row pay "/r/payroll/m.simf" ("lib" ∷ "x" ∷ []) (Refused 21 0)
    ∷ row own_root "/r/m.simf" ("lib" ∷ "b" ∷ []) (Folder 2 0)
    ∷ row own_root "/r/m.simf" ("lib" ∷ "n" ∷ []) (Refused 24 0)
    ∷ row (contexts (remap "/" "lib" "/a" ∷ remap "/r/pay" "lib" "/b" ∷ [])) "/r/pay/m.simf" ("lib" ∷ "x" ∷ []) (File 3 0)
    ∷ row (contexts (remap "/r/pay" "lib" "/b" ∷ remap "/" "lib" "/a" ∷ [])) "/r/pay/m.simf" ("lib" ∷ "x" ∷ "y" ∷ []) (File 3 1)
    ∷ row (contexts (remap "/r/pay" "lib" "/b" ∷ remap "/" "lib" "/a" ∷ [])) "/r/m.simf" ("lib" ∷ "x" ∷ []) (File 2 0)
    -- C3 from a subfolder, and from a file directly in the root
    ∷ row beside "/r/a/c.simf" ("crate" ∷ "a" ∷ []) (Refused 23 0)
    ∷ row beside "/r/main.simf" ("crate" ∷ "a" ∷ []) (File 0 1)
    ∷ row beside "/r/main.simf" ("crate" ∷ "a" ∷ "c" ∷ "d" ∷ []) (File 2 1)
    -- C4
    ∷ row beside "/r/main.simf" ("crate" ∷ "x" ∷ "y" ∷ []) (File 0 2)
    ∷ row beside "/r/a.simf" ("crate" ∷ []) (File 1 0)
    ∷ row beside "/r/a/c.simf" ("crate" ∷ []) (Refused 23 0)
    -- C5
    ∷ row beside "/r/a/c.simf" ("crate" ∷ "b" ∷ "y" ∷ []) (Folder 2 1)
    ∷ []

-- a file under no root
abbrev outside : List ℕ
outside = bytes "/r" ("/r" ∷ []) [] ("/z.simf" ∷ "/r/m.simf" ∷ [])

-- files under no root; one uses the library of `/l`
abbrev no_root : List ℕ
no_root = bytes "/r" ("/r" ∷ "/l" ∷ "/x" ∷ []) (remap "/" "lib" "/l" ∷ []) ("/z.simf" ∷ "/l/a.simf" ∷ "/x/m.simf" ∷ "/r/m.simf" ∷ [])

abbrev raw : List ℕ → String → List ℕ → Resolution → Row
raw s file u r = record { bundle = s; importer = ascii file; use_bytes_lem = u; answer = r }

-- 20 to 25 and 29, and the order of the call's tests
pub number-rows : List Row
number-rows =
    row beside "/r/main.simf" [] (Refused 20 0)
    ∷ row beside "/r/main.simf" ("lib" ∷ "x" ∷ []) (Refused 21 0)
    ∷ row pay "/r/pay/m.simf" ("lib" ∷ "y" ∷ []) (Refused 22 0)
    ∷ row pay "/r/pay/m.simf" ("lib" ∷ []) (Refused 22 0)
    -- a lookup that fails below one's own root is 22, not 24
    ∷ row own_root "/r/m.simf" ("lib" ∷ "none" ∷ []) (Refused 22 0)
    -- a target takes `crate` away from the entry root
    ∷ row pay "/l/x.simf" ("crate" ∷ "pay" ∷ "m" ∷ []) (File 2 2)
    ∷ row outside "/z.simf" ("crate" ∷ "m" ∷ []) (Refused 25 0)
    -- a library use from a file under no root is never 24, but what is found, or 22
    ∷ row no_root "/z.simf" ("lib" ∷ "a" ∷ "f" ∷ []) (File 1 1)
    ∷ row no_root "/x/m.simf" ("lib" ∷ "a" ∷ []) (File 1 0)
    ∷ row no_root "/z.simf" ("lib" ∷ "b" ∷ []) (Refused 22 0)
    ∷ row no_root "/x/m.simf" ("crate" ∷ "m" ∷ []) (Refused 25 0)
    -- from a file of the library itself it is 24, from one under another root the file
    ∷ row no_root "/l/a.simf" ("lib" ∷ "a" ∷ []) (Refused 24 0)
    ∷ row no_root "/r/m.simf" ("lib" ∷ "a" ∷ []) (File 1 0)
    -- not listed; a folder
    ∷ row beside "/r/none.simf" ("crate" ∷ "a" ∷ []) (Refused 29 0)
    ∷ row beside "/r/a" ("crate" ∷ "a" ∷ []) (Refused 29 0)
    -- the bundle, the importer's form, the count, the names, 29
    ∷ row [] "r" ("9" ∷ []) (Refused 1 0)
    ∷ row beside "r" (replicate 17 "9") (Refused 4 0)
    ∷ row beside "/r/none.simf" (replicate 17 "9") (Refused 3 0)
    ∷ row beside "/r/none.simf" ("crate" ∷ "9" ∷ []) (Refused 5 0)
    -- segments cut, and left-over bytes
    ∷ raw beside "/r/none.simf" [] (Refused 1 0)
    ∷ raw beside "/r/none.simf" (1 ∷ []) (Refused 1 0)
    ∷ raw beside "/r/none.simf" (1 ∷ 2 ∷ 97 ∷ []) (Refused 1 0)
    ∷ raw beside "/r/none.simf" (0 ∷ 0 ∷ []) (Refused 1 0)
    ∷ []

-- THE TABLE
pub corner_cases : map (λ r. resolve r.bundle r.importer r.use_bytes_lem) (corner_rows ++ number-rows) ≡ map (λ r. r.answer) (corner_rows ++ number-rows)
unfolding corner_rows number-rows ascii encode fields sized two string counted joined remapping file items element read verdict form lists files scan_header scan_string scan_formed scan_count scan_list times scan_field scan_files scan_file scan_length siblings scan_item_with scan_module scan_head scan_mark scan_body scan_use scan_alias scan_end is_path is_identifier class letter digit all same components split onto well_formed is_component conflicts listed located conflict.named remapped same_remapping placed_at placed_remapping_at each far any member directly_in starts_with begins child child_file stem_of is_crate is_keyword keywords decode file_at items_at items_by item_at element_at remapping_at insert longest_first first_of get_package_root applies remapping_for is_folder is_file build_and_verify_path resolve_crate_path check_local_file_imported_as_external resolve_path_internal position scan_segments resolve_in resolve
corner_cases = refl
