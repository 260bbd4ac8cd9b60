-- The theorems at small bundles: two files in order, a file that imports itself (C7), a ring of two (C8), a fault beside a ring.
-- Assumes nothing.
use Prim.Native.String.{String}
use Rattle.std.proofs.Common.{arith, subst}
use Rattle.std.specs.Prelude.{◌≡◌, refl, [], ◌∷◌}
use mathlib.Core.List.Memᴰ
use Rattle.names.specs.Bytes.{ascii, same, member}
use Rattle.names.specs.Path.{split, onto, components}
use Rattle.names.specs.Prefix.{directly_in, starts_with, begins, child, child_file, stem_of}
use Rattle.names.specs.Keywords.{is_crate}
use Rattle.bundle.specs.Bundle.{Text, Items, none, use_of, Bundle}
use Rattle.resolution.specs.Lists.{lists_of}
use Rattle.resolution.specs.Longest.{insert, longest_first, first_of}
use Rattle.resolution.specs.Resolution.{to, get_package_root, applies, remapping_for, is_folder, is_file, build_and_verify_path, resolve_crate_path, check_local_file_imported_as_external, resolve_path_internal}
use Rattle.resolution.specs.Call.{position}
use Rattle.discovery.specs.Discovery.{Use, uses, program_of, use_cache, lookup_faults, valid_imports, holds, add_once, load, load_all, turn, turns, discover_dependencies}
use Rattle.discovery.specs.Facts.{paths_at}
use Rattle.discovery.specs.Reached.{Imports}
use Rattle.graph.specs.Linearize.{linearize, visit, each, memb, from}
use Rattle.order.specs.Run.{faulty, closed, linked, ordered, files_of}
use Rattle.order.specs.Files.{LinkedFiles, ImportEachOther, NamedRing}
use Rattle.order.specs.Theorems.{first_half}

abbrev m : Text
m = ascii "/r/m.simf"

abbrev a : Text
a = ascii "/r/a.simf"

-- `use crate::name`, and items after it
abbrev imports : String → Items → Items
imports name rest = use_of 0 0 (ascii "crate" ∷ ascii name ∷ []) [] rest

abbrev pair : Items → Items → Bundle
pair first second = record {
  version = 1;
  root = ascii "/r";
  folders = ascii "/r" ∷ [];
  remappings = [];
  files = record { path = m; items = first } ∷ record { path = a; items = second } ∷ [];
}

-- m imports a; a imports itself
abbrev in_order : Bundle
in_order = pair (imports "a" none) (imports "a" none)

-- m imports a, a imports m
abbrev in_ring : Bundle
in_ring = pair (imports "a" none) (imports "m" none)

-- beside the ring a library that there is none of
abbrev with_fault : Bundle
with_fault = pair (imports "a" (use_of 7 0 (ascii "lib" ∷ ascii "x" ∷ []) [] none)) (imports "m" none)

abbrev use_of_a : Use
use_of_a = record { mark = 0; segments = ascii "crate" ∷ ascii "a" ∷ [] }

record Computed : Type 0 where
  order : ordered in_order ≡ linked (1 ∷ 0 ∷ [])
  order_files : files_of in_order (1 ∷ 0 ∷ []) ≡ a ∷ m ∷ []
  its_uses : uses (program_of in_order.files a) ≡ use_of_a ∷ []
  itself : resolve_path_internal (lists_of in_order) a use_of_a.segments ≡ to a []
  ring : ordered in_ring ≡ closed (0 ∷ 1 ∷ [])
  ring_files : files_of in_ring (0 ∷ 1 ∷ []) ≡ m ∷ a ∷ []
  fault : ordered with_fault ≡ faulty (record { number = 21; place = 7 } ∷ [])

computed : Computed
unfolding ascii same member split onto components directly_in starts_with begins child child_file stem_of is_crate insert longest_first first_of get_package_root applies remapping_for is_folder is_file build_and_verify_path resolve_crate_path check_local_file_imported_as_external resolve_path_internal position uses program_of use_cache lookup_faults valid_imports holds add_once load load_all turn turns discover_dependencies linearize visit each memb from ordered paths_at
computed = record { order = refl; order_files = refl; its_uses = refl; itself = refl; ring = refl; ring_files = refl; fault = refl }

-- two files in order
pub two_in_order : LinkedFiles in_order (a ∷ m ∷ [])
two_in_order = subst (LinkedFiles in_order) computed.order_files ((first_half in_order (omega arith)).order (1 ∷ 0 ∷ []) computed.order)

-- C7: a imports a, and there is no ring
pub imports-itself : Imports in_order a a
imports-itself = record {
  by = use_of_a;
  rest = [];
  used = rw computed.its_uses (Memᴰ.head refl);
  resolves = computed.itself;
  readable = Memᴰ.tail (Memᴰ.head refl);
}

pub itself_no_ring : ImportEachOther in_order → ⊥
itself_no_ring = (first_half in_order (omega arith)).no_ring (1 ∷ 0 ∷ []) computed.order

-- C8: the ring m a
pub ring-of-two : NamedRing in_ring (m ∷ a ∷ [])
ring-of-two = subst (NamedRing in_ring) computed.ring_files ((first_half in_ring (omega arith)).named (0 ∷ 1 ∷ []) computed.ring)

-- of a fault and a ring the fault is told
pub fault-first : ordered with_fault ≡ faulty (record { number = 21; place = 7 } ∷ [])
fault-first = computed.fault
