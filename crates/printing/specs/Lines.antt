-- THE PRINTED LINES (docs/SPECIFICATION.md 8), of what becomes of a bundle. Assumes nothing.
use Rattle.std.specs.Prelude.{ℕ, cond, List, [], ◌∷◌, ◌++◌, map, leb, length, get_or}
use Rattle.names.specs.Bytes.{ascii}
use Rattle.names.specs.Decimal.{decimal}
use Rattle.text.specs.Words.{Text, lines, no_line}
use Rattle.bundle.specs.Bundle.{Bundle}
use Rattle.bundle.specs.Read.{Reading, value, refused, read}
use Rattle.discovery.specs.Discovery.{Fault}
use Rattle.order.specs.Run.{units_of}
use Rattle.order.specs.Report.{ring_met}
use Rattle.assembly.specs.Image.{items_length, image_limit, long_image}
use Rattle.scope_tree.specs.Flat.{Entry}
use Rattle.tree_lines.specs.Entries.{has_lines}
use Rattle.linker.specs.Link.{Outcome, faulty, closed, ended, result, link_bundle}

-- "`unit` id, path"
abbrev pub unit_line : List Text → ℕ → List Text
unit_line paths u = ascii "unit" ∷ decimal u ∷ get_or paths u [] ∷ []

-- "each record is such a line": number, place
abbrev pub fault_line : Fault → List Text
fault_line f = no_line f.number f.place

-- "`no 26 0` is followed by a line `ring` and ids"
abbrev pub ring_lines : List ℕ → List (List Text)
ring_lines r = no_line ring_met 0 ∷ (ascii "ring" ∷ map decimal r) ∷ []

-- "`ok` unit count", then the units in linked order and the tree
abbrev pub linked_lines : List Text → List ℕ → List Entry → List (List Text)
linked_lines paths o l = (ascii "ok" ∷ decimal (length o) ∷ []) ∷ (map (unit_line paths) o ++ has_lines l l)

-- 15 where the image is over 65,535 bytes after its header. Never 14: the program lends 4,096 bytes for a report, and none of an
-- accepted bundle is longer (`report-fits`), and 65,538 for an image
unfoldable pub outcome_lines : Bundle → Outcome → List (List Text)
outcome_lines b (faulty l) = map fault_line l
outcome_lines b (closed r) = ring_lines r
outcome_lines b (ended n p) = no_line n p ∷ []
outcome_lines b (result q) =
    cond (leb (items_length q.items) image_limit) (linked_lines (units_of b) q.ids q.tree.entries) (no_line long_image 0 ∷ [])

-- 1 to 13 are such a line too
unfoldable pub reading_lines : Reading → List (List Text)
reading_lines (refused n p) = no_line n p ∷ []
reading_lines (value b) = outcome_lines b (link_bundle b)

-- ALL THAT IS PRINTED of the bytes s
unfoldable pub printed : List ℕ → Text
printed s = lines (reading_lines (read s))
