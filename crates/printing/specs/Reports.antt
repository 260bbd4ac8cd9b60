-- THE LINES OF A REPORT, by its bytes. Assumes nothing.
use Rattle.std.specs.Prelude.{ℕ, ◌+◌, ◌/◌, ◌<◌, ◌≤◌, ◌≡◌, refl, cond, ◌&&◌, eqb, leb, List, [], ◌∷◌, ◌++◌, map, length, get_or, take, drop}
use Rattle.std.proofs.Common.{add-one, sym, ap, ◌∙◌, append_assoc, append-nil, take_all, take-suc}
use Rattle.std.specs.Int.{from_be_bytes, w16}
use Rattle.std.specs.Simd.{first_chunks}
use Rattle.std.specs.List.{flat_map}
use Rattle.std.proofs.lemmas.List.{flat_map_more}
use Rattle.names.specs.Bytes.{ascii}
use Rattle.names.specs.Decimal.{decimal}
use Rattle.text.specs.Words.{Text, line, lines, no_line}
use Rattle.text.specs.LineLaws.{lines_more}
use Rattle.order.specs.Report.{ring_met}
use Rattle.printing.specs.Lines.{ring_lines}

-- a record of three bytes: a number, and a place in two of them
abbrev pub record_line : List ℕ → List Text
record_line r = no_line (get_or r 0 0) (from_be_bytes w16 (get_or r 1 0 ∷ get_or r 2 0 ∷ []))

unfoldable pub fault_lines : List ℕ → List (List Text)
fault_lines report = map record_line (first_chunks 3 (length report / 3) report)

-- a ring has its ids behind four bytes
unfoldable pub report_lines : List ℕ → List (List Text)
report_lines report = cond (leb 4 (length report) && eqb (get_or report 0 0) ring_met) (ring_lines (drop 4 report)) (fault_lines report)

-- LAWS for the code: one record more
pub records_more : (rs : List (List ℕ)) (i : ℕ) → i < length rs → lines (map record_line (take (i + 1) rs)) ≡ lines (map record_line (take i rs)) ++ line (record_line (get_or rs i []))
records_more rs i h = lines_more record_line rs i [] h

-- a blank and an id, for each
abbrev pub ids_after : List ℕ → Text
ids_after ids = flat_map (λ u. 32 ∷ decimal u) ids

pub ids_more : (ids : List ℕ) (i : ℕ) → i < length ids → ids_after (take (i + 1) ids) ≡ ids_after (take i ids) ++ (32 ∷ decimal (get_or ids i 0))
ids_more ids i h = ap ids_after (ap (λ (n : ℕ). take n ids) (add-one i) ∙ take-suc ids i 0 h) ∙ sym (flat_map_more (λ u. 32 ∷ decimal u) [] (take i ids) (get_or ids i 0))

ids_line : (w : Text) (r : List ℕ) → line (w ∷ map decimal r) ≡ w ++ (ids_after r ++ (10 ∷ []))
unfolding line
ids_line w [] = refl
ids_line w (u ∷ r) = ap (λ (t : Text). w ++ (32 ∷ t)) (ids_line (decimal u) r ∙ sym (append_assoc (decimal u) (ids_after r) (10 ∷ [])))

ring_is : (r : List ℕ) → lines (ring_lines r) ≡ line (no_line ring_met 0) ++ (114 ∷ 105 ∷ 110 ∷ 103 ∷ (ids_after r ++ (10 ∷ [])))
unfolding lines ascii
ring_is r = ap (λ (t : Text). line (no_line ring_met 0) ++ t) (append-nil (line (ascii "ring" ∷ map decimal r)) ∙ ids_line (ascii "ring") r)

-- THE LINES, piece by piece
pub record_told : (r : List ℕ) (n p : ℕ) → n ≡ get_or r 0 0 → p ≡ from_be_bytes w16 (get_or r 1 0 ∷ get_or r 2 0 ∷ []) → line (no_line n p) ≡ line (record_line r)
record_told r n p e f = ap (λ m. line (no_line m p)) e ∙ ap (λ m. line (no_line (get_or r 0 0) m)) f

abbrev ring_pieces : ℕ → List ℕ → Text
ring_pieces n ids = ((line (no_line n 0) ++ (114 ∷ 105 ∷ 110 ∷ 103 ∷ [])) ++ ids_after ids) ++ (10 ∷ [])

pub ring_told : (ids : List ℕ) (i n : ℕ) → n ≡ ring_met → length ids ≤ i → ring_pieces n (take i ids) ≡ lines (ring_lines ids)
ring_told ids i n e h =
    ap (λ m. ring_pieces m (take i ids)) e
    ∙ (ap (ring_pieces ring_met) (take_all i ids h)
    ∙ (append_assoc (line (no_line ring_met 0) ++ (114 ∷ 105 ∷ 110 ∷ 103 ∷ [])) (ids_after ids) (10 ∷ [])
    ∙ (append_assoc (line (no_line ring_met 0)) (114 ∷ 105 ∷ 110 ∷ 103 ∷ []) (ids_after ids ++ (10 ∷ [])) ∙ sym (ring_is ids))))
