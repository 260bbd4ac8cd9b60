-- The bytes of a report have the lines of its faults, or of its ring. Assumes nothing.
use Rattle.std.specs.Prelude.{ℕ, suc, ◌+◌, ◌*◌, ◌/◌, ◌≤◌, ◌<◌, ◌≡◌, refl, length, get_or}
use Rattle.std.proofs.Common.{mod-eq_of_lt, div-lt_iff_lt-mul, arith, ap, ◌∙◌, ne_eqb, le-leb}
use Rattle.std.proofs.Math.Bool.{and-false}
use mathlib.Core.List.{List, [], ◌∷◌, map, append-nil, Memᴰ}
use Rattle.std.specs.Simd.{first_chunks}
use Rattle.bundle.specs.Encode.{joined}
use Rattle.discovery.specs.Discovery.{Fault}
use Rattle.order.specs.Report.{fault, ring, ring_met, low, record_bytes, report_bytes, record_length, report_length, report-length}
use Rattle.text.specs.Words.{no_line}
use Rattle.printing.specs.Lines.{fault_line, ring_lines}
use Rattle.printing.specs.Reports.{record_line, fault_lines, report_lines}

-- FAULTS, three bytes each
pub faults-length : (l : List Fault) → report_length (map fault l) ≡ 3 * length l
unfolding report_length record_length
faults-length [] = refl
faults-length (f ∷ l) = let h = faults-length l in omega arith

-- two bytes hold a place
two_bytes : (p : ℕ) → p < 65536 → low (p / 256) * 256 + low p ≡ p
two_bytes p h = let q : p / 256 < 256 = (div-lt_iff_lt-mul {k = 256} {x = p} {y = 256} (omega arith)).1 (omega arith) in rw (mod-eq_of_lt q) (omega arith)

-- what a record of three bytes can tell: the number is not 26, and two bytes hold the place
pub record Tellable (f : Fault) : Type 0 where
  pub number : f.number ≡ ring_met → ⊥
  pub place : f.place < 65536

each_line : (l : List Fault) → ((f : Fault) → Memᴰ f l → Tellable f) → map record_line (first_chunks 3 (length l) (report_bytes (map fault l))) ≡ map fault_line l
unfolding report_bytes joined record_bytes
each_line [] h = refl
each_line (f ∷ l) h =
    ap (λ (p : ℕ). no_line f.number p ∷ map record_line (first_chunks 3 (length l) (report_bytes (map fault l)))) (two_bytes f.place (h f (Memᴰ.head refl)).place)
    ∙ ap (λ k. fault_line f ∷ k) (each_line l (λ g m. h g (Memᴰ.tail m)))

faults_lines : (l : List Fault) → ((f : Fault) → Memᴰ f l → Tellable f) → fault_lines (report_bytes (map fault l)) ≡ map fault_line l
unfolding fault_lines
faults_lines l h =
    let n : length (report_bytes (map fault l)) / 3 ≡ length l = omega (arith, report-length (map fault l), faults-length l) in
    rw n (each_line l h)

by_first : (l : List Fault) → ((f : Fault) → Memᴰ f l → Tellable f) → fault_lines (report_bytes (map fault l)) ≡ map fault_line l → report_lines (report_bytes (map fault l)) ≡ map fault_line l
unfolding report_lines report_bytes joined record_bytes
by_first [] h e = e
by_first (f ∷ l) h e = rw (ne_eqb f.number ring_met (h f (Memᴰ.head refl)).number, and-false) e

pub faults_reported : (l : List Fault) → ((f : Fault) → Memᴰ f l → Tellable f) → report_lines (report_bytes (map fault l)) ≡ map fault_line l
faults_reported l h = by_first l h (faults_lines l h)

pub first-no_ring : (l : List Fault) → 0 < length l → ((f : Fault) → Memᴰ f l → Tellable f) → get_or (report_bytes (map fault l)) 0 0 ≡ ring_met → ⊥
unfolding report_bytes joined record_bytes
first-no_ring [] some h e = elim some [ ]
first-no_ring (f ∷ l) some h e = (h f (Memᴰ.head refl)).number e

-- A RING
pub ring-length : (r : List ℕ) → report_length (ring r ∷ []) ≡ 4 + length r
unfolding report_length record_length
ring-length r = omega arith

pub ring_reported : (r : List ℕ) → record_bytes (ring r) ≡ ring_met ∷ 0 ∷ 0 ∷ length r ∷ r → report_lines (report_bytes (ring r ∷ [])) ≡ ring_lines r
unfolding report_lines report_bytes joined
ring_reported r e = rw (append-nil (record_bytes (ring r)), e) (let m : 4 ≤ suc (suc (suc (suc (length r)))) = omega arith in rw (le-leb 4 (suc (suc (suc (suc (length r))))) m))
