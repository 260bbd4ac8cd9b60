-- DEMAND 3, FIRST HALF, of what the operation answers: for whatever bytes and whatever buffer, the answer and the buffer are one
-- of five kinds. Assumes nothing.
use Rattle.std.specs.Prelude.{ℕ, zero, suc, ◌<◌, ◌≡◌, Bool, true, false, ltb, length, get_or, take, drop, replicate}
use Rattle.std.proofs.Common.{not-suc-le-zero, le_of_suc-le-suc, arith, sym, ap, subst, ◌∙◌, take_at, ltb-true, ltb-false}
use Rattle.std.proofs.Math.Path.{refl}
use mathlib.Core.List.{List, [], ◌∷◌, map, Memᴰ}
use Rattle.std.proofs.lemmas.List.{length-map}
use Rattle.std.proofs.Math.ListN.{get_or-append}
use Rattle.bundle.specs.Bundle.{Text, Bundle}
use Rattle.bundle.specs.Limits.{file_limit}
use Rattle.bundle.specs.Read.{Reading, value, refused, read}
use Rattle.resolution.specs.Call.{position}
use Rattle.discovery.specs.Discovery.{Fault, paths_of}
use Rattle.discovery.specs.Facts.{get_d_mem, id-found, paths_at}
use Rattle.discovery.specs.Weight.{reached-file}
use Rattle.discovery.specs.Right.{discovered}
use Rattle.order.specs.Run.{Outcome, faulty, closed, ended, result, linked, ordered, units_of, files_of}
use Rattle.order.specs.Files.{LinkedFiles, ImportEachOther}
use Rattle.order.specs.Theorems.{faults_of, LinkedIds, RingMet, FirstHalf, first_half_read, order-count, ring-met-only, never_ended}
use Rattle.order.specs.Report.{Record, fault, ring, small_buffer, records_of, report_length, lent_report, reporting, fits, exceeds, nothing_lent}
use Rattle.order.specs.Report as report
use Rattle.order.specs.Call.{paths_of_ids, Wrote, padded, refusing, reported_to, linking, answering, unit_files, answer_to, report_to, order_answer, order_report}
use Rattle.order.specs.Results.{Reported, Answer}
use Rattle.order.specs.Results as reported

pub data OrderTold (s out final : List ℕ) (a : Answer) : Type 0 where
  -- 1 to 13: number and place, and no byte is changed
  turned_back : (n p : ℕ) → read s ≡ refused n p → a ≡ refusing n p → final ≡ out → OrderTold s out final a
  -- 14 only where the report exceeds the buffer, and no byte is changed
  small : (b : Bundle) → read s ≡ value b → length out < report_length (records_of (ordered b)) → a ≡ refusing small_buffer 0 → final ≡ out → OrderTold s out final a
  -- the faults of discovery, one record each: the report's length is answered, and nothing else
  faults : (b : Bundle) → read s ≡ value b → a ≡ reported_to (reported.Report a.report) → Wrote (map fault (faults_of b)) out final a.number a.report → OrderTold s out final a
  -- "a ring is refused exactly when two or more different reached files import each other in one, and such a ring is named"
  ring_met : (b : Bundle) (r : List ℕ) → read s ≡ value b → RingMet b r → a ≡ reported_to (reported.Report a.report) → Wrote (ring r ∷ []) out final a.number a.report → OrderTold s out final a
  -- "a linked program's units are exactly the reached files, each once, each after every other file it imports"
  in_order : (b : Bundle) (o : List ℕ) → read s ≡ value b → ordered b ≡ linked o → (ImportEachOther b → ⊥) → LinkedFiles b (paths_of_ids b a.files a.ids a.units)
      → a ≡ linking (unit_files b) (padded o) → final ≡ out → OrderTold s out final a

-- THE PATHS OF AN ORDER
get_d_map_in : {A B : Type 0} (f : A → B) (l : List A) (i : ℕ) (d : A) (e : B) → i < length l → get_or (map f l) i e ≡ f (get_or l i d)
get_d_map_in f [] i d e h = absurd (not-suc-le-zero h)
get_d_map_in f (x ∷ l) zero d e h = refl
get_d_map_in f (x ∷ l) (suc i) d e h = get_d_map_in f l i d e (le_of_suc-le-suc h)

-- the paths that the answer to a linked order gives are those of its ids
module _ (b : Bundle) (o : List ℕ) (ids : LinkedIds b o) (files : LinkedFiles b (files_of b o)) where
  path-back : (u : ℕ) → u < length (units_of b) → get_or (paths_of b) (get_or (padded (unit_files b)) u 0) [] ≡ get_or (units_of b) u []
  path-back u h =
      let n = length-map (units_of b) (λ (p : Text). position p (paths_of b)) in
      let lt : u < length (unit_files b) = omega arith in
      let at : get_or (padded (unit_files b)) u 0 ≡ position (get_or (units_of b) u []) (paths_of b)
      = get_or-append (unit_files b) (drop (length (unit_files b)) (replicate file_limit 0)) 0 u lt ∙ get_d_map_in (λ (p : Text). position p (paths_of b)) (units_of b) u [] 0 h in
      let listed = reached-file b (get_or (units_of b) u []) ((discovered b).sound (get_or (units_of b) u []) (get_d_mem (units_of b) u [] h)) in
      ap (λ (x : ℕ). get_or (paths_of b) x []) at ∙ (id-found (get_or (units_of b) u []) (paths_of b) listed).1

  paths-back : (l : List ℕ) → ((u : ℕ) → Memᴰ u l → u < length (units_of b)) → map (λ u. get_or (paths_of b) (get_or (padded (unit_files b)) u 0) []) l ≡ files_of b l
  unfolding paths_at
  paths-back [] h = refl
  paths-back (u ∷ l) h = rw (path-back u (h u (Memᴰ.head refl)), paths-back l (λ v m. h v (Memᴰ.tail m)))

  pub paths-linked : paths_of_ids b (padded (unit_files b)) (padded o) (length (unit_files b)) ≡ files_of b o
  paths-linked =
      let n = length-map (units_of b) (λ (p : Text). position p (paths_of b)) in
      let t : take (length (unit_files b)) (padded o) ≡ o = take_at o (drop (length o) (replicate file_limit 0)) (length (unit_files b)) (order-count b o files ∙ sym n) in
      ap (map (λ u. get_or (paths_of b) (get_or (padded (unit_files b)) u 0) [])) t ∙ paths-back o ids.below

  pub files-linked : LinkedFiles b (paths_of_ids b (padded (unit_files b)) (padded o) (length (unit_files b)))
  files-linked = subst (LinkedFiles b) (sym paths-linked) files

-- REPORTS
-- a report either exceeds its buffer or is written whole
pub data ReportEnds (rs : List Record) (out : List ℕ) : Type 0 where
  too_small : length out < report_length rs → report.Exceeds rs out → ReportEnds rs out
  whole : report.Fits rs out → ReportEnds rs out

pub report-ends : (rs : List Record) (out : List ℕ) → ReportEnds rs out
report-ends rs out = go (ltb (length out) (report_length rs)) refl
  where
    go : (t : Bool) → ltb (length out) (report_length rs) ≡ t → ReportEnds rs out
    go true k = let l = ltb-true (length out) (report_length rs) k in too_small l (exceeds rs out l)
    go false k = whole (fits rs out (ltb-false (length out) (report_length rs) k))

pub wrote : {rs : List Record} {out : List ℕ} → report.Fits rs out → 0 < report_length rs → Wrote rs out (lent_report rs out) 0 (report_length rs)
wrote f some = record { no_refusal = refl; length_is = refl; some = some; bytes = f.written; rest = f.rest }

pub fault-some : (f : Fault) (fs : List Fault) → 0 < report_length (map fault (f ∷ fs))
unfolding report_length report.record_length
fault-some f fs = omega arith

pub ring-some : (r : List ℕ) → 0 < report_length (ring r ∷ [])
unfolding report_length report.record_length
ring-some r = omega arith

-- what is told of a report: 14 where it exceeds its buffer, which is as it was, and otherwise its length, once it is written
pub report-told : (P : List ℕ → Answer → Type 0) (rs : List Record) (out : List ℕ) → (length out < report_length rs → P out (refusing small_buffer 0))
    → (Wrote rs out (lent_report rs out) 0 (report_length rs) → P (lent_report rs out) (reported_to (reported.Report (report_length rs))))
    → 0 < report_length rs → P (lent_report rs out) (reported_to (reporting rs (length out)))
report-told P rs out less more some = go (report-ends rs out)
  where
    go : ReportEnds rs out → P (lent_report rs out) (reported_to (reporting rs (length out)))
    go (too_small l x) = subst (λ (y : List ℕ). P y (reported_to (reporting rs (length out)))) (sym x.untouched) (subst (λ (y : Reported). P out (reported_to y)) (sym x.answered) (less l))
    go (whole f) = subst (λ (y : Reported). P (lent_report rs out) (reported_to y)) (sym f.answered) (more (wrote f some))

-- THE THEOREM
module _ (s out : List ℕ) where
  abbrev Due : Reading → Type 0
  Due x = OrderTold s out (report_to x out) (answer_to x (length out))

  by-outcome : (b : Bundle) → read s ≡ value b → FirstHalf b (ordered b) → (x : Outcome) → ordered b ≡ x
      → OrderTold s out (lent_report (records_of x) out) (answering (unit_files b) (length out) x)
  by-outcome b v h (result o) e =
      let files = h.order o e in
      in_order b o v e (h.no_ring o e) (files-linked b o (h.ids o e) files) refl (nothing_lent out)
  by-outcome b v h (closed r) e =
      report-told (OrderTold s out) (ring r ∷ []) out (λ l. small b v (subst (λ (y : Outcome). length out < report_length (records_of y)) (sym e) l) refl refl) (λ w. ring_met b r v (ring-met-only s b v r e) refl w) (ring-some r)
  by-outcome b v h (ended n p) e = absurd (never_ended b n p e)
  by-outcome b v h (faulty []) e = absurd ((h.faults [] e).1 refl)
  by-outcome b v h (faulty (f ∷ fs)) e =
      report-told (OrderTold s out) (map fault (f ∷ fs)) out (λ l. small b v (subst (λ (y : Outcome). length out < report_length (records_of y)) (sym e) l) refl refl)
      (λ w. faults b v refl (subst (λ (l : List Fault). Wrote (map fault l) out (lent_report (map fault (f ∷ fs)) out) 0 (report_length (map fault (f ∷ fs)))) (h.faults (f ∷ fs) e).0 w)) (fault-some f fs)

  by-reading : (x : Reading) → read s ≡ x → Due x
  by-reading (refused n p) e = turned_back n p e refl refl
  by-reading (value b) e = by-outcome b e (first_half_read s b e) (ordered b) refl

  pub told : OrderTold s out (order_report s out) (order_answer s out)
  unfolding order_report order_answer
  told = by-reading (read s) refl
