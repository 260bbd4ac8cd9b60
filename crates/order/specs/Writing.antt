-- Writing a report byte by byte. Assumes nothing.
use Rattle.std.specs.Prelude.{ℕ, zero, suc, ◌+◌, ◌*◌, ◌/◌, ◌<◌, ◌≤◌, ◌≡◌, get_or, set, take}
use Rattle.std.proofs.Common.{mod-eq_of_lt, add-one, ◌∙◌, length-append, length-set, take-suc, drop-drop, le-leb}
use native.Mathlib.Omega.{arith}
use Rattle.std.proofs.Math.Path.{refl, sym, ap}
use mathlib.Core.List.{List, [], ◌∷◌, ◌++◌, map, map-append, append_assoc, append-nil}
use Rattle.std.proofs.Math.ListN.{length, drop}
use Rattle.std.proofs.lemmas.List.{length-map}
use Rattle.std.proofs.Math.Seq.{length-take-le, take-length}
use Rattle.std.proofs.lemmas.Bool.{lt-leb}
use Rattle.refusal.specs.declared.Refusal.{Refusal}
use Rattle.bundle.specs.Encode.{joined}
use Rattle.encoder.specs.Started.{put_one}
use Rattle.discovery.specs.Discovery.{Fault}
use Rattle.driver.specs.Meaning.{fault_told}
use Rattle.order.specs.Report.{Record, fault, ring, ring_met, low, place_bytes, record_bytes, report_bytes, record_length, report_length, report-length, lent_report, reporting, small_buffer}
use Rattle.order.specs.Results as reported

-- the records of what is told of some values
abbrev pub records_told : {A : Type 0} → (A → Fault) → List A → List Record
records_told told l = map fault (map told l)

-- those of refusals, and of a ring
abbrev pub fault_records : List Refusal → List Record
fault_records faults = map fault (map fault_told faults)

abbrev pub ring_records : List ℕ → List Record
ring_records ids = ring ids ∷ []

-- a number and a place written at `at`
abbrev pub written3 : List ℕ → ℕ → ℕ → ℕ → List ℕ
written3 out at number place = set (set (set out at number) (at + 1) (low (place / 256))) (at + 2) (low place)

-- STORES ONE AFTER THE OTHER
pub put_three : (w o : List ℕ) (at a b c : ℕ) → length w ≡ at → at + 3 ≤ length o
    → set (set (set (w ++ drop at o) at a) (at + 1) b) (at + 2) c ≡ (w ++ (a ∷ b ∷ c ∷ [])) ++ drop (at + 3) o
put_three w o at a b c is h =
    let l1 = length-append w (a ∷ []) in
    let l2 = length-append (w ++ (a ∷ [])) (b ∷ []) in
    ap (λ (l : List ℕ). set (set l (at + 1) b) (at + 2) c) (put_one w o at is a (omega arith))
    ∙ (ap (λ (l : List ℕ). set l (at + 2) c) (put_one (w ++ (a ∷ [])) o (at + 1) (omega arith) b (omega arith))
    ∙ (ap (λ (n : ℕ). set (((w ++ (a ∷ [])) ++ (b ∷ [])) ++ drop n o) (at + 2) c) (two-more at)
    ∙ (put_one ((w ++ (a ∷ [])) ++ (b ∷ [])) o (at + 2) (omega arith) c (omega arith)
    ∙ (ap (λ (n : ℕ). (((w ++ (a ∷ [])) ++ (b ∷ [])) ++ (c ∷ [])) ++ drop n o) (three_more at)
    ∙ ap (λ (l : List ℕ). l ++ drop (at + 3) o) (append_assoc (w ++ (a ∷ [])) (b ∷ []) (c ∷ []) ∙ append_assoc w (a ∷ []) (b ∷ c ∷ []))))))
  where
    two-more : (n : ℕ) → n + 1 + 1 ≡ n + 2
    two-more n = omega arith

    three_more : (n : ℕ) → n + 2 + 1 ≡ n + 3
    three_more n = omega arith

-- THE ANSWER
module _ (rs : List Record) (out : List ℕ) (n : ℕ) (is : report_length rs ≡ n) where
  pub too_long : length out < n → (reported.Refused small_buffer 0 ≡ reporting rs (length out)) × (out ≡ lent_report rs out)
  unfolding reporting lent_report
  too_long h = let k : length out < report_length rs = omega arith in rw (lt-leb (report_length rs) (length out) k) (refl, refl)

  pub all-written : (final : List ℕ) → n ≤ length out → final ≡ report_bytes rs ++ drop n out → (reported.Report n ≡ reporting rs (length out)) × (final ≡ lent_report rs out)
  unfolding reporting lent_report
  all-written final h e = let k : report_length rs ≤ length out = omega arith in rw (le-leb (report_length rs) (length out) k, is) (refl, e)

-- FAULTS
module _ {A : Type 0} (told : A → Fault) where
  pub faults-length : (l : List A) → report_length (records_told told l) ≡ 3 * length l
  unfolding report_length record_length
  faults-length [] = refl
  faults-length (e ∷ l) = let r = faults-length l in omega arith

  faults_more : (i : ℕ) (l : List A) (d : A) → i < length l
      → report_bytes (records_told told (take (suc i) l)) ≡ report_bytes (records_told told (take i l)) ++ ((told (get_or l i d)).number ∷ place_bytes (told (get_or l i d)).place)
  unfolding report_bytes joined record_bytes
  faults_more i [] d h = absurd (omega arith)
  faults_more zero (e ∷ l) d h = refl
  faults_more (suc i) (e ∷ l) d h = ap (λ (k : List ℕ). ((told e).number ∷ place_bytes (told e).place) ++ k) (faults_more i l d (omega arith))

-- i records are written
pub record FaultsTo {A : Type 0} (told : A → Fault) (l : List A) (out₀ out : List ℕ) (i : ℕ) : Type 0 where
  pub few : i ≤ length l
  pub so_far : out ≡ report_bytes (records_told told (take i l)) ++ drop (3 * i) out₀
  pub long : length out ≡ length out₀

module _ {A : Type 0} (told : A → Fault) (l : List A) (out₀ : List ℕ) where
  pub faults-none : FaultsTo told l out₀ out₀ 0
  unfolding report_bytes joined
  faults-none = record { few = omega arith; so_far = refl; long = refl }

  pub faults-one : (out out' : List ℕ) (i : ℕ) (d : A) → 3 * length l ≤ length out₀ → i < length l → FaultsTo told l out₀ out i
      → out' ≡ written3 out (3 * i) (told (get_or l i d)).number (told (get_or l i d)).place → FaultsTo told l out₀ out' (i + 1)
  faults-one out out' i d room h f e =
      let n = (told (get_or l i d)).number in
      let p = (told (get_or l i d)).place in
      let few = length-take-le i l (omega arith) in
      let done = report-length (records_told told (take i l)) ∙ faults-length told (take i l) in
      record {
        few = omega arith;
        so_far =
            e
            ∙ (ap (λ (l : List ℕ). written3 l (3 * i) n p) f.so_far
            ∙ (put_three (report_bytes (records_told told (take i l))) out₀ (3 * i) n (low (p / 256)) (low p) (omega arith) (omega arith)
            ∙ (ap (λ (l : List ℕ). l ++ drop (3 * i + 3) out₀) (sym (faults_more told i l d (omega arith)) ∙ ap (λ (k : ℕ). report_bytes (records_told told (take k l))) (sym (add-one i)))
            ∙ ap (λ (k : ℕ). report_bytes (records_told told (take (i + 1) l)) ++ drop k out₀) (next i))));
        long = rw e (simp length-set f.long);
      }
    where
      next : (i : ℕ) → 3 * i + 3 ≡ 3 * (i + 1)
      next i = omega arith

  pub faults-all : (out : List ℕ) (i : ℕ) → 3 * length l ≤ length out₀ → length l ≤ i → FaultsTo told l out₀ out i
      → (reported.Report (3 * length l) ≡ reporting (records_told told l) (length out₀)) × (out ≡ lent_report (records_told told l) out₀)
  faults-all out i room h f =
      let e : i ≡ length l = let k = f.few in omega arith in
      all-written (records_told told l) out₀ (3 * length l) (faults-length told l) out room
      (f.so_far ∙ (ap (λ (k : ℕ). report_bytes (records_told told (take k l)) ++ drop (3 * k) out₀) e
      ∙ ap (λ (k : List A). report_bytes (records_told told k) ++ drop (3 * length l) out₀) (take-length l)))

-- A RING
-- the record's head and the first i of its ids
abbrev pub ring_to : List ℕ → ℕ → List ℕ
ring_to ids i = ring_met ∷ (place_bytes 0 ++ (length ids ∷ map low (take i ids)))

pub record RingTo (ids out₀ out : List ℕ) (i : ℕ) : Type 0 where
  pub few : i ≤ length ids
  pub so_far : out ≡ ring_to ids i ++ drop (4 + i) out₀
  pub long : length out ≡ length out₀

module _ (ids out₀ : List ℕ) (small : length ids < 256) where
  pub ring-length : report_length (ring_records ids) ≡ 4 + length ids
  unfolding report_length record_length
  ring-length = omega arith

  -- the buffer with the record's head in it
  module _ (out : List ℕ) (room : 4 + length ids ≤ length out) (head : out₀ ≡ set (written3 out 0 ring_met 0) 3 (low (length ids))) where
    head-is : out₀ ≡ ring_to ids 0 ++ drop 4 out
    head-is =
        head
        ∙ (ap (λ (l : List ℕ). set l 3 (low (length ids))) (put_three [] out 0 ring_met (low (0 / 256)) (low 0) refl (omega arith))
        ∙ (put_one (ring_met ∷ (low (0 / 256)) ∷ (low 0) ∷ []) out 3 refl (low (length ids)) (omega arith)
        ∙ ap (λ (n : ℕ). (ring_met ∷ (low (0 / 256)) ∷ (low 0) ∷ n ∷ []) ++ drop 4 out) (mod-eq_of_lt small)))

    behind-head : drop 4 out₀ ≡ drop 4 out
    behind-head = ap (drop 4) head-is

    pub head-length : length out₀ ≡ length out
    head-length = rw head (simp length-set)

    pub ring-none : RingTo ids out₀ out₀ 0
    ring-none = record { few = omega arith; so_far = head-is ∙ ap (λ (l : List ℕ). ring_to ids 0 ++ l) (sym behind-head); long = refl }

    pub ring-all : (final : List ℕ) (i : ℕ) → length ids ≤ i → RingTo ids out₀ final i
        → (reported.Report (4 + length ids) ≡ reporting (ring_records ids) (length out)) × (final ≡ lent_report (ring_records ids) out)
    unfolding report_bytes joined record_bytes
    ring-all final i h f =
        let e : i ≡ length ids = let k = f.few in omega arith in
        let same : ring_to ids i ≡ report_bytes (ring_records ids) = ap (ring_to ids) e ∙ (ap (λ (l : List ℕ). ring_met ∷ (place_bytes 0 ++ (length ids ∷ map low l))) (take-length ids) ∙ sym (append-nil (record_bytes (ring ids)))) in
        let rest : drop (4 + i) out₀ ≡ drop (4 + length ids) out = sym (drop-drop i 4 out₀) ∙ (ap (drop i) behind-head ∙ (drop-drop i 4 out ∙ ap (λ (k : ℕ). drop (4 + k) out) e)) in
        all-written (ring_records ids) out (4 + length ids) ring-length final room
        (f.so_far ∙ (ap (λ (l : List ℕ). l ++ drop (4 + i) out₀) same ∙ ap (λ (l : List ℕ). report_bytes (ring_records ids) ++ l) rest))

  pub ring-one : (out : List ℕ) (i : ℕ) → 4 + length ids ≤ length out₀ → i < length ids → RingTo ids out₀ out i
      → RingTo ids out₀ (set out (4 + i) (low (get_or ids i 0))) (i + 1)
  ring-one out i room h f =
      let l = length-take-le i ids (omega arith) in
      let m = length-map (take i ids) low in
      record {
        few = omega arith;
        so_far =
            ap (λ (k : List ℕ). set k (4 + i) (low (get_or ids i 0))) f.so_far
            ∙ (put_one (ring_to ids i) out₀ (4 + i) (omega arith) (low (get_or ids i 0)) (omega arith)
            ∙ (ap (λ (k : List ℕ). (ring_met ∷ (place_bytes 0 ++ (length ids ∷ k))) ++ drop (4 + i + 1) out₀) (ids_more i (omega arith))
            ∙ ap (λ (k : ℕ). ring_to ids (i + 1) ++ drop k out₀) (next i)));
        long = simp length-set f.long;
      }
    where
      next : (i : ℕ) → 4 + i + 1 ≡ 4 + (i + 1)
      next i = omega arith

      ids_more : (i : ℕ) → i < length ids → map low (take i ids) ++ (low (get_or ids i 0) ∷ []) ≡ map low (take (i + 1) ids)
      ids_more i h = rw (add-one i, take-suc ids i 0 h) (sym (map-append low (take i ids) (get_or ids i 0 ∷ [])))
