-- No number is cut in a report of an accepted bundle: a fault's number is one from 20 to 25, its place is the mark of a use of a
-- file, two bytes hold it, and one byte holds each id of a ring. Assumes nothing.
use Rattle.std.specs.Prelude.{ℕ, ◌+◌, ◌<◌, ◌≤◌, ◌≡◌}
use Rattle.std.proofs.Common.{arith, ⊎_elim, length-append, length-drop}
use Rattle.std.proofs.Math.Path.{refl, ap}
use mathlib.Core.List.Memᴰ
use mathlib.Core.List.{List, [], ◌∷◌, ◌++◌, map, Memᴰ}
use Rattle.std.proofs.Math.ListN.{length}
use Rattle.std.proofs.lemmas.List.{length-map}
use Rattle.names.specs.Bytes.{same}
use Rattle.bundle.specs.Bundle.{Text, Items, none, named, use_of, module_of, ignored, File, Bundle}
use Rattle.bundle.specs.Encode.{two, string, counted, element, sized, fields, encode}
use Rattle.bundle.specs.Limits.{capacity, file_limit}
use Rattle.bundle.specs.declared.Width.TheVariants.{Word}
use Rattle.bundle.specs.Form.{WellFormed}
use Rattle.bundle.specs.Marks.{Begins, Found, FoundFiles}
use Rattle.bundle.specs.Theorems.{marks-are_offsets}
use Rattle.resolution.specs.Resolution.{Resolved, number}
use Rattle.resolution.specs.Resolution as resolution
use Rattle.discovery.specs.Discovery.{Use, uses, program_of, Fault, paths_of}
use Rattle.discovery.specs.Facts.{cond_elim, pigeons}
use Rattle.discovery.specs.Weight.{reached-file}
use Rattle.discovery.specs.Right.{discovered}
use Rattle.discovery.specs.FaultTheorems.{Why, lookup, reading, fault-told}
use Rattle.graph.specs.Facts.{pigeonhole}
use Rattle.order.specs.Run.{closed, ordered, units_of}
use Rattle.order.specs.Theorems.{faults_of, first_half}
use Rattle.order.specs.Report.{fault, ring, ring_met, record_bytes, place-bytes, id-byte}
use Rattle.order.specs.Report as report

-- A FAULT OF DISCOVERY has one of the numbers of a lookup or of a reading
numbers : (e : resolution.Fault) → (20 ≤ number e) × (number e ≤ 25)
numbers resolution.empty_use_fault = (omega arith, omega arith)
numbers resolution.unknown_library_fault = (omega arith, omega arith)
numbers (resolution.no_library_file_fault m) = (omega arith, omega arith)
numbers (resolution.no_file_fault m) = (omega arith, omega arith)
numbers resolution.own_file_fault = (omega arith, omega arith)
numbers resolution.no_root_fault = (omega arith, omega arith)

numbered : {files : List Text} {x : Resolved} {n : ℕ} → Why files x n → (20 ≤ n) × (n ≤ 25)
numbered (lookup f e q) = let r = numbers f in (omega arith, omega arith)
numbered (reading p rest e m q) = (omega arith, omega arith)

pub fault-numbers : (b : Bundle) (f : Fault) → Memᴰ f (faults_of b) → (20 ≤ f.number) × (f.number ≤ 25)
fault-numbers b f m = numbered (fault-told b f m).why

-- THE MARK OF A USE
pub begins-before : (s : List ℕ) (at : ℕ) (body : List ℕ) → Begins s at (sized body) → 0 < length body → at + 2 + length body ≤ length s
unfolding sized two
begins-before s at body x h =
    let e = ap length x.bytes in
    let z : length (sized body) ≡ 2 + length body = omega arith in
    omega (arith, length-drop at s, length-append (sized body) x.rest)

use_before : (s : List ℕ) (x : Items) → Found s x → (u : Use) → Memᴰ u (uses x) → u.mark + 4 ≤ length s
unfolding Found uses
use_before s none h u m = absurd (Memᴰ.not-nil m)
use_before s (named head rest) h u m = use_before s rest h.1 u m
use_before s (use_of mark v segments elements rest) h u m =
    ⊎_elim
    (λ e. let q = ap (λ (w : Use). w.mark) e in
    let k = begins-before s mark (3 ∷ v ∷ (counted string segments ++ counted element elements)) h.0 (omega arith) in omega arith)
    (λ w. use_before s rest h.1 u w) (Memᴰ.cases_cons m)
use_before s (module_of mark v name inner rest) h u m =
    ⊎_elim (λ w. use_before s inner h.1.0 u w) (λ w. use_before s rest h.1.1 u w) (Memᴰ.append_cases (uses inner) m)
use_before s (ignored mark v rest) h u m = use_before s rest h.1 u m

pub program-found : (s : List ℕ) (fs : List File) (p : Text) → FoundFiles s fs → Found s (program_of fs p)
unfolding FoundFiles program_of Found
program-found s [] p h = tt
program-found s (f ∷ fs) p h = cond_elim (Found s) (same p f.path) (λ e. h.0) (λ e. program-found s fs p h.1)

pub encode-length : (b : Bundle) → length (encode b) ≡ 3 + length (fields b)
unfolding encode sized two
encode-length b = omega arith

-- THE BYTES
module _ (b : Bundle) (w : WellFormed b) where
  pub place-small : (f : Fault) → Memᴰ f (faults_of b) → f.place < capacity Word
  place-small f m =
      let a = fault-told b f m in
      let e = a.place in
      let z = w.form.size in
      omega (arith, use_before (encode b) (program_of b.files a.file) (program-found (encode b) b.files a.file (marks-are_offsets b w)) a.by a.used, encode-length b)

  -- a fault's record is its number and the two bytes of its place
  pub fault_exact : (f : Fault) → Memᴰ f (faults_of b) → (record_bytes (fault f) ≡ f.number ∷ two f.place) × (f.number < 256)
  unfolding record_bytes
  fault_exact f m = let h = fault-numbers b f m in (ap (λ (l : List ℕ). f.number ∷ l) (place-bytes f.place (place-small f m)), omega arith)

  units-few : length (units_of b) ≤ file_limit
  units-few =
      let c = w.form.file_count_within in
      omega (arith, pigeons (discovered b).once (paths_of b) (λ p m. reached-file b p ((discovered b).sound p m)), length-map b.files (λ (f : File). f.path))

  -- a ring's is 26, place 0, the count and the ids themselves
  pub ring_exact : (r : List ℕ) → ordered b ≡ closed r → (record_bytes (ring r) ≡ ring_met ∷ 0 ∷ 0 ∷ length r ∷ r) × (length r ≤ file_limit)
  unfolding record_bytes
  ring_exact r e =
      let h = first_half b w.form.some_file in
      let below = h.ring_ids r e in
      let n = units-few in (
        ap (λ (l : List ℕ). ring_met ∷ 0 ∷ 0 ∷ length r ∷ l) (low-all r (λ u m. let k = below u m in omega arith)),
        omega (arith, pigeonhole (length (units_of b)) r (h.ring_once r e) below),
      )
    where
      low-all : (l : List ℕ) → ((u : ℕ) → Memᴰ u l → u < 256) → map report.low l ≡ l
      low-all [] h = refl
      low-all (x ∷ l) h = rw (id-byte x (h x (Memᴰ.head refl)), low-all l (λ u m. h u (Memᴰ.tail m)))
