-- ANY BYTES AND ANY BUFFERS are answered in one of six ways, and what each of them means. Assumes nothing.
use Rattle.std.specs.Prelude.{ℕ, ◌<◌, Bool, true, false, ◌≡◌, List, [], ◌∷◌, map, leb, length}
use Rattle.std.proofs.Math.Path.{refl}
use Rattle.std.proofs.Common.{sym, ap, subst, leb-true, leb-false}
use Rattle.bundle.specs.Bundle.{Items, Bundle}
use Rattle.bundle.specs.Stand.{Bytes}
use Rattle.bundle.specs.Read.{Reading, value, refused, read}
use Rattle.discovery.specs.Discovery.{Fault}
use Rattle.order.specs.Files.{LinkedFiles}
use Rattle.order.specs.Theorems.{RingMet, first_half_read}
use Rattle.order.specs.Call.{padded, unit_files, paths_of_ids, Wrote}
use Rattle.order.specs.Report.{fault, ring, small_buffer, report_length, lent_report, nothing_lent}
use Rattle.order.specs.Demand.{report-told, fault-some, ring-some, files-linked}
use Rattle.order.specs.Results.{Answer}
use Rattle.assembly.specs.Assemble.{Outcome, faulty, closed, ended, result, program, linearize_and_assemble}
use Rattle.assembly.specs.Call.{records_of, telling, refusing, imaged_to, answering, image_after, answer_to, report_to, image_to, assemble_answer, assemble_report, assemble_image, ImageWritten, NoImage}
use Rattle.assembly.specs.Call as call
use Rattle.assembly.specs.Image.{image_limit, items_length, image_length, imaging, lent_image}
use Rattle.assembly.specs.Image as image
use Rattle.assembly.specs.Theorems.{Assembled, assembly_read, Program, program-only, FaultsMet, faults-only, ring_only, never_refused}
use Rattle.assembly.specs.Results.{Imaged}
use Rattle.assembly.specs.Results as imaged

-- a program: the linked order that step 5 found nothing to tell of, with all that is proved of it
pub record WholeProgram (b : Bundle) (o : List ℕ) (p : Items) : Type 0 where
  pub of_program : Program b o p
  pub right : Assembled b o

pub data AssembleTold (s rep img rep₁ img₁ : List ℕ) (a : Answer) : Type 0 where
  -- 1 to 13: number and place, and no byte is changed
  turned_back : (n p : ℕ) → read s ≡ refused n p → a ≡ refusing n p → rep₁ ≡ rep → img₁ ≡ img → AssembleTold s rep img rep₁ img₁ a
  -- 14 only where the report exceeds its buffer, and no byte is changed
  small_report : (b : Bundle) → read s ≡ value b → length rep < report_length (records_of (linearize_and_assemble b)) → a ≡ refusing small_buffer 0 → rep₁ ≡ rep → img₁ ≡ img
      → AssembleTold s rep img rep₁ img₁ a
  -- the faults of discovery or of step 5, one record each: the report's length is answered, and nothing else
  faults : (b : Bundle) (l : List Fault) → read s ≡ value b → FaultsMet b l → a ≡ telling 0 0 a.report → Wrote (map fault l) rep rep₁ a.number a.report → img₁ ≡ img → AssembleTold s rep img rep₁ img₁ a
  -- 26: two or more different reached files import each other, and the ring is named
  ring_met : (b : Bundle) (r : List ℕ) → read s ≡ value b → RingMet b r → a ≡ telling 0 0 a.report → Wrote (ring r ∷ []) rep rep₁ a.number a.report → img₁ ≡ img → AssembleTold s rep img rep₁ img₁ a
  -- 15, and 14 only where the image exceeds its buffer: no byte is changed
  no_image : (b : Bundle) (o : List ℕ) (p : Items) (n : ℕ) → read s ≡ value b → WholeProgram b o p → NoImage p (length img) n → a ≡ refusing n 0 → rep₁ ≡ rep → img₁ ≡ img
      → AssembleTold s rep img rep₁ img₁ a
  -- the units, whose paths are exactly the reached files, each once, each after every other that it imports; and the image
  images : (b : Bundle) (o : List ℕ) (p : Items) → read s ≡ value b → WholeProgram b o p → LinkedFiles b (paths_of_ids b a.files a.ids a.units)
      → a ≡ imaged_to (length (unit_files b)) (padded (unit_files b)) (padded o) (imaged.Image (image_length p)) → ImageWritten p img img₁ a.image → rep₁ ≡ rep
      → AssembleTold s rep img rep₁ img₁ a

-- an image is refused or is written whole
pub data ImageEnds (p : Items) (img : List ℕ) : Type 0 where
  none : (n : ℕ) → NoImage p (length img) n → image.Exceeds p img n → ImageEnds p img
  some : image.Fits p img → ImageEnds p img

pub image-ends : (p : Items) (img : List ℕ) → ImageEnds p img
image-ends p img = go (leb (items_length p) image_limit) refl (leb (image_length p) (length img)) refl
  where
    go : (c : Bool) → leb (items_length p) image_limit ≡ c → (d : Bool) → leb (image_length p) (length img) ≡ d → ImageEnds p img
    go false h d i = let l = leb-false (items_length p) image_limit h in none _ (call.too_long l) (image.long p img l)
    go true h false i =
        let l = leb-true (items_length p) image_limit h in
        let m = leb-false (image_length p) (length img) i in
        none _ (call.too_small l m) (image.small p img l m)
    go true h true i = some (image.fits p img (leb-true (items_length p) image_limit h) (leb-true (image_length p) (length img) i))

pub image-written : {p : Items} {img : List ℕ} → image.Fits p img → ImageWritten p img (lent_image p img) (image_length p)
image-written f = record { length_is = refl; bytes = f.written; rest = f.rest }

-- THE THEOREM
module _ (s : List ℕ) (B : Bytes s) (rep img : List ℕ) where
  module _ (b : Bundle) (v : read s ≡ value b) where
    abbrev Told : List ℕ → Answer → Type 0
    Told final a = AssembleTold s rep img final img a

    too_little : {x : Outcome} → linearize_and_assemble b ≡ x → length rep < report_length (records_of x) → Told rep (refusing small_buffer 0)
    too_little e l = small_report b v (subst (λ (y : Outcome). length rep < report_length (records_of y)) (sym e) l) refl refl refl

    abbrev with_image : List ℕ → Imaged → Answer
    with_image o y = imaged_to (length (unit_files b)) (padded (unit_files b)) (padded o) y

    image-told : (o : List ℕ) (p : Items) → linearize_and_assemble b ≡ program o p → ImageEnds p img → AssembleTold s rep img (lent_report [] rep) (lent_image p img) (with_image o (imaging p (length img)))
    image-told o p e x = go x
      where
        q : Program b o p
        q = program-only b o p e

        w : WholeProgram b o p
        w = record { of_program = q; right = assembly_read s B b v o q.order }

        go : ImageEnds p img → AssembleTold s rep img (lent_report [] rep) (lent_image p img) (with_image o (imaging p (length img)))
        go (none n y f) = no_image b o p n v w y (ap (with_image o) f.answered) (nothing_lent rep) f.untouched
        go (some f) =
            let h = first_half_read s b v in
            subst (λ (y : Imaged). AssembleTold s rep img (lent_report [] rep) (lent_image p img) (with_image o y)) (sym f.answered)
            (images b o p v w (files-linked b o (h.ids o q.order) (h.order o q.order)) refl (image-written f) (nothing_lent rep))

    by-outcome : (x : Outcome) → linearize_and_assemble b ≡ x → AssembleTold s rep img (lent_report (records_of x) rep) (image_after x img) (answering (unit_files b) (length rep) (length img) x)
    by-outcome (faulty []) e = absurd ((faults-only s b v [] e).some refl)
    by-outcome (faulty (f ∷ fs)) e = report-told Told (map fault (f ∷ fs)) rep (too_little e) (λ w. faults b (f ∷ fs) v (faults-only s b v (f ∷ fs) e) refl w refl) (fault-some f fs)
    by-outcome (closed r) e = report-told Told (ring r ∷ []) rep (too_little e) (λ w. ring_met b r v (ring_only s b v r e) refl w refl) (ring-some r)
    by-outcome (ended n p) e = absurd (never_refused b n p e)
    by-outcome (result q) e = image-told q.ids q.items e (image-ends q.items img)

  by-reading : (x : Reading) → read s ≡ x → AssembleTold s rep img (report_to x rep) (image_to x img) (answer_to x (length rep) (length img))
  by-reading (refused n p) e = turned_back n p e refl refl refl
  by-reading (value b) e = by-outcome b e (linearize_and_assemble b) refl

  pub told : AssembleTold s rep img (assemble_report s rep) (assemble_image s img) (assemble_answer s rep img)
  unfolding assemble_answer assemble_report assemble_image
  told = by-reading (read s) refl
