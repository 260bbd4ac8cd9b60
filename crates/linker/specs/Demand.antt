-- DEMAND 3 of what the operation answers: whatever bytes, buffers and tree are handed over, the answer, both buffers and the tree
-- afterwards are one of seven kinds. Assumes nothing.
use Rattle.std.specs.Prelude.{ℕ, ◌<◌, ◌≤◌, ◌≡◌, length, get_or}
use native.Mathlib.Omega.{arith}
use Rattle.std.proofs.Math.Path.{refl, sym}
use Rattle.std.proofs.Common.{ap, subst, ◌∙◌, get_or-take}
use Rattle.std.proofs.Math.Logic.{⊎_elim}
use mathlib.Core.List.{List, [], ◌∷◌, map, Memᴰ}
use Rattle.bundle.specs.Bundle.{Items, Bundle}
use Rattle.bundle.specs.Encode.{joined}
use Rattle.bundle.specs.Stand.{Bytes}
use Rattle.bundle.specs.Read.{Reading, value, refused, read}
use Rattle.discovery.specs.Discovery.{Fault}
use Rattle.order.specs.Files.{LinkedFiles, ImportEachOther}
use Rattle.order.specs.Theorems.{faults_of, RingMet, first_half_read}
use Rattle.order.specs.Report.{Record, fault, ring, report_bytes, report_length, lent_report, reporting, fits, nothing_lent}
use Rattle.order.specs.Report as report
use Rattle.order.specs.Exact.{fault-numbers}
use Rattle.order.specs.Call.{padded, unit_files, paths_of_ids, Wrote}
use Rattle.order.specs.Demand.{ReportEnds, too_small, whole, report-ends, report-told, wrote, fault-some, ring-some, files-linked}
use Rattle.order.specs.Results.{Reported}
use Rattle.scope_tree.specs.Flat.{Flat, flat, first_flat}
use Rattle.scope_tree.specs.Trees.{Good, flat_of}
use Rattle.scope_tree.specs.declared.Tree.{Tree}
use Rattle.assembly.specs.Assemble.{linearize_and_assemble}
use Rattle.assembly.specs.Assemble as assembly
use Rattle.assembly.specs.Image.{small_buffer, image_length, imaging, lent_image}
use Rattle.assembly.specs.Call.{telling, refusing, reported_to, imaged_to, ImageWritten, NoImage}
use Rattle.assembly.specs.Demand.{ImageEnds, none, some, image-ends, image-written}
use Rattle.assembly.specs.Faults.{step5-numbers}
use Rattle.assembly.specs.Theorems.{Program, program-only, FaultsFrom, of_discovery, of_step5, FaultsMet, never_refused}
use Rattle.order.specs.Results.{Answer}
use Rattle.assembly.specs.Results.{Imaged}
use Rattle.assembly.specs.Results as imaged
use Rattle.scope_walk.specs.Scopes.{Walked, done, stopped, scope_calls, scope_walk}
use Rattle.linker.specs.Link.{Outcome, faulty, closed, ended, result, linked, step6, link_after, link_bundle}
use Rattle.linker.specs.Call.{records_of, answering, image_after, TreeOf, TreeWith, TreeAfter, answer_to, report_to, image_to, TreeTo, link_answer, link_report, link_image, LinkTree}
use Rattle.linker.specs.InForm.{walk-number}
use Rattle.linker.specs.Theorems.{Ends, walk-stopped, LinkedBundle, linked-bundle, faults-only, ring_only, ring_always}

-- image and tree are as they were
pub record Untouched (img final : List ℕ) (t u : Tree) : Type 0 where
  pub image : final ≡ img
  pub tree : u ≡ t

-- step 6 ends at a call of a program, with a number from 40 to 51
pub record EndsAt (b : Bundle) (n m : ℕ) : Type 0 where
  pub ids : List ℕ
  pub items : Items
  pub program : Program b ids items
  pub ends : Ends flat first_flat (scope_calls items) n m
  pub numbers : (40 ≤ n) × (n ≤ 51)

pub data LinkTold (s rep img : List ℕ) (t u : Tree) (rep₁ img₁ : List ℕ) (a : Answer) : Type 0 where
  -- 1 to 13: number and place
  turned_back : (n p : ℕ) → read s ≡ refused n p → a ≡ refusing n p → rep₁ ≡ rep → Untouched img img₁ t u → LinkTold s rep img t u rep₁ img₁ a
  -- 14 only where the report exceeds its buffer
  small_report : (b : Bundle) → read s ≡ value b → length rep < report_length (records_of (link_bundle b)) → a ≡ refusing small_buffer 0 → rep₁ ≡ rep → Untouched img img₁ t u
      → LinkTold s rep img t u rep₁ img₁ a
  -- 20 to 25, 27, 28: the faults of discovery or of step 5, one record each: the report's length is answered, and nothing else
  faults : (b : Bundle) (l : List Fault) → read s ≡ value b → FaultsMet b l → a ≡ telling 0 0 a.report → Wrote (map fault l) rep rep₁ a.number a.report → Untouched img img₁ t u → LinkTold s rep img t u rep₁ img₁ a
  -- 26: "a ring is refused exactly when two or more different reached files import each other in one, and such a ring is named"
  ring_met : (b : Bundle) (r : List ℕ) → read s ≡ value b → RingMet b r → a ≡ telling 0 0 a.report → Wrote (ring r ∷ []) rep rep₁ a.number a.report → Untouched img img₁ t u → LinkTold s rep img t u rep₁ img₁ a
  -- 40 to 51: the first call that is refused, and its item's mark
  ends : (b : Bundle) (n m : ℕ) → read s ≡ value b → EndsAt b n m → a ≡ refusing n m → rep₁ ≡ rep → Untouched img img₁ t u → LinkTold s rep img t u rep₁ img₁ a
  -- 15, and 14 only where the image exceeds its buffer, of a bundle that links
  no_image : (b : Bundle) (o : List ℕ) (p : Items) (x : Flat) (n : ℕ) → read s ≡ value b → LinkedBundle b o p x → NoImage p (length img) n → a ≡ refusing n 0 → rep₁ ≡ rep → Untouched img img₁ t u
      → LinkTold s rep img t u rep₁ img₁ a
  -- linked: the paths that the answer gives are exactly the reached files, each once, each after every other that it imports; demand 3
  -- of the bundle and of the tree that comes back; its units and order, and the image
  links : (b : Bundle) (o : List ℕ) (p : Items) → read s ≡ value b → LinkedFiles b (paths_of_ids b a.files a.ids a.units) → LinkedBundle b o p (flat_of u) → Good u
      → a ≡ imaged_to (length (unit_files b)) (padded (unit_files b)) (padded o) (imaged.Image (image_length p)) → ImageWritten p img img₁ a.image → rep₁ ≡ rep → LinkTold s rep img t u rep₁ img₁ a

-- WHERE STEP 6 ENDS
ends_at : (s : List ℕ) → Bytes s → (b : Bundle) → read s ≡ value b → (n m : ℕ) → link_bundle b ≡ ended n m → EndsAt b n m
unfolding link_bundle scope_walk
ends_at s B b v n m e = go (linearize_and_assemble b) refl e
  where
    by-walk : (o : List ℕ) (p : Items) (w : Walked Flat) → linearize_and_assemble b ≡ assembly.program o p → scope_walk p ≡ w → step6 o p w ≡ ended n m → EndsAt b n m
    by-walk o p (done x) q r h = let z : ◌≡◌ {A = ℕ} 0 1 = cc in absurd (omega arith)
    by-walk o p (stopped k j) q r h =
        let e1 : k ≡ n = cc in
        let e2 : j ≡ m = cc in
        let x = walk-stopped flat first_flat (scope_calls p) n m (r ∙ (ap (λ (y : ℕ). stopped y j) e1 ∙ ap (stopped n) e2)) in
        let w = program-only b o p q in
        record { ids = o; items = p; program = w; ends = x; numbers = walk-number s B b v o p w n m x }

    go : (y : assembly.Outcome) → linearize_and_assemble b ≡ y → link_after y ≡ ended n m → EndsAt b n m
    go (faulty l) q h = let z : ◌≡◌ {A = ℕ} 0 1 = cc in absurd (omega arith)
    go (closed r) q h = let z : ◌≡◌ {A = ℕ} 0 1 = cc in absurd (omega arith)
    go (ended k j) q h = absurd (never_refused b k j q)
    go (result w) q h = by-walk w.ids w.items (scope_walk w.items) q refl h

-- THE THEOREM
module _ (s : List ℕ) (B : Bytes s) (rep img : List ℕ) (t u : Tree) where
  module _ (b : Bundle) (v : read s ≡ value b) where
    abbrev Told : List ℕ → Answer → Type 0
    Told final a = LinkTold s rep img t u final img a

    too_little : {y : Outcome} → link_bundle b ≡ y → Untouched img img t u → length rep < report_length (records_of y) → Told rep (refusing small_buffer 0)
    too_little e k l = small_report b v (subst (λ (y : Outcome). length rep < report_length (records_of y)) (sym e) l) refl refl k

    abbrev with_image : List ℕ → Imaged → Answer
    with_image o y = imaged_to (length (unit_files b)) (padded (unit_files b)) (padded o) y

    image-told : (o : List ℕ) (p : Items) (x : Flat) → link_bundle b ≡ linked o p x → TreeWith (imaging p (length img)) x t u
        → ImageEnds p img → LinkTold s rep img t u (lent_report [] rep) (lent_image p img) (with_image o (imaging p (length img)))
    image-told o p x e k (none n y f) =
        no_image b o p x n v (linked-bundle s B b v o p x e) y (ap (with_image o) f.answered) (nothing_lent rep)
        (record { image = f.untouched; tree = subst (λ (i : Imaged). TreeWith i x t u) f.answered k })
    image-told o p x e k (some f) =
        let tree : TreeOf x u = subst (λ (y : Imaged). TreeWith y x t u) f.answered k in
        let L = linked-bundle s B b v o p x e in
        let ids = (first_half_read s b v).ids o L.program.order in
        subst (λ (y : Imaged). LinkTold s rep img t u (lent_report [] rep) (lent_image p img) (with_image o y)) (sym f.answered)
        (links b o p v (files-linked b o ids L.files) (subst (LinkedBundle b o p) (sym tree.is) L) tree.good refl (image-written f) (nothing_lent rep))

    by-outcome : (y : Outcome) → link_bundle b ≡ y → TreeAfter (length img) y t u
        → LinkTold s rep img t u (lent_report (records_of y) rep) (image_after y img) (answering (unit_files b) (length rep) (length img) y)
    by-outcome (faulty []) e k = absurd ((faults-only s b v [] e).some refl)
    by-outcome (faulty (f ∷ fs)) e k =
        let n : Untouched img img t u = record { image = refl; tree = k } in
        report-told Told (map fault (f ∷ fs)) rep (too_little e n) (λ w. faults b (f ∷ fs) v (faults-only s b v (f ∷ fs) e) refl w n) (fault-some f fs)
    by-outcome (closed r) e k =
        let n : Untouched img img t u = record { image = refl; tree = k } in
        report-told Told (ring r ∷ []) rep (too_little e n) (λ w. ring_met b r v (ring_only s b v r e) refl w n) (ring-some r)
    by-outcome (ended n m) e k = ends b n m v (ends_at s B b v n m e) refl (nothing_lent rep) (record { image = refl; tree = k })
    by-outcome (result q) e k = image-told q.ids q.items q.tree e k (image-ends q.items img)

  by-reading : (x : Reading) → read s ≡ x → TreeTo x (length img) t u → LinkTold s rep img t u (report_to x rep) (image_to x img) (answer_to x (length rep) (length img))
  by-reading (refused n p) e k = turned_back n p e refl refl (record { image = refl; tree = k })
  by-reading (value b) e k = by-outcome b e (link_bundle b) refl k

  pub told : LinkTree s img t u → LinkTold s rep img t u (link_report s rep) (link_image s img) (link_answer s rep img)
  unfolding LinkTree link_report link_image link_answer
  told k = by-reading (read s) refl k

-- THE RING CLAUSE OF THE ANSWER
-- a ring is told: there is a report, and its first byte is 26
abbrev pub TellsRing : List ℕ → Answer → Type 0
TellsRing rep a = (0 < a.report) × (get_or rep 0 0 ≡ report.ring_met)

-- the first byte of a written report
first_byte : {rs : List Record} {out final : List ℕ} {n k : ℕ} → Wrote rs out final n k → get_or final 0 0 ≡ get_or (report_bytes rs) 0 0
first_byte {rs} {out} {final} {n} {k} w = sym (get_or-take k final 0 0 w.some) ∙ ap (λ (l : List ℕ). get_or l 0 0) w.bytes

module _ (s rep img : List ℕ) (b : Bundle) (v : read s ≡ value b) where
  -- no fault is 26
  faults-other : (l : List Fault) → FaultsMet b l → {n k : ℕ} → Wrote (map fault l) rep (lent_report (map fault l) rep) n k → get_or (lent_report (map fault l) rep) 0 0 ≡ report.ring_met → ⊥
  unfolding report_bytes joined report.record_bytes
  faults-other [] m w e = m.some refl
  faults-other (f ∷ fs) m w e =
      let q : f.number ≡ 26 = sym (first_byte w) ∙ e in
      go m.from q
    where
      go : FaultsFrom b (f ∷ fs) → f.number ≡ 26 → ⊥
      go (of_discovery h) q = let r = fault-numbers b f (subst (λ (l : List Fault). Memᴰ f l) h (Memᴰ.head refl)) in omega (arith, q, r.1)
      go (of_step5 o h i) q = ⊎_elim (λ r. omega (arith, q, r)) (λ r. omega (arith, q, r)) (step5-numbers b o f (subst (λ (l : List Fault). Memᴰ f l) i (Memᴰ.head refl)))

  -- "a ring is refused exactly when two or more different reached files import each other in one, and such a ring is named": only then
  pub ring-told-only : TellsRing (link_report s rep) (link_answer s rep img) → (r : List ℕ) × ((link_bundle b ≡ closed r) × RingMet b r)
  unfolding link_answer link_report
  ring-told-only h = go (link_bundle b) refl (rw v at h)
    where
      silent : (o : List ℕ) (y : Imaged) → 0 < (imaged_to (length (unit_files b)) (padded (unit_files b)) (padded o) y).report → ⊥
      silent o (imaged.Image n) k = omega arith
      silent o (imaged.Refused n p) k = omega arith

      by-faults : (l : List Fault) → link_bundle b ≡ faulty l → ReportEnds (map fault l) rep → TellsRing (lent_report (map fault l) rep) (reported_to (reporting (map fault l) (length rep))) → (r : List ℕ) × ((link_bundle b ≡ closed r) × RingMet b r)
      by-faults [] e x k = absurd ((faults-only s b v [] e).some refl)
      by-faults (f ∷ fs) e (too_small l x) k = let q = ap (λ (y : Reported). (reported_to y).report) x.answered in absurd (omega (arith, k.0, q))
      by-faults (f ∷ fs) e (whole x) k = absurd (faults-other (f ∷ fs) (faults-only s b v (f ∷ fs) e) (wrote x (fault-some f fs)) k.1)

      go : (y : Outcome) → link_bundle b ≡ y → TellsRing (lent_report (records_of y) rep) (answering (unit_files b) (length rep) (length img) y) → (r : List ℕ) × ((link_bundle b ≡ closed r) × RingMet b r)
      go (faulty l) e k = by-faults l e (report-ends (map fault l) rep) k
      go (closed r) e k = (r, (e, ring_only s b v r e))
      go (ended n p) e k = absurd (omega (arith, k.0))
      go (result q) e k = absurd (silent q.ids (imaging q.items (length img)) k.0)

  -- and always then, where discovery has no fault and the buffer holds the report: it is the one record of a ring of them
  pub ring-answered : faults_of b ≡ [] → ImportEachOther b
      → (r : List ℕ) × (RingMet b r × ((link_answer s rep img ≡ reported_to (reporting (ring r ∷ []) (length rep))) × (link_report s rep ≡ lent_report (ring r ∷ []) rep)))
  unfolding link_answer link_report
  ring-answered c x = let q = ring_always s b v c x in (q.0, (q.1.1, rw (v, q.1.0) (refl, refl)))

  pub ring-told_always : faults_of b ≡ [] → ImportEachOther b → report_length (records_of (link_bundle b)) ≤ length rep → TellsRing (link_report s rep) (link_answer s rep img)
  unfolding link_answer link_report report_bytes joined report.record_bytes
  ring-told_always c x room =
      let q = ring_always s b v c x in
      let f = fits (ring q.0 ∷ []) rep (rw q.1.0 at room) in
      let w = wrote f (ring-some q.0) in
      rw (v, q.1.0, f.answered) (ring-some q.0, first_byte w)
