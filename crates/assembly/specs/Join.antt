-- From the answer of steps 3 and 4 to that of the operation. Assumes nothing.
use Rattle.std.specs.Prelude.{ℕ, ◌≤◌, ◌<◌, ◌≡◌, refl, true, false, List, [], ◌∷◌, map, length, take, drop, replicate}
use Rattle.std.proofs.Common.{arith, sym, subst, ◌∙◌, length-append, take_at}
use Rattle.std.proofs.Math.Path.{ap}
use Rattle.std.proofs.lemmas.List.{length-map}
use Rattle.bundle.specs.Bundle.{Bundle}
use Rattle.bundle.specs.Limits.{file_limit}
use Rattle.bundle.specs.Decode.{decode}
use Rattle.bundle.specs.Read.{verdict}
use Rattle.bundle.specs.Theorems.{accepted}
use Rattle.bundle.specs.Results.{Checked}
use Rattle.bundle.specs.Results.{Ok, Refused}
use Rattle.resolution.specs.Call.{position}
use Rattle.discovery.specs.Discovery.{Fault, paths_of}
use Rattle.discovery.specs.Room.{checked-roomy}
use Rattle.order.specs.Run.{linked, ordered, units_of}
use Rattle.order.specs.Run as order
use Rattle.order.specs.Call.{padded, unit_files, order_answer, order_report}
use Rattle.order.specs.Call as call
use Rattle.order.specs.Report.{fault, lent_report, reporting, nothing_lent, tells, tells-some, tells_none}
use Rattle.order.specs.Theorems.{first_half, order-count}
use Rattle.order.specs.Results.{Reported, Answer}
use Rattle.order.specs.Carried.{order-read, not-refused, units-only, carried}
use Rattle.assembly.specs.Assemble.{Outcome, faulty, program, assembled, assembly_faults, step5, assemble_after, linearize_and_assemble}
use Rattle.assembly.specs.Image.{imaging, lent_image}
use Rattle.assembly.specs.Call.{faults_told, records_of, reported_to, imaged_to, with_image, answering, image_after, assemble_answer, assemble_report, assemble_image}
use Rattle.assembly.specs.Given.{OrderedFilesGiven}
use Rattle.assembly.specs.Results.{Imaged}

-- what is due of an answer and of both buffers
abbrev pub Due : (s report₀ image₀ report₁ image₁ : List ℕ) → Answer → Type 0
Due s report₀ image₀ report₁ image₁ a =
    (a ≡ assemble_answer s report₀ image₀) × ((report₁ ≡ assemble_report s report₀) × (image₁ ≡ assemble_image s image₀))

padded-take : (l : List ℕ) (n : ℕ) → length l ≡ n → take n (padded l) ≡ l
padded-take l n h = take_at l (drop (length l) (replicate file_limit 0)) n h

padded-long : (l : List ℕ) → length l ≤ length (padded l)
padded-long l = omega (arith, length-append l (drop (length l) (replicate file_limit 0)))

-- BOTH OPERATIONS, by the check's answer
module _ (s out img : List ℕ) where
  abbrev b : Bundle
  b = decode s

  module _ (v : verdict s ≡ Ok) where
    assemble_read : (assemble_answer s out img ≡ answering (unit_files b) (length out) (length img) (linearize_and_assemble b))
        × ((assemble_report s out ≡ lent_report (records_of (linearize_and_assemble b)) out) × (assemble_image s img ≡ image_after (linearize_and_assemble b) img))
    unfolding assemble_answer assemble_report assemble_image
    assemble_read = let r = accepted s v in rw r (refl, (refl, refl))

    after_order : (x : order.Outcome) → ordered b ≡ x → linearize_and_assemble b ≡ assemble_after b x
    unfolding linearize_and_assemble
    after_order x e = ap (assemble_after b) e

  module _ (a : Answer) (rep : List ℕ) (is : a ≡ order_answer s out) (lent : rep ≡ order_report s out) where
    -- WHERE THERE ARE NO UNITS the answer of steps 3 and 4 is the answer
    pub no_units : a.units ≡ 0 → Due s out img rep img a
    unfolding assemble_answer assemble_report assemble_image linearize_and_assemble
    no_units h =
        let y = carried s out a rep is lent linearize_and_assemble (λ c o. step5 (assembly_faults c o) o (assembled c o)) (λ c. refl)
        (λ c q. with_image (unit_files c) (length img) q) (λ q i. lent_image q.items i) img (λ q. Unit {0}) (Unit {0}) h in
        (y.answer, (y.report, y.held))

    -- WHERE THERE ARE, they are linked
    linked-read : (v : verdict s ≡ Ok) (o : List ℕ) → ordered b ≡ linked o → OrderedFilesGiven s a.files a.ids a.units × (rep ≡ out)
    linked-read v o e =
        let q : a ≡ call.linking (unit_files b) (padded o) = is ∙ ((order-read s out v).0 ∙ ap (call.answering (unit_files b) (length out)) e) in
        let c = order-count b o ((first_half b (checked-roomy s v).some).order o e) in
        let l = length-map (units_of b) (λ p. position p (paths_of b)) in
        let f = padded-take (unit_files b) (length (unit_files b)) refl in
        let g = padded-take o (length (unit_files b)) (omega arith) in
        let k = padded-long (unit_files b) in
        let m = padded-long o in
        let t : OrderedFilesGiven s (call.linking (unit_files b) (padded o)).files (call.linking (unit_files b) (padded o)).ids (call.linking (unit_files b) (padded o)).units = record {
          of_units = record { checked = v; files_are = f; fits = k };
          order = e ∙ ap linked (sym g);
          ids_fit = omega arith;
        } in
        (subst (λ (z : Answer). OrderedFilesGiven s z.files z.ids z.units) (sym q) t, lent ∙ ((order-read s out v).1 ∙ (ap (λ (z : order.Outcome). lent_report (records_of z) out) e ∙ nothing_lent out)))

    pub units-linked : (a.units ≡ 0 → ⊥) → OrderedFilesGiven s a.files a.ids a.units × (rep ≡ out)
    units-linked h = go (verdict s) refl
      where
        go : (c : Checked) → verdict s ≡ c → OrderedFilesGiven s a.files a.ids a.units × (rep ≡ out)
        go (Refused n p) v = absurd (not-refused s out a rep is lent h n p v)
        go Ok v = let q = units-only s out a rep is lent h v (ordered b) refl in linked-read v q.0 q.1

    -- STEP 5 of linked units
    module _ (x : OrderedFilesGiven s a.files a.ids a.units) where
      abbrev o : List ℕ
      o = take a.units a.ids

      ok : verdict s ≡ Ok
      ok = x.of_units.checked

      step5-is : linearize_and_assemble b ≡ step5 (assembly_faults b o) o (assembled b o)
      step5-is = after_order ok (linked o) x.order

      told-faults : (fs : List Fault) → 0 < length fs → assembly_faults b o ≡ fs → linearize_and_assemble b ≡ faulty fs
      told-faults [] h e = absurd (omega arith)
      told-faults (f ∷ fs) h e = step5-is ∙ ap (λ (l : List Fault). step5 l o (assembled b o)) e

      -- faults of step 5
      module _ (r : Reported) (report₂ : List ℕ) (told : r ≡ reporting (faults_told b o) (length rep)) (kept : rep ≡ out) (is₂ : report₂ ≡ lent_report (faults_told b o) rep) where
        pub faults-told : (d : Answer) → tells r ≡ true → d ≡ reported_to r → Due s out img report₂ img d
        faults-told d some g =
            let q = told-faults (assembly_faults b o) (tells-some (assembly_faults b o) (length rep) (ap tells (sym told) ∙ some)) refl in
            let m = assemble_read ok in (
              g ∙ (ap reported_to (told ∙ ap (λ (z : List ℕ). reporting (faults_told b o) (length z)) kept) ∙ (ap (answering (unit_files b) (length out) (length img)) (sym q) ∙ sym m.0)),
              (is₂ ∙ (ap (lent_report (faults_told b o)) kept ∙ (ap (λ (z : Outcome). lent_report (records_of z) out) (sym q) ∙ sym m.1.0)), ap (λ (z : Outcome). image_after z img) (sym q) ∙ sym m.1.1),
            )

        -- none
        none_told : tells r ≡ false → assembly_faults b o ≡ []
        none_told e = tells_none (assembly_faults b o) (length rep) (ap tells (sym told) ∙ e)

        same-report : tells r ≡ false → report₂ ≡ out
        same-report e = is₂ ∙ (ap (λ (l : List Fault). lent_report (map fault l) rep) (none_told e) ∙ (nothing_lent rep ∙ kept))

        pub image-told : tells r ≡ false → (image₂ : List ℕ) (i : Imaged) (d : Answer) → i ≡ imaging (assembled b o) (length img) → d ≡ imaged_to a.units a.files a.ids i
            → image₂ ≡ lent_image (assembled b o) img → Due s out img report₂ image₂ d
        image-told z image₂ i d e g k =
            let q : linearize_and_assemble b ≡ program o (assembled b o) = step5-is ∙ ap (λ (l : List Fault). step5 l o (assembled b o)) (none_told z) in
            let m = assemble_read ok in
            let t : a ≡ call.linking (unit_files b) (padded o) = is ∙ ((order-read s out ok).0 ∙ ap (call.answering (unit_files b) (length out)) x.order) in (
              g
                  ∙ (ap (imaged_to a.units a.files a.ids) e
                  ∙ (ap (λ (y : Answer). imaged_to y.units y.files y.ids (imaging (assembled b o) (length img))) t
                  ∙ (ap (answering (unit_files b) (length out) (length img)) (sym q) ∙ sym m.0))),
              (
                same-report z ∙ (sym (nothing_lent out) ∙ (ap (λ (y : Outcome). lent_report (records_of y) out) (sym q) ∙ sym m.1.0)),
                k ∙ (ap (λ (y : Outcome). image_after y img) (sym q) ∙ sym m.1.1),
              ),
            )
