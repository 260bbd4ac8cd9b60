-- What steps 3 and 4 tell is what every run tells that goes on after them. Assumes nothing.
use Rattle.std.specs.Prelude.{ℕ, ◌<◌, ◌≡◌, refl, List, [], ◌∷◌, map, length}
use Rattle.std.proofs.Common.{arith, ap, ◌∙◌}
use Rattle.std.proofs.lemmas.List.{length-map}
use Rattle.bundle.specs.Bundle.{File, Bundle}
use Rattle.bundle.specs.Decode.{decode}
use Rattle.bundle.specs.Read.{verdict, read}
use Rattle.bundle.specs.Theorems.{accepted, told}
use Rattle.bundle.specs.Results.{Checked}
use Rattle.bundle.specs.Results.{Ok, Refused}
use Rattle.resolution.specs.Call.{position}
use Rattle.discovery.specs.Discovery.{discover_dependencies, paths_of}
use Rattle.discovery.specs.Right.{discovered}
use Rattle.discovery.specs.Room.{checked-roomy}
use Rattle.order.specs.Outcome.{Outcome, faulty, closed, ended, result, and_then, result_or, ResultOr}
use Rattle.order.specs.Run.{ordered, units_of}
use Rattle.order.specs.Units.{some-unit}
use Rattle.order.specs.Report.{fault, ring, records_of, lent_report, reporting}
use Rattle.order.specs.Call.{refusing, reported_to, answering, answer_by, unit_files, answer_from, report_from, held_from, KeptFrom, order_answer, order_report}
use Rattle.order.specs.Results.{Reported, Answer}
use Rattle.order.specs.Results as reported

-- a bundle with a file has a unit
pub some-file-unit : (b : Bundle) → 0 < length b.files → 0 < length (units_of b)
some-file-unit b some = some-unit b (discover_dependencies b) (discovered b) (omega (arith, length-map b.files (λ (f : File). f.path)))

-- no answer that tells something has units
pub report-units : (x : Reported) → (reported_to x).units ≡ 0
report-units (reported.Report n) = refl
report-units (reported.Refused n p) = refl

module _ (s out : List ℕ) where
  abbrev b : Bundle
  b = decode s

  pub order-refused : (n p : ℕ) → verdict s ≡ Refused n p → (order_answer s out ≡ refusing n p) × (order_report s out ≡ out)
  unfolding order_answer order_report
  order-refused n p v = let r = told s n p v in rw r (refl, refl)

  pub order-read : verdict s ≡ Ok → (order_answer s out ≡ answering (unit_files b) (length out) (ordered b)) × (order_report s out ≡ lent_report (records_of (ordered b)) out)
  unfolding order_answer order_report
  order-read v = let r = accepted s v in rw r (refl, refl)

  module _ (a : Answer) (rep : List ℕ) (is : a ≡ order_answer s out) (lent : rep ≡ order_report s out) where
    -- the units of a linked order
    pub linked-units : verdict s ≡ Ok → (o : List ℕ) → ordered b ≡ result o → a.units ≡ length (units_of b)
    linked-units v o e =
        ap (λ (z : Answer). z.units) (is ∙ ((order-read v).0 ∙ ap (answering (unit_files b) (length out)) e)) ∙ length-map (units_of b) (λ p. position p (paths_of b))

    -- units are of a linked order alone
    pub units-only : (a.units ≡ 0 → ⊥) → (v : verdict s ≡ Ok) → (x : Outcome (List ℕ)) → ordered b ≡ x → (o : List ℕ) × (ordered b ≡ result o)
    units-only h v (result o) e = (o, e)
    units-only h v (faulty l) e = absurd (h (ap (λ (z : Answer). z.units) (is ∙ ((order-read v).0 ∙ ap (answering (unit_files b) (length out)) e)) ∙ report-units (reporting (map fault l) (length out))))
    units-only h v (closed r) e = absurd (h (ap (λ (z : Answer). z.units) (is ∙ ((order-read v).0 ∙ ap (answering (unit_files b) (length out)) e)) ∙ report-units (reporting (ring r ∷ []) (length out))))
    units-only h v (ended n p) e = absurd (h (ap (λ (z : Answer). z.units) (is ∙ ((order-read v).0 ∙ ap (answering (unit_files b) (length out)) e))))

    pub not-refused : (a.units ≡ 0 → ⊥) → (n p : ℕ) → verdict s ≡ Refused n p → ⊥
    not-refused h n p v = h (ap (λ (z : Answer). z.units) (is ∙ (order-refused n p v).0))

    -- A RUN that goes on after a linked order
    module _ {A : Type 0} (run : Bundle → Outcome A) (k : Bundle → List ℕ → Outcome A) (after : (c : Bundle) → run c ≡ and_then (ordered c) (k c)) where
      -- where there are no units its answer is a, its report rep, and nothing else is changed
      pub record Carried (f : Bundle → A → Answer) (g : A → List ℕ → List ℕ) (img : List ℕ) (P : A → Type 0) (Q : Type 0) : Type 0 where
        pub answer : a ≡ answer_from run f (read s) (length out)
        pub report : rep ≡ report_from run (read s) out
        pub held : img ≡ held_from run g (read s) img
        pub kept : Q → KeptFrom run P Q (read s)

      module _ (f : Bundle → A → Answer) (g : A → List ℕ → List ℕ) (img : List ℕ) (P : A → Type 0) (Q : Type 0) where
        -- an outcome of the two steps that leads on to the same
        carried_as : (v : verdict s ≡ Ok) (x : Outcome (List ℕ)) (y : Outcome A) → ordered b ≡ x → run b ≡ y → answering (unit_files b) (length out) x ≡ answer_by (f b) (length out) y → records_of x ≡ records_of y
            → img ≡ result_or (λ z. g z img) img y → (Q → ResultOr P Q y) → Carried f g img P Q
        carried_as v x y e l h i j m =
            let o = order-read v in
            let r = accepted s v in
            record {
              answer = rw (r, l) (is ∙ (o.0 ∙ (ap (answering (unit_files b) (length out)) e ∙ h)));
              report = rw (r, l) (lent ∙ (o.1 ∙ (ap (λ (z : Outcome (List ℕ)). lent_report (records_of z) out) e ∙ ap (λ l. lent_report l out) i)));
              held = rw (r, l) j;
              kept = λ q. rw (r, l) (m q);
            }

        by-outcome : (v : verdict s ≡ Ok) (x : Outcome (List ℕ)) → ordered b ≡ x → a.units ≡ 0 → Carried f g img P Q
        by-outcome v (faulty l) e z = carried_as v (faulty l) (faulty l) e (after b ∙ ap (λ (x : Outcome (List ℕ)). and_then x (k b)) e) refl refl refl (λ q. q)
        by-outcome v (closed r) e z = carried_as v (closed r) (closed r) e (after b ∙ ap (λ (x : Outcome (List ℕ)). and_then x (k b)) e) refl refl refl (λ q. q)
        by-outcome v (ended n p) e z = carried_as v (ended n p) (ended n p) e (after b ∙ ap (λ (x : Outcome (List ℕ)). and_then x (k b)) e) refl refl refl (λ q. q)
        by-outcome v (result o) e z = let n = some-file-unit b (checked-roomy s v).some in let q = linked-units v o e in absurd (omega arith)

        pub carried : a.units ≡ 0 → Carried f g img P Q
        carried z = go (verdict s) refl
          where
            go : (c : Checked) → verdict s ≡ c → Carried f g img P Q
            go Ok v = by-outcome v (ordered b) refl z
            go (Refused n p) v =
                let y = order-refused n p v in
                let r = told s n p v in
                record { answer = rw r (is ∙ y.0); report = rw r (lent ∙ y.1); held = rw r refl; kept = λ q. rw r q }
