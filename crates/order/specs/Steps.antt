-- What the code makes of the record that discovery left. Assumes nothing.
use Rattle.std.specs.Prelude.{ℕ, ◌+◌, ◌<◌, ◌≤◌, ◌≡◌, refl, List, [], ◌∷◌, ◌++◌, length, get_or, set, take, drop, Ok, Err}
use Rattle.std.proofs.Common.{add-one, arith, sym, ap, ◌∙◌, length-take-le, take-suc}
use Rattle.std.proofs.lemmas.List.{length-replicate, length-map}
use Rattle.bundle.specs.Limits.{file_limit, use_limit}
use Rattle.driver.specs.declared.record.Graph.{Graph}
use Rattle.discovery.specs.Discovery.{Fault}
use Rattle.driver.specs.Meaning.{fault_told, faults_of}
use Rattle.graph.specs.declared.Graph as given
use Rattle.graph.specs.declared.Unordered.TheVariants.{Ring}
use Rattle.graph.specs.Linearize.{Out, order, ring, linearize}
use Rattle.graph.specs.Given.{deps_of, refusal, linearize_given}
use Rattle.graph.specs.GivenFacts.{sound-of, within_of}
use Rattle.graph.specs.Padded.{padded}
use Rattle.graph.specs.Told.{told}
use Rattle.graph.specs.ToldTheorems.{order-told, ring-told}
use Rattle.order.specs.Run.{Outcome, faulty, step4, outcome}
use Rattle.order.specs.Report.{records_of, lent_report, reporting, nothing_lent}
use Rattle.order.specs.Writing.{fault_records, ring_records}
use Rattle.encoder.specs.Started.{put_one}
use Rattle.order.specs.Call.{cleared, reported_to, linking, answering}
use Rattle.order.specs.Results.{Reported, Answer}

-- its lists as a graph given directly
abbrev pub given_of : Graph → given.Graph
given_of g = record { start = g.start; len = g.len; ids = g.ids; units = g.units; count = g.count }

-- the faults are within their array, and the graph is not refused
pub record Found (g : Graph) : Type 0 where
  pub few : g.fault_count ≤ use_limit
  pub sound : refusal (given_of g) ≡ 0

abbrev pub outcome_of : Graph → Outcome
outcome_of g = outcome (faults_of g) (linearize (deps_of (given_of g)) g.units)

abbrev pub answer_of : Graph → ℕ → Answer
answer_of g n = answering (take g.units g.files) n (outcome_of g)

-- THE COPY of the units' files
-- the first i at the start of cleared places
pub record CopiedTo (files found : List ℕ) (units i : ℕ) : Type 0 where
  pub few : i ≤ units
  pub so_far : found ≡ take i files ++ drop i cleared

module _ (files : List ℕ) (units : ℕ) (fit : units ≤ length files) (small : units ≤ file_limit) where
  pub copied_none : CopiedTo files cleared units 0
  copied_none = record { few = omega arith; so_far = refl }

  pub copied-one : (found : List ℕ) (i : ℕ) → i < units → CopiedTo files found units i → CopiedTo files (set found i (get_or files i 0)) units (i + 1)
  copied-one found i h c =
      let lt : i < length files = omega arith in
      record {
        few = omega arith;
        so_far =
            ap (λ (l : List ℕ). set l i (get_or files i 0)) c.so_far
            ∙ (put_one (take i files) cleared i (length-take-le i files (omega arith)) (get_or files i 0) (omega (arith, length-replicate {A = ℕ} file_limit 0))
            ∙ ap (λ (l : List ℕ). l ++ drop (i + 1) cleared) (sym (ap (λ (k : ℕ). take k files) (add-one i) ∙ take-suc files i 0 lt)));
      }

  pub copied_all : (found ids : List ℕ) (i : ℕ) → units ≤ i → CopiedTo files found units i
      → ◌≡◌ {A = Answer} (record { number = 0; place = 0; report = 0; units = units; files = found; ids = ids; image = 0 }) (linking (take units files) ids)
  copied_all found ids i h c =
      let e : i ≡ units = let k = c.few in omega arith in
      let n = length-take-le units files fit in
      let f : found ≡ take units files ++ drop (length (take units files)) cleared = c.so_far ∙ (ap (λ (k : ℕ). take k files ++ drop k cleared) e ∙ ap (λ (k : ℕ). take units files ++ drop k cleared) (sym n)) in
      ap (λ (k : ℕ). record { number = 0; place = 0; report = 0; units = k; files = found; ids = ids; image = 0 }) (sym n)
      ∙ ap (λ (l : List ℕ). record { number = 0; place = 0; report = 0; units = length (take units files); files = l; ids = ids; image = 0 }) f

-- THE ANSWERS
some-faulty : (fs : List Fault) (x : Out) → 0 < length fs → outcome fs x ≡ faulty fs
some-faulty [] x h = absurd (omega arith)
some-faulty (f ∷ fs) x h = refl

module _ (g : Graph) (f : Found g) where
  abbrev walk : Out
  walk = linearize (deps_of (given_of g)) g.units

  pub units-few : g.units ≤ file_limit
  units-few = (sound-of (given_of g) f.sound).small

  pub some-units : 0 < g.units
  some-units = (within_of (given_of g) f.sound).some

  module _ (out : List ℕ) (a : Answer) where
    pub told-faults : (r : Reported) (final : List ℕ) → 0 < g.fault_count → g.fault_count ≤ length g.faults
        → r ≡ reporting (fault_records (take g.fault_count g.faults)) (length out) → a ≡ reported_to r
        → final ≡ lent_report (fault_records (take g.fault_count g.faults)) out
        → (a ≡ answer_of g (length out)) × (final ≡ lent_report (records_of (outcome_of g)) out)
    told-faults r final some h e k m =
        let n = length-map (take g.fault_count g.faults) fault_told in
        let w = length-take-le g.fault_count g.faults h in
        let q = some-faulty (faults_of g) walk (omega arith) in
        (k ∙ (ap reported_to e ∙ ap (answering (take g.units g.files) (length out)) (sym q)), m ∙ ap (λ (x : Outcome). lent_report (records_of x) out) (sym q))

    module _ (none : g.fault_count ≡ 0) where
      ended_by : (x : Out) → walk ≡ x → outcome_of g ≡ step4 x
      ended_by x e = rw (none, e)

      pub told-order : (o : List ℕ) → told (Ok o) ≡ linearize_given (given_of g) → a ≡ linking (take g.units g.files) (padded o)
          → (a ≡ answer_of g (length out)) × (out ≡ lent_report (records_of (outcome_of g)) out)
      told-order o w k =
          let q = ended_by (order o) (order-told (given_of g) f.sound o w) in
          (rw q k, rw q (sym (nothing_lent out)))

      pub told-ring : (ids : List ℕ) (r : Reported) (final : List ℕ) → told (Err (Ring ids)) ≡ linearize_given (given_of g)
          → r ≡ reporting (ring_records ids) (length out) → a ≡ reported_to r → final ≡ lent_report (ring_records ids) out
          → (a ≡ answer_of g (length out)) × (final ≡ lent_report (records_of (outcome_of g)) out)
      told-ring ids r final w e k m =
          let q = ended_by (ring ids) (ring-told (given_of g) f.sound ids w) in
          (rw q (k ∙ ap reported_to e), rw q m)
