-- The record that discovery's code leaves is the definition's graph: so what is answered from it is the answer for the bundle.
-- Assumes nothing.
use Prim.Native.Nat.{ℕ, zero, suc, ◌+◌, ◌<◌, ◌≤◌}
use Rattle.std.proofs.Common.{le_of_suc-le-suc, eq-or-lt_of_le, arith, sym, subst, ◌∙◌, ⊎_elim}
use Rattle.std.specs.Prelude.{◌≡◌, Bool, true, false, eqb, length, take}
use Rattle.std.proofs.Math.Path.{refl, ap}
use Rattle.std.proofs.Math.Bool.{cond}
use mathlib.Core.List.Memᴰ
use mathlib.Core.List.{List, [], ◌∷◌, ◌++◌, map, Memᴰ}
use Rattle.std.proofs.Math.Dec.{ltb}
use Rattle.std.proofs.Math.ListN.{get_or, get_or-append}
use Rattle.std.proofs.lemmas.List.{length-map}
use Rattle.std.proofs.Math.Seq.{get_or-append_seam}
use borrow.Author.Tests.{lt-ltb, le-leb}
use Rattle.bundle.specs.Bundle.{Text, File, Bundle}
use Rattle.bundle.specs.Limits.{file_limit, use_limit}
use Rattle.bundle.specs.Form.{WellFormed}
use Rattle.bundle.specs.Stand.{Bytes}
use Rattle.bundle.specs.Decode.{decode}
use Rattle.bundle.specs.Read.{verdict}
use Rattle.bundle.specs.Theorems.{sound, accepted, told}
use Rattle.bundle.specs.Results.{Ok, Refused}
use Rattle.resolution.specs.Call.{position}
use Rattle.driver.specs.declared.record.Graph.{Graph}
use Rattle.discovery.specs.Discovery.{Fault, discover_dependencies, paths_of}
use Rattle.discovery.specs.Weight.{reached-file}
use Rattle.discovery.specs.Right.{discovered}
use Rattle.driver.specs.Meaning.{faults_of}
use Rattle.driver.specs.Turns.{first_lists, length-lists, Discovers}
use Rattle.driver.specs.Turns as record_of
use Rattle.discovery.specs.Room.{checked-roomy}
use Rattle.discovery.specs.Discovery as definition
use Rattle.graph.specs.Linearize.{Out, order, ring, memb, from, and_then, each, visit, linearize}
use Rattle.graph.specs.Order.{Within}
use Rattle.graph.specs.Given.{deps_of, below, all, fits, knows, fitting, known}
use Rattle.graph.specs.GivenFacts.{is-accepted}
use Rattle.order.specs.Run.{list_of, outcome, ordered, units_of}
use Rattle.order.specs.Units.{within}
use Rattle.order.specs.Listed.{placed}
use Rattle.order.specs.Report.{records_of, lent_report}
use Rattle.order.specs.Call.{refusing, answering, unit_files, order_answer, order_report}
use Rattle.order.specs.Steps.{given_of, Found, outcome_of, answer_of}
use Rattle.order.specs.Results.{Answer}

-- THE WALK LOOKS AT UNITS ALONE: where the lists of the n units are the same, the answer is
module _ (deps deps' : ℕ → List ℕ) (n : ℕ) (w : Within deps n) (same : (u : ℕ) → u < n → deps u ≡ deps' u) where
  each_agree : (v v' : List ℕ → ℕ → Out) (u : ℕ) → ((o : List ℕ) (d : ℕ) → d < n → v o d ≡ v' o d)
      → (ds : List ℕ) → ((d : ℕ) → Memᴰ d ds → d < n) → (o : List ℕ) → each v u o ds ≡ each v' u o ds
  unfolding each
  each_agree v v' u h [] k o = refl
  each_agree v v' u h (d ∷ ds) k o =
      let below-d = k d (Memᴰ.head refl) in
      let rest : (o' : List ℕ) → each v u o' ds ≡ each v' u o' ds = each_agree v v' u h ds (λ x m. k x (Memᴰ.tail m)) in
      go (eqb d u) (v o d) (v' o d) (h o d below-d) rest
    where
      after : (x : Out) → ((o' : List ℕ) → each v u o' ds ≡ each v' u o' ds) → and_then x (λ o'. each v u o' ds) ≡ and_then x (λ o'. each v' u o' ds)
      after (order o') r = r o'
      after (ring l) r = refl

      go : (t : Bool) (x x' : Out) → x ≡ x' → ((o' : List ℕ) → each v u o' ds ≡ each v' u o' ds)
          → cond t (each v u o ds) (and_then x (λ o'. each v u o' ds)) ≡ cond t (each v' u o ds) (and_then x' (λ o'. each v' u o' ds))
      go true x x' e r = r o
      go false x x' e r = after x r ∙ ap (λ (y : Out). and_then y (λ o'. each v' u o' ds)) e

  visit_agree : (k : ℕ) (s o : List ℕ) (u : ℕ) → u < n → visit deps k s o u ≡ visit deps' k s o u
  unfolding visit
  visit_agree zero s o u h = refl
  visit_agree (suc k) s o u h =
      let e = each_agree (visit deps k (s ++ (u ∷ []))) (visit deps' k (s ++ (u ∷ []))) u (λ o' d b. visit_agree k (s ++ (u ∷ [])) o' d b) (deps u) (λ d m. w.lists u d h m) o
      ∙ ap (each (visit deps' k (s ++ (u ∷ []))) u o) (same u h) in
      ap (λ (x : Out). cond (memb u o) (order o) (cond (memb u s) (ring (from u s)) (and_then x (λ o'. order (o' ++ (u ∷ [])))))) e

  pub linearize_agree : linearize deps n ≡ linearize deps' n
  unfolding linearize
  linearize_agree = visit_agree (suc n) [] [] 0 w.some

-- TESTS
below_all : (f : ℕ → Bool) (n : ℕ) → ((u : ℕ) → u < n → f u ≡ true) → below n f ≡ true
unfolding below
below_all f zero h = refl
below_all f (suc n) h = let e = below_all f n (λ u k. h u (omega arith)) in rw (e, h n (omega arith))

all_of : (f : ℕ → Bool) (l : List ℕ) → ((d : ℕ) → Memᴰ d l → f d ≡ true) → all f l ≡ true
unfolding all
all_of f [] h = refl
all_of f (x ∷ l) h = let e = all_of f l (λ d m. h d (Memᴰ.tail m)) in rw (h x (Memᴰ.head refl), e)

-- WHAT THE RECORD IS
pub record Stands (b : Bundle) (g : Graph) : Type 0 where
  -- unit u is the file files[u], known by its first place among the files
  pub units : length (units_of b) ≡ g.units
  pub sources : units_of b ≡ map (λ x. get_or (paths_of b) x []) (take g.units g.files)
  pub places : (x : ℕ) → Memᴰ x (take g.units g.files) → position (get_or (paths_of b) x []) (paths_of b) ≡ x
  -- and lists what the definition's does
  pub lists : (u : ℕ) → u < g.units → list_of (discover_dependencies b) u ≡ deps_of (given_of g) u
  pub faults : faults_of g ≡ (discover_dependencies b).faults
  -- within the arrays
  pub small : g.units ≤ file_limit
  pub few : g.fault_count ≤ use_limit
  pub ids : g.count ≤ use_limit
  pub fit : (u : ℕ) → u < g.units → get_or g.start u 0 + get_or g.len u 0 ≤ g.count

module _ (b : Bundle) (some : 0 < length b.files) (g : Graph) (t : Stands b g) where
  abbrev lists_of : ℕ → List ℕ
  lists_of = list_of (discover_dependencies b)

  units-within : Within lists_of g.units
  units-within = subst (λ (n : ℕ). Within lists_of n) t.units (within b (discover_dependencies b) (discovered b) (omega (arith, length-map b.files (λ (f : File). f.path))))

  fitting-is : fitting (given_of g) ≡ true
  unfolding fitting
  fitting-is = below_all (fits (given_of g)) g.units (λ u h. le-leb (get_or g.start u 0 + get_or g.len u 0) g.count (t.fit u h))

  known_is : known (given_of g) ≡ true
  unfolding known
  known_is =
      below_all (knows (given_of g)) g.units
      (λ u h. all_of (λ d. ltb d g.units) (deps_of (given_of g) u)
      (λ d m. lt-ltb d g.units (units-within.lists u d h (subst (λ (l : List ℕ). Memᴰ d l) (sym (t.lists u h)) m))))

  pub stands-found : Found g
  stands-found = record { few = t.few; sound = sym (is-accepted (given_of g) units-within.some t.small t.ids fitting-is known_is) }

  pub stands-outcome : outcome_of g ≡ ordered b
  unfolding ordered
  stands-outcome =
      ap (λ (fs : List Fault). outcome fs (linearize (deps_of (given_of g)) g.units)) t.faults
      ∙ ap (outcome (discover_dependencies b).faults)
      (sym (linearize_agree lists_of (deps_of (given_of g)) g.units units-within t.lists) ∙ ap (linearize lists_of) (sym t.units))

  back : (l : List ℕ) → ((x : ℕ) → Memᴰ x l → position (get_or (paths_of b) x []) (paths_of b) ≡ x)
      → map (λ p. position p (paths_of b)) (map (λ x. get_or (paths_of b) x []) l) ≡ l
  back [] h = refl
  back (x ∷ l) h = rw (h x (Memᴰ.head refl), back l (λ y m. h y (Memᴰ.tail m)))

  pub stands-files : take g.units g.files ≡ unit_files b
  stands-files = sym (ap (map (λ (p : Text). position p (paths_of b))) t.sources ∙ back (take g.units g.files) t.places)

-- WHAT DISCOVERY'S CONTRACT SAYS
list_at : (n : ℕ) (f : ℕ → List ℕ) (u : ℕ) → u < n → get_or (first_lists n f) u [] ≡ f u
unfolding first_lists
list_at zero f u h = absurd (omega arith)
list_at (suc n) f u h =
    let l = length-lists n f in
    ⊎_elim
    (λ e. ap (λ (k : ℕ). get_or (first_lists n f ++ (f n ∷ [])) k []) (e ∙ sym l) ∙ (get_or-append_seam (first_lists n f) (f n) [] [] ∙ ap f (sym e)))
    (λ lt. get_or-append (first_lists n f) (f n ∷ []) [] u (omega arith) ∙ list_at n f u lt)
    (eq-or-lt_of_le (le_of_suc-le-suc h))

module _ (b : Bundle) (w : WellFormed b) (g : Graph) (d : Discovers b g) where
  sources-are : units_of b ≡ map (λ x. get_or (paths_of b) x []) (take g.units g.files)
  sources-are = sym (ap (λ (x : definition.Graph). x.sources) d.is)

  pub stands : Stands b g
  stands =
      let n = length-lists g.units (record_of.list_of g) in
      let deps : (discover_dependencies b).dependencies ≡ first_lists g.units (record_of.list_of g) = sym (ap (λ (x : definition.Graph). x.dependencies) d.is) in
      record {
        units = sym (discovered b).handled_all ∙ (ap length deps ∙ n);
        sources = sources-are;
        places = λ x m. placed b w x (reached-file b (get_or (paths_of b) x [])
            ((discovered b).sound (get_or (paths_of b) x []) (subst (λ (l : List Text). Memᴰ (get_or (paths_of b) x []) l) (sym sources-are) (Memᴰ.map (λ (y : ℕ). get_or (paths_of b) y []) m))));
        lists = λ u h. ap (λ (l : List (List ℕ)). get_or l u []) deps ∙ list_at g.units (record_of.list_of g) u h;
        faults = ap (λ (x : definition.Graph). x.faults) d.is;
        small = d.units;
        few = d.faults;
        ids = d.ids;
        fit = d.lists;
      }

-- THE OPERATION
-- a bundle that is refused
pub turned_back : (s out : List ℕ) (a : Answer) (n p : ℕ) → verdict s ≡ Refused n p → a ≡ refusing n p → (a ≡ order_answer s out) × (out ≡ order_report s out)
unfolding order_answer order_report
turned_back s out a n p v e = let r = told s n p v in rw r (e, refl)

-- one that is not
module _ (s : List ℕ) (bytes : Bytes s) (ok : verdict s ≡ Ok) (g : Graph) (d : Discovers (decode s) g) where
  g-stands : Stands (decode s) g
  g-stands = stands (decode s) (sound s bytes (decode s) (accepted s ok)).1 g d

  pub ready : Found g
  ready = stands-found (decode s) (checked-roomy s ok).some g g-stands

  pub answered : (out final : List ℕ) (a : Answer) → a ≡ answer_of g (length out) → final ≡ lent_report (records_of (outcome_of g)) out
      → (a ≡ order_answer s out) × (final ≡ order_report s out)
  unfolding order_answer order_report
  answered out final a e f =
      let x = stands-outcome (decode s) (checked-roomy s ok).some g g-stands in
      let y = stands-files (decode s) (checked-roomy s ok).some g g-stands in
      let r = accepted s ok in
      rw r (
        e ∙ (ap (λ (l : List ℕ). answering l (length out) (outcome_of g)) y ∙ ap (answering (unit_files (decode s)) (length out)) x),
        f ∙ ap (λ o. lent_report (records_of o) out) x,
      )
