-- DEMAND 3, FIRST HALF, of the files of any bundle: what the order and the ring that `ordered` gives are, and when it gives
-- which. Assumes nothing.
use Rattle.std.specs.Prelude.{ℕ, suc, ◌<◌, ◌≡◌, length}
use Rattle.std.proofs.Common.{arith, sym, ap, subst, ◌∙◌}
use Rattle.std.proofs.Math.Path.{refl}
use mathlib.Core.List.{List, [], ◌∷◌, Memᴰ}
use Rattle.std.proofs.lemmas.List.{length-map}
use Rattle.bundle.specs.Bundle.{Text, File, Bundle}
use Rattle.bundle.specs.Decode.{decode}
use Rattle.bundle.specs.Answers.{value-ok}
use Rattle.bundle.specs.Read.{verdict, value, read}
use Rattle.resolution.specs.Lists.{lists_of}
use Rattle.resolution.specs.Resolution.{to, resolve_path_internal}
use Rattle.discovery.specs.Discovery.{Use, uses, program_of, Fault, discover_dependencies, paths_of}
use Rattle.discovery.specs.Reached.{Reached, Once}
use Rattle.discovery.specs.Facts.{paths_at, pigeons}
use Rattle.discovery.specs.Right.{discovered}
use Rattle.discovery.specs.Clean.{no_fault}
use Rattle.discovery.specs.Room.{checked-roomy}
use Rattle.graph.specs.Linearize.{Out, order, ring}
use Rattle.graph.specs.Order.{Within}
use Rattle.graph.specs.Order as graph
use Rattle.graph.specs.OrderTheorems.{Linearizes, linearize-right, ring-there}
use Rattle.order.specs.Run.{list_of, walk_of, Outcome, faulty, closed, ended, linked, outcome, ordered, units_of, files_of}
use Rattle.order.specs.Files.{LinkedFiles, RingOfFiles, ImportEachOther, NamedRing}
use Rattle.order.specs.Units.{within, reaches_below, ids-below, all_units, linked-files, ring_files, named-files, cyclic_files, files_cyclic, ring-each-other, reached-some}

-- the faults of discovery
abbrev pub faults_of : Bundle → List Fault
faults_of b = (discover_dependencies b).faults

-- the ids are those of the units, each once
pub record LinkedIds (b : Bundle) (o : List ℕ) : Type 0 where
  pub below : (u : ℕ) → Memᴰ u o → u < length (units_of b)
  pub all : (u : ℕ) → u < length (units_of b) → Memᴰ u o
  pub once : graph.Once o

-- what a use of f resolves to is a linked file
pub record ToLinked (b : Bundle) (o : List ℕ) (f : Text) (u : Use) : Type 0 where
  pub target : Text
  pub rest : List Text
  pub resolves : resolve_path_internal (lists_of b) f u.segments ≡ to target rest
  pub linked : Memᴰ target (files_of b o)

-- a ring that is told: discovery has no fault, two or more different reached files import each other, and the ring is named
pub record RingMet (b : Bundle) (r : List ℕ) : Type 0 where
  pub faultless : faults_of b ≡ []
  pub each_other : ImportEachOther b
  pub named : NamedRing b (files_of b r)

-- what is due of an outcome
pub record FirstHalf (b : Bundle) (x : Outcome) : Type 0 where
  -- "a linked program's units are exactly the reached files, each once, each after every other file it imports"
  pub order : (o : List ℕ) → x ≡ linked o → LinkedFiles b (files_of b o)
  -- "a ring is refused exactly when two or more different reached files import each other in one". Only then
  pub ring_only : (r : List ℕ) → x ≡ closed r → RingOfFiles b (files_of b r)
  pub mutual_only : (r : List ℕ) → x ≡ closed r → ImportEachOther b
  -- and always then, whichever files they are; discovery faults prevent step 4
  pub ring_always : faults_of b ≡ [] → (l : List Text) → RingOfFiles b l → (r : List ℕ) × (x ≡ closed r)
  pub mutual_always : faults_of b ≡ [] → ImportEachOther b → (r : List ℕ) × (x ≡ closed r)
  pub no_ring : (o : List ℕ) → x ≡ linked o → ImportEachOther b → ⊥
  -- "and such a ring is named", from the one of its files on that the walk came to first
  pub named : (r : List ℕ) → x ≡ closed r → NamedRing b (files_of b r)
  -- the faults are discovery's, one at least; where it has none there is an order or a ring
  pub faults : (l : List Fault) → x ≡ faulty l → (l ≡ faults_of b) × (l ≡ [] → ⊥)
  pub order_faultless : (o : List ℕ) → x ≡ linked o → faults_of b ≡ []
  pub ring_faultless : (r : List ℕ) → x ≡ closed r → faults_of b ≡ []
  -- the ids of a ring and of an order, and what the uses of its files resolve to
  pub ring_once : (r : List ℕ) → x ≡ closed r → graph.Once r
  pub ring_ids : (r : List ℕ) → x ≡ closed r → (u : ℕ) → Memᴰ u r → u < length (units_of b)
  pub ids : (o : List ℕ) → x ≡ linked o → LinkedIds b o
  pub uses_linked : (o : List ℕ) → x ≡ linked o → (f : Text) → Reached b f → (u : Use) → Memᴰ u (uses (program_of b.files f)) → ToLinked b o f u

linked-closed : {o r : List ℕ} → linked o ≡ closed r → ⊥
linked-closed e = let z : ◌≡◌ {A = ℕ} 0 1 = cc in omega arith

faulty-linked : {l : List Fault} {o : List ℕ} → faulty l ≡ linked o → ⊥
faulty-linked e = let z : ◌≡◌ {A = ℕ} 0 1 = cc in omega arith

faulty-closed : {l : List Fault} {r : List ℕ} → ◌≡◌ {A = Outcome} (faulty l) (closed r) → ⊥
faulty-closed e = let z : ◌≡◌ {A = ℕ} 0 1 = cc in omega arith

some-faults : {f : Fault} {l : List Fault} → f ∷ l ≡ [] → ⊥
some-faults e = let z : ◌≡◌ {A = ℕ} 0 1 = cc in omega arith

module _ (b : Bundle) (some : 0 < length b.files) where
  some-path : 0 < length (paths_of b)
  some-path = omega (arith, length-map b.files (λ (f : File). f.path))

  units-within : Within (list_of (discover_dependencies b)) (length (units_of b))
  units-within = within b (discover_dependencies b) (discovered b) some-path

  -- an order
  module _ (o : List ℕ) (clean : faults_of b ≡ []) (r : Linearizes (list_of (discover_dependencies b)) (order o)) where
    right-order : FirstHalf b (linked o)
    right-order =
        let files : LinkedFiles b (files_of b o) = linked-files b (discover_dependencies b) (discovered b) some-path o r.0 in
        let none : ImportEachOther b → ⊥ = λ x. r.1 (files_cyclic b (discover_dependencies b) (discovered b) x) in
        record {
          order = λ o' e. let q : o ≡ o' = cc in subst (λ (k : List ℕ). LinkedFiles b (files_of b k)) q files;
          ring_only = λ l e. absurd (linked-closed e);
          mutual_only = λ l e. absurd (linked-closed e);
          ring_always = λ c l x. absurd (none (ring-each-other b l x));
          mutual_always = λ c x. absurd (none x);
          no_ring = λ o' e x. none x;
          named = λ l e. absurd (linked-closed e);
          faults = λ l e. absurd (faulty-linked (sym e));
          order_faultless = λ o' e. clean;
          ring_faultless = λ l e. clean;
          ring_once = λ l e. absurd (linked-closed e);
          ring_ids = λ l e. absurd (linked-closed e);
          ids = λ o' e.
              let q : o ≡ o' = cc in
              subst (LinkedIds b) q (record {
                below = ids-below b (discover_dependencies b) (discovered b) some-path o r.0;
                all = all_units b (discover_dependencies b) (discovered b) some-path o r.0;
                once = r.0.once;
              });
          uses_linked = λ o' e f h u m.
              let q : o ≡ o' = cc in
              let t = no_fault b clean f h u m in
              subst (λ (k : List ℕ). ToLinked b k f u) q (record {
                target = t.target;
                rest = t.rest;
                resolves = t.resolves;
                linked = files.complete t.target ((discovered b).sound t.target t.unit);
              });
        }

  -- a ring
  module _ (l : List ℕ) (clean : faults_of b ≡ []) (r : Linearizes (list_of (discover_dependencies b)) (ring l)) where
    right-ring : FirstHalf b (closed l)
    right-ring =
        let files : NamedRing b (files_of b l) = named-files b (discover_dependencies b) (discovered b) some-path r.0 in
        record {
          order = λ o e. absurd (linked-closed (sym e));
          ring_only = λ k e. let q : l ≡ k = cc in subst (λ (i : List ℕ). RingOfFiles b (files_of b i)) q files.ring;
          mutual_only = λ k e. cyclic_files b (discover_dependencies b) (discovered b) some-path r.1;
          ring_always = λ c k x. (l, refl);
          mutual_always = λ c x. (l, refl);
          no_ring = λ o e x. linked-closed (sym e);
          named = λ k e. let q : l ≡ k = cc in subst (λ (i : List ℕ). NamedRing b (files_of b i)) q files;
          faults = λ k e. absurd (faulty-closed (sym e));
          order_faultless = λ o e. clean;
          ring_faultless = λ k e. clean;
          ring_once = λ k e. let q : l ≡ k = cc in subst graph.Once q r.0.ring.once;
          ring_ids = λ k e u m.
              let q : l ≡ k = cc in
              reaches_below b (discover_dependencies b) (discovered b) units-within.some (r.0.ring.reached u (subst (λ (i : List ℕ). Memᴰ u i) (sym q) m));
          ids = λ o e. absurd (linked-closed (sym e));
          uses_linked = λ o e. absurd (linked-closed (sym e));
        }

  -- faults
  right-faults : (f : Fault) (fs : List Fault) → faults_of b ≡ f ∷ fs → FirstHalf b (faulty (f ∷ fs))
  right-faults f fs told = record {
    order = λ o e. absurd (faulty-linked e);
    ring_only = λ k e. absurd (faulty-closed e);
    mutual_only = λ k e. absurd (faulty-closed e);
    ring_always = λ c k x. absurd (some-faults (sym told ∙ c));
    mutual_always = λ c x. absurd (some-faults (sym told ∙ c));
    no_ring = λ o e x. faulty-linked e;
    named = λ k e. absurd (faulty-closed e);
    faults = λ k e. let q : f ∷ fs ≡ k = cc in (sym q ∙ sym told, λ n. some-faults (q ∙ n));
    order_faultless = λ o e. absurd (faulty-linked e);
    ring_faultless = λ k e. absurd (faulty-closed e);
    ring_once = λ k e. absurd (faulty-closed e);
    ring_ids = λ k e. absurd (faulty-closed e);
    ids = λ o e. absurd (faulty-linked e);
    uses_linked = λ o e. absurd (faulty-linked e);
  }

  right-outcome : (fs : List Fault) → faults_of b ≡ fs → (x : Out) → Linearizes (list_of (discover_dependencies b)) x → FirstHalf b (outcome fs x)
  right-outcome [] e (order o) r = right-order o e r
  right-outcome [] e (ring l) r = right-ring l e r
  right-outcome (f ∷ fs) e x r = right-faults f fs e

  -- THE THEOREM
  pub first_half : FirstHalf b (ordered b)
  unfolding ordered
  first_half =
      right-outcome (faults_of b) refl (walk_of (discover_dependencies b))
      (linearize-right (list_of (discover_dependencies b)) (length (units_of b)) units-within)

-- neither step refuses
pub never_ended : (b : Bundle) (n p : ℕ) → ordered b ≡ ended n p → ⊥
unfolding ordered
never_ended b n p e = go (faults_of b) (walk_of (discover_dependencies b)) e
  where
    go : (fs : List Fault) (x : Out) → outcome fs x ≡ ended n p → ⊥
    go [] (order o) h = let z : ◌≡◌ {A = ℕ} 0 1 = cc in omega arith
    go [] (ring r) h = let z : ◌≡◌ {A = ℕ} 0 1 = cc in omega arith
    go (f ∷ fs) x h = let z : ◌≡◌ {A = ℕ} 0 1 = cc in omega arith

-- as many ids as units
paths-length : (l : List Text) (ids : List ℕ) → length (paths_at l ids) ≡ length ids
unfolding paths_at
paths-length l [] = refl
paths-length l (u ∷ ids) = ap suc (paths-length l ids)

pub order-count : (b : Bundle) (o : List ℕ) → LinkedFiles b (files_of b o) → length o ≡ length (units_of b)
order-count b o files =
    let d = discovered b in
    let n = paths-length (units_of b) o in
    let x = pigeons files.once (units_of b) (λ p m. d.complete p (files.sound p m)) in
    let y = pigeons d.once (files_of b o) (λ p m. files.complete p (d.sound p m)) in
    omega arith

-- of the value of every bundle that is not refused
pub first_half_read : (s : List ℕ) (b : Bundle) → read s ≡ value b → FirstHalf b (ordered b)
unfolding read
first_half_read s b h =
    let v = value-ok (verdict s) (decode s) b h in
    first_half b (subst (λ (x : Bundle). 0 < length x.files) v.1 (checked-roomy s v.0).some)

-- "A RING IS REFUSED EXACTLY WHEN two or more different reached files import each other in one, and such a ring is named"; discovery
-- faults prevent step 4
module _ (s : List ℕ) (b : Bundle) (v : read s ≡ value b) where
  pub ring-met-only : (r : List ℕ) → ordered b ≡ closed r → RingMet b r
  ring-met-only r e = let h = first_half_read s b v in record { faultless = h.ring_faultless r e; each_other = h.mutual_only r e; named = h.named r e }

  pub ring-met_always : faults_of b ≡ [] → ImportEachOther b → (r : List ℕ) × ((ordered b ≡ closed r) × RingMet b r)
  ring-met_always c x = let q = (first_half_read s b v).mutual_always c x in (q.0, (q.1, ring-met-only q.0 q.1))

-- the faults of discovery are told wherever there are some
pub faults_always : (b : Bundle) → (faults_of b ≡ [] → ⊥) → ordered b ≡ faulty (faults_of b)
unfolding ordered
faults_always b n = go (faults_of b) refl
  where
    go : (l : List Fault) → faults_of b ≡ l → outcome (faults_of b) (walk_of (discover_dependencies b)) ≡ faulty (faults_of b)
    go [] e = absurd (n e)
    go (f ∷ fs) e = rw e

-- two different reached files to each of which imports lead from the other are where there is a ring of files, and nowhere
-- else: the two ways of saying "import each other" are one
pub mutual_ring : (b : Bundle) → (ImportEachOther b → (l : List Text) × RingOfFiles b l) × ((l : List Text) → RingOfFiles b l → ImportEachOther b)
mutual_ring b = (to-ring, ring-each-other b)
  where
    to-ring : ImportEachOther b → (l : List Text) × RingOfFiles b l
    to-ring x =
        let some = reached-some b x.a x.reached in
        let d = discovered b in
        let q = (ring-there (list_of (discover_dependencies b)) (length (units_of b)) (within b (discover_dependencies b) d some)).0 (files_cyclic b (discover_dependencies b) d x) in
        (files_of b q.0, ring_files b (discover_dependencies b) d some q.1)
