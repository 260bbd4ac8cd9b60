-- What holds of a bundle that links, of any size: demand 3 whole. And which call a run of step 6 ends at. Assumes nothing.
use Rattle.std.specs.Prelude.{ℕ, true}
use Rattle.std.proofs.Common.{arith, sym, subst, ◌∙◌}
use Rattle.std.proofs.Math.Path.{◌≡◌, refl, ap}
use mathlib.Core.List.{List, [], ◌∷◌, ◌++◌, map}
use Rattle.bundle.specs.Bundle.{Items, none, Bundle}
use Rattle.bundle.specs.Form.{Every}
use Rattle.bundle.specs.Stand.{Bytes}
use Rattle.bundle.specs.Read.{value, read}
use Rattle.discovery.specs.Discovery.{Fault}
use Rattle.order.specs.Run.{files_of}
use Rattle.order.specs.Outcome.{result_or}
use Rattle.order.specs.Files.{LinkedFiles, ImportEachOther}
use Rattle.order.specs.Theorems.{faults_of, RingMet, first_half_read}
use Rattle.scope_tree.specs.Step.{Answer, ok, marked, refused, Model, step, run}
use Rattle.scope_tree.specs.Flat.{Flat, flat, first_flat, flattened}
use Rattle.scope_tree.specs.Form.{Request, call_of, calls_of}
use Rattle.scope_tree.specs.Note.{accepted}
use Rattle.scopes.specs.Demand.{Demand, demand}
use Rattle.assembly.specs.Assemble.{linearize_and_assemble}
use Rattle.assembly.specs.Assemble as assembly
use Rattle.assembly.specs.Theorems.{Assembled, assembly_read, Program, program-only, FaultsMet}
use Rattle.assembly.specs.Theorems.{faults-only as assembly-faults-only, faults_always as assembly-faults-always, ring_only as assembly-ring-only, ring_always as assembly-ring-always}
use Rattle.scope_walk.specs.Scopes.{Asked, scope_calls, Walked, done, stopped, onwards, walk_from, scope_walk}
use Rattle.linker.specs.Link.{Made, Outcome, faulty, closed, ended, result, linked, step6, link_after, link_bundle}

-- the calls alone
abbrev pub requests : List Asked → List Request
requests l = map (λ a. a.request) l

abbrev pub Accepted : Answer → Type 0
Accepted a = accepted a ≡ true

-- STEP 6 MAKES ALL CALLS, or ends at the first that is refused
module _ {X C : Type 0} (M : Model X C) where
  -- all were accepted: the tree is that of the whole list
  pub record Ran (x : X) (l : List Asked) (y : X) : Type 0 where
    pub tree : (run M x (calls_of (requests l))).0 ≡ y
    pub answers : Every Accepted (run M x (calls_of (requests l))).1

  pub walk-done : (x y : X) (l : List Asked) → walk_from M x l ≡ done y → Ran x l y
  unfolding walk_from run calls_of Every
  walk-done x y [] e = record { tree = cc; answers = tt }
  walk-done x y (a ∷ l) e = go (λ z h. walk-done z y l h) (step M x (call_of a.request)).1 refl e
    where
      go : ((z : X) → walk_from M z l ≡ done y → Ran z l y) → (w : Answer) → (step M x (call_of a.request)).1 ≡ w → onwards (step M x (call_of a.request)).0 w a.place (λ z. walk_from M z l) ≡ done y → Ran x (a ∷ l) y
      go k ok q h = let i = k (step M x (call_of a.request)).0 h in record { tree = i.tree; answers = (ap accepted q, i.answers) }
      go k (marked m) q h = let i = k (step M x (call_of a.request)).0 h in record { tree = i.tree; answers = (ap accepted q, i.answers) }
      go k (refused n) q h = let z : ◌≡◌ {A = ℕ} 0 1 = cc in absurd (omega arith)

  -- those before it were accepted and left the tree z, which refuses it with the number; the place is its own
  pub record Ends (x : X) (l : List Asked) (n p : ℕ) : Type 0 where
    pub before : List Asked
    pub call : Asked
    pub later : List Asked
    pub is : l ≡ before ++ (call ∷ later)
    pub tree : X
    pub made : walk_from M x before ≡ done tree
    pub number : (step M tree (call_of call.request)).1 ≡ refused n
    pub place : call.place ≡ p

  pub walk-stopped : (x : X) (l : List Asked) (n p : ℕ) → walk_from M x l ≡ stopped n p → Ends x l n p
  unfolding walk_from
  walk-stopped x [] n p e = let z : ◌≡◌ {A = ℕ} 0 1 = cc in absurd (omega arith)
  walk-stopped x (a ∷ l) n p e = go (λ z h. walk-stopped z l n p h) (step M x (call_of a.request)).1 refl e
    where
      later : ((z : X) → walk_from M z l ≡ stopped n p → Ends z l n p) → (w : Answer) → (step M x (call_of a.request)).1 ≡ w → ((z : X) → onwards z w a.place (λ z'. walk_from M z' l) ≡ walk_from M z l) → ((z : X) (k : List Asked) → onwards z w a.place (λ z'. walk_from M z' k) ≡ walk_from M z k)
          → onwards (step M x (call_of a.request)).0 w a.place (λ z. walk_from M z l) ≡ stopped n p → Ends x (a ∷ l) n p
      later k w q f g h =
          let i = k (step M x (call_of a.request)).0 (sym (f (step M x (call_of a.request)).0) ∙ h) in
          record {
            before = a ∷ i.before;
            call = i.call;
            later = i.later;
            is = ap (λ (y : List Asked). a ∷ y) i.is;
            tree = i.tree;
            made = ap (λ (w' : Answer). onwards (step M x (call_of a.request)).0 w' a.place (λ z. walk_from M z i.before)) q ∙ (g (step M x (call_of a.request)).0 i.before ∙ i.made);
            number = i.number;
            place = i.place;
          }

      go : ((z : X) → walk_from M z l ≡ stopped n p → Ends z l n p) → (w : Answer) → (step M x (call_of a.request)).1 ≡ w → onwards (step M x (call_of a.request)).0 w a.place (λ z. walk_from M z l) ≡ stopped n p → Ends x (a ∷ l) n p
      go k ok q h = later k ok q (λ z. refl) (λ z y. refl) h
      go k (marked m) q h = later k (marked m) q (λ z. refl) (λ z y. refl) h
      go k (refused m) q h =
          let e1 : m ≡ n = cc in
          let e2 : a.place ≡ p = cc in
          record { before = []; call = a; later = l; is = refl; tree = x; made = refl; number = q ∙ ap refused e1; place = e2 }

-- THE STEPS OF AN OUTCOME
pub record Steps (b : Bundle) (o : List ℕ) (p : Items) (w : Walked Flat) : Type 0 where
  pub assembled : linearize_and_assemble b ≡ assembly.program o p
  pub walked : scope_walk p ≡ w

pub linked_steps : (b : Bundle) (o : List ℕ) (p : Items) (x : Flat) → link_bundle b ≡ linked o p x → Steps b o p (done x)
unfolding link_bundle
linked_steps b o p x e = go (linearize_and_assemble b) refl e
  where
    by-walk : (o' : List ℕ) (p' : Items) (w : Walked Flat) → linearize_and_assemble b ≡ assembly.program o' p' → scope_walk p' ≡ w → step6 o' p' w ≡ linked o p x → Steps b o p (done x)
    by-walk o' p' (done y) q r h =
        let e1 : o' ≡ o = ap (result_or (λ (z : Made). z.ids) []) h in
        let e2 : p' ≡ p = ap (result_or (λ (z : Made). z.items) none) h in
        let e3 : y ≡ x = ap (result_or (λ (z : Made). z.tree) y) h in
        record { assembled = q ∙ (ap (λ (l : List ℕ). assembly.program l p') e1 ∙ ap (assembly.program o) e2); walked = ap scope_walk (sym e2) ∙ (r ∙ ap done e3) }
    by-walk o' p' (stopped n m) q r h = let z : ◌≡◌ {A = ℕ} 0 1 = cc in absurd (omega arith)

    go : (y : assembly.Outcome) → linearize_and_assemble b ≡ y → link_after y ≡ linked o p x → Steps b o p (done x)
    go (faulty l) q h = let z : ◌≡◌ {A = ℕ} 0 1 = cc in absurd (omega arith)
    go (closed r) q h = let z : ◌≡◌ {A = ℕ} 0 1 = cc in absurd (omega arith)
    go (ended n m) q h = let z : ◌≡◌ {A = ℕ} 0 1 = cc in absurd (omega arith)
    go (result w) q h = by-walk w.ids w.items (scope_walk w.items) q refl h

pub linked_always : (b : Bundle) (o : List ℕ) (p : Items) (x : Flat) → linearize_and_assemble b ≡ assembly.program o p → scope_walk p ≡ done x → link_bundle b ≡ linked o p x
unfolding link_bundle
linked_always b o p x e f = ap link_after e ∙ ap (step6 o p) f

-- FAULTS AND RINGS, of every bundle that is not refused
-- step 6 tells neither
after-report : (x : assembly.Outcome) (o : List ℕ) (p : Items) (w : Walked Flat) → x ≡ assembly.program o p → scope_walk p ≡ w → (l : List Fault) (r : List ℕ) → (link_after x ≡ faulty l → ⊥) × (link_after x ≡ closed r → ⊥)
after-report x o p (done y) e f l r = (
  λ h. let q : linked o p y ≡ faulty l = ap (step6 o p) (sym f) ∙ (ap link_after (sym e) ∙ h) in let z : ◌≡◌ {A = ℕ} 0 1 = cc in omega arith,
  λ h. let q : linked o p y ≡ closed r = ap (step6 o p) (sym f) ∙ (ap link_after (sym e) ∙ h) in let z : ◌≡◌ {A = ℕ} 0 1 = cc in omega arith,
)
after-report x o p (stopped n m) e f l r = (
  λ h. let q : ◌≡◌ {A = Outcome} (ended n m) (faulty l) = ap (step6 o p) (sym f) ∙ (ap link_after (sym e) ∙ h) in let z : ◌≡◌ {A = ℕ} 0 1 = cc in omega arith,
  λ h. let q : ◌≡◌ {A = Outcome} (ended n m) (closed r) = ap (step6 o p) (sym f) ∙ (ap link_after (sym e) ∙ h) in let z : ◌≡◌ {A = ℕ} 0 1 = cc in omega arith,
)

faulty-before : (x : assembly.Outcome) (l : List Fault) → link_after x ≡ faulty l → x ≡ faulty l
faulty-before (faulty k) l h = let z : k ≡ l = cc in ap faulty z
faulty-before (closed r) l h = let z : ◌≡◌ {A = ℕ} 0 1 = cc in absurd (omega arith)
faulty-before (ended n m) l h = let z : ◌≡◌ {A = ℕ} 0 1 = cc in absurd (omega arith)
faulty-before (result q) l h = absurd ((after-report (result q) q.ids q.items (scope_walk q.items) refl refl l []).0 h)

closed-before : (x : assembly.Outcome) (r : List ℕ) → link_after x ≡ closed r → x ≡ closed r
closed-before (faulty k) r h = let z : ◌≡◌ {A = ℕ} 0 1 = cc in absurd (omega arith)
closed-before (closed k) r h = let z : k ≡ r = cc in ap closed z
closed-before (ended n m) r h = let z : ◌≡◌ {A = ℕ} 0 1 = cc in absurd (omega arith)
closed-before (result q) r h = absurd ((after-report (result q) q.ids q.items (scope_walk q.items) refl refl [] r).1 h)

module _ (s : List ℕ) (b : Bundle) (v : read s ≡ value b) where
  -- faults are told exactly when discovery has some, or an order is linked and step 5 has some
  pub faults-only : (l : List Fault) → link_bundle b ≡ faulty l → FaultsMet b l
  unfolding link_bundle
  faults-only l e = assembly-faults-only s b v l (faulty-before (linearize_and_assemble b) l e)

  pub faults_always : (l : List Fault) → FaultsMet b l → link_bundle b ≡ faulty l
  unfolding link_bundle
  faults_always l m = ap link_after (assembly-faults-always s b v l m)

  -- "A RING IS REFUSED EXACTLY WHEN two or more different reached files import each other in one, and such a ring is named";
  -- discovery's faults prevent it
  pub ring_only : (r : List ℕ) → link_bundle b ≡ closed r → RingMet b r
  unfolding link_bundle
  ring_only r e = assembly-ring-only s b v r (closed-before (linearize_and_assemble b) r e)

  pub ring_always : faults_of b ≡ [] → ImportEachOther b → (r : List ℕ) × ((link_bundle b ≡ closed r) × RingMet b r)
  unfolding link_bundle
  ring_always c x = let q = assembly-ring-always s b v c x in (q.0, (ap link_after q.1.0, q.1.1))

-- DEMAND 3, of a bundle that links
pub record LinkedBundle (b : Bundle) (o : List ℕ) (p : Items) (x : Flat) : Type 0 where
  -- "a linked program's units are exactly the reached files, each once, each after every other file it imports"; there is no ring
  pub files : LinkedFiles b (files_of b o)
  pub no_ring : ImportEachOther b → ⊥
  -- the program is these units, their items kept, every use resolved to a unit that stands earlier or is its own (`uses_found`)
  pub program : Program b o p
  pub assembled : Assembled b o
  -- step 6 made every call of the program, and each was accepted
  pub tree : (flattened (calls_of (requests (scope_calls p)))).0 ≡ x
  pub accepted_all : Every Accepted (flattened (calls_of (requests (scope_calls p)))).1
  -- the tree written out is the register of these calls, and everything imported has its chain
  pub demanded : Demand (calls_of (requests (scope_calls p))) x (flattened (calls_of (requests (scope_calls p)))).1

pub linked-bundle : (s : List ℕ) → Bytes s → (b : Bundle) → read s ≡ value b → (o : List ℕ) (p : Items) (x : Flat) → link_bundle b ≡ linked o p x → LinkedBundle b o p x
unfolding scope_walk
linked-bundle s B b v o p x e =
    let t = linked_steps b o p x e in
    let q = program-only b o p t.assembled in
    let h = first_half_read s b v in
    let r = walk-done flat first_flat x (scope_calls p) t.walked in
    record {
      files = h.order o q.order;
      no_ring = h.no_ring o q.order;
      program = q;
      assembled = assembly_read s B b v o q.order;
      tree = r.tree;
      accepted_all = r.answers;
      demanded = subst (λ (y : Flat). Demand (calls_of (requests (scope_calls p))) y (flattened (calls_of (requests (scope_calls p)))).1) r.tree (demand (calls_of (requests (scope_calls p))));
    }
