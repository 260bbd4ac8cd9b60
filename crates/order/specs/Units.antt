-- Units and files: what a list of ids says of the files, and the other way. Assumes nothing.
use Rattle.std.specs.Prelude.{ℕ, ◌<◌, ◌≡◌, Bool, true, false, eqb, get_or}
use Rattle.std.proofs.Common.{arith, sym, ◌∙◌, ⊎_elim, eqb-true}
use Rattle.std.proofs.Math.Path.{refl, ap, subst}
use mathlib.Core.List.{List, [], ◌∷◌, ◌++◌, Memᴰ}
use Rattle.std.proofs.Math.ListN.{length}
use Rattle.std.proofs.lemmas.Bool.{eqb-false}
use Rattle.bundle.specs.Bundle.{Text, Bundle}
use Rattle.discovery.specs.Discovery.{Graph, paths_of}
use Rattle.discovery.specs.Reached.{Imports, Reached, entry, imported, Once, none, more}
use Rattle.discovery.specs.Facts.{get_d_mem, mem_get_d, once-place, paths_at, paths_mem, mem_paths}
use Rattle.discovery.specs.Right.{Discovered, imports-sound, imports-complete}
use Rattle.graph.specs.Order.{Edge, Reaches, here, step, Chain, last, link, Ring, EachLists, one, next, Walk, Named, Ordered, Cyclic, Within}
use Rattle.graph.specs.Order as graph
use Rattle.graph.specs.Facts.{path_join}
use Rattle.order.specs.Run.{list_of}
use Rattle.order.specs.Files.{LinkedFiles, ImportChain, RingOfFiles, LeadsTo, ImportEachOther, EachImports, WalkOfFiles, NamedRing}
use Rattle.order.specs.Files as file

-- LISTS OF PATHS
pub paths-append : (sources : List Text) (a c : List ℕ) → paths_at sources (a ++ c) ≡ paths_at sources a ++ paths_at sources c
unfolding paths_at
paths-append sources [] c = refl
paths-append sources (x ∷ a) c = rw (paths-append sources a c)

-- where paths of ids are split, the ids are
pub record SplitAt (sources : List Text) (o : List ℕ) (p q : List Text) (f : Text) : Type 0 where
  pub before : List ℕ
  pub unit : ℕ
  pub behind : List ℕ
  pub is : o ≡ before ++ (unit ∷ behind)
  pub paths : p ≡ paths_at sources before
  pub path : f ≡ get_or sources unit []

pub split-paths : (sources : List Text) (o : List ℕ) (p q : List Text) (f : Text) → paths_at sources o ≡ p ++ (f ∷ q) → SplitAt sources o p q f
unfolding paths_at
split-paths sources [] [] q f e = let z : ◌≡◌ {A = ℕ} 0 1 = cc in absurd (omega arith)
split-paths sources [] (y ∷ p) q f e = let z : ◌≡◌ {A = ℕ} 0 1 = cc in absurd (omega arith)
split-paths sources (x ∷ o) [] q f e = record { before = []; unit = x; behind = o; is = refl; paths = refl; path = cc }
split-paths sources (x ∷ o) (y ∷ p) q f e = further (cc) (split-paths sources o p q f (cc))
  where
    further : y ≡ get_or sources x [] → SplitAt sources o p q f → SplitAt sources (x ∷ o) (y ∷ p) q f
    further h r = record {
      before = x ∷ r.before;
      unit = r.unit;
      behind = r.behind;
      is = ap (λ (l : List ℕ). x ∷ l) r.is;
      paths = ap (λ (z : Text). z ∷ p) h ∙ ap (λ (l : List Text). get_or sources x [] ∷ l) r.paths;
      path = r.path;
    }

-- A GRAPH THAT DISCOVERY FOUND
module _ (b : Bundle) (g : Graph) (d : Discovered b g) where
  -- the path of a unit
  abbrev pub at : ℕ → Text
  at u = get_or g.sources u []

  abbrev Unit_id : ℕ → Type 0
  Unit_id u = u < length g.sources

  same-unit : (u v : ℕ) → Unit_id u → Unit_id v → at u ≡ at v → u ≡ v
  same-unit u v hu hv e = once-place [] d.once u v hu hv e

  -- IMPORTS
  listed-imports : (u v : ℕ) → Unit_id u → Memᴰ v (list_of g u) → Imports b (at u) (at v)
  listed-imports u v h m =
      imports-sound b (subst (λ (l : List Text). Memᴰ (at v) l) (d.lists u h) (paths_mem g.sources (list_of g u) m))

  record Target (u : ℕ) (f : Text) : Type 0 where
    unit : ℕ
    listed : Memᴰ unit (list_of g u)
    known : Unit_id unit
    path : f ≡ at unit

  imports-listed : (u : ℕ) (f : Text) → Unit_id u → Imports b (at u) f → Target u f
  imports-listed u f h i =
      let m = subst (λ (l : List Text). Memᴰ f l) (sym (d.lists u h)) (imports-complete b i) in
      let t = mem_paths g.sources (list_of g u) m in
      record { unit = t.0; listed = t.1.0; known = d.below u t.0 h t.1.0; path = t.1.1 }

  -- the units, where there is a file
  module _ (some : 0 < length (paths_of b)) where
    pub some-unit : 0 < length g.sources
    some-unit = go (paths_of b) refl some
      where
        go : (l : List Text) → paths_of b ≡ l → 0 < length l → 0 < length g.sources
        go [] e h = absurd (omega arith)
        go (p ∷ ps) e h = let t = mem_get_d [] (d.complete p (entry e)) in let k = t.1.0 in omega arith

    pub within : Within (list_of g) (length g.sources)
    within = record { some = some-unit; lists = d.below }

  -- BY EDGES, BY IMPORTS
  edge_below : {u v : ℕ} → Unit_id u → Edge (list_of g) u v → Unit_id v
  edge_below {u} {v} h e = d.below u v h e.listed

  edge_imports : {u v : ℕ} → Unit_id u → Edge (list_of g) u v → Imports b (at u) (at v)
  edge_imports {u} {v} h e = listed-imports u v h e.listed

  pub reaches_below : {u v : ℕ} → Unit_id u → Reaches (list_of g) u v → Unit_id v
  reaches_below h here = h
  reaches_below h (step e p) = reaches_below (edge_below h e) p

  reaches_leads : {u v : ℕ} → Unit_id u → Reaches (list_of g) u v → LeadsTo b (at u) (at v)
  reaches_leads h here = file.here
  reaches_leads h (step e p) = file.step (edge_imports h e) (reaches_leads (edge_below h e) p)

  -- from u by an import to v, which may be u
  one-import : (u v : ℕ) → Memᴰ v (list_of g u) → Reaches (list_of g) u v
  one-import u v m = go (eqb v u) refl
    where
      go : (t : Bool) → eqb v u ≡ t → Reaches (list_of g) u v
      go true e = subst (λ (x : ℕ). Reaches (list_of g) u x) (sym (eqb-true v u e)) here
      go false e = step (record { other = eqb-false v u e; listed = m }) here

  -- a unit that u reaches, with its file
  record To (u : ℕ) (f : Text) : Type 0 where
    unit : ℕ
    known : Unit_id unit
    path : f ≡ at unit
    way : Reaches (list_of g) u unit

  import-to : (u : ℕ) (f : Text) → Unit_id u → Imports b (at u) f → To u f
  import-to u f h i =
      let t = imports-listed u f h i in
      record { unit = t.unit; known = t.known; path = t.path; way = one-import u t.unit t.listed }

  to_join : {u v : ℕ} {f : Text} → Reaches (list_of g) u v → To v f → To u f
  to_join r t = record { unit = t.unit; known = t.known; path = t.path; way = path_join r t.way }

  leads-to : (u : ℕ) (f h : Text) → f ≡ at u → Unit_id u → LeadsTo b f h → To u h
  leads-to u f h e k file.here = record { unit = u; known = k; path = e; way = here }
  leads-to u f h e k (file.step {f = f'} {g = f₂} {h = h'} i l) =
      let t = import-to u f₂ k (subst (λ (x : Text). Imports b x f₂) e i) in
      to_join t.way (leads-to t.unit f₂ h t.path t.known l)

  reached-to : (f : Text) → Reached b f → To 0 f
  reached-to f (entry {p} {ps} e) =
      let t = mem_get_d [] (d.complete f (entry e)) in
      let k = t.1.0 in
      record { unit = 0; known = omega arith; path = sym (d.entry_first f ps e); way = here }
  reached-to f (imported {f = f₁} r i) =
      let t = reached-to f₁ r in
      to_join t.way (import-to t.unit f t.known (subst (λ (x : Text). Imports b x f) t.path i))

  -- every unit is reached from unit 0
  pub unit-reached : (u : ℕ) → Unit_id u → Reaches (list_of g) 0 u
  unit-reached u h =
      let t = reached-to (at u) (d.sound (at u) (get_d_mem g.sources u [] h)) in
      subst (λ (x : ℕ). Reaches (list_of g) 0 x) (sym (same-unit u t.unit h t.known t.path)) t.way

  file-reached : (u : ℕ) → Unit_id u → Reached b (at u)
  file-reached u h = d.sound (at u) (get_d_mem g.sources u [] h)

  -- EACH ONCE
  once-files : {l : List ℕ} → ((u : ℕ) → Memᴰ u l → Unit_id u) → graph.Once l → Once (paths_at g.sources l)
  unfolding paths_at
  once-files h graph.none = none
  once-files h (graph.more {u} {l} f o) =
      more
      (λ m. let t = mem_paths g.sources l m in
      f (mathlib.Core.List.Memᴰ.cast (same-unit u t.0 (h u (mathlib.Core.List.Memᴰ.head refl)) (h t.0 (mathlib.Core.List.Memᴰ.tail t.1.0)) t.1.1) t.1.0))
      (once-files (λ v m. h v (mathlib.Core.List.Memᴰ.tail m)) o)

  -- THE ORDER
  module _ (some : 0 < length (paths_of b)) (o : List ℕ) (r : Ordered (list_of g) o) where
    pub ids-below : (u : ℕ) → Memᴰ u o → Unit_id u
    ids-below u m = reaches_below (some-unit some) (r.sound u m)

    pub all_units : (u : ℕ) → Unit_id u → Memᴰ u o
    all_units u h = r.complete u (unit-reached u h)

    pub linked-files : LinkedFiles b (paths_at g.sources o)
    linked-files = record {
      sound = λ f m.
          let t = mem_paths g.sources o m in
          subst (Reached b) (sym t.1.1) (file-reached t.0 (ids-below t.0 t.1.0));
      complete = λ f h.
          let t = reached-to f h in
          mathlib.Core.List.Memᴰ.cast t.path (paths_mem g.sources o (all_units t.unit t.known));
      once = once-files ids-below r.once;
      after = λ p q f h e i ne.
          let s = split-paths g.sources o p q f e in
          let k = ids-below s.unit (subst (λ (l : List ℕ). Memᴰ s.unit l) (sym s.is) (among s.before s.unit s.behind)) in
          let t = imports-listed s.unit h k (subst (λ (x : Text). Imports b x h) s.path i) in
          let ne' : t.unit ≡ s.unit → ⊥ = λ q. ne (t.path ∙ (ap at q ∙ sym s.path)) in
          let m = r.after s.before s.behind s.unit t.unit s.is (record { other = ne'; listed = t.listed }) in
          subst (λ (l : List Text). Memᴰ h l) (sym s.paths) (mathlib.Core.List.Memᴰ.cast t.path (paths_mem g.sources s.before m));
    }
      where
        among : (l : List ℕ) (u : ℕ) (k : List ℕ) → Memᴰ u (l ++ (u ∷ k))
        among [] u k = mathlib.Core.List.Memᴰ.head refl
        among (x ∷ l) u k = mathlib.Core.List.Memᴰ.tail (among l u k)

  -- RINGS
  chain-files : {u w : ℕ} {l : List ℕ} → Unit_id u → Chain (list_of g) u l w → ImportChain b (at u) (paths_at g.sources l) (at w)
  unfolding paths_at
  chain-files h (last e) = file.last (edge_imports h e)
  chain-files h (link e c) = file.link (edge_imports h e) (chain-files (edge_below h e) c)

  linked-each : {l : List ℕ} → ((u : ℕ) → Memᴰ u l → Unit_id u) → EachLists (list_of g) l → EachImports b (paths_at g.sources l)
  unfolding paths_at
  linked-each h one = file.one
  linked-each h (next {u} e c) = file.next (edge_imports (h u (mathlib.Core.List.Memᴰ.head refl)) e) (linked-each (λ v m. h v (mathlib.Core.List.Memᴰ.tail m)) c)

  -- each of a chain of imports is a unit
  linked-below : {l : List ℕ} {u : ℕ} {k : List ℕ} → l ≡ u ∷ k → Unit_id u → EachLists (list_of g) l → (v : ℕ) → Memᴰ v l → Unit_id v
  linked-below {u = u} q h (one {u = w}) v m =
      let e : w ≡ u = cc in
      ⊎_elim (λ x. subst Unit_id (sym (x ∙ e)) h) (λ x. absurd (mathlib.Core.List.Memᴰ.not-nil x)) (mathlib.Core.List.Memᴰ.cases_cons m)
  linked-below {u = u} q h (next {u = w} {v = y} {l = l} e c) v m =
      let i : w ≡ u = cc in
      let hw = subst Unit_id (sym i) h in
      ⊎_elim (λ x. subst Unit_id (sym x) hw) (λ x. linked-below refl (edge_below hw e) c v x) (mathlib.Core.List.Memᴰ.cases_cons m)

  module _ (some : 0 < length (paths_of b)) where
    pub ring_files : {r : List ℕ} → Ring (list_of g) r → RingOfFiles b (paths_at g.sources r)
    unfolding paths_at
    ring_files {r} x =
        let below : (u : ℕ) → Memᴰ u r → Unit_id u = λ u m. reaches_below (some-unit some) (x.reached u m) in
        let first_in : Memᴰ x.first r = subst (λ (l : List ℕ). Memᴰ x.first l) (sym x.is) (mathlib.Core.List.Memᴰ.head refl) in
        record {
          first = at x.first;
          second = at x.second;
          rest = paths_at g.sources x.rest;
          is = ap (paths_at g.sources) x.is;
          different = once-files below x.once;
          round = chain-files (below x.first first_in) x.round;
          reached = λ f m.
              let t = mem_paths g.sources r m in
              subst (Reached b) (sym t.1.1) (file-reached t.0 (below t.0 t.1.0));
        }

    walk-files : {l : List ℕ} → Walk (list_of g) l → WalkOfFiles b (paths_at g.sources l)
    unfolding paths_at
    walk-files {l} w = go (paths_of b) refl some
      where
        go : (fs : List Text) → paths_of b ≡ fs → 0 < length fs → WalkOfFiles b (paths_at g.sources l)
        go [] e h = absurd (omega arith)
        go (p ∷ ps) e h =
            let below = linked-below w.begins (some-unit some) w.linked in
            record {
              entry = p;
              others = ps;
              is_entry = e;
              after_entry = paths_at g.sources w.after_first;
              begins = ap (paths_at g.sources) w.begins ∙ ap (λ (x : Text). x ∷ paths_at g.sources w.after_first) (d.entry_first p ps e);
              linked = linked-each below w.linked;
              once = once-files below w.once;
            }

    pub named-files : {r : List ℕ} → Named (list_of g) r → NamedRing b (paths_at g.sources r)
    named-files {r} x = record {
      ring = ring_files x.ring;
      before = paths_at g.sources x.before;
      walk = subst (WalkOfFiles b) (paths-append g.sources x.before r) (walk-files x.walk);
    }

    pub cyclic_files : Cyclic (list_of g) → ImportEachOther b
    cyclic_files x =
        let ka = reaches_below (some-unit some) x.reached in
        let kb = reaches_below ka x.there in
        record {
          a = at x.a;
          c = at x.b;
          different = λ e. x.different (same-unit x.a x.b ka kb e);
          reached = file-reached x.a ka;
          there = reaches_leads ka x.there;
          back = reaches_leads kb x.back;
        }

  pub files_cyclic : ImportEachOther b → Cyclic (list_of g)
  files_cyclic x =
      let s = reached-to x.a x.reached in
      let t = leads-to s.unit x.a x.c s.path s.known x.there in
      let u = leads-to t.unit x.c x.a t.path t.known x.back in
      let same = same-unit u.unit s.unit u.known s.known (sym u.path ∙ s.path) in
      record {
        a = s.unit;
        b = t.unit;
        different = λ e. x.different (s.path ∙ (ap at e ∙ sym t.path));
        reached = s.way;
        there = t.way;
        back = subst (λ (y : ℕ). Reaches (list_of g) t.unit y) same u.way;
      }

-- a ring of files is one of two files that import each other
chain-leads : {b : Bundle} {f h : Text} {l : List Text} → ImportChain b f l h → LeadsTo b f h
chain-leads (file.last i) = file.step i file.here
chain-leads (file.link i c) = file.step i (chain-leads c)

pub ring-each-other : (b : Bundle) (l : List Text) → RingOfFiles b l → ImportEachOther b
ring-each-other b l x =
    go x.first x.second x.rest x.round (subst Once x.is x.different) (x.reached x.first (subst (λ (k : List Text). Memᴰ x.first k) (sym x.is) (mathlib.Core.List.Memᴰ.head refl)))
  where
    go : (f h : Text) (k : List Text) → ImportChain b f (h ∷ k) f → Once (f ∷ (h ∷ k)) → Reached b f → ImportEachOther b
    go f h k (file.link i c) (more n o) r =
        record { a = f; c = h; different = λ q. n (mathlib.Core.List.Memᴰ.head q); reached = r; there = file.step i file.here; back = chain-leads c }

-- what is reached needs a file
pub reached-some : (b : Bundle) (f : Text) → Reached b f → 0 < length (paths_of b)
reached-some b f (entry {p} {ps} e) = rw e (omega arith)
reached-some b f (imported r i) = reached-some b _ r
