-- Discovery is right: the units are exactly the reached files, each once, and a unit's list is what its file imports. Assumes nothing.
use Prim.Native.Nat.{ℕ, zero, suc, ◌+◌, ◌<◌, ◌≤◌}
use Rattle.std.proofs.Common.{not-suc-le-zero, ◌∙◌}
use native.Mathlib.Omega.{arith}
use Rattle.std.specs.Prelude.{◌≡◌, true, false, ltb, get_or}
use Rattle.std.proofs.Math.Path.{refl, sym, ap, subst}
use Rattle.std.proofs.Math.Logic.{⊎_elim}
use mathlib.Core.List.{List, [], ◌∷◌, ◌++◌, append-nil, append_assoc, Memᴰ}
use Rattle.std.proofs.Math.ListN.{length, length-append, length-map, get_or-append}
use Rattle.std.proofs.Math.Seq.{get_or-append_seam}
use borrow.Author.Tests.{ltb-true, ltb-false}
use Rattle.names.specs.Bytes.{member}
use Rattle.bundle.specs.Bundle.{Text, File, Bundle}
use Rattle.resolution.specs.Lists.{lists_of}
use Rattle.resolution.specs.Resolution.{Resolved, to, fails}
use Rattle.resolution.specs.Call.{position}
use Rattle.discovery.specs.Discovery.{uses, program_of, ResolvedUse, resolve_single, use_cache, Fault, Import, import_of, lookup_faults, valid_imports, Loading, holds, add_once, load, load_all, Graph, current, handled, turn, turns, entry_of, start, paths_of, discover_dependencies}
use Rattle.discovery.specs.Reached.{Imports, Reached, entry, imported, Once, none, more, readable, firsts, imports_of}
use Rattle.discovery.specs.Facts.{cond_elim, member_true, mem_member, member_false, not-member, entry-file, holds_true, holds_false, mem_snoc, once_snoc, pigeons, get_d_mem, mem_get_d, once-place, each_snoc, id-found, paths_at, paths_snoc, paths_grow, paths_mem, mem_paths, paths-once, firsts-append, firsts-sound, firsts-complete, firsts-once, readable-cons, readable-sound, readable-complete}

-- LOADING
module _ (files : List Text) where
  -- the paths of a list
  abbrev listed : Loading → List Text
  listed s = paths_at s.sources s.list

  record Fit (s : Loading) : Type 0 where
    once : Once s.sources
    known : (p : Text) → Memᴰ p s.sources → member p files ≡ true
    bad : (p : Text) → Memᴰ p s.invalid → member p files ≡ false
    below : (d : ℕ) → Memᴰ d s.list → d < length s.sources

  -- what loading imports leaves
  record Loaded (s s' : Loading) (is : List Import) : Type 0 where
    fit : Fit s'
    new : List Text
    grown : s'.sources ≡ s.sources ++ new
    from : (p : Text) → Memᴰ p new → Memᴰ p (readable files is)
    lists : listed s' ≡ listed s ++ firsts (listed s) (readable files is)

  only-readable : (i : Import) → member i.path files ≡ true → readable files (i ∷ []) ≡ i.path ∷ []
  unfolding readable
  only-readable i e = rw e

  not-readable : (i : Import) → member i.path files ≡ false → readable files (i ∷ []) ≡ []
  unfolding readable
  not-readable i e = rw e

  first-new : (seen : List Text) (p : Text) → member p seen ≡ false → firsts seen (p ∷ []) ≡ p ∷ []
  unfolding firsts
  first-new seen p e = rw e

  first-seen : (seen : List Text) (p : Text) → member p seen ≡ true → firsts seen (p ∷ []) ≡ []
  unfolding firsts
  first-seen seen p e = rw e

  -- the import adds nothing
  same-list : (s s' : Loading) (i : Import) → Fit s' → s'.sources ≡ s.sources → s'.list ≡ s.list
      → firsts (listed s) (readable files (i ∷ [])) ≡ [] → Loaded s s' (i ∷ [])
  same-list s s' i f es el q = record {
    fit = f;
    new = [];
    grown = es ∙ sym (append-nil s.sources);
    from = λ p m. absurd (mathlib.Core.List.Memᴰ.not-nil m);
    lists = rw (es, el, q, append-nil);
  }

  -- one import
  module _ (i : Import) (s : Loading) (f : Fit s) where
    abbrev with_list : List ℕ → Loading
    with_list l = record { sources = s.sources; list = l; invalid = s.invalid; faults = s.faults }

    module _ (k : member i.path s.sources ≡ true) where
      found : (position i.path s.sources < length s.sources) × (get_or s.sources (position i.path s.sources) [] ≡ i.path)
      found = id-found i.path s.sources (member_true i.path s.sources k)

      can-read : readable files (i ∷ []) ≡ i.path ∷ []
      can-read = only-readable i (f.known i.path (member_true i.path s.sources k))

      -- a path that is listed already
      again : holds (position i.path s.sources) s.list ≡ true → Loaded s (with_list s.list) (i ∷ [])
      again h =
          same-list s (with_list s.list) i (record { once = f.once; known = f.known; bad = f.bad; below = f.below }) refl refl
          (rw can-read
          (first-seen (listed s) i.path
          (mem_member (mathlib.Core.List.Memᴰ.cast (sym found.1) (paths_mem s.sources s.list (holds_true (position i.path s.sources) s.list h))))))

      -- a known path that is not listed
      another : holds (position i.path s.sources) s.list ≡ false → Loaded s (with_list (s.list ++ (position i.path s.sources ∷ []))) (i ∷ [])
      another h =
          let n : Memᴰ i.path (listed s) → ⊥ = λ w.
          (let t = mem_paths s.sources s.list w in
          let place = once-place [] f.once (position i.path s.sources) t.0 found.0 (f.below t.0 t.1.0) (found.1 ∙ t.1.1) in
          holds_false (position i.path s.sources) s.list h (mathlib.Core.List.Memᴰ.cast place t.1.0)) in
          record {
            fit = record {
              once = f.once;
              known = f.known;
              bad = f.bad;
              below = λ x w. ⊎_elim (f.below x) (λ q. subst (λ (y : ℕ). y < length s.sources) (sym q) found.0) (mem_snoc s.list w);
            };
            new = [];
            grown = sym (append-nil s.sources);
            from = λ x w. absurd (mathlib.Core.List.Memᴰ.not-nil w);
            lists =
                paths_snoc s.sources s.list (position i.path s.sources)
                ∙ rw (can-read, first-new (listed s) i.path (not-member i.path (listed s) n), found.1);
          }

    -- a new file
    fresh : member i.path s.sources ≡ false → member i.path files ≡ true
        → Loaded s (record { sources = s.sources ++ (i.path ∷ []); list = s.list ++ (length s.sources ∷ []); invalid = s.invalid; faults = s.faults }) (i ∷ [])
    fresh k e =
        let r = only-readable i e in
        let n : Memᴰ i.path (listed s) → ⊥ = λ w.
        (let t = mem_paths s.sources s.list w in
        member_false k (mathlib.Core.List.Memᴰ.cast t.1.1 (get_d_mem s.sources t.0 [] (f.below t.0 t.1.0)))) in
        record {
          fit = record {
            once = once_snoc f.once (member_false k);
            known = λ x w. ⊎_elim (f.known x) (λ q. subst (λ (y : Text). member y files ≡ true) (sym q) e) (mem_snoc s.sources w);
            bad = f.bad;
            below = λ x w. ⊎_elim
                (λ v. let l = f.below x v in omega (arith, length-append s.sources (i.path ∷ [])))
                (λ q. omega (arith, length-append s.sources (i.path ∷ []))) (mem_snoc s.list w);
          };
          new = i.path ∷ [];
          grown = refl;
          from = λ x w. rw r w;
          lists =
              paths_snoc (s.sources ++ (i.path ∷ [])) s.list (length s.sources)
              ∙ rw (r, first-new (listed s) i.path (not-member i.path (listed s) n), get_or-append_seam s.sources i.path [] [], paths_grow s.sources (i.path ∷ []) s.list f.below);
        }

    -- a path that can't be read
    failed : (faults : List Fault) → member i.path files ≡ false
        → Loaded s (record { sources = s.sources; list = s.list; invalid = s.invalid ++ (i.path ∷ []); faults = faults }) (i ∷ [])
    unfolding firsts
    failed faults e =
        same-list s (record { sources = s.sources; list = s.list; invalid = s.invalid ++ (i.path ∷ []); faults = faults }) i
        (record {
          once = f.once;
          known = f.known;
          bad = λ x w. ⊎_elim (f.bad x) (λ q. subst (λ (y : Text). member y files ≡ false) (sym q) e) (mem_snoc s.invalid w);
          below = f.below;
        }) refl refl (rw (not-readable i e))

    step : Loaded s (load files i s) (i ∷ [])
    unfolding load add_once firsts
    step =
        cond_elim (λ s'. Loaded s s' (i ∷ [])) (member i.path s.invalid)
        (λ e. same-list s s i f refl refl (rw (not-readable i (f.bad i.path (member_true i.path s.invalid e)))))
        (λ e. cond_elim (λ s'. Loaded s s' (i ∷ [])) (member i.path s.sources)
        (λ k. cond_elim (λ l. Loaded s (with_list l) (i ∷ [])) (holds (position i.path s.sources) s.list) (again k) (another k))
        (λ k. cond_elim (λ s'. Loaded s s' (i ∷ [])) (member i.path files) (fresh k) (failed _)))

  -- an import, and those after it
  join : (i : Import) (is : List Import) (s s₁ s₂ : Loading) → Loaded s s₁ (i ∷ []) → Loaded s₁ s₂ is → Loaded s s₂ (i ∷ is)
  join i is s s₁ s₂ a b = record {
    fit = b.fit;
    new = a.new ++ b.new;
    grown = b.grown ∙ (ap (λ (l : List Text). l ++ b.new) a.grown ∙ append_assoc s.sources a.new b.new);
    from = λ p m.
        rw (readable-cons files i is)
        (⊎_elim (λ w. mathlib.Core.List.Memᴰ.append_left _ (a.from p w)) (λ w. mathlib.Core.List.Memᴰ.append_right (readable files (i ∷ [])) (b.from p w)) (mathlib.Core.List.Memᴰ.append_cases a.new m));
    lists =
        b.lists
        ∙ (ap (λ (l : List Text). l ++ firsts l (readable files is)) a.lists
        ∙ (append_assoc (listed s) (firsts (listed s) (readable files (i ∷ []))) (firsts (listed s ++ firsts (listed s) (readable files (i ∷ []))) (readable files is))
        ∙ ap (λ (l : List Text). listed s ++ l)
        (sym (firsts-append (listed s) (readable files (i ∷ [])) (readable files is)) ∙ ap (firsts (listed s)) (sym (readable-cons files i is)))));
  }

  load-right : (is : List Import) (s : Loading) → Fit s → Loaded s (load_all files is s) is
  unfolding load_all readable firsts
  load-right [] s f = record {
    fit = f;
    new = [];
    grown = sym (append-nil s.sources);
    from = λ p m. absurd (mathlib.Core.List.Memᴰ.not-nil m);
    lists = sym (append-nil (listed s));
  }
  load-right (i ∷ is) s f =
      join i is s (load files i s) (load_all files is (load files i s)) (step i s f)
      (load-right is (load files i s) (step i s f).fit)

-- TURNS
module _ (files : List Text) (cache : Text → List ResolvedUse) (Reach : Text → Type 0) where
  -- what the uses of a file resolve to and can be read
  abbrev wanted : Text → List Text
  wanted f = readable files (valid_imports (cache f))

  -- reached is closed under imports
  Closed : Type 0
  Closed = (f p : Text) → Reach f → Memᴰ p (wanted f) → Reach p

  -- what holds after each turn
  record Good (g : Graph) : Type 0 where
    once : Once g.sources
    known : (p : Text) → Memᴰ p g.sources → member p files ≡ true
    bad : (p : Text) → Memᴰ p g.invalid → member p files ≡ false
    queue : current g ≤ length g.sources
    more : List Text
    first : g.sources ≡ entry_of files ++ more
    reached : (p : Text) → Memᴰ p g.sources → Reach p
    below : (u d : ℕ) → u < current g → Memᴰ d (get_or g.dependencies u []) → d < length g.sources
    lists : (u : ℕ) → u < current g → paths_at g.sources (get_or g.dependencies u []) ≡ firsts [] (wanted (get_or g.sources u []))

  module _ (closed : Closed) (g : Graph) (h : Good g) (waits : current g < length g.sources) where
    abbrev unit : Text
    unit = get_or g.sources (current g) []

    abbrev before : Loading
    before = record { sources = g.sources; list = []; invalid = g.invalid; faults = g.faults ++ lookup_faults (cache unit) }

    loaded : Loaded files before (load_all files (valid_imports (cache unit)) before) (valid_imports (cache unit))
    loaded = load-right files (valid_imports (cache unit)) before (record {
      once = h.once;
      known = h.known;
      bad = h.bad;
      below = λ d m. absurd (mathlib.Core.List.Memᴰ.not-nil m);
    })

    -- a turn from what its loading left
    turned : (s : Loading) → Loaded files before s (valid_imports (cache unit)) → Good (handled g s)
    unfolding Closed paths_at
    turned s l =
        let grow = length-append g.sources l.new in
        let len = ap length l.grown in
        let deps = length-append g.dependencies (s.list ∷ []) in
        let q = h.queue in
        record {
          once = l.fit.once;
          known = l.fit.known;
          bad = l.fit.bad;
          queue = omega arith;
          more = h.more ++ l.new;
          first = l.grown ∙ (ap (λ (k : List Text). k ++ l.new) h.first ∙ append_assoc (entry_of files) h.more l.new);
          reached = λ p m. ⊎_elim (h.reached p) (λ w. closed unit p (h.reached unit (get_d_mem g.sources (current g) [] waits)) (l.from p w))
              (mathlib.Core.List.Memᴰ.append_cases g.sources (subst (λ (k : List Text). Memᴰ p k) l.grown m));
          below = λ u d lt m.
              each_snoc (λ v ds. (x : ℕ) → Memᴰ x ds → x < length s.sources) g.dependencies s.list []
              (λ v b x w. let low = h.below v x b w in omega arith) l.fit.below u (omega arith) d m;
          lists = λ u lt.
              each_snoc (λ v ds. paths_at s.sources ds ≡ firsts [] (wanted (get_or s.sources v []))) g.dependencies s.list []
              (λ v b. let w : v < length g.sources = omega arith in
              rw (l.grown, paths_grow g.sources l.new (get_or g.dependencies v []) (λ d m. h.below v d b m), get_or-append g.sources l.new [] v w) (h.lists v b))
              (l.lists ∙ ap (λ (f : Text). firsts [] (wanted f)) (sym (rw l.grown (get_or-append g.sources l.new [] (current g) waits)))) u (omega arith);
        }

    after_turn : Good (turn files cache g)
    unfolding turn
    after_turn = turned (load_all files (valid_imports (cache unit)) before) loaded

    one_more : current (turn files cache g) ≡ suc (current g)
    unfolding turn
    one_more = let e = length-append g.dependencies ((load_all files (valid_imports (cache unit)) before).list ∷ []) in omega arith

  -- every unit is a file, so there are no more units than files
  units-files : (g : Graph) → Good g → length g.sources ≤ length files
  units-files g h = pigeons h.once files (λ p m. member_true p files (h.known p m))

  -- the queue is empty in the end: the bound on the turns is never met with a unit left
  abbrev Finished : Graph → Type 0
  Finished g = Good g × (current g ≡ length g.sources)

  turns-right : Closed → (k : ℕ) (g : Graph) → Good g → length files ≤ k + current g → Finished (turns k files cache g)
  unfolding turns
  turns-right closed zero g h b = (h, let q = h.queue in omega (arith, units-files g h))
  turns-right closed (suc k) g h b =
      cond_elim Finished (ltb (current g) (length g.sources))
      (λ e. let w = ltb-true (current g) (length g.sources) e in
      turns-right closed k (turn files cache g) (after_turn closed g h w) (let o = one_more closed g h w in omega arith))
      (λ e. (h, let q = h.queue in let w = ltb-false (current g) (length g.sources) e in omega arith))

  start-good : ((p : Text) → Memᴰ p (entry_of files) → Reach p) → Good (start files)
  start-good r = record {
    once = entry-once files;
    known = λ p m. mem_member (entry-file files p m);
    bad = λ p m. absurd (mathlib.Core.List.Memᴰ.not-nil m);
    queue = omega arith;
    more = [];
    first = sym (append-nil (entry_of files));
    reached = r;
    below = λ u d lt m. absurd (not-suc-le-zero lt);
    lists = λ u lt. absurd (not-suc-le-zero lt);
  }
    where
      entry-once : (fs : List Text) → Once (entry_of fs)
      entry-once [] = none
      entry-once (q ∷ fs) = more mathlib.Core.List.Memᴰ.not-nil none

-- VALID IMPORTS
import-resolves : (rs : List ResolvedUse) {i : Import} → Memᴰ i (valid_imports rs) → (r : ResolvedUse) × (Memᴰ r rs × ((rest : List Text) × (r.resolved ≡ to i.path rest)))
unfolding valid_imports
import-resolves [] m = absurd (mathlib.Core.List.Memᴰ.not-nil m)
import-resolves (r ∷ rs) {i} m =
    ⊎_elim
    (λ w. (r, (mathlib.Core.List.Memᴰ.head refl, here r.resolved w)))
    (λ w. let t = import-resolves rs w in (t.0, (mathlib.Core.List.Memᴰ.tail t.1.0, t.1.1)))
    (mathlib.Core.List.Memᴰ.append_cases (import_of r.mark r.resolved) m)
  where
    here : (x : Resolved) → Memᴰ i (import_of r.mark x) → (rest : List Text) × (x ≡ to i.path rest)
    here (to p rest) w = (rest, ap (λ (q : Text). to q rest) (sym (ap (λ (j : Import). j.path) (mathlib.Core.List.Memᴰ.eq_of_singleton w))))
    here (fails f) w = absurd (mathlib.Core.List.Memᴰ.not-nil w)

pub resolves-import : {rs : List ResolvedUse} {r : ResolvedUse} → Memᴰ r rs → (p : Text) (rest : List Text) → r.resolved ≡ to p rest
    → Memᴰ (record { path = p; mark = r.mark }) (valid_imports rs)
unfolding valid_imports
resolves-import {rs = []} m p rest e = absurd (mathlib.Core.List.Memᴰ.not-nil m)
resolves-import {rs = x ∷ rs} {r} m p rest e =
    ⊎_elim
    (λ q. let e' : x.resolved ≡ to p rest = ap (λ (y : ResolvedUse). y.resolved) (sym q) ∙ e in
    mathlib.Core.List.Memᴰ.append_left {s = import_of x.mark x.resolved} _ (rw e' (mathlib.Core.List.Memᴰ.head (ap (λ (y : ResolvedUse). record { path = p; mark = y.mark }) q))))
    (λ w. mathlib.Core.List.Memᴰ.append_right (import_of x.mark x.resolved) (resolves-import w p rest e))
    (mathlib.Core.List.Memᴰ.cases_cons m)

-- THE THEOREM
-- the units are exactly the reached files, each once, and the entry is 0; a unit's list has exactly the readable files that its
-- uses resolve to, each once, in the order of first use
pub record Discovered (b : Bundle) (g : Graph) : Type 0 where
  -- every unit was handled
  pub handled_all : length g.dependencies ≡ length g.sources
  pub once : Once g.sources
  pub sound : (p : Text) → Memᴰ p g.sources → Reached b p
  pub complete : (p : Text) → Reached b p → Memᴰ p g.sources
  pub entry_first : (p : Text) (ps : List Text) → paths_of b ≡ p ∷ ps → get_or g.sources 0 [] ≡ p
  -- ids in lists are units
  pub below : (u d : ℕ) → u < length g.sources → Memᴰ d (get_or g.dependencies u []) → d < length g.sources
  pub list_once : (u : ℕ) → u < length g.sources → Once (get_or g.dependencies u [])
  -- the list as paths
  pub lists : (u : ℕ) → u < length g.sources → paths_at g.sources (get_or g.dependencies u []) ≡ imports_of b (get_or g.sources u [])

module _ (b : Bundle) where
  pub imports-sound : {f p : Text} → Memᴰ p (imports_of b f) → Imports b f p
  unfolding imports_of use_cache
  imports-sound {f} {p} m =
      let r = readable-sound (paths_of b) (valid_imports (use_cache b f)) (firsts-sound [] (readable (paths_of b) (valid_imports (use_cache b f))) m).0 in
      let i = import-resolves (use_cache b f) r.1.0 in
      let u = mathlib.Core.List.Memᴰ.of_map (resolve_single (lists_of b) f) (uses (program_of b.files f)) i.1.0 in
      record {
        by = u.0;
        rest = i.1.1.0;
        used = u.1;
        resolves = ap (λ (y : ResolvedUse). y.resolved) u.2 ∙ (i.1.1.1 ∙ ap (λ (q : Text). to q i.1.1.0) (sym r.1.1.0));
        readable = r.1.1.1;
      }

  pub imports-complete : {f p : Text} → Imports b f p → Memᴰ p (imports_of b f)
  unfolding imports_of use_cache
  imports-complete {f} {p} h =
      firsts-complete [] (readable (paths_of b) (valid_imports (use_cache b f)))
      (readable-complete (paths_of b) (resolves-import (mathlib.Core.List.Memᴰ.map (resolve_single (lists_of b) f) h.used) p h.rest h.resolves) h.readable)
      mathlib.Core.List.Memᴰ.not-nil

  -- each once
  pub imports-once : (f : Text) → Once (imports_of b f)
  unfolding imports_of
  imports-once f = firsts-once [] (readable (paths_of b) (valid_imports (use_cache b f)))

  closed-reached : Closed (paths_of b) (use_cache b) (Reached b)
  unfolding Closed imports_of
  closed-reached f p r m = imported r (imports-sound (firsts-complete [] (readable (paths_of b) (valid_imports (use_cache b f))) m mathlib.Core.List.Memᴰ.not-nil))

  finished : Finished (paths_of b) (use_cache b) (Reached b) (discover_dependencies b)
  unfolding discover_dependencies
  finished =
      turns-right (paths_of b) (use_cache b) (Reached b) closed-reached (length b.files) (start (paths_of b))
      (start-good (paths_of b) (use_cache b) (Reached b) (entry-reached (paths_of b) refl))
      (omega (arith, length-map b.files (λ (f : File). f.path)))
    where
      entry-reached : (fs : List Text) → paths_of b ≡ fs → (p : Text) → Memᴰ p (entry_of fs) → Reached b p
      entry-reached [] e p m = absurd (mathlib.Core.List.Memᴰ.not-nil m)
      entry-reached (q ∷ fs) e p m = entry (e ∙ ap (λ (y : Text). y ∷ fs) (sym (mathlib.Core.List.Memᴰ.eq_of_singleton m)))

  -- what is reached is a unit
  module _ (g : Graph) (h : Good (paths_of b) (use_cache b) (Reached b) g) (e : current g ≡ length g.sources) where
    within : (p : Text) → Reached b p → Memᴰ p g.sources
    unfolding imports_of
    within p (entry q) = rw (h.first, q) (mathlib.Core.List.Memᴰ.head refl)
    within p (imported {f} r i) =
        let s = mem_get_d [] (within f r) in
        let m : Memᴰ p (paths_at g.sources (get_or g.dependencies s.0 [])) = rw (h.lists s.0 (omega arith), s.1.1) (imports-complete i) in
        let t = mem_paths g.sources (get_or g.dependencies s.0 []) m in
        mathlib.Core.List.Memᴰ.cast t.1.1 (get_d_mem g.sources t.0 [] (h.below s.0 t.0 (omega arith) t.1.0))

    right : Discovered b g
    unfolding imports_of
    right = record {
      handled_all = e;
      once = h.once;
      sound = h.reached;
      complete = within;
      entry_first = λ p ps q. rw (h.first, q);
      below = λ u d lt m. h.below u d (omega arith) m;
      list_once = λ u lt.
          paths-once g.sources (get_or g.dependencies u []) (rw (h.lists u (omega arith)) (firsts-once [] (readable (paths_of b) (valid_imports (use_cache b (get_or g.sources u []))))));
      lists = λ u lt. h.lists u (omega arith);
    }

  pub discovered : Discovered b (discover_dependencies b)
  discovered = right (discover_dependencies b) finished.0 finished.1
