-- Where discovery tells no fault, every use of a reached file resolves to a unit. Assumes nothing.
use Prim.Native.Nat.{ℕ, zero, suc, ◌<◌, ◌≤◌}
use Rattle.std.proofs.Common.{not-suc-le-zero, arith, subst, ◌∙◌, length-append, ltb-true}
use Rattle.std.specs.Prelude.{◌≡◌, refl, true, ltb, length, get_or}
use Rattle.std.proofs.Math.Path.{sym, ap}
use Rattle.std.proofs.Math.Logic.{⊎_elim}
use mathlib.Core.List.Memᴰ
use mathlib.Core.List.{List, [], ◌∷◌, ◌++◌, append-nil, append_assoc, Memᴰ}
use Rattle.std.proofs.Math.ListN.{get_or-append}
use Rattle.names.specs.Bytes.{member, false_true}
use Rattle.bundle.specs.Bundle.{Text, Bundle}
use Rattle.resolution.specs.Lists.{lists_of}
use Rattle.resolution.specs.Resolution.{Resolved, to, fails, resolve_path_internal}
use Rattle.discovery.specs.Discovery.{Use, uses, program_of, ResolvedUse, resolve_single, use_cache, Import, fault_of, lookup_faults, valid_imports, Loading, load, load_all, Graph, current, handled, turn, turns, start, paths_of, discover_dependencies}
use Rattle.discovery.specs.Reached.{Reached, imported}
use Rattle.discovery.specs.Facts.{cond_elim, member_true, mem_member, entry-file, mem_snoc, mem_get_d, each_snoc}
use Rattle.discovery.specs.Right.{discovered, resolves-import}

-- nothing after something is nothing
no_snoc : {A : Type 0} (l : List A) (a : A) → l ++ (a ∷ []) ≡ [] → ⊥
no_snoc [] a e = let z : ◌≡◌ {A = ℕ} 0 1 = cc in omega arith
no_snoc (x ∷ l) a e = let z : ◌≡◌ {A = ℕ} 0 1 = cc in omega arith

no_left : {A : Type 0} (l k : List A) → l ++ k ≡ [] → (l ≡ []) × (k ≡ [])
no_left [] k e = (refl, e)
no_left (x ∷ l) k e = let z : ◌≡◌ {A = ℕ} 0 1 = cc in absurd (omega arith)

module _ (files : List Text) where
  -- units are files, and what could not be read was told
  record AllTold (s : Loading) : Type 0 where
    known : (p : Text) → Memᴰ p s.sources → member p files ≡ true
    told : s.faults ≡ [] → s.invalid ≡ []

  record CleanLoad (s s' : Loading) (is : List Import) : Type 0 where
    ok : AllTold s'
    new : List Text
    grown : s'.sources ≡ s.sources ++ new
    clean : s'.faults ≡ [] → (s.faults ≡ []) × ((i : Import) → Memᴰ i is → member i.path files ≡ true)

  only : (i : Import) → member i.path files ≡ true → (j : Import) → Memᴰ j (i ∷ []) → member j.path files ≡ true
  only i e j m = ⊎_elim (λ q. ap (λ (k : Import). member k.path files) q ∙ e) (λ w. absurd (Memᴰ.not-nil w)) (Memᴰ.cases_cons m)

  load-clean : (i : Import) (s : Loading) → AllTold s → CleanLoad s (load files i s) (i ∷ [])
  unfolding load member
  load-clean i s o =
      cond_elim (λ s'. CleanLoad s s' (i ∷ [])) (member i.path s.invalid)
      (λ e. record {
        ok = o;
        new = [];
        grown = sym (append-nil s.sources);
        clean = λ q. (q, absurd (false_true (ap (member i.path) (sym (o.told q)) ∙ e)));
      })
      (λ e. cond_elim (λ s'. CleanLoad s s' (i ∷ [])) (member i.path s.sources)
      (λ k. record {
        ok = record { known = o.known; told = o.told };
        new = [];
        grown = sym (append-nil s.sources);
        clean = λ q. (q, only i (o.known i.path (member_true i.path s.sources k)));
      })
      (λ k. cond_elim (λ s'. CleanLoad s s' (i ∷ [])) (member i.path files)
      (λ f. record {
        ok = record { known = λ x w. ⊎_elim (o.known x) (λ q. ap (λ (y : Text). member y files) q ∙ f) (mem_snoc s.sources w); told = o.told };
        new = i.path ∷ [];
        grown = refl;
        clean = λ q. (q, only i f);
      })
      (λ f. record {
        ok = record { known = o.known; told = λ q. absurd (no_snoc s.faults _ q) };
        new = [];
        grown = sym (append-nil s.sources);
        clean = λ q. absurd (no_snoc s.faults _ q);
      })))

  clean_join : (i : Import) (is : List Import) (s s₁ s₂ : Loading) → CleanLoad s s₁ (i ∷ []) → CleanLoad s₁ s₂ is → CleanLoad s s₂ (i ∷ is)
  clean_join i is s s₁ s₂ a b = record {
    ok = b.ok;
    new = a.new ++ b.new;
    grown = b.grown ∙ (ap (λ (l : List Text). l ++ b.new) a.grown ∙ append_assoc s.sources a.new b.new);
    clean = λ q. (
      (a.clean (b.clean q).0).0,
      λ j m. ⊎_elim (λ e. (a.clean (b.clean q).0).1 j (Memᴰ.head e)) (λ w. (b.clean q).1 j w) (Memᴰ.cases_cons m),
    );
  }

  all-clean : (is : List Import) (s : Loading) → AllTold s → CleanLoad s (load_all files is s) is
  unfolding load_all
  all-clean [] s o = record { ok = o; new = []; grown = sym (append-nil s.sources); clean = λ q. (q, λ i m. absurd (Memᴰ.not-nil m)) }
  all-clean (i ∷ is) s o =
      clean_join i is s (load files i s) (load_all files is (load files i s)) (load-clean i s o) (all-clean is (load files i s) (load-clean i s o).ok)

  module _ (cache : Text → List ResolvedUse) where
    -- every use of a file resolves to a readable one
    record Lands (f : Text) : Type 0 where
      found : lookup_faults (cache f) ≡ []
      read : (i : Import) → Memᴰ i (valid_imports (cache f)) → member i.path files ≡ true

    record Clean (g : Graph) : Type 0 where
      known : (p : Text) → Memᴰ p g.sources → member p files ≡ true
      told : g.faults ≡ [] → g.invalid ≡ []
      queue : current g ≤ length g.sources
      lands : g.faults ≡ [] → (u : ℕ) → u < current g → Lands (get_or g.sources u [])

    turned-clean : (g : Graph) (s : Loading) → Clean g → current g < length g.sources
        → CleanLoad (record { sources = g.sources; list = []; invalid = g.invalid; faults = g.faults ++ lookup_faults (cache (get_or g.sources (current g) [])) }) s (valid_imports (cache (get_or g.sources (current g) [])))
        → Clean (handled g s)
    turned-clean g s h w l =
        let deps = length-append g.dependencies (s.list ∷ []) in
        let len = ap length l.grown in
        let grow = length-append g.sources l.new in
        record {
          known = l.ok.known;
          told = l.ok.told;
          queue = omega arith;
          lands = λ q u lt.
              each_snoc (λ v ds. Lands (get_or s.sources v [])) g.dependencies s.list []
              (λ v b. let lv : v < length g.sources = omega arith in
              subst Lands (sym (ap (λ (k : List Text). get_or k v []) l.grown ∙ get_or-append g.sources l.new [] v lv))
              (h.lands (no_left g.faults _ (l.clean q).0).0 v b))
              (subst Lands (sym (ap (λ (k : List Text). get_or k (current g) []) l.grown ∙ get_or-append g.sources l.new [] (current g) w))
              (record { found = (no_left g.faults _ (l.clean q).0).1; read = (l.clean q).1 }))
              u (omega arith);
        }

    turn-clean : (g : Graph) → Clean g → current g < length g.sources → Clean (turn files cache g)
    unfolding turn lookup_faults
    turn-clean g h w =
        turned-clean g _ h w
        (all-clean (valid_imports (cache (get_or g.sources (current g) []))) _
        (record { known = h.known; told = λ q. h.told (no_left g.faults _ q).0 }))

    turns-clean : (k : ℕ) (g : Graph) → Clean g → Clean (turns k files cache g)
    unfolding turns
    turns-clean zero g h = h
    turns-clean (suc k) g h =
        cond_elim Clean (ltb (current g) (length g.sources))
        (λ e. turns-clean k (turn files cache g) (turn-clean g h (ltb-true (current g) (length g.sources) e))) (λ e. h)

    start-clean : Clean (start files)
    start-clean = record {
      known = λ p m. mem_member (entry-file files p m);
      told = λ q. refl;
      queue = omega arith;
      lands = λ q u lt. absurd (not-suc-le-zero lt);
    }

-- a use with no lookup fault resolves
found-resolves : (rs : List ResolvedUse) {r : ResolvedUse} → lookup_faults rs ≡ [] → Memᴰ r rs → (p : Text) × ((rest : List Text) × (r.resolved ≡ to p rest))
unfolding lookup_faults
found-resolves [] q m = absurd (Memᴰ.not-nil m)
found-resolves (x ∷ rs) {r} q m =
    let n = no_left (fault_of x.mark x.resolved) (lookup_faults rs) q in
    ⊎_elim
    (λ e. let t = here x.resolved n.0 in (t.0, (t.1.0, ap (λ (y : ResolvedUse). y.resolved) e ∙ t.1.1)))
    (λ w. found-resolves rs n.1 w) (Memᴰ.cases_cons m)
  where
    here : (y : Resolved) → fault_of x.mark y ≡ [] → (p : Text) × ((rest : List Text) × (y ≡ to p rest))
    here (to p rest) e = (p, (rest, refl))
    here (fails f) e = let z : ◌≡◌ {A = ℕ} 0 1 = cc in absurd (omega arith)

ends-clean : (b : Bundle) → Clean (paths_of b) (use_cache b) (discover_dependencies b)
unfolding discover_dependencies
ends-clean b = turns-clean (paths_of b) (use_cache b) (length b.files) (start (paths_of b)) (start-clean (paths_of b) (use_cache b))

-- what a use of a unit resolves to is a unit
pub record ToUnit (b : Bundle) (f : Text) (u : Use) : Type 0 where
  pub target : Text
  pub rest : List Text
  pub resolves : resolve_path_internal (lists_of b) f u.segments ≡ to target rest
  pub unit : Memᴰ target (discover_dependencies b).sources

pub no_fault : (b : Bundle) → (discover_dependencies b).faults ≡ [] → (f : Text) → Reached b f → (u : Use) → Memᴰ u (uses (program_of b.files f)) → ToUnit b f u
unfolding use_cache
no_fault b q f r u m =
    let d = discovered b in
    let at = mem_get_d [] (d.complete f r) in
    let n = d.handled_all in
    let l = subst (Lands (paths_of b) (use_cache b)) at.1.1 ((ends-clean b).lands q at.0 (omega arith)) in
    let rm = Memᴰ.map (resolve_single (lists_of b) f) m in
    let t = found-resolves (use_cache b f) l.found rm in
    let readable = member_true t.0 (paths_of b) (l.read (record { path = t.0; mark = u.mark }) (resolves-import rm t.0 t.1.0 t.1.1)) in
    record {
      target = t.0;
      rest = t.1.0;
      resolves = t.1.1;
      unit = d.complete t.0 (imported r (record { by = u; rest = t.1.0; used = m; resolves = t.1.1; readable = readable }));
    }
