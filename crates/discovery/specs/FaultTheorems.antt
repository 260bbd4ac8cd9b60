-- Every fault that discovery tells is one of a use of a reached file: with `no_fault`, faults are told exactly where there are some. Assumes nothing.
use Prim.Native.Nat.{ℕ, zero, suc}
use Rattle.std.specs.Prelude.{◌≡◌, false, ltb, length, get_or}
use Rattle.std.proofs.Math.Path.{refl, ap}
use Rattle.std.proofs.Common.{sym, ◌∙◌, ltb-true}
use Rattle.std.proofs.Math.Logic.{⊎_elim}
use mathlib.Core.List.Memᴰ
use mathlib.Core.List.{List, [], ◌∷◌, ◌++◌, Memᴰ}
use Rattle.names.specs.Bytes.{member}
use Rattle.bundle.specs.Bundle.{Text, Bundle}
use Rattle.resolution.specs.Lists.{lists_of}
use Rattle.resolution.specs.Resolution.{Resolved, to, fails, Fault as Failure, number, resolve_path_internal}
use Rattle.discovery.specs.Discovery.{Use, uses, program_of, ResolvedUse, resolve_single, use_cache, Fault, fault_of, Import, import_of, lookup_faults, valid_imports, unreadable, Loading, load, load_all, Graph, current, turn, turns, start, paths_of, discover_dependencies}
use Rattle.discovery.specs.Reached.{Reached}
use Rattle.discovery.specs.Facts.{cond_elim, mem_snoc, get_d_mem}
use Rattle.discovery.specs.Right.{discovered}

-- why a use is told with a number: its lookup fails, or what it resolves to can't be read
pub data Why (files : List Text) (x : Resolved) (n : ℕ) : Type 0 where
  lookup : (f : Failure) → x ≡ fails f → n ≡ number f → Why files x n
  reading : (p : Text) (rest : List Text) → x ≡ to p rest → member p files ≡ false → n ≡ unreadable → Why files x n

-- the fault is that of one of these uses
record Among (files : List Text) (rs : List ResolvedUse) (x : Fault) : Type 0 where
  by : ResolvedUse
  among : Memᴰ by rs
  place : x.place ≡ by.mark
  why : Why files by.resolved x.number

more-uses : {files : List Text} {rs : List ResolvedUse} {x : Fault} (r : ResolvedUse) → Among files rs x → Among files (r ∷ rs) x
more-uses r a = record { by = a.by; among = Memᴰ.tail a.among; place = a.place; why = a.why }

lookup-faults : (files : List Text) (rs : List ResolvedUse) {x : Fault} → Memᴰ x (lookup_faults rs) → Among files rs x
unfolding lookup_faults
lookup-faults files [] m = absurd (Memᴰ.not-nil m)
lookup-faults files (r ∷ rs) {x} m =
    ⊎_elim (λ w. here r.resolved refl w) (λ w. more-uses r (lookup-faults files rs w)) (Memᴰ.append_cases (fault_of r.mark r.resolved) m)
  where
    here : (y : Resolved) → r.resolved ≡ y → Memᴰ x (fault_of r.mark y) → Among files (r ∷ rs) x
    here (to p rest) e w = absurd (Memᴰ.not-nil w)
    here (fails f) e w =
        let q = Memᴰ.eq_of_singleton w in
        record { by = r; among = Memᴰ.head refl; place = ap (λ (z : Fault). z.place) q; why = lookup f e (ap (λ (z : Fault). z.number) q) }

-- an import is what one of the uses resolves to
record Imported (rs : List ResolvedUse) (i : Import) : Type 0 where
  by : ResolvedUse
  among : Memᴰ by rs
  mark : i.mark ≡ by.mark
  rest : List Text
  resolves : by.resolved ≡ to i.path rest

import-of : (rs : List ResolvedUse) {i : Import} → Memᴰ i (valid_imports rs) → Imported rs i
unfolding valid_imports
import-of [] m = absurd (Memᴰ.not-nil m)
import-of (r ∷ rs) {i} m =
    ⊎_elim (λ w. here r.resolved refl w)
    (λ w. let t = import-of rs w in record { by = t.by; among = Memᴰ.tail t.among; mark = t.mark; rest = t.rest; resolves = t.resolves })
    (Memᴰ.append_cases (import_of r.mark r.resolved) m)
  where
    here : (y : Resolved) → r.resolved ≡ y → Memᴰ i (import_of r.mark y) → Imported (r ∷ rs) i
    here (to p rest) e w =
        let q = Memᴰ.eq_of_singleton w in
        record { by = r; among = Memᴰ.head refl; mark = ap (λ (z : Import). z.mark) q; rest = rest; resolves = e ∙ ap (λ (z : Text). to z rest) (sym (ap (λ (z : Import). z.path) q)) }
    here (fails f) e w = absurd (Memᴰ.not-nil w)

module _ (files : List Text) (cache : Text → List ResolvedUse) where
  -- the fault is that of a use of one of these units
  record From (units : List Text) (x : Fault) : Type 0 where
    file : Text
    unit : Memᴰ file units
    told : Among files (cache file) x

  abbrev AllFrom : List Text → List Fault → Type 0
  AllFrom units l = (x : Fault) → Memᴰ x l → From units x

  more-units : {units : List Text} {x : Fault} (new : List Text) → From units x → From (units ++ new) x
  more-units new a = record { file = a.file; unit = Memᴰ.append_left new a.unit; told = a.told }

  module _ (f : Text) where
    load_from : (i : Import) (s : Loading) → Memᴰ f s.sources → Memᴰ i (valid_imports (cache f)) → AllFrom s.sources s.faults
        → Memᴰ f (load files i s).sources × AllFrom (load files i s).sources (load files i s).faults
    unfolding load
    load_from i s u m h =
        cond_elim (λ (s' : Loading). Memᴰ f s'.sources × AllFrom s'.sources s'.faults) (member i.path s.invalid) (λ e. (u, h))
        (λ e. cond_elim (λ (s' : Loading). Memᴰ f s'.sources × AllFrom s'.sources s'.faults) (member i.path s.sources) (λ k. (u, h))
        (λ k. cond_elim (λ (s' : Loading). Memᴰ f s'.sources × AllFrom s'.sources s'.faults) (member i.path files)
        (λ q. (Memᴰ.append_left (i.path ∷ []) u, λ x w. more-units (i.path ∷ []) (h x w)))
        (λ q. (
          u,
          λ x w. ⊎_elim (h x)
              (λ e'. let t = import-of (cache f) m in
              record {
                file = f;
                unit = u;
                told = record {
                  by = t.by;
                  among = t.among;
                  place = ap (λ (z : Fault). z.place) e' ∙ t.mark;
                  why = reading i.path t.rest t.resolves q (ap (λ (z : Fault). z.number) e');
                };
              }) (mem_snoc s.faults w),
        ))))

    loads_from : (is : List Import) (s : Loading) → Memᴰ f s.sources → ((i : Import) → Memᴰ i is → Memᴰ i (valid_imports (cache f))) → AllFrom s.sources s.faults
        → AllFrom (load_all files is s).sources (load_all files is s).faults
    unfolding load_all
    loads_from [] s u m h = h
    loads_from (i ∷ is) s u m h =
        let t = load_from i s u (m i (Memᴰ.head refl)) h in
        loads_from is (load files i s) t.0 (λ j w. m j (Memᴰ.tail w)) t.1

  turn-from : (g : Graph) (f : Text) → get_or g.sources (current g) [] ≡ f → Memᴰ f g.sources → AllFrom g.sources g.faults
      → AllFrom (turn files cache g).sources (turn files cache g).faults
  unfolding turn
  turn-from g f e u h =
      rw e (loads_from f (valid_imports (cache f)) (record { sources = g.sources; list = []; invalid = g.invalid; faults = g.faults ++ lookup_faults (cache f) }) u (λ i w. w)
      (λ x w. ⊎_elim (h x) (λ v. record { file = f; unit = u; told = lookup-faults files (cache f) v }) (Memᴰ.append_cases g.faults w)))

  turns-from : (k : ℕ) (g : Graph) → AllFrom g.sources g.faults → AllFrom (turns k files cache g).sources (turns k files cache g).faults
  unfolding turns
  turns-from zero g h = h
  turns-from (suc k) g h =
      cond_elim (λ (g' : Graph). AllFrom g'.sources g'.faults) (ltb (current g) (length g.sources))
      (λ e. turns-from k (turn files cache g) (turn-from g (get_or g.sources (current g) []) refl (get_d_mem g.sources (current g) [] (ltb-true (current g) (length g.sources) e)) h))
      (λ e. h)

-- THE THEOREM
-- a use of a reached file that has the fault's place and is told for a reason
pub record FaultTold (b : Bundle) (x : Fault) : Type 0 where
  pub file : Text
  pub reached : Reached b file
  pub by : Use
  pub used : Memᴰ by (uses (program_of b.files file))
  pub place : x.place ≡ by.mark
  pub why : Why (paths_of b) (resolve_path_internal (lists_of b) file by.segments) x.number

pub fault-told : (b : Bundle) (x : Fault) → Memᴰ x (discover_dependencies b).faults → FaultTold b x
unfolding discover_dependencies use_cache
fault-told b x m =
    let t = turns-from (paths_of b) (use_cache b) (length b.files) (start (paths_of b)) (λ y w. absurd (Memᴰ.not-nil w)) x m in
    let u = Memᴰ.of_map (resolve_single (lists_of b) t.file) (uses (program_of b.files t.file)) t.told.among in
    record {
      file = t.file;
      reached = (discovered b).sound t.file t.unit;
      by = u.0;
      used = u.1;
      place = t.told.place ∙ sym (ap (λ (r : ResolvedUse). r.mark) u.2);
      why = why-of (ap (λ (r : ResolvedUse). r.resolved) u.2) t.told.why;
    }
  where
    why-of : {files : List Text} {y z : Resolved} {n : ℕ} → y ≡ z → Why files z n → Why files y n
    why-of e (lookup f q k) = lookup f (e ∙ q) k
    why-of e (reading p rest q r k) = reading p rest (e ∙ q) r k
