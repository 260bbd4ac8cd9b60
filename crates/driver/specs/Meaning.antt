-- What the code's lookups leave in its record: the faults and the imports of the definition. Assumes nothing.
use Rattle.std.specs.Prelude.{ℕ, ◌+◌, ◌≤◌, ◌<◌, Bool, true, false, cond, ◌||◌, ◌≡◌, refl, length, get_or, take, set}
use Rattle.std.proofs.Common.{add-one, arith, ⊎_elim, sym, ap, subst, ◌∙◌, take-suc-set}
use mathlib.Core.List.{List, [], ◌∷◌, ◌++◌, map, append-nil, append_assoc, Memᴰ}
use Rattle.refusal.specs.declared.Refusal.{Refusal}
use Rattle.refusal.specs.Numbers.{number_of, refusal}
use Rattle.names.specs.Bytes.{member}
use Rattle.bundle.specs.Bundle.{Text}
use Rattle.bundle.specs.Limits.{use_limit}
use Rattle.resolution.specs.Lists.{Lists}
use Rattle.resolution.specs.Resolution.{Resolved, to, fails, resolve_path_internal}
use Rattle.resolution.specs.Theorems.{is_listed}
use Rattle.resolution.specs.Theorems as theorem
use Rattle.resolution.specs.Told.{answered, cause_in, number-in}
use Rattle.resolution.specs.Call.{position}
use Rattle.resolution.specs.declared.Target.{Target}
use Rattle.resolution.specs.declared.Target.TheVariants.{File, Folder}
use Rattle.driver.specs.declared.record.Graph.{Graph}
use Rattle.driver.specs.declared.record.Import.{Import as Gathered}
use Rattle.discovery.specs.Discovery.{Use, Fault, Import, fault_of, import_of, lookup_faults, valid_imports, resolve_single}
use Rattle.discovery.specs.Facts.{member_true, mem_snoc, map_snoc, id-found}
use Rattle.driver.specs.Record.{pushed_fault, pushed_import, looked, looked_use, looked_all, looked-faults, looked-imports, Wide, wide_fault, wide_import}

-- WHAT A USE RESOLVES TO IS LISTED
abbrev pub Listed : Lists → Text → Type 0
Listed b p = is_listed b p ≡ true

abbrev pub ResolvedListed : Lists → Resolved → Type 0
ResolvedListed b (to p rest) = Listed b p
ResolvedListed b (fails f) = Unit {0}

pub resolved-listed : (b : Lists) (file : Text) → member file b.files ≡ true → (segments : List Text) → ResolvedListed b (resolve_path_internal b file segments)
unfolding resolve_path_internal
resolved-listed b file known [] = tt
resolved-listed b file known (name ∷ parts) = go (resolve_path_internal b file (name ∷ parts)) refl
  where
    go : (r : Resolved) → resolve_path_internal b file (name ∷ parts) ≡ r → ResolvedListed b r
    go (to p rest) e = theorem.resolved-listed b file parts p rest name e (rw known)
    go (fails f) e = tt

-- FIRST PLACES: x is the first place of what stands there
pub record FirstOf (l : List Text) (x : ℕ) : Type 0 where
  pub within : x < length l
  pub first : position (get_or l x []) l ≡ x

pub first_found : (p : Text) (l : List Text) → member p l ≡ true → FirstOf l (position p l)
first_found p l m =
    let f = id-found p l (member_true p l m) in
    record { within = f.0; first = ap (λ (q : Text). position q l) f.1 }

-- THE RECORD'S FAULTS AND IMPORTS
abbrev pub fault_told : Refusal → Fault
fault_told e = record { number = number_of e.cause; place = e.place }

abbrev pub faults_of : Graph → List Fault
faults_of g = map fault_told (take g.fault_count g.faults)

abbrev pub file_path : Lists → ℕ → Text
file_path b x = get_or b.files x []

abbrev pub folder_path : Lists → ℕ → Text
folder_path b x = get_or b.folders x []

abbrev pub target_path : Lists → Target → Text
target_path b (File x) = file_path b x
target_path b (Folder x) = folder_path b x

abbrev pub import_told : Lists → Gathered → Import
import_told b i = record { path = target_path b i.target; mark = i.mark }

abbrev pub imports_of : Lists → Graph → List Import
imports_of b g = map (import_told b) (take g.import_count g.imports)

-- a target is the first place of a listed path; a folder's is no file's
abbrev pub Aimed : Lists → Target → Type 0
Aimed b (File x) = FirstOf b.files x
Aimed b (Folder x) = FirstOf b.folders x × (member (folder_path b x) b.files ≡ false)

abbrev pub AllAimed : Lists → Graph → Type 0
AllAimed b g = (i : Gathered) → Memᴰ i (take g.import_count g.imports) → Aimed b i.target

-- ONE MORE in an array
module _ {A : Type 0} where
  pub pushed : {B : Type 0} (f : A → B) (l : List A) (n : ℕ) (x : A) → n < length l → map f (take (n + 1) (set l n x)) ≡ map f (take n l) ++ (f x ∷ [])
  pushed f l n x h = rw (add-one n, take-suc-set l n x h) (map_snoc f (take n l) x)

  pub pushed_mem : (l : List A) (n : ℕ) (x : A) → n < length l → (y : A) → Memᴰ y (take (n + 1) (set l n x)) → Memᴰ y (take n l ++ (x ∷ []))
  pushed_mem l n x h y m = subst (λ (k : List A). Memᴰ y k) (ap (λ (k : ℕ). take k (set l n x)) (add-one n) ∙ take-suc-set l n x h) m

pub fault-pushed : (g : Graph) → Wide g → (e : Refusal) → g.fault_count < use_limit → faults_of (pushed_fault g e) ≡ faults_of g ++ (fault_told e ∷ [])
fault-pushed g w e h = pushed fault_told g.faults g.fault_count e (omega arith)

-- A LOOKUP
pub record Means (b : Lists) (g r : Graph) (fs : List Fault) (is : List Import) : Type 0 where
  pub wide : Wide r
  pub faults : faults_of r ≡ faults_of g ++ fs
  pub imports : imports_of b r ≡ imports_of b g ++ is
  pub aimed : AllAimed b g → AllAimed b r

module _ (b : Lists) (g : Graph) (w : Wide g) (hf : g.fault_count < use_limit) (hi : g.import_count < use_limit) where
  import-means : (t : Target) (m : ℕ) (p : Text) → target_path b t ≡ p → Aimed b t → Means b g (pushed_import g (record { target = t; mark = m })) [] (record { path = p; mark = m } ∷ [])
  import-means t m p e a = record {
    wide = wide_import g w (record { target = t; mark = m });
    faults = sym (append-nil (faults_of g));
    imports = pushed (import_told b) g.imports g.import_count (record { target = t; mark = m }) (omega arith) ∙ ap (λ (q : Text). imports_of b g ++ (record { path = q; mark = m } ∷ [])) e;
    aimed = λ f i k. ⊎_elim (f i) (λ q. subst (λ (j : Gathered). Aimed b j.target) (sym q) a) (mem_snoc (take g.import_count g.imports) (pushed_mem g.imports g.import_count (record { target = t; mark = m }) (omega arith) i k));
  }

  pub lookup-means : (mark : ℕ) (x : Resolved) → ResolvedListed b x → Means b g (looked (answered b x) mark g) (fault_of mark x) (import_of mark x)
  lookup-means mark (fails f) h = record {
    wide = wide_fault g w (refusal (cause_in f) mark);
    faults = fault-pushed g w (refusal (cause_in f) mark) hf ∙ ap (λ (n : ℕ). faults_of g ++ (record { number = n; place = mark } ∷ [])) (number-in f);
    imports = sym (append-nil (imports_of b g));
    aimed = λ f. f;
  }
  lookup-means mark (to p rest) h = go (member p b.files) refl h
    where
      go : (t : Bool) → member p b.files ≡ t → (t || member p b.folders) ≡ true
          → Means b g (pushed_import g (record { target = cond t (File (position p b.files)) (Folder (position p b.folders)); mark = mark })) [] (record { path = p; mark = mark } ∷ [])
      go true e k = import-means (File (position p b.files)) mark p (id-found p b.files (member_true p b.files e)).1 (first_found p b.files e)
      go false e k =
          let i = (id-found p b.folders (member_true p b.folders k)).1 in
          import-means (Folder (position p b.folders)) mark p i (first_found p b.folders k, ap (λ (q : Text). member q b.files) i ∙ e)

-- ALL LOOKUPS OF A FILE
pub lookups_mean : (b : Lists) (file : Text) → member file b.files ≡ true → (us : List Use) (g : Graph) → Wide g
    → g.fault_count + length us ≤ use_limit → g.import_count + length us ≤ use_limit
    → Means b g (looked_all b file us g) (lookup_faults (map (resolve_single b file) us)) (valid_imports (map (resolve_single b file) us))
unfolding looked_all lookup_faults valid_imports
lookups_mean b file known [] g w hf hi = record { wide = w; faults = sym (append-nil (faults_of g)); imports = sym (append-nil (imports_of b g)); aimed = λ f. f }
lookups_mean b file known (u ∷ us) g w hf hi =
    let a = lookup-means b g w (omega arith) (omega arith) u.mark (resolve_path_internal b file u.segments) (resolved-listed b file known u.segments) in
    let fl = looked-faults (answered b (resolve_path_internal b file u.segments)) u.mark g in
    let il = looked-imports (answered b (resolve_path_internal b file u.segments)) u.mark g in
    let r = lookups_mean b file known us (looked_use b file u g) a.wide (omega arith) (omega arith) in
    record {
      wide = r.wide;
      faults = r.faults ∙ (ap (λ (l : List Fault). l ++ lookup_faults (map (resolve_single b file) us)) a.faults ∙ append_assoc (faults_of g) (fault_of u.mark (resolve_path_internal b file u.segments)) (lookup_faults (map (resolve_single b file) us)));
      imports = r.imports ∙ (ap (λ (l : List Import). l ++ valid_imports (map (resolve_single b file) us)) a.imports ∙ append_assoc (imports_of b g) (import_of u.mark (resolve_path_internal b file u.segments)) (valid_imports (map (resolve_single b file) us)));
      aimed = λ f. r.aimed (a.aimed f);
    }
