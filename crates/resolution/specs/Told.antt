-- The code's answers in the specification's numbers. Assumes nothing.
use Rattle.std.specs.Prelude.{ℕ, Bool, true, false, cond, length, List, Result, Ok, Err, ◌≡◌, refl}
use Rattle.std.proofs.Common.{ap}
use Rattle.refusal.specs.declared.Cause.{Cause}
use Rattle.refusal.specs.declared.Refusal.{Refusal}
use Rattle.refusal.specs.declared.Cause.TheVariants.{EmptyUse, UnknownLibrary, NoLibraryFile, NoFile, OwnFile, NoRoot}
use Rattle.refusal.specs.Numbers.{number_of, number-inj}
use Rattle.names.specs.Bytes.{member}
use Rattle.bundle.specs.Bundle.{Text}
use Rattle.bundle.specs.Results.{Next, Bad}
use Rattle.resolution.specs.declared.Found.{Found}
use Rattle.resolution.specs.declared.Target.{Target}
use Rattle.resolution.specs.declared.Target.TheVariants as target
use Rattle.resolution.specs.Results.{Resolution, File, Folder, Refused}
use Rattle.resolution.specs.Lists.{Lists}
use Rattle.resolution.specs.Resolution.{Fault, empty_use_fault, unknown_library_fault, no_library_file_fault, no_file_fault, own_file_fault, no_root_fault, number, Resolved, to, fails}
use Rattle.resolution.specs.Call.{position, answer, scan_segments, segments}

abbrev target_told : Target → ℕ → Resolution
target_told (target.File i) left = File i left
target_told (target.Folder i) left = Folder i left

abbrev pub found_told : Found → Resolution
found_told f = target_told f.target f.left

abbrev pub told : Result Found Refusal → Resolution
told (Ok f) = found_told f
told (Err e) = Refused (number_of e.cause) e.place

-- a use's fault is told at place 0
abbrev pub told_use : Result Found Cause → Resolution
told_use (Ok f) = found_told f
told_use (Err c) = Refused (number_of c) 0

-- THE ANSWER to a use, as the code has it
abbrev pub cause_in : Fault → Cause
cause_in empty_use_fault = EmptyUse
cause_in unknown_library_fault = UnknownLibrary
cause_in (no_library_file_fault m) = NoLibraryFile
cause_in (no_file_fault m) = NoFile
cause_in own_file_fault = OwnFile
cause_in no_root_fault = NoRoot

abbrev pub answered : Lists → Resolved → Result Found Cause
answered b (to p rest) = Ok (record { target = cond (member p b.files) (target.File (position p b.files)) (target.Folder (position p b.folders)); left = length rest })
answered b (fails f) = Err (cause_in f)

pub number-in : (f : Fault) → number_of (cause_in f) ≡ number f
number-in empty_use_fault = refl
number-in unknown_library_fault = refl
number-in (no_library_file_fault m) = refl
number-in (no_file_fault m) = refl
number-in own_file_fault = refl
number-in no_root_fault = refl

pub told-answered : (b : Lists) (r : Resolved) → told_use (answered b r) ≡ answer b r
told-answered b (to p rest) = go (member p b.files)
  where
    go : (t : Bool) → target_told (cond t (target.File (position p b.files)) (target.Folder (position p b.folders))) (length rest) ≡ cond t (File (position p b.files) (length rest)) (Folder (position p b.folders) (length rest))
    go true = refl
    go false = refl
told-answered b (fails f) = ap (λ (n : ℕ). Refused n 0) (number-in f)

-- no two answers are told alike
pub told_use-inj : (x y : Result Found Cause) → told_use x ≡ told_use y → x ≡ y
told_use-inj (Ok f) (Ok h) e = ap Ok (go f.target h.target f.left h.left e)
  where
    go : (t u : Target) (l m : ℕ) → target_told t l ≡ target_told u m → ◌≡◌ {A = Found} (record { target = t; left = l }) (record { target = u; left = m })
    go (target.File i) (target.File j) l m e = let p : i ≡ j = cc in let q : l ≡ m = cc in rw (p, q) refl
    go (target.File i) (target.Folder j) l m e = cc
    go (target.Folder i) (target.File j) l m e = cc
    go (target.Folder i) (target.Folder j) l m e = let p : i ≡ j = cc in let q : l ≡ m = cc in rw (p, q) refl
told_use-inj (Ok f) (Err d) e = go f.target e
  where
    go : (t : Target) → target_told t f.left ≡ Refused (number_of d) 0 → ◌≡◌ {A = Result Found Cause} (Ok f) (Err d)
    go (target.File i) e = cc
    go (target.Folder i) e = cc
told_use-inj (Err c) (Ok f) e = go f.target e
  where
    go : (t : Target) → Refused (number_of c) 0 ≡ target_told t f.left → ◌≡◌ {A = Result Found Cause} (Err c) (Ok f)
    go (target.File i) e = cc
    go (target.Folder i) e = cc
told_use-inj (Err c) (Err d) e = let n : number_of c ≡ number_of d = cc in ap Err (number-inj c d n)

-- SEGMENTS THAT ARE HANDED IN: they pass the test of their form, or its number
abbrev pub Given : List ℕ → Result (List Text) Cause → Type 0
Given u (Ok l) = (l ≡ segments u) × ((at : ℕ) × (scan_segments u ≡ Next at))
Given u (Err c) = (place : ℕ) × (scan_segments u ≡ Bad (number_of c) place)
