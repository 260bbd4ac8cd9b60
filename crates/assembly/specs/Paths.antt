-- The paths that step 5 writes: what resolution leaves is an end of the segments after the first, so a path stays short and its
-- segments are identifiers. Assumes nothing.
use Rattle.std.specs.Prelude.{ℕ, ◌/◌, ◌≤◌, ◌<◌, true, length}
use Rattle.std.proofs.Common.{arith, ⊎_elim, sym, ap, ◌∙◌, length-append}
use Rattle.std.proofs.Math.Decide.{dec_lt}
use Rattle.std.proofs.Math.Path.{◌≡◌, refl, subst}
use Rattle.std.specs.Prelude.{Option, Some, None}
use mathlib.Core.List.Memᴰ
use mathlib.Core.List.{List, [], ◌∷◌, ◌++◌, Memᴰ}
use Rattle.names.specs.Bytes.{ascii, same, all}
use Rattle.names.specs.Decimal.{unit_name, width, width_one, width-more}
use Rattle.names.specs.Identifier.{is_identifier, class, letter, digit}
use Rattle.names.specs.Keywords.{is_crate}
use Rattle.names.specs.NameTheorems.{unit-identifier}
use Rattle.names.specs.Prefix.{directly_in, child, child_file}
use Rattle.bundle.specs.Bundle.{Text, Items, none, named, use_of, module_of, ignored, Remapping, File}
use Rattle.bundle.specs.Form.{Every, IsName, Formed, FormedFile}
use Rattle.bundle.specs.Limits.{depth_limit, segment_limit}
use Rattle.resolution.specs.Lists.{Lists}
use Rattle.resolution.specs.Resolution.{Lookup, found, missing, is_folder, exists, build_and_verify_path, Resolved, to, fails, or_itself, resolve_below, resolve_crate_path, check_local_file_imported_as_external, external, resolve_external_path, resolve_path_internal, get_package_root, remapping_for}
use Rattle.discovery.specs.Discovery.{Use, uses, program_of}
use Rattle.discovery.specs.Facts.{cond_elim}

-- WHAT IS LEFT
-- rest is an end of parts
pub record EndOf (parts rest : List Text) : Type 0 where
  pub before : List Text
  pub is : parts ≡ before ++ rest

abbrev LeftBy : List Text → Lookup → Type 0
LeftBy parts (found p rest) = EndOf parts rest
LeftBy parts (missing m) = Unit {0}

abbrev Leaves : List Text → Resolved → Type 0
Leaves parts (to p rest) = EndOf parts rest
Leaves parts (fails f) = Unit {0}

one_more : (part : Text) (parts : List Text) (x : Lookup) → LeftBy parts x → LeftBy (part ∷ parts) x
one_more part parts (found p rest) h = record { before = part ∷ h.before; is = ap (λ (l : List Text). part ∷ l) h.is }
one_more part parts (missing m) h = tt

module _ (l : Lists) (file : Text) where
  lookup-leaves : (base : Text) (parts : List Text) → LeftBy parts (build_and_verify_path l base parts)
  unfolding build_and_verify_path
  lookup-leaves base [] = tt
  lookup-leaves base (part ∷ parts) =
      cond_elim (LeftBy (part ∷ parts)) (is_folder l (child base part))
      (λ e. one_more part parts (build_and_verify_path l (child base part) parts) (lookup-leaves (child base part) parts))
      (λ e. cond_elim (LeftBy (part ∷ parts)) (exists l (child_file base part))
      (λ k. record { before = part ∷ []; is = refl }) (λ k. tt))

  module _ (parts : List Text) where
    itself-leaves : (root : Text) (x : Lookup) → LeftBy parts x → Leaves parts (or_itself root file parts x)
    itself-leaves root (found p rest) h = h
    itself-leaves root (missing m) h = cond_elim (Leaves parts) (directly_in file root) (λ e. record { before = []; is = refl }) (λ e. tt)

    below-leaves : (x : Option Text) → Leaves parts (resolve_below l file parts x)
    below-leaves None = tt
    below-leaves (Some root) = itself-leaves root (build_and_verify_path l root parts) (lookup-leaves root parts)

    external-leaves : (x : Lookup) → LeftBy parts x → Leaves parts (external l file x)
    external-leaves (found p rest) h = cond_elim (Leaves parts) (check_local_file_imported_as_external l file p) (λ e. tt) (λ e. h)
    external-leaves (missing m) h = tt

    outside-leaves : (x : Option Remapping) → Leaves parts (resolve_external_path l file parts x)
    outside-leaves None = tt
    outside-leaves (Some r) = external-leaves (build_and_verify_path l r.target parts) (lookup-leaves r.target parts)

    resolved-leaves : (name : Text) → Leaves parts (resolve_path_internal l file (name ∷ parts))
    unfolding resolve_path_internal resolve_crate_path
    resolved-leaves name =
        cond_elim (Leaves parts) (is_crate name) (λ e. below-leaves (get_package_root l file)) (λ e. outside-leaves (remapping_for l file name))

  -- a use that resolves has a first segment, and what is left is an end of those after it
  pub record LeftOf (segments rest : List Text) : Type 0 where
    pub first : Text
    pub parts : List Text
    pub is : segments ≡ first ∷ parts
    pub end : EndOf parts rest

  pub left-of : (segments : List Text) (p : Text) (rest : List Text) → resolve_path_internal l file segments ≡ to p rest → LeftOf segments rest
  unfolding resolve_path_internal
  left-of [] p rest e = let z : ◌≡◌ {A = ℕ} 0 1 = cc in absurd (omega arith)
  left-of (name ∷ parts) p rest e = record { first = name; parts = parts; is = refl; end = subst (Leaves parts) e (resolved-leaves parts name) }

-- THE SEGMENTS OF A FILE'S USES
every-end : (before rest : List Text) → Every IsName (before ++ rest) → Every IsName rest
unfolding Every
every-end [] rest h = h
every-end (t ∷ before) rest h = every-end before rest h.1

abbrev pub FormedPath : List Text → Type 0
FormedPath segments = (length segments ≤ segment_limit) × Every IsName segments

pub uses-formed : (x : Items) (d : ℕ) → Formed x d → (u : Use) → Memᴰ u (uses x) → FormedPath u.segments
unfolding Formed uses
uses-formed none d f u m = absurd (Memᴰ.not-nil m)
uses-formed (named head rest) d f u m = uses-formed rest d f.1 u m
uses-formed (use_of i v segments elements rest) d f u m =
    ⊎_elim (λ e. subst (λ (y : Use). FormedPath y.segments) (sym e) f.1.0) (λ w. uses-formed rest d f.1.1.1 u w) (Memᴰ.cases_cons m)
uses-formed (module_of i v name inner rest) d f u m =
    ⊎_elim (λ w. uses-formed inner _ f.1.1.0.1 u w) (λ w. uses-formed rest d f.1.1.1 u w) (Memᴰ.append_cases (uses inner) m)
uses-formed (ignored i v rest) d f u m = uses-formed rest d f.1 u m

pub program-formed : (fs : List File) (p : Text) → Every FormedFile fs → Formed (program_of fs p) depth_limit
unfolding Every program_of Formed
program-formed [] p h = tt
program-formed (f ∷ fs) p h = cond_elim (λ x. Formed x depth_limit) (same p f.path) (λ e. h.0.1) (λ e. program-formed fs p h.1)

-- THE NEW PATH
-- at most 17 segments, each an identifier
pub record ImagePath (path : List Text) : Type 0 where
  pub count : length path ≤ 17
  pub names : Every IsName path

crate_name : is_identifier (ascii "crate") ≡ true
unfolding is_identifier ascii all class letter digit
crate_name = refl

pub small_width : (n : ℕ) → n < 100 → width n ≤ 27
small_width n h = go (dec_lt n 10)
  where
    go : Dec (n < 10) → width n ≤ 27
    go (yes s) = omega (arith, width_one n s)
    go (no s) =
        let lt : n / 10 < 10 = omega arith in
        omega (arith, width-more n (omega arith), width_one (n / 10) lt)

pub image-path : (l : Lists) (file : Text) (segments : List Text) (p : Text) (rest : List Text) (id : ℕ) → resolve_path_internal l file segments ≡ to p rest
    → FormedPath segments → id < 100 → ImagePath (ascii "crate" ∷ unit_name id ∷ rest)
unfolding Every
image-path l file segments p rest id e f h =
    let t = left-of l file segments p rest e in
    let q : segments ≡ t.first ∷ (t.end.before ++ rest) = t.is ∙ ap (λ (k : List Text). t.first ∷ k) t.end.is in
    let g : FormedPath (t.first ∷ (t.end.before ++ rest)) = subst FormedPath q f in
    record {
      count = let n = g.0 in omega (arith, length-append t.end.before rest);
      names = (crate_name, (unit-identifier id (small_width id h), every-end t.end.before rest g.1.1));
    }
