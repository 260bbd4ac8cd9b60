-- OF EVERY ACCEPTED BUNDLE, and every use in one of its files: the longest context, below its base, never its own package.
-- From what the reader promises of bytes that it accepts. Assumes nothing.
use Rattle.std.specs.Prelude.{ℕ, suc, ◌<◌, Bool, ◌↔◌, ◌≡◌, refl, length, get_or, Option, None, Some}
use Rattle.std.proofs.Common.{suc-le-suc, arith, ⊎_elim, sym, ◌∙◌}
use Rattle.std.proofs.Math.Bool.{true, false, cond}
use Rattle.std.proofs.Math.Path.{ap}
use mathlib.Core.List.Memᴰ
use mathlib.Core.List.{List, [], ◌∷◌, map, Memᴰ}
use Rattle.names.specs.Bytes.{member, all, and_right}
use Rattle.names.specs.Path.{is_path}
use Rattle.names.specs.Prefix.{starts_with, child}
use Rattle.names.specs.Identifier.{is_identifier}
use Rattle.names.specs.Keywords.{is_crate}
use Rattle.names.specs.PathTheorems.{equal-prefixes}
use Rattle.bundle.specs.Bundle.{Text, Remapping, Bundle}
use Rattle.bundle.specs.Stand.{Bytes}
use Rattle.bundle.specs.Read.{value, read}
use Rattle.bundle.specs.Members.{member_true}
use Rattle.bundle.specs.AcceptedTheorems.{Accepted, accepted-read}
use Rattle.resolution.specs.Lists.{Lists, lists_of}
use Rattle.resolution.specs.Resolution.{get_package_root, remapping_for, Lookup, found, missing, is_folder, is_file, build_and_verify_path, to, fails, own_file_fault, or_itself, resolve_below, resolve_crate_path, check_local_file_imported_as_external, external, resolve_external_path, resolve_path_internal}
use Rattle.resolution.specs.Theorems.{Same, Taken, taken, none-taken, Distinct, taken_in_any-order, Rooted, rooted, none-rooted, rooted_in_any-order, same-roots, Paths, is_listed, base_of, resolved-listed, resolved-below}
use Rattle.resolution.specs.Theorems as theorem

-- the same lists with the remappings in another order
abbrev pub reordered : Lists → List Remapping → Lists
reordered b k = record { root = b.root; folders = b.folders; remappings = k; files = b.files }

-- what is promised of a use in a file: its first word, and what follows it
pub record Promised (b : Lists) (file name : Text) (parts : List Text) : Type 0 where
  -- the remapping taken is the one of that name with the longest context that is a prefix of the importer, by whole components,
  pub longest : (r : Remapping) → (remapping_for b file name ≡ Some r) ↔ Taken b file name r
  -- and the only one of that length
  pub only : (r q : Remapping) → Taken b file name r → Memᴰ q b.remappings → q.name ≡ name → starts_with file q.context ≡ true
      → length q.context ≡ length r.context → q ≡ r
  -- the importer's package root is the longest that is a prefix of it
  pub root : (p : Text) → (get_package_root b file ≡ Some p) ↔ Rooted b file p
  -- in whatever order the remappings are listed
  pub any_order : (k : List Remapping) → Same b.remappings k → resolve_path_internal (reordered b k) file (name ∷ parts) ≡ resolve_path_internal b file (name ∷ parts)
  -- what it resolves to lies below its base: the package root, or the target of the remapping taken
  pub below : (p : Text) (rest : List Text) → resolve_path_internal b file (name ∷ parts) ≡ to p rest → (base : Text) × ((base_of b file name ≡ Some base) × (starts_with p base ≡ true))
  -- an external file is never in the importer's own package
  pub never_own : is_crate name ≡ false → (p : Text) (rest : List Text) → resolve_path_internal b file (name ∷ parts) ≡ to p rest
      → (root : Text) → get_package_root b file ≡ Some root → get_package_root b p ≡ Some root → ⊥
  -- and what it resolves to is listed
  pub listed : (p : Text) (rest : List Text) → resolve_path_internal b file (name ∷ parts) ≡ to p rest → is_listed b p ≡ true

-- FROM WHAT ACCEPTANCE IMPLIES
placed : {A : Type 0} (d x : A) (l : List A) → Memᴰ x l → (i : ℕ) × ((i < length l) × (get_or l i d ≡ x))
placed d x [] m = absurd (Memᴰ.not-nil m)
placed d x (y ∷ l) m = ⊎_elim (λ e. (0, (omega arith, sym e))) (λ n. let t = placed d x l n in (suc t.0, (suc-le-suc t.1.0, t.1.1))) (Memᴰ.cases_cons m)

target-paths : (l : List Remapping) → ((r : Remapping) → Memᴰ r l → is_path r.target ≡ true) → (p : Text) → Memᴰ p (map (λ r. r.target) l) → is_path p ≡ true
target-paths [] f p m = absurd (Memᴰ.not-nil m)
target-paths (r ∷ l) f p m = ⊎_elim (λ e. rw e (f r (Memᴰ.head refl))) (λ n. target-paths l (λ q k. f q (Memᴰ.tail k)) p n) (Memᴰ.cases_cons m)

module _ (b : Bundle) (a : Accepted b) where
  pub paths : Paths (lists_of b)
  paths = record {
    folders = λ p m. a.paths p (Memᴰ.append_left _ (member_true p b.folders m));
    roots = λ p m. ⊎_elim (λ e. rw e a.root_path) (λ n. target-paths b.remappings a.target_path p n) (Memᴰ.cases_cons m);
  }

  pub distinct : Distinct b.remappings
  distinct = record {
    path = a.context_path;
    one = λ r q m n e f. one r q (placed r r b.remappings m) (placed r q b.remappings n) e f;
  }
    where
      one : (r q : Remapping) → (i : ℕ) × ((i < length b.remappings) × (get_or b.remappings i r ≡ r)) → (j : ℕ) × ((j < length b.remappings) × (get_or b.remappings j r ≡ q))
          → r.context ≡ q.context → r.name ≡ q.name → r ≡ q
      one r q x y e f =
          let l = b.remappings in
          let c : (get_or l x.0 r).context ≡ (get_or l y.0 r).context = ap (λ (z : Remapping). z.context) x.1.1 ∙ (e ∙ sym (ap (λ (z : Remapping). z.context) y.1.1)) in
          let n : (get_or l x.0 r).name ≡ (get_or l y.0 r).name = ap (λ (z : Remapping). z.name) x.1.1 ∙ (f ∙ sym (ap (λ (z : Remapping). z.name) y.1.1)) in
          let i = a.remapping_once x.0 y.0 r x.1.0 y.1.0 c n in
          sym x.1.1 ∙ (ap (λ (k : ℕ). get_or l k r) i ∙ y.1.1)

-- THE LONGEST
module _ (b : Lists) (file name : Text) (d : Distinct b.remappings) where
  only_one : (r q : Remapping) → Taken b file name r → Memᴰ q b.remappings → q.name ≡ name → starts_with file q.context ≡ true
      → length q.context ≡ length r.context → q ≡ r
  only_one r q t m n p e =
      d.one q r m t.listed (equal-prefixes file q.context r.context (d.path q m) (d.path r t.listed) p t.prefix e) (n ∙ sym t.named)

  taken_exactly : (r : Remapping) → (remapping_for b file name ≡ Some r) ↔ Taken b file name r
  taken_exactly r = (taken b file name r, λ t. go t (remapping_for b file name) refl)
    where
      go : Taken b file name r → (o : Option Remapping) → remapping_for b file name ≡ o → o ≡ Some r
      go t None e = absurd (none-taken b file name e r t.listed t.named t.prefix)
      go t (Some q) e =
          let u = taken b file name q e in
          let x = t.most q u.listed u.named u.prefix in
          let y = u.most r t.listed t.named t.prefix in
          ap Some (only_one r q t u.listed u.named u.prefix (omega arith))

rooted_exactly : (b : Lists) (file : Text) → Paths b → (p : Text) → (get_package_root b file ≡ Some p) ↔ Rooted b file p
rooted_exactly b file w p = (rooted b file p, λ t. go t (get_package_root b file) refl)
  where
    go : Rooted b file p → (o : Option Text) → get_package_root b file ≡ o → o ≡ Some p
    go t None e = absurd (none-rooted b file e p t.listed t.prefix)
    go t (Some q) e =
        let u = rooted b file q e in
        let x = t.most q u.listed u.prefix in
        let y = u.most p t.listed t.prefix in
        ap Some (equal-prefixes file q p (w.roots q u.listed) (w.roots p t.listed) u.prefix t.prefix (omega arith))

-- IN WHATEVER ORDER
lookup-order : (b : Lists) (k : List Remapping) (base : Text) (parts : List Text) → build_and_verify_path (reordered b k) base parts ≡ build_and_verify_path b base parts
unfolding build_and_verify_path is_folder is_file
lookup-order b k base [] = refl
lookup-order b k base (part ∷ parts) = rw (lookup-order b k (child base part) parts)

module _ (b : Lists) (k : List Remapping) (w : Paths b) (d : Distinct b.remappings) (s : Same b.remappings k) (file : Text) (parts : List Text) where
  root-order : (f : Text) → get_package_root (reordered b k) f ≡ get_package_root b f
  root-order f = sym (rooted_in_any-order b (reordered b k) f w.roots (same-roots b (reordered b k) refl s))

  own-order : (p : Text) → check_local_file_imported_as_external (reordered b k) file p ≡ check_local_file_imported_as_external b file p
  unfolding check_local_file_imported_as_external
  own-order p = rw (root-order file, root-order p)

  crate_order : (o : Option Text) → resolve_below (reordered b k) file parts o ≡ resolve_below b file parts o
  crate_order None = refl
  crate_order (Some root) = ap (or_itself root file parts) (lookup-order b k root parts)

  external-order : (l : Lookup) → external (reordered b k) file l ≡ external b file l
  external-order (found p rest) = ap (λ (t : Bool). cond t (fails own_file_fault) (to p rest)) (own-order p)
  external-order (missing m) = refl

  outside-order : (o : Option Remapping) → resolve_external_path (reordered b k) file parts o ≡ resolve_external_path b file parts o
  outside-order None = refl
  outside-order (Some r) = ap (external (reordered b k) file) (lookup-order b k r.target parts) ∙ external-order (build_and_verify_path b r.target parts)

  order-free : (name : Text) → resolve_path_internal (reordered b k) file (name ∷ parts) ≡ resolve_path_internal b file (name ∷ parts)
  unfolding resolve_path_internal resolve_crate_path
  order-free name = go (is_crate name)
    where
      go : (t : Bool) → cond t (resolve_below (reordered b k) file parts (get_package_root (reordered b k) file)) (resolve_external_path (reordered b k) file parts (remapping_for (reordered b k) file name))
          ≡ cond t (resolve_below b file parts (get_package_root b file)) (resolve_external_path b file parts (remapping_for b file name))
      go true = ap (resolve_below (reordered b k) file parts) (root-order file) ∙ crate_order (get_package_root b file)
      go false = ap (resolve_external_path (reordered b k) file parts) (sym (taken_in_any-order b (reordered b k) file name d s)) ∙ outside-order (remapping_for b file name)

-- THE THEOREM: of every accepted bundle, importer that it lists as a file, and use in form
pub accepted_promised : (s : List ℕ) → Bytes s → (b : Bundle) → read s ≡ value b
    → (file : Text) → member file (lists_of b).files ≡ true → (name : Text) (parts : List Text) → all is_identifier (name ∷ parts) ≡ true
    → Promised (lists_of b) file name parts
unfolding all
accepted_promised s B b ok file importer name parts formed =
    let a = accepted-read s B b ok in
    let w = paths b a in
    let d = distinct b a in
    record {
      longest = taken_exactly (lists_of b) file name d;
      only = only_one (lists_of b) file name d;
      root = rooted_exactly (lists_of b) file w;
      any_order = λ k s. order-free (lists_of b) k w d s file parts name;
      below = λ p rest h. resolved-below (lists_of b) file parts p rest name h w (and_right (is_identifier name) (all is_identifier parts) formed);
      never_own = λ c p rest h. theorem.never_own (lists_of b) file parts p rest name h c;
      listed = λ p rest h. resolved-listed (lists_of b) file parts p rest name h (rw importer);
    }
