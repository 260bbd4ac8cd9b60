-- Proofs of the refusals said a second way: what each test tells, and what the first that tells means. Assumes nothing.
use Rattle.std.specs.Prelude.{ℕ, ◌≤◌, ◌<◌, Bool, ◌≡◌, ◌⊎◌, length, take}
use Rattle.std.proofs.Common.{arith, sym, ◌∙◌, inl, inr, ⊎_elim}
use Rattle.std.proofs.Math.Bool.{true, false, cond}
use Rattle.std.proofs.Math.Path.{refl, subst}
use mathlib.Core.List.{List, [], ◌∷◌}
use Rattle.names.specs.Bytes.{member, false_true, not_true}
use Rattle.names.specs.Path.{root}
use Rattle.names.specs.Prefix.{directly_in}
use Rattle.bundle.specs.Bundle.{Text}
use Rattle.bundle.specs.Limits.{header}
use Rattle.bundle.specs.Scan.{text}
use Rattle.bundle.specs.Decode.{decode}
use Rattle.bundle.specs.Conflicts.{PlacedRemapping, placed_at, texts, or_else, any, listed, located, same_remapping, remapped, conflicts, files, remappings, all_folders}
use Rattle.bundle.specs.Conflicts.{named as name_told}
use Rattle.bundle.specs.Read.{Bytes, form, verdict}
use Rattle.bundle.specs.Form.{InForm}
use Rattle.bundle.specs.SoundBundle.{form-sound}
use Rattle.bundle.specs.CompleteBundle.{form-complete}
use Rattle.bundle.specs.Answers.{refused-ok, refused-number, refused-place, both_ok}
use Rattle.bundle.specs.First.{first_told, first-only, first-all, ok-only, ok-all}
use Rattle.bundle.specs.Numbers.{RightForm, form-right, Late, conflicts-right}
use Rattle.bundle.specs.Refusals.{BytesInForm, IsFolder, paths, none, path_at, ListedBefore, as_root, HasParent, GoodPath, GoodPaths, remapping_of, Repeated, GoodRemapping, GoodRemappings, root_of, FirstPath, FirstRemapping, Misplaced, nowhere, a_file, Refusal, twice, orphan, bad_context, bad_target, reserved, odd_name, same_remapping_case, bad_root, Twice, Orphan}
use Rattle.bundle.specs.RefusalLaws.{or-told, path_told, listed-first, remap_told, remapped-first, before-only, before-all, parent-only, parent-all, located_in, located-ok, located-only, located-all, name-ok, name_in, name-only, repeated-only, repeated-all, folders-path, listed-path, path_inside, root-inside, remapping-inside}
use Rattle.bundle.specs.Results.{Checked}
use Rattle.bundle.specs.Results.{Ok, Refused}

-- IN FORM
-- the scan finds nothing exactly where the bytes are in form
pub in_form-only : (s : List ℕ) → Bytes s → form s ≡ Ok → BytesInForm s
in_form-only s B h = let f = form-sound s B h in record { bundle = decode s; encoded = f.encoded; in_form = f.formed }

pub in_form-all : (s : List ℕ) → BytesInForm s → form s ≡ Ok
in_form-all s f = rw f.encoded (form-complete f.bundle f.in_form).formed

-- what the bytes list is what the bundle lists
pub decoded : (s : List ℕ) (f : BytesInForm s) → decode s ≡ f.bundle
decoded s f = rw f.encoded (form-complete f.bundle f.in_form).decoded

pub formed-value : (s : List ℕ) → BytesInForm s → InForm (decode s)
formed-value s f = rw (decoded s f) f.in_form

pub early : (s : List ℕ) (n p : ℕ) → form s ≡ Refused n p → (1 ≤ n) × (n ≤ 6)
early s n p e = let t : RightForm s (Refused n p) = subst (RightForm s) e (form-right s) in (t.least, t.most)

pub late : (s : List ℕ) (n p : ℕ) → conflicts s ≡ Refused n p → 7 ≤ n
late s n p e = let t : Late (Refused n p) = subst Late e (conflicts-right s) in t.0

-- 7 AND 8
-- the test of path i
abbrev path_test : List ℕ → ℕ → Checked
path_test s i = path_told (all_folders s) (take i (paths s)) (path_at s i)

module _ (s : List ℕ) (I : InForm (decode s)) (i : ℕ) (h : i < length (paths s)) where
  not_root : (ListedBefore s i → ⊥) → (path_at s i).string ≡ root → ⊥
  not_root f e = f (as_root e)

  path-ok-only : path_test s i ≡ Ok → GoodPath s i
  unfolding path_told
  path-ok-only e =
      go (member (path_at s i).string (root ∷ texts (take i (paths s)))) refl (any (directly_in (path_at s i).string) (all_folders s)) refl e
    where
      go : (a : Bool) → member (path_at s i).string (root ∷ texts (take i (paths s))) ≡ a → (b : Bool) → any (directly_in (path_at s i).string) (all_folders s) ≡ b
          → cond a (Refused 7 (path_at s i).place) (cond b Ok (Refused 8 (path_at s i).place)) ≡ Ok → GoodPath s i
      go true p b q e = absurd (refused-ok e)
      go false p false q e = absurd (refused-ok e)
      go false p true q e =
          record { new = λ l. false_true (sym p ∙ before-all s i h l); in_folder = parent-only (all_folders s) (path_at s i).string (folders-path s I) q }

  path-ok-all : GoodPath s i → path_test s i ≡ Ok
  unfolding path_told
  path-ok-all g =
      let a = not_true (member (path_at s i).string (root ∷ texts (take i (paths s)))) (λ e. g.new (before-only s i e)) in
      let b = parent-all (all_folders s) (path_at s i).string (listed-path s I i h) (not_root g.new) g.in_folder in
      rw (a, b)

  pub path_7 : ListedBefore s i → path_test s i ≡ Refused 7 (path_at s i).place
  unfolding path_told
  path_7 l = rw (before-all s i h l)

  pub path_8 : (ListedBefore s i → ⊥) → (HasParent s i → ⊥) → path_test s i ≡ Refused 8 (path_at s i).place
  unfolding path_told
  path_8 l k =
      let a = not_true (member (path_at s i).string (root ∷ texts (take i (paths s)))) (λ e. l (before-only s i e)) in
      let b = not_true (any (directly_in (path_at s i).string) (all_folders s)) (λ e. k (parent-only (all_folders s) (path_at s i).string (folders-path s I) e)) in
      rw (a, b)

  path-only : {n p : ℕ} → FirstPath s i → path_test s i ≡ Refused n p → Refusal s n p
  unfolding path_told
  path-only {n} {p} F e =
      go (member (path_at s i).string (root ∷ texts (take i (paths s)))) refl (any (directly_in (path_at s i).string) (all_folders s)) refl e
    where
      at : (m : ℕ) → Refusal s m (path_at s i).place → Refused m (path_at s i).place ≡ Refused n p → Refusal s n p
      at m r e = subst (λ (x : ℕ). Refusal s n x) (refused-place e) (subst (λ (x : ℕ). Refusal s x (path_at s i).place) (refused-number e) r)

      go : (a : Bool) → member (path_at s i).string (root ∷ texts (take i (paths s))) ≡ a → (b : Bool) → any (directly_in (path_at s i).string) (all_folders s) ≡ b
          → cond a (Refused 7 (path_at s i).place) (cond b Ok (Refused 8 (path_at s i).place)) ≡ Refused n p → Refusal s n p
      go true x b y e = at 7 (twice i F (before-only s i x)) e
      go false x true y e = absurd (refused-ok (sym e))
      go false x false y e =
          let new : ListedBefore s i → ⊥ = λ l. false_true (sym x ∙ before-all s i h l) in
          at 8 (orphan i F new (λ k. false_true (sym y ∙ parent-all (all_folders s) (path_at s i).string (listed-path s I i h) (not_root new) k))) e

-- 9 TO 13
abbrev remap_test : List ℕ → ℕ → Checked
remap_test s i = remap_told (all_folders s) (texts (files s)) (take i (remappings s)) (remapping_of s i)

module _ (s : List ℕ) (i : ℕ) where
  abbrev r : PlacedRemapping
  r = remapping_of s i

  pub repeats : Checked
  repeats = cond (any (same_remapping (remapping_of s i)) (take i (remappings s))) (Refused 13 (remapping_of s i).context.place) Ok

  repeats_ok : repeats ≡ Ok → i < length (remappings s) → Repeated s i → ⊥
  unfolding repeats
  repeats_ok e h k =
      let z : Refused 13 (remapping_of s i).context.place ≡ Ok = rw (repeated-all s i h k) at e in
      refused-ok z

  repeats_in : (Repeated s i → ⊥) → repeats ≡ Ok
  unfolding repeats
  repeats_in f = rw (not_true (any (same_remapping (remapping_of s i)) (take i (remappings s))) (λ e. f (repeated-only s i e)))

  pub repeats_all : i < length (remappings s) → Repeated s i → repeats ≡ Refused 13 (remapping_of s i).context.place
  unfolding repeats
  repeats_all h k = rw (repeated-all s i h k)

  repeats_only : {n p : ℕ} → repeats ≡ Refused n p → Repeated s i × (Refused 13 (remapping_of s i).context.place ≡ Refused n p)
  unfolding repeats
  repeats_only {n} {p} e = go (any (same_remapping (remapping_of s i)) (take i (remappings s))) refl e
    where
      go : (b : Bool) → any (same_remapping (remapping_of s i)) (take i (remappings s)) ≡ b → cond b (Refused 13 (remapping_of s i).context.place) Ok ≡ Refused n p
          → Repeated s i × (Refused 13 (remapping_of s i).context.place ≡ Refused n p)
      go true f e = (repeated-only s i f, e)
      go false f e = absurd (refused-ok (sym e))

  -- the tests of remapping i, one after the other
  pub test-is : remap_test s i ≡ or_else (located (all_folders s) (texts (files s)) r.context) (or_else (located (all_folders s) (texts (files s)) r.target) (or_else (name_told r.name) repeats))
  unfolding remap_told repeats
  test-is = refl

  remap-ok-only : i < length (remappings s) → remap_test s i ≡ Ok → GoodRemapping s i
  remap-ok-only h e =
      let a = both_ok (located (all_folders s) (texts (files s)) r.context) _ (sym test-is ∙ e) in
      let b = both_ok (located (all_folders s) (texts (files s)) r.target) _ a.1 in
      let c = both_ok (name_told r.name) _ b.1 in
      let n = name-ok r.name c.0 in
      record { context = located-ok s r.context a.0; target = located-ok s r.target b.0; unreserved = n.0; usual = n.1; new = repeats_ok c.1 h }

  remap-ok-all : GoodRemapping s i → remap_test s i ≡ Ok
  remap-ok-all g =
      test-is ∙ rw (located_in s r.context g.context, located_in s r.target g.target, name_in r.name g.unreserved g.usual) (repeats_in g.new)

  told_as : {n p m q : ℕ} → Refused m q ≡ Refused n p → Refusal s m q → Refusal s n p
  told_as {n} {p} {m} {q} e k = subst (λ (x : ℕ). Refusal s n x) (refused-place e) (subst (λ (x : ℕ). Refusal s x q) (refused-number e) k)

  remap-only : {n p : ℕ} → FirstRemapping s i → remap_test s i ≡ Refused n p → Refusal s n p
  remap-only {n} {p} F e = context (or-told (located (all_folders s) (texts (files s)) r.context) _ (sym test-is ∙ e))
    where
      name : IsFolder s r.context.string → IsFolder s r.target.string → (name_told r.name ≡ Refused n p) ⊎ ((name_told r.name ≡ Ok) × (repeats ≡ Refused n p)) → Refusal s n p
      name c t (inl e) =
          let k = name-only r.name e in
          subst (λ (x : ℕ). Refusal s n x) k.1
          (⊎_elim (λ w. subst (λ (x : ℕ). Refusal s x r.name.place) (sym w.0) (reserved i F c t w.1))
          (λ w. subst (λ (x : ℕ). Refusal s x r.name.place) (sym w.0) (odd_name i F c t w.1.0 w.1.1)) k.0)
      name c t (inr e) =
          let n' = name-ok r.name e.0 in
          let k = repeats_only e.1 in
          told_as k.1 (same_remapping_case i F c t n'.0 n'.1 k.0)

      target : IsFolder s r.context.string → (located (all_folders s) (texts (files s)) r.target ≡ Refused n p) ⊎ ((located (all_folders s) (texts (files s)) r.target ≡ Ok) × (or_else (name_told r.name) repeats ≡ Refused n p)) → Refusal s n p
      target c (inl e) = let k = located-only s r.target e in subst (λ (x : ℕ). Refusal s n x) k.1 (bad_target i F c k.0)
      target c (inr e) = name c (located-ok s r.target e.0) (or-told (name_told r.name) repeats e.1)

      context : (located (all_folders s) (texts (files s)) r.context ≡ Refused n p) ⊎ ((located (all_folders s) (texts (files s)) r.context ≡ Ok)
          × (or_else (located (all_folders s) (texts (files s)) r.target) (or_else (name_told r.name) repeats) ≡ Refused n p)) → Refusal s n p
      context (inl e) = let k = located-only s r.context e in subst (λ (x : ℕ). Refusal s n x) k.1 (bad_context i F k.0)
      context (inr e) = target (located-ok s r.context e.0) (or-told (located (all_folders s) (texts (files s)) r.target) _ e.1)

-- THE WHOLE
module _ (s : List ℕ) where
  listed-test : listed (root ∷ []) (all_folders s) (paths s) ≡ first_told (path_told (all_folders s)) [] (paths s)
  listed-test = listed-first (all_folders s) (paths s) []

  remapped-test : remapped (all_folders s) (texts (files s)) [] (remappings s) ≡ first_told (remap_told (all_folders s) (texts (files s))) [] (remappings s)
  remapped-test = remapped-first (all_folders s) (texts (files s)) (remappings s) []

  pub paths-ok-only : InForm (decode s) → listed (root ∷ []) (all_folders s) (paths s) ≡ Ok → GoodPaths s
  paths-ok-only I e i h = path-ok-only s I i h (ok-only (path_told (all_folders s)) none (paths s) [] (sym listed-test ∙ e) i h)

  pub paths-ok-all : InForm (decode s) → GoodPaths s → listed (root ∷ []) (all_folders s) (paths s) ≡ Ok
  paths-ok-all I g = listed-test ∙ ok-all (path_told (all_folders s)) none (paths s) [] (λ i h. path-ok-all s I i h (g i h))

  pub remappings-ok-only : remapped (all_folders s) (texts (files s)) [] (remappings s) ≡ Ok → GoodRemappings s
  remappings-ok-only e i h =
      remap-ok-only s i h (ok-only (remap_told (all_folders s) (texts (files s))) (record { context = none; name = none; target = none }) (remappings s) [] (sym remapped-test ∙ e) i h)

  pub remappings-ok-all : GoodRemappings s → remapped (all_folders s) (texts (files s)) [] (remappings s) ≡ Ok
  remappings-ok-all g =
      remapped-test ∙ ok-all (remap_told (all_folders s) (texts (files s))) (record { context = none; name = none; target = none }) (remappings s) [] (λ i h. remap-ok-all s i (g i h))

  -- what the first path or remapping that is not good tells is the verdict
  pub path-told : {n p : ℕ} (i : ℕ) → FirstPath s i → path_test s i ≡ Refused n p → verdict s ≡ Refused n p
  unfolding verdict conflicts
  path-told {n} {p} i F e =
      let I = formed-value s F.formed in
      let w = F.within in
      let l : listed (root ∷ []) (all_folders s) (paths s) ≡ Refused n p =
      listed-test ∙ first-all (path_told (all_folders s)) none (paths s) [] n p i w e (λ j b. path-ok-all s I j (omega arith) (F.before j b)) in
      rw (in_form-all s F.formed, l)

  pub remapping-told : {n p : ℕ} (i : ℕ) → FirstRemapping s i → remap_test s i ≡ Refused n p → verdict s ≡ Refused n p
  unfolding verdict conflicts
  remapping-told {n} {p} i F e =
      let l = paths-ok-all (formed-value s F.formed) F.all_paths in
      let k : remapped (all_folders s) (texts (files s)) [] (remappings s) ≡ Refused n p =
      remapped-test ∙ first-all (remap_told (all_folders s) (texts (files s))) (record { context = none; name = none; target = none }) (remappings s) [] n p i F.within e (λ j b. remap-ok-all s j (F.before j b)) in
      rw (in_form-all s F.formed, l, k)

  pub root_told : {n p : ℕ} → BytesInForm s → GoodPaths s → GoodRemappings s → located (all_folders s) (texts (files s)) (placed_at s header) ≡ Refused n p → verdict s ≡ Refused n p
  unfolding verdict conflicts
  root_told f g h e = rw (in_form-all s f, paths-ok-all (formed-value s f) g, remappings-ok-all h) e

  pub root_misplaced : {n : ℕ} → Misplaced s (root_of s) n → located (all_folders s) (texts (files s)) (placed_at s header) ≡ Refused n header
  unfolding placed_at
  root_misplaced m = located-all s (record { place = header; string = text s header }) m

  root-only : {n p : ℕ} → located (all_folders s) (texts (files s)) (placed_at s header) ≡ Refused n p → Misplaced s (root_of s) n × (header ≡ p)
  unfolding placed_at
  root-only e = located-only s (record { place = header; string = text s header }) e

  pub root_ok : located (all_folders s) (texts (files s)) (placed_at s header) ≡ Ok → IsFolder s (root_of s)
  unfolding placed_at
  root_ok e = located-ok s (record { place = header; string = text s header }) e

  pub root_in : IsFolder s (root_of s) → located (all_folders s) (texts (files s)) (placed_at s header) ≡ Ok
  unfolding placed_at
  root_in m = located_in s (record { place = header; string = text s header }) m

-- 7 TO 13
module _ (s : List ℕ) (n p : ℕ) where
  last-refused : BytesInForm s → GoodPaths s → GoodRemappings s → located (all_folders s) (texts (files s)) (placed_at s header) ≡ Refused n p → Refusal s n p
  last-refused f g k e = let w = root-only s e in subst (λ (x : ℕ). Refusal s n x) w.1 (bad_root f g k w.0)

  remapping-refused : BytesInForm s → GoodPaths s → remapped (all_folders s) (texts (files s)) [] (remappings s) ≡ Refused n p → Refusal s n p
  remapping-refused f g e =
      let t = first-only (remap_told (all_folders s) (texts (files s))) (record { context = none; name = none; target = none }) [] (remappings s) n p (sym (remapped-test s) ∙ e) in
      let w = t.within in
      remap-only s t.index (record { formed = f; all_paths = g; within = w; before = λ j b. remap-ok-only s j (omega arith) (t.before j b) }) t.tells

  path-refused : BytesInForm s → listed (root ∷ []) (all_folders s) (paths s) ≡ Refused n p → Refusal s n p
  path-refused f e =
      let I = formed-value s f in
      let t = first-only (path_told (all_folders s)) none [] (paths s) n p (sym (listed-test s) ∙ e) in
      let w = t.within in
      path-only s I t.index w (record { formed = f; within = w; before = λ j b. path-ok-only s I j (omega arith) (t.before j b) }) t.tells

  pub conflict_refused : BytesInForm s → conflicts s ≡ Refused n p → Refusal s n p
  unfolding conflicts
  conflict_refused f e = paths-then (or-told (listed (root ∷ []) (all_folders s) (paths s)) _ e)
    where
      then-root : GoodPaths s → (remapped (all_folders s) (texts (files s)) [] (remappings s) ≡ Refused n p)
          ⊎ ((remapped (all_folders s) (texts (files s)) [] (remappings s) ≡ Ok) × (located (all_folders s) (texts (files s)) (placed_at s header) ≡ Refused n p)) → Refusal s n p
      then-root g (inl e) = remapping-refused f g e
      then-root g (inr e) = last-refused f g (remappings-ok-only s e.0) e.1

      paths-then : (listed (root ∷ []) (all_folders s) (paths s) ≡ Refused n p)
          ⊎ ((listed (root ∷ []) (all_folders s) (paths s) ≡ Ok)
          × (or_else (remapped (all_folders s) (texts (files s)) [] (remappings s)) (located (all_folders s) (texts (files s)) (placed_at s header)) ≡ Refused n p)) → Refusal s n p
      paths-then (inl e) = path-refused f e
      paths-then (inr e) = then-root (paths-ok-only s (formed-value s f) e.0) (or-told (remapped (all_folders s) (texts (files s)) [] (remappings s)) _ e.1)

-- each of these has its place before the end
pub refusal-inside : (s : List ℕ) {n p : ℕ} → Refusal s n p → p < length s
refusal-inside s (twice i F l) = path_inside s (formed-value s F.formed) i F.within
refusal-inside s (orphan i F l k) = path_inside s (formed-value s F.formed) i F.within
refusal-inside s (bad_context i F m) = (remapping-inside s (formed-value s F.formed) i F.within).0
refusal-inside s (bad_target i F c m) = (remapping-inside s (formed-value s F.formed) i F.within).2
refusal-inside s (reserved i F c t r) = (remapping-inside s (formed-value s F.formed) i F.within).1
refusal-inside s (odd_name i F c t r o) = (remapping-inside s (formed-value s F.formed) i F.within).1
refusal-inside s (same_remapping_case i F c t r o k) = (remapping-inside s (formed-value s F.formed) i F.within).0
refusal-inside s (bad_root f g k m) = root-inside s (formed-value s f)

-- ONE NUMBER AT A TIME
misplaced_number : {s : List ℕ} {t : Text} {n : ℕ} → Misplaced s t n → (9 ≤ n) × (n ≤ 10)
misplaced_number (nowhere a b) = (omega arith, omega arith)
misplaced_number (a_file a b) = (omega arith, omega arith)

pub seven : {s : List ℕ} {n p : ℕ} → Refusal s n p → n ≡ 7 → Twice s p
seven (twice i F l) e = (i, (F, l, refl))
seven (orphan i F l k) e = absurd (omega arith)
seven (bad_context i F m) e = let x = misplaced_number m in absurd (omega arith)
seven (bad_target i F c m) e = let x = misplaced_number m in absurd (omega arith)
seven (reserved i F c t r) e = absurd (omega arith)
seven (odd_name i F c t r o) e = absurd (omega arith)
seven (same_remapping_case i F c t r o k) e = absurd (omega arith)
seven (bad_root f g k m) e = let x = misplaced_number m in absurd (omega arith)

pub eight : {s : List ℕ} {n p : ℕ} → Refusal s n p → n ≡ 8 → Orphan s p
eight (twice i F l) e = absurd (omega arith)
eight (orphan i F l k) e = (i, (F, l, k, refl))
eight (bad_context i F m) e = let x = misplaced_number m in absurd (omega arith)
eight (bad_target i F c m) e = let x = misplaced_number m in absurd (omega arith)
eight (reserved i F c t r) e = absurd (omega arith)
eight (odd_name i F c t r o) e = absurd (omega arith)
eight (same_remapping_case i F c t r o k) e = absurd (omega arith)
eight (bad_root f g k m) e = let x = misplaced_number m in absurd (omega arith)
