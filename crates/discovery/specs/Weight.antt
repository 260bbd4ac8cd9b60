-- Different files have together no more of anything that is counted of items than the bundle; of uses: what bounds the lists and
-- the faults of the units. Assumes nothing.
use Rattle.std.specs.Prelude.{ℕ, ◌+◌, ◌≤◌, Bool, ◌≡◌, length}
use native.Mathlib.Omega.{arith}
use Rattle.std.proofs.Math.Bool.{true, false, cond}
use Rattle.std.proofs.Math.Path.{refl, sym, ap}
use Rattle.std.proofs.Common.{◌∙◌}
use Rattle.std.proofs.Math.Logic.{⊎_elim}
use mathlib.Core.List.Memᴰ
use mathlib.Core.List.{List, [], ◌∷◌, map, Memᴰ}
use Rattle.names.specs.Bytes.{same, same-eq, same_differs, different}
use Rattle.bundle.specs.Bundle.{Text, File, Bundle, Items}
use Rattle.discovery.specs.Discovery.{uses, program_of, paths_of, discover_dependencies}
use Rattle.discovery.specs.Reached.{Once, none, more, Reached, entry, imported}
use Rattle.discovery.specs.Right.{discovered}
use Rattle.discovery.specs.Room.{total_uses}

-- THE WEIGHT of the files of these paths, whatever is counted of items
abbrev paths : List File → List Text
paths fs = map (λ (f : File). f.path) fs

module _ (g : Items → ℕ) where
  unfoldable pub sum_of : List File → List Text → ℕ
  sum_of fs [] = 0
  sum_of fs (p ∷ l) = g (program_of fs p) + sum_of fs l

  unfoldable pub total_of : List File → ℕ
  total_of [] = 0
  total_of (f ∷ fs) = g f.items + total_of fs

-- without the first file of a path
unfoldable without : Text → List File → List File
without p [] = []
without p (f ∷ fs) = cond (same p f.path) fs (f ∷ without p fs)

module _ (g : Items → ℕ) where
  total-without : (p : Text) (fs : List File) → Memᴰ p (paths fs) → total_of g fs ≡ g (program_of fs p) + total_of g (without p fs)
  unfolding total_of program_of without
  total-without p [] m = absurd (Memᴰ.not-nil m)
  total-without p (f ∷ fs) m = go (same p f.path) refl (total-without p fs)
    where
      go : (b : Bool) → same p f.path ≡ b → (Memᴰ p (paths fs) → total_of g fs ≡ g (program_of fs p) + total_of g (without p fs))
          → g f.items + total_of g fs ≡ g (cond b f.items (program_of fs p)) + total_of g (cond b fs (f ∷ without p fs))
      go true e k = refl
      go false e k = let ih = k (⊎_elim (λ q. absurd (same_differs p f.path e q)) (λ w. w) (Memᴰ.cases_cons m)) in omega arith

module _ (p q : Text) (other : q ≡ p → ⊥) where
  program-without : (fs : List File) → program_of (without p fs) q ≡ program_of fs q
  unfolding program_of without
  program-without [] = refl
  program-without (f ∷ fs) = go (same p f.path) refl (program-without fs)
    where
      go : (b : Bool) → same p f.path ≡ b → program_of (without p fs) q ≡ program_of fs q
          → program_of (cond b fs (f ∷ without p fs)) q ≡ cond (same q f.path) f.items (program_of fs q)
      go true e ih = rw (different q f.path (λ h. other (h ∙ sym (same-eq p f.path e))))
      go false e ih = rw ih

  mem_without : (fs : List File) → Memᴰ q (paths fs) → Memᴰ q (paths (without p fs))
  unfolding without
  mem_without [] m = m
  mem_without (f ∷ fs) m = go (same p f.path) refl (mem_without fs)
    where
      go : (b : Bool) → same p f.path ≡ b → (Memᴰ q (paths fs) → Memᴰ q (paths (without p fs))) → Memᴰ q (paths (cond b fs (f ∷ without p fs)))
      go true e k = ⊎_elim (λ h. absurd (other (h ∙ sym (same-eq p f.path e)))) (λ w. w) (Memᴰ.cases_cons m)
      go false e k = ⊎_elim (λ h. Memᴰ.head h) (λ w. Memᴰ.tail (k w)) (Memᴰ.cases_cons m)

module _ (g : Items → ℕ) where
  sum_same : (fs gs : List File) (l : List Text) → ((p : Text) → Memᴰ p l → program_of fs p ≡ program_of gs p) → sum_of g fs l ≡ sum_of g gs l
  unfolding sum_of
  sum_same fs gs [] h = refl
  sum_same fs gs (p ∷ l) h =
      let e = ap g (h p (Memᴰ.head refl)) in
      let r = sum_same fs gs l (λ q m. h q (Memᴰ.tail m)) in
      omega arith

  pub weigh_of : {l : List Text} → Once l → (fs : List File) → ((p : Text) → Memᴰ p l → Memᴰ p (paths fs)) → sum_of g fs l ≤ total_of g fs
  unfolding sum_of
  weigh_of none fs h = omega arith
  weigh_of (more {u = a} {l} f o) fs h =
      let t = total-without g a fs (h a (Memᴰ.head refl)) in
      let ne : (q : Text) → Memᴰ q l → q ≡ a → ⊥ = λ q m e. f (Memᴰ.cast (sym e) m) in
      let ih = weigh_of o (without a fs) (λ q m. mem_without a q (ne q m) fs (h q (Memᴰ.tail m))) in
      let s = sum_same (without a fs) fs l (λ q m. program-without a q (ne q m) fs) in
      omega arith

-- OF USES
abbrev use_count_within : Items → ℕ
use_count_within x = length (uses x)

-- the uses of the files of these paths, counted
unfoldable pub sum_uses : List File → List Text → ℕ
sum_uses fs [] = 0
sum_uses fs (p ∷ l) = length (uses (program_of fs p)) + sum_uses fs l

sum_is : (fs : List File) (l : List Text) → sum_uses fs l ≡ sum_of use_count_within fs l
unfolding sum_uses sum_of
sum_is fs [] = refl
sum_is fs (p ∷ l) = rw (sum_is fs l)

total-is : (fs : List File) → total_uses fs ≡ total_of use_count_within fs
unfolding total_uses total_of
total-is [] = refl
total-is (f ∷ fs) = rw (total-is fs)

pub weigh : {l : List Text} → Once l → (fs : List File) → ((p : Text) → Memᴰ p l → Memᴰ p (paths fs)) → sum_uses fs l ≤ total_uses fs
weigh {l} o fs h = omega (arith, sum_is fs l, total-is fs, weigh_of use_count_within o fs h)

-- what is reached is listed
pub reached-file : (b : Bundle) (p : Text) → Reached b p → Memᴰ p (paths_of b)
reached-file b p (entry {p = q} {ps = ps} e) = rw e (Memᴰ.head refl)
reached-file b p (imported r i) = i.readable

-- the units' uses are no more than the bundle's
pub units_weigh : (b : Bundle) → sum_uses b.files (discover_dependencies b).sources ≤ total_uses b.files
units_weigh b = let d = discovered b in weigh d.once b.files (λ p m. reached-file b p (d.sound p m))
