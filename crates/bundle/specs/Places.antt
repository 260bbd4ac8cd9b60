-- The places of items that stand one after the other: a list of items is read at these. Assumes nothing.
use Rattle.std.specs.Prelude.{ℕ, zero, suc, ◌-◌, ◌≤◌, ◌<◌, Bool, true, false, cond, ◌≡◌, refl, List, [], ◌∷◌, ◌++◌, ltb}
use Rattle.std.specs.List.{flat_map}
use Rattle.std.proofs.Common.{arith, ap, subst, ◌∙◌}
use borrow.Author.Tests.{lt-ltb, le-ltb, ltb-true, ltb-false}
use Rattle.bundle.specs.Bundle.{Items, none}
use Rattle.bundle.specs.Form.{Every}
use Rattle.bundle.specs.Decode.{after_length, item_at, items_at}
use Rattle.bundle.specs.Access.{inside_of, items-end, items-step}

-- from `at` to `end`. The first number bounds how many there are
unfoldable pub places_by : ℕ → List ℕ → ℕ → ℕ → List ℕ
places_by zero s end at = []
places_by (suc k) s end at = cond (ltb at end) (at ∷ places_by k s end (after_length s at)) []

abbrev pub places : List ℕ → ℕ → ℕ → List ℕ
places s end at = places_by (end - at) s end at

-- each place of a list is before the end
abbrev pub Below : ℕ → List ℕ → Type 0
Below end l = Every (λ a. a < end) l

pub below-next : {end at : ℕ} {l rest : List ℕ} → Below end l → l ≡ at ∷ rest → (at < end) × Below end rest
unfolding Every
below-next {end} b e = subst (Below end) e b

module _ (s : List ℕ) (end : ℕ) where
  by_bound : (k j at : ℕ) → end - at ≤ k → end - at ≤ j → places_by k s end at ≡ places_by j s end at
  unfolding places_by
  by_bound zero zero at p q = refl
  by_bound zero (suc j) at p q = let z : end ≤ at = omega arith in rw (le-ltb at end z)
  by_bound (suc k) zero at p q = let z : end ≤ at = omega arith in rw (le-ltb at end z)
  by_bound (suc k) (suc j) at p q = rw (by_bound k j (after_length s at) (omega arith) (omega arith))

  -- NONE, or one and those behind it
  pub places_none : (at : ℕ) → end ≤ at → places s end at ≡ []
  unfolding places_by
  places_none at h = let z : end - at ≡ 0 = omega arith in rw z

  pub places_more : (at : ℕ) → at < end → places s end at ≡ at ∷ places s end (after_length s at)
  unfolding places_by
  places_more at h =
      let z : end - at ≡ suc (end - at - 1) = omega arith in
      rw (z, lt-ltb at end h)
      (rw (by_bound (end - at - 1) (end - after_length s at) (after_length s at) (omega arith) (omega arith)))

  -- each is before the end
  below_by : (k at : ℕ) → Below end (places_by k s end at)
  unfolding places_by Every
  below_by zero at = tt
  below_by (suc k) at = go (ltb at end) refl (below_by k (after_length s at))
    where
      go : (b : Bool) → ltb at end ≡ b → Below end (places_by k s end (after_length s at)) → Below end (cond b (at ∷ places_by k s end (after_length s at)) [])
      go true e f = (ltb-true at end e, f)
      go false e f = tt

  pub places_below : (at : ℕ) → Below end (places s end at)
  places_below at = below_by (end - at) at

-- for the iterator's step
pub ruleset one_place = (places_none, places_more)

-- A LIST TOLD OF ITEMS, item by item, is what each place gives, one after the other
module _ {A : Type 0} (depth : ℕ) (s : List ℕ) (told : Items → List A) (one : ℕ → List A)
    (nothing : told none ≡ []) (first : (at : ℕ) (rest : Items) → told (item_at (inside_of depth s) s at rest) ≡ one at ++ told rest) where
  over_by : (k end at : ℕ) → end - at ≤ k → told (items_at depth s end at) ≡ flat_map one (places s end at)
  over_by zero end at p =
      let z : end ≤ at = omega arith in
      rw (items-end depth s end at z, places_none s end at z) nothing
  over_by (suc k) end at p = go (ltb at end) refl (λ h. over_by k end (after_length s at) (omega arith))
    where
      go : (b : Bool) → ltb at end ≡ b → (at < end → told (items_at depth s end (after_length s at)) ≡ flat_map one (places s end (after_length s at)))
          → told (items_at depth s end at) ≡ flat_map one (places s end at)
      go true e f =
          let h = ltb-true at end e in
          rw (items-step depth s end at h, places_more s end at h)
          (first at (items_at depth s end (after_length s at)) ∙ ap (λ l. one at ++ l) (f h))
      go false e f =
          let h = ltb-false at end e in
          rw (items-end depth s end at h, places_none s end at h) nothing

  pub over_places : (end at : ℕ) → told (items_at depth s end at) ≡ flat_map one (places s end at)
  over_places end at = over_by (end - at) end at (omega arith)
