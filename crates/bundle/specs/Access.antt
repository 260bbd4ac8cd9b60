-- The parts of items, and where they stand. What the layers above need of the bytes is said here once. Assumes nothing.
use Rattle.std.specs.Prelude.{ℕ, zero, suc, ◌+◌, ◌-◌, ◌≤◌, ◌<◌, Bool, true, false, ◌≡◌, refl, List, eqb}
use Rattle.std.proofs.Common.{arith, ◌∙◌}
use Rattle.std.proofs.Math.Path.{sym}
use borrow.Author.Tests.{lt-ltb, le-ltb, eqb-true, eqb-false, eq-eqb, ne_eqb}
use Rattle.bundle.specs.Bundle.{Head, Items, none, named, use_of, module_of, ignored}
use Rattle.bundle.specs.Limits.{use_kind, module_kind, ignored_kind}
use Rattle.bundle.specs.Scan.{byte, text}
unfoldable pub use Rattle.bundle.specs.Parts.{head_of, kind_of, mark_of, visibility_of, name_of, segments_of, elements_of, inner_of, rest_of}
use Rattle.bundle.specs.Decode.{counted, after, after_element, after_length, after_list, element_at, head_at, item_at, items_by, items_at}

-- heads with equal parts are equal
pub equal-heads : (h k : Head) → h.kind ≡ k.kind → h.mark ≡ k.mark → h.visibility ≡ k.visibility → h.name ≡ k.name → h ≡ k
equal-heads h k kind mark visibility name = λ i. record { kind = kind i; mark = mark i; visibility = visibility i; name = name i }

-- ONE ITEM, by its kind
module _ (inside : ℕ → ℕ → Items) (s : List ℕ) (at : ℕ) (rest : Items) where
  pub item_module : byte s (at + 2) ≡ module_kind → item_at inside s at rest ≡ module_of at (byte s (at + 3)) (text s (at + 4)) (inside (after_length s at) (after s (at + 4))) rest
  unfolding item_at
  item_module k = rw (eq-eqb (byte s (at + 2)) module_kind k)

  module _ (n5 : byte s (at + 2) ≡ module_kind → ⊥) where
    pub item_use : byte s (at + 2) ≡ use_kind → item_at inside s at rest
        ≡ use_of at (byte s (at + 3)) (counted (after s) (text s) s (at + 4)) (counted (after_element s) (element_at s) s (after_list (after s) s (at + 4))) rest
    unfolding item_at
    item_use k = rw (ne_eqb (byte s (at + 2)) module_kind n5, eq-eqb (byte s (at + 2)) use_kind k)

    module _ (n3 : byte s (at + 2) ≡ use_kind → ⊥) where
      pub item-ignored : byte s (at + 2) ≡ ignored_kind → item_at inside s at rest ≡ ignored at (byte s (at + 3)) rest
      unfolding item_at
      item-ignored k = rw (ne_eqb (byte s (at + 2)) module_kind n5, ne_eqb (byte s (at + 2)) use_kind n3, eq-eqb (byte s (at + 2)) ignored_kind k)

      pub item-named : (byte s (at + 2) ≡ ignored_kind → ⊥) → item_at inside s at rest ≡ named (head_at s at) rest
      unfolding item_at
      item-named n6 = rw (ne_eqb (byte s (at + 2)) module_kind n5, ne_eqb (byte s (at + 2)) use_kind n3, ne_eqb (byte s (at + 2)) ignored_kind n6)

  -- the four kinds, for a claim on the item
  pub by_kind : (P : Items → Type 0)
      → (byte s (at + 2) ≡ module_kind → P (module_of at (byte s (at + 3)) (text s (at + 4)) (inside (after_length s at) (after s (at + 4))) rest))
      → (byte s (at + 2) ≡ use_kind → P (use_of at (byte s (at + 3)) (counted (after s) (text s) s (at + 4)) (counted (after_element s) (element_at s) s (after_list (after s) s (at + 4))) rest))
      → (byte s (at + 2) ≡ ignored_kind → P (ignored at (byte s (at + 3)) rest))
      → ((byte s (at + 2) ≡ module_kind → ⊥) → (byte s (at + 2) ≡ use_kind → ⊥) → (byte s (at + 2) ≡ ignored_kind → ⊥) → P (named (head_at s at) rest))
      → P (item_at inside s at rest)
  by_kind P f5 f3 f6 f = go (eqb (byte s (at + 2)) module_kind) (eqb (byte s (at + 2)) use_kind) (eqb (byte s (at + 2)) ignored_kind) refl refl refl
    where
      go : (a b c : Bool) → eqb (byte s (at + 2)) module_kind ≡ a → eqb (byte s (at + 2)) use_kind ≡ b → eqb (byte s (at + 2)) ignored_kind ≡ c → P (item_at inside s at rest)
      go true b c p q r = let k = eqb-true _ _ p in rw (item_module k) (f5 k)
      go false true c p q r = let n = eqb-false _ _ p in let k = eqb-true _ _ q in rw (item_use n k) (f3 k)
      go false false true p q r = let n = eqb-false _ _ p in let m = eqb-false _ _ q in let k = eqb-true _ _ r in rw (item-ignored n m k) (f6 k)
      go false false false p q r = let n = eqb-false _ _ p in let m = eqb-false _ _ q in let l = eqb-false _ _ r in rw (item-named n m l) (f n m l)

-- ITEMS ONE AFTER THE OTHER
by_fuel : (inside : ℕ → ℕ → Items) (s : List ℕ) (end k j at : ℕ) → end - at ≤ k → end - at ≤ j → items_by k inside s end at ≡ items_by j inside s end at
unfolding items_by
by_fuel inside s end zero zero at p q = refl
by_fuel inside s end zero (suc j) at p q = let z : end ≤ at = omega arith in rw (le-ltb at end z)
by_fuel inside s end (suc k) zero at p q = let z : end ≤ at = omega arith in rw (le-ltb at end z)
by_fuel inside s end (suc k) (suc j) at p q = rw (by_fuel inside s end k j (after_length s at) (omega arith) (omega arith))

-- what reads the items in a module
abbrev pub inside_of : ℕ → List ℕ → ℕ → ℕ → Items
inside_of zero s = λ _ _. none
inside_of (suc depth) s = items_at depth s

by-depth : (depth : ℕ) (s : List ℕ) (end at : ℕ) → items_at depth s end at ≡ items_by (end - at) (inside_of depth s) s end at
unfolding items_at
by-depth zero s end at = refl
by-depth (suc depth) s end at = refl

pub items-end : (depth : ℕ) (s : List ℕ) (end at : ℕ) → end ≤ at → items_at depth s end at ≡ none
unfolding items_by
items-end depth s end at h = by-depth depth s end at ∙ (let z : end - at ≡ 0 = omega arith in rw z)

pub items-step : (depth : ℕ) (s : List ℕ) (end at : ℕ) → at < end → items_at depth s end at ≡ item_at (inside_of depth s) s at (items_at depth s end (after_length s at))
unfolding items_by
items-step depth s end at h =
    by-depth depth s end at
    ∙ (let z : end - at ≡ suc (end - at - 1) = omega arith in
    rw (z, lt-ltb at end h)
    (rw (by_fuel (inside_of depth s) s end (end - at - 1) (end - after_length s at) (after_length s at) (omega arith) (omega arith), ← by-depth depth s end (after_length s at))))

-- THE FIRST OF THE ITEMS from `at` to `end`
module _ (depth : ℕ) (s : List ℕ) (end at : ℕ) (h : at < end) where
  pub first_kind : kind_of (items_at depth s end at) ≡ byte s (at + 2)
  unfolding kind_of head_of
  first_kind = rw (items-step depth s end at h) (by_kind (inside_of depth s) s at _ (λ i. kind_of i ≡ byte s (at + 2)) (λ k. sym k) (λ k. sym k) (λ k. sym k) (λ n m l. refl))

  pub first-mark : mark_of (items_at depth s end at) ≡ at
  unfolding mark_of head_of
  first-mark = rw (items-step depth s end at h) (by_kind (inside_of depth s) s at _ (λ i. mark_of i ≡ at) (λ k. refl) (λ k. refl) (λ k. refl) (λ n m l. refl))

  pub first-visibility : visibility_of (items_at depth s end at) ≡ byte s (at + 3)
  unfolding visibility_of head_of
  first-visibility = rw (items-step depth s end at h) (by_kind (inside_of depth s) s at _ (λ i. visibility_of i ≡ byte s (at + 3)) (λ k. refl) (λ k. refl) (λ k. refl) (λ n m l. refl))

  pub first_rest : rest_of (items_at depth s end at) ≡ items_at depth s end (after_length s at)
  unfolding rest_of
  first_rest = rw (items-step depth s end at h) (by_kind (inside_of depth s) s at _ (λ i. rest_of i ≡ items_at depth s end (after_length s at)) (λ k. refl) (λ k. refl) (λ k. refl) (λ n m l. refl))

  pub first_name : (kind_of (items_at depth s end at) ≡ use_kind → ⊥) → (kind_of (items_at depth s end at) ≡ ignored_kind → ⊥) → name_of (items_at depth s end at) ≡ text s (at + 4)
  unfolding name_of head_of
  first_name n3 n6 =
      let m3 : byte s (at + 2) ≡ use_kind → ⊥ = λ k. n3 (first_kind ∙ k) in
      let m6 : byte s (at + 2) ≡ ignored_kind → ⊥ = λ k. n6 (first_kind ∙ k) in
      rw (items-step depth s end at h) (by_kind (inside_of depth s) s at _ (λ i. name_of i ≡ text s (at + 4)) (λ k. refl) (λ k. absurd (m3 k)) (λ k. absurd (m6 k)) (λ n m l. refl))

  pub first-segments : kind_of (items_at depth s end at) ≡ use_kind → segments_of (items_at depth s end at) ≡ counted (after s) (text s) s (at + 4)
  unfolding segments_of
  first-segments k =
      let k3 : byte s (at + 2) ≡ use_kind = sym first_kind ∙ k in
      rw (items-step depth s end at h, item_use (inside_of depth s) s at (items_at depth s end (after_length s at)) (λ (e : byte s (at + 2) ≡ module_kind). omega arith) k3)

  pub first-elements : kind_of (items_at depth s end at) ≡ use_kind → elements_of (items_at depth s end at) ≡ counted (after_element s) (element_at s) s (after_list (after s) s (at + 4))
  unfolding elements_of
  first-elements k =
      let k3 : byte s (at + 2) ≡ use_kind = sym first_kind ∙ k in
      rw (items-step depth s end at h, item_use (inside_of depth s) s at (items_at depth s end (after_length s at)) (λ (e : byte s (at + 2) ≡ module_kind). omega arith) k3)

pub first_inner : (depth : ℕ) (s : List ℕ) (end at : ℕ) → at < end → kind_of (items_at (suc depth) s end at) ≡ module_kind → inner_of (items_at (suc depth) s end at) ≡ items_at depth s (after_length s at) (after s (at + 4))
unfolding inner_of
first_inner depth s end at h k =
    let k5 : byte s (at + 2) ≡ module_kind = sym (first_kind (suc depth) s end at h) ∙ k in
    rw (items-step (suc depth) s end at h, item_module (inside_of (suc depth) s) s at (items_at (suc depth) s end (after_length s at)) k5)
