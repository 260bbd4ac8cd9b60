-- The image in a lent buffer, from the bytes of its items. Assumes nothing.
use Prim.Native.Nat.{ℕ, ◌+◌, ◌-◌, ◌/◌, ◌%◌, ◌≤◌, ◌<◌, min}
use native.Mathlib.Omega.{arith}
use Rattle.std.specs.Prelude.{◌≡◌, List, [], ◌∷◌, ◌++◌, set, take}
use Rattle.std.proofs.Math.Path.{refl, ap}
use Rattle.std.proofs.Common.{sym, ◌∙◌, length-append, length-take-le}
use Rattle.std.proofs.Math.ListN.{length, drop}
use borrow.Author.Tests.{le-leb}
use borrow.Rule.Slice.PartMut.{mid_of, put_mid}
use Rattle.bundle.specs.Bundle.{Items, Bundle}
use Rattle.bundle.specs.Encode.{two, sized, items}
use Rattle.encoder.specs.Started.{started}
use Rattle.assembly.specs.Assemble.{assembled}
use Rattle.assembly.specs.Image.{image_limit, length_cap, small_buffer, long_image, image_bytes, items_length, image_length, imaging, lent_image, items-length, small, long}
use Rattle.encoder.specs.Parts.{started-length, then-filled, kept-start, headed, set_three}
use Rattle.assembly.specs.Given.{program_bytes}
use Rattle.assembly.specs.Results as imaged

module _ (b : Bundle) (o out : List ℕ) where
  abbrev p : Items
  p = assembled b o

  bytes-length : length (program_bytes b o) ≡ items_length p
  unfolding program_bytes
  bytes-length = items-length p

  -- 15
  pub too_long : (n : ℕ) → n ≡ min (length (program_bytes b o)) length_cap → n ≡ length_cap → (imaged.Refused long_image 0 ≡ imaging p (length out)) × (out ≡ lent_image p out)
  too_long n e h = let l = bytes-length in let x = long p out (omega arith) in (sym x.answered, sym x.untouched)

  -- 14
  pub too_small : (n : ℕ) → n ≡ min (length (program_bytes b o)) length_cap → (n ≡ length_cap → ⊥) → length out < 3 + n → (imaged.Refused small_buffer 0 ≡ imaging p (length out)) × (out ≡ lent_image p out)
  too_small n e h k = let l = bytes-length in let x = small p out (omega arith) (omega arith) in (sym x.answered, sym x.untouched)

  -- the items behind the header, then the header
  module _ (last o₁ final : List ℕ) (n : ℕ) (count : n ≡ length (program_bytes b o)) (short : length (program_bytes b o) < length_cap) (room : 3 + n ≤ length out)
      (filled : last ≡ started (program_bytes b o) (mid_of 3 (length out - 3) out)) where
    behind : put_mid 3 (length out - 3) out last ≡ started (take 3 out ++ program_bytes b o) out
    behind =
        let l = length-take-le 3 out (omega arith) in
        then-filled (take 3 out) out (omega arith) (program_bytes b o) out last 3 (kept-start 3 out (omega arith)) (sym l) filled

    pub behind-long : length (put_mid 3 (length out - 3) out last) ≡ length out
    behind-long =
        let l = length-take-le 3 out (omega arith) in
        ap length behind ∙ started-length (take 3 out ++ program_bytes b o) out (omega (arith, length-append (take 3 out) (program_bytes b o)))

    pub all-written : o₁ ≡ set (put_mid 3 (length out - 3) out last) 0 1 → final ≡ set (set o₁ 1 (n / 256)) 2 (n % 256) → (imaged.Image (3 + n) ≡ imaging p (length out)) × (final ≡ lent_image p out)
    unfolding imaging lent_image image_bytes sized two program_bytes
    all-written e f =
        let l = bytes-length in
        let k = behind-long in
        let h : items_length p ≤ image_limit = omega arith in
        let m : image_length p ≤ length out = omega arith in
        let z : 3 + n ≡ image_length p = omega arith in
        let c : n ≡ length (items p) = count in
        let x = headed (1 ∷ (n / 256) ∷ (n % 256) ∷ []) (program_bytes b o) out 3 refl (omega arith) (put_mid 3 (length out - 3) out last) final behind
        (set_three (put_mid 3 (length out - 3) out last) o₁ final 1 (n / 256) (n % 256) (omega arith) e f) in
        rw (le-leb (items_length p) image_limit h, le-leb (image_length p) (length out) m) (
          ap imaged.Image z,
          x
              ∙ (ap (λ (i : ℕ). ((1 ∷ (i / 256) ∷ (i % 256) ∷ []) ++ items p) ++ drop (length ((1 ∷ (n / 256) ∷ (n % 256) ∷ []) ++ items p)) out) c
              ∙ ap (λ (i : ℕ). (1 ∷ ((length (items p) / 256) ∷ (length (items p) % 256) ∷ items p)) ++ drop i out) (three_more (length (items p)) (items_length p) l)),
        )
      where
        three_more : (i j : ℕ) → i ≡ j → Prim.Native.Nat.suc (Prim.Native.Nat.suc (Prim.Native.Nat.suc i)) ≡ 3 + j
        three_more i j e = omega arith
