-- Bytes that stand in a bundle from one offset to another. Assumes nothing.
use Rattle.std.specs.Prelude.{ℕ, ◌+◌, ◌-◌, ◌/◌, ◌%◌, ◌≤◌, ◌<◌, ◌≡◌, get_or, drop}
use native.Mathlib.Omega.{arith}
use Rattle.std.proofs.Common.{add-one, sym, ◌∙◌, length-drop, take-append-drop, drop-cons, drop-drop, drop_at, get_or-drop, length-take-le}
use Rattle.std.proofs.Math.Path.{refl, ap}
use mathlib.Core.List.{List, [], ◌∷◌, ◌++◌, append_assoc}
use Rattle.std.proofs.Math.ListN.{length, length-append}
use Rattle.bundle.specs.Scan.{byte, word, text, count, past_count}
use Rattle.bundle.specs.Decode.{after, after_length}
use Rattle.bundle.specs.Encode.{two, string, count_bytes, sized}
use Rattle.bundle.specs.Limits.{width}
use Rattle.bundle.specs.declared.Width.{Width}
use Rattle.bundle.specs.declared.Width.TheVariants.{Byte, Word}
pub use Rattle.bundle.specs.Read.{Bytes}

-- x stands from a to b
abbrev pub Stands : List ℕ → ℕ → List ℕ → ℕ → Type 0
Stands s a x b = drop a s ≡ x ++ drop b s

module _ (s : List ℕ) where
  pub stands-then : (x y : List ℕ) (a b c : ℕ) → Stands s a x b → Stands s b y c → Stands s a (x ++ y) c
  stands-then x y a b c e f = e ∙ (ap (λ (l : List ℕ). x ++ l) f ∙ sym (append_assoc x y (drop c s)))

  pub stands-length : (x : List ℕ) (a b : ℕ) → Stands s a x b → a ≤ b → b ≤ length s → length x ≡ b - a
  stands-length x a b e h k =
      let z : length s - a ≡ length x + (length s - b) = sym (length-drop a s) ∙ (ap length e ∙ (length-append x (drop b s) ∙ ap (λ (n : ℕ). length x + n) (length-drop b s))) in
      omega arith

  pub stands-byte : (a : ℕ) → a < length s → Stands s a (byte s a ∷ []) (a + 1)
  stands-byte a h = rw add-one (drop-cons s a 0 h)

  pub text-length : (at : ℕ) → after s at ≤ length s → length (text s at) ≡ byte s at
  text-length at h = length-take-le (byte s at) (drop (at + 1) s) (simp length-drop (omega arith))

  pub stands-string : (at : ℕ) → after s at ≤ length s → Stands s at (string (text s at)) (after s at)
  unfolding string
  stands-string at h =
      stands-byte at (omega arith)
      ∙ rw (text-length at h)
      (ap (λ (l : List ℕ). byte s at ∷ l)
      (sym (take-append-drop (byte s at) (drop (at + 1) s)) ∙ ap (λ (l : List ℕ). text s at ++ l) (drop-drop (byte s at) (at + 1) s)))

  pub stands-two : Bytes s → (at : ℕ) → at + 2 ≤ length s → Stands s at (two (word s at)) (at + 2)
  unfolding two
  stands-two B at h =
      let x = B at in
      let y = B (at + 1) in
      let q : word s at / 256 ≡ byte s at = omega arith in
      let r : word s at % 256 ≡ byte s (at + 1) = omega arith in
      let z : at + 1 + 1 ≡ at + 2 = omega arith in
      rw (q, r) (rw z at (stands-then (byte s at ∷ []) (byte s (at + 1) ∷ []) at (at + 1) (at + 1 + 1) (stands-byte at (omega arith)) (stands-byte (at + 1) (omega arith))))

  -- a count
  pub stands-count : Bytes s → (w : Width) (at : ℕ) → past_count w at ≤ length s → Stands s at (count_bytes w (count w s at)) (past_count w at)
  stands-count B Byte at h = stands-byte at (omega arith)
  stands-count B Word at h = stands-two B at h

  -- a body behind its 2-byte length
  pub stands-sized : Bytes s → (body : List ℕ) (at : ℕ) → after_length s at ≤ length s → Stands s (at + 2) body (after_length s at) → Stands s at (sized body) (after_length s at)
  unfolding sized
  stands-sized B body at h e =
      let l : length body ≡ word s at = stands-length body (at + 2) (after_length s at) e (omega arith) h ∙ omega arith in
      rw l (stands-then (two (word s at)) body at (at + 2) (after_length s at) (stands-two B at (omega arith)) e)

  pub sized-length : (body : List ℕ) → length (sized body) ≡ 2 + length body
  unfolding sized two
  sized-length body = length-append (two (length body)) body

  -- WHAT IS KNOWN OF THE BYTES from at on
  pub at_byte : (at b : ℕ) (l : List ℕ) → drop at s ≡ b ∷ l → (byte s at ≡ b) × (drop (at + 1) s ≡ l)
  at_byte at b l e =
      let z : at + 0 ≡ at = omega arith in
      (rw z at (sym (get_or-drop at s 0 0)) ∙ ap (λ (x : List ℕ). get_or x 0 0) e, sym (drop-drop 1 at s) ∙ ap (λ (x : List ℕ). drop 1 x) e)

  at-two : (at n : ℕ) (l : List ℕ) → drop at s ≡ two n ++ l → (word s at ≡ n) × (drop (at + 2) s ≡ l)
  unfolding two
  at-two at n l e =
      let a = at_byte at (n / 256) ((n % 256) ∷ l) e in
      let b = at_byte (at + 1) (n % 256) l a.1 in
      let z : at + 1 + 1 ≡ at + 2 = omega arith in
      let x = a.0 in
      let y = b.0 in
      (omega arith, rw z at b.1)

  pub at_count : (w : Width) (at n : ℕ) (l : List ℕ) → drop at s ≡ count_bytes w n ++ l → (count w s at ≡ n) × (drop (past_count w at) s ≡ l)
  at_count Byte at n l e = at_byte at n l e
  at_count Word at n l e = at-two at n l e

  two-length : (n : ℕ) → length (two n) ≡ 2
  unfolding two
  two-length n = refl

  pub count-length : (w : Width) (n : ℕ) → length (count_bytes w n) ≡ width w
  count-length Byte n = refl
  count-length Word n = two-length n

  pub at-append : (at : ℕ) (x l : List ℕ) → drop at s ≡ x ++ l → drop (at + length x) s ≡ l
  at-append at x l e = sym (drop-drop (length x) at s) ∙ (ap (λ (y : List ℕ). drop (length x) y) e ∙ drop_at x l (length x) refl)
