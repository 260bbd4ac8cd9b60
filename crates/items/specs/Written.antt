-- An item that is written start first, then what is inside, and its length at last. Assumes nothing.
-- the item, by the name and the visibility that the code reads
use Rattle.std.specs.Prelude.{ℕ, ◌+◌, ◌-◌, ◌/◌, ◌%◌, ◌≤◌, ◌<◌, ◌≡◌, refl, List, [], ◌∷◌, ◌++◌, length, set, take, drop}
use Rattle.std.proofs.Common.{arith, sym, ap, ◌∙◌, append_assoc, length-append, length-take-le}
use borrow.Rule.Slice.PartMut.{mid_of, put_mid}
use Rattle.bundle.specs.Encode.{string}
use Rattle.encoder.specs.Started.{started}
use Rattle.encoder.specs.Parts.{head_bytes, put-length, put_whole, started-length, kept-start, then-filled, Filled, filled_none, filled-length, filled-start, filled-room, filled-part, filled_more, filled-all, Front, front_long, front-room, front-all}
use Rattle.assembly.specs.Image.{length_cap}

-- there is room for all of an item, and it is shorter than what its length can tell
pub record Fits (item out : List ℕ) : Type 0 where
  pub few : length item ≤ length out
  pub short : length item < length_cap

-- its bytes stand at the start, and how many they are is answered
abbrev pub Wrote : List ℕ → List ℕ → ℕ → List ℕ → Type 0
Wrote item before n after = (n ≡ length item) × (after ≡ started item before)

-- ITEMS ONE AFTER THE OTHER: `rest` of all is to be written behind sum
pub record Writing (all rest out₀ out : List ℕ) (sum : ℕ) : Type 0 where
  pub filled : Filled all rest out₀ out sum
  pub fits : Fits all out₀

pub writing_first : {all out : List ℕ} → Fits all out → Writing all all out out 0
writing_first {all} {out} f = record { filled = filled_none all out; fits = f }

module _ {all rest out₀ out : List ℕ} {sum : ℕ} (w : Writing all rest out₀ out sum) where
  pub writing-start : sum ≤ length out
  writing-start = filled-start all rest out₀ out sum w.filled w.fits.few

  pub writing-long : length out ≡ length out₀
  writing-long = filled-length all rest out₀ out sum w.filled w.fits.few

  -- x is next
  module _ (x rest' : List ℕ) (is : rest ≡ x ++ rest') where
    pub writing-fits : Fits x (mid_of sum (length out - sum) out)
    writing-fits =
        let p = filled-part all rest out₀ out sum w.filled w.fits.few x rest' is in
        let s = w.fits.short in
        record { few = filled-room all rest out₀ out sum w.filled w.fits.few x rest' is; short = omega arith }

    module _ (last : List ℕ) (n : ℕ) (h : (n ≡ length x) × (last ≡ started x (mid_of sum (length out - sum) out))) where
      pub writing-next : Writing all rest' out₀ (put_mid sum (length out - sum) out last) (sum + n)
      writing-next = record { filled = filled_more all rest out₀ out sum w.filled w.fits.few x rest' last n is h.1 h.0; fits = w.fits }

  pub writing-all : rest ≡ [] → Wrote all out₀ sum out
  writing-all e = filled-all all rest out₀ out sum w.filled w.fits.few e

-- THE HEAD AT LAST: x stands behind four bytes
module _ (x out last : List ℕ) (n : ℕ) (h : (n ≡ length x) × (last ≡ started x (mid_of 4 (length out - 4) out))) (room : 4 + length x ≤ length out) where
  behind : put_mid 4 (length out - 4) out last ≡ started (take 4 out ++ x) out
  behind = then-filled (take 4 out) out (let l = length-take-le 4 out (omega arith) in omega arith) x out last 4 (kept-start 4 out (omega arith)) (sym (length-take-le 4 out (omega arith))) h.1

  pub behind-long : length (put_mid 4 (length out - 4) out last) ≡ length out
  behind-long = ap length behind ∙ started-length (take 4 out ++ x) out (let l = length-take-le 4 out (omega arith) in omega (arith, length-append (take 4 out) x))

  pub head_done : (k v b : ℕ) → v ≡ b → (final : List ℕ) → final ≡ head_bytes (2 + n) k v ++ drop 4 (put_mid 4 (length out - 4) out last)
      → (4 + n ≡ 4 + length x) × (final ≡ started (head_bytes (2 + length x) k b ++ x) out)
  head_done k v b e final f = (
    ap (λ (m : ℕ). 4 + m) h.0,
    put_whole x out (put_mid 4 (length out - 4) out last) final (2 + n) k v (omega arith) behind f
        ∙ (ap (λ (m : ℕ). started (head_bytes (2 + m) k v ++ x) out) h.0 ∙ ap (λ (m : ℕ). started (head_bytes (2 + length x) k m ++ x) out) e),
  )

pub by_name : {name t : List ℕ} {k v b : ℕ} → name ≡ t → v ≡ b → head_bytes (2 + length (string t)) k b ++ string t ≡ head_bytes (2 + length (string name)) k v ++ string name
by_name {name} {t} {k} {v} {b} e f = rw (e, f) refl

pub by_name_inside : {item name t : List ℕ} {k v b : ℕ} (x : List ℕ) → name ≡ t → v ≡ b → item ≡ head_bytes (2 + length (string t ++ x)) k b ++ (string t ++ x)
    → item ≡ head_bytes (2 + length (string name ++ x)) k v ++ (string name ++ x)
by_name_inside x e f h = rw (e, f) h

-- the start of an item stands in cur, and there is room for all of it
pub record Begun (out cur name item : List ℕ) (k v a : ℕ) : Type 0 where
  pub start : cur ≡ started (take 2 out ++ (k ∷ v ∷ string name)) out
  pub is : a ≡ 4 + length (string name)
  pub fits : Fits item out

pub begun_of : {out cur name item : List ℕ} {k v a : ℕ} → (a ≡ 4 + length (string name)) × (cur ≡ started (take 2 out ++ (k ∷ v ∷ string name)) out) → Fits item out → Begun out cur name item k v a
begun_of h f = record { start = h.1; is = h.0; fits = f }

abbrev began : List ℕ → List ℕ → ℕ → ℕ → List ℕ
began out name k v = take 2 out ++ (k ∷ v ∷ string name)

-- THERE IS NOTHING INSIDE
module _ {out cur name item : List ℕ} {k v a : ℕ} (f : Begun out cur name item k v a) (form : item ≡ head_bytes (2 + length (string name)) k v ++ string name) where
  size : length item ≡ a
  size = let l = ap length form in let i = f.is in omega arith

  leaf_front : Front (began out name k v) [] out cur a
  leaf_front =
      let l = size in
      let n = f.fits.few in
      let i = f.is in
      let t = length-take-le 2 out (omega arith) in
      let w = length-append (take 2 out) (k ∷ v ∷ string name) in
      record { starts = f.start; is = omega arith; room = omega (arith, length-append (began out name k v) []) }

  pub leaf_length : (2 ≤ length cur) × (a - 2 < length_cap)
  leaf_length = let l = size in let n = front_long leaf_front in let h = f.fits.few in let s = f.fits.short in let i = f.is in (omega arith, omega arith)

  pub leaf_done : (final : List ℕ) → final ≡ set (set cur 0 ((a - 2) / 256)) 1 ((a - 2) % 256) → (a ≡ length item) × (final ≡ started item out)
  leaf_done final e =
      let l = size in
      let i = f.is in
      let h = f.fits.few in
      let z : a - 2 ≡ 2 + length (string name) = omega arith in (
        sym l,
        put-length (string name) out cur final (a - 2) k v (omega arith) f.start e
            ∙ (ap (λ (n : ℕ). started (head_bytes n k v ++ string name) out) z ∙ ap (λ (j : List ℕ). started j out) (sym form)),
      )

-- x IS INSIDE
pub record Inside (out cur name item x : List ℕ) (k v a : ℕ) : Type 0 where
  pub begun : Begun out cur name item k v a
  pub form : item ≡ head_bytes (2 + length (string name ++ x)) k v ++ (string name ++ x)

module _ {out cur name item x : List ℕ} {k v a : ℕ} (f : Inside out cur name item x k v a) where
  size-inside : length item ≡ a + length x
  size-inside = let l = ap length f.form in let i = f.begun.is in omega (arith, length-append (string name) x)

  inside-front : Front (began out name k v) x out cur a
  inside-front =
      let l = size-inside in
      let n = f.begun.fits.few in
      let i = f.begun.is in
      let t = length-take-le 2 out (omega arith) in
      let w = length-append (take 2 out) (k ∷ v ∷ string name) in
      record { starts = f.begun.start; is = omega arith; room = omega (arith, length-append (began out name k v) x) }

  pub inside-room : length x ≤ length (mid_of a (length cur - a) cur)
  inside-room = front-room inside-front

  pub inside-short : length x < length_cap
  inside-short = let l = size-inside in let s = f.begun.fits.short in omega arith

  pub inside-fits : Fits x (mid_of a (length cur - a) cur)
  inside-fits = record { few = inside-room; short = inside-short }

  module _ (last : List ℕ) (m : ℕ) (filled : (m ≡ length x) × (last ≡ started x (mid_of a (length cur - a) cur))) where
    both : put_mid a (length cur - a) cur last ≡ started (take 2 out ++ (k ∷ v ∷ (string name ++ x))) out
    both = front-all inside-front last filled.1 ∙ ap (λ (l : List ℕ). started l out) (append_assoc (take 2 out) (k ∷ v ∷ string name) x)

    pub inside-length : (2 ≤ length (put_mid a (length cur - a) cur last)) × (a + m - 2 < length_cap)
    inside-length =
        let l = size-inside in
        let c = filled.0 in
        let i = f.begun.is in
        let h = f.begun.fits.few in
        let s = f.begun.fits.short in
        let n = ap length both ∙ started-length (take 2 out ++ (k ∷ v ∷ (string name ++ x))) out
        (let t = length-take-le 2 out (omega arith) in omega (arith, length-append (take 2 out) (k ∷ v ∷ (string name ++ x)), length-append (string name) x)) in
        (omega arith, omega arith)

    pub inside-done : (final : List ℕ) → final ≡ set (set (put_mid a (length cur - a) cur last) 0 ((a + m - 2) / 256)) 1 ((a + m - 2) % 256) → (a + m ≡ length item) × (final ≡ started item out)
    inside-done final e =
        let l = size-inside in
        let c = filled.0 in
        let i = f.begun.is in
        let h = f.begun.fits.few in
        let z : a + m - 2 ≡ 2 + length (string name ++ x) = omega (arith, length-append (string name) x) in (
          omega arith,
          put-length (string name ++ x) out (put_mid a (length cur - a) cur last) final (a + m - 2) k v (omega arith) both e
              ∙ (ap (λ (n : ℕ). started (head_bytes n k v ++ (string name ++ x)) out) z ∙ ap (λ (j : List ℕ). started j out) (sym f.form)),
        )
