-- A number in decimal, and a unit's name. Assumes nothing.
use Rattle.std.specs.Prelude.{ℕ, zero, suc, ◌+◌, ◌-◌, ◌*◌, ◌/◌, ◌%◌, ◌^◌, ◌<◌, ◌≤◌, cond, ◌≡◌, refl, List, [], ◌∷◌, ◌++◌, ltb, length, take, drop, set, replicate}
use Rattle.std.proofs.Common.{sym, ap, ◌∙◌, append_assoc, append-nil, not-suc-le-zero, pow-suc, arith, lt-ltb, le-ltb, length-append, length-set, drop-cons, drop-drop, drop-set-lt, get_or-set_same, take-add}
use Rattle.std.proofs.lemmas.List.{take-set-le, drop-replicate}
use Rattle.std.proofs.Math.Nat.{one-le-pow}
use Rattle.std.proofs.Math.Decide.{dec_lt}
use Rattle.names.specs.Bytes.{ascii}

-- the digits of n, the most significant first; the first argument bounds their number
unfoldable pub digits : ℕ → ℕ → List ℕ
digits zero n = []
digits (suc k) n = cond (ltb n 10) [] (digits k (n / 10)) ++ ((48 + n % 10) ∷ [])

-- n has at most n + 1 digits
unfoldable pub decimal : ℕ → List ℕ
decimal n = digits (suc n) n

-- the specification's unit name: `unit_` and the id in decimal
unfoldable pub unit_name : ℕ → List ℕ
unit_name n = ascii "unit_" ++ decimal n

-- how many digits n has
abbrev pub width : ℕ → ℕ
width n = length (decimal n)

-- what a run of digits stands for
unfoldable pub value : List ℕ → ℕ → ℕ
value [] v = v
value (d ∷ l) v = value l (v * 10 + (d - 48))

-- DIGIT BY DIGIT

-- more room changes nothing
digits-room : (k m n : ℕ) → n < k → n < m → digits k n ≡ digits m n
unfolding digits
digits-room zero m n h l = absurd (not-suc-le-zero h)
digits-room (suc k) zero n h l = absurd (not-suc-le-zero l)
digits-room (suc k) (suc m) n h l = go (dec_lt n 10) (digits-room k m (n / 10))
  where
    go : Dec (n < 10) → (n / 10 < k → n / 10 < m → digits k (n / 10) ≡ digits m (n / 10)) → digits (suc k) n ≡ digits (suc m) n
    go (yes s) f = rw (lt-ltb n 10 s)
    go (no s) f = rw (le-ltb n 10 (omega arith), f (omega arith) (omega arith))

pub decimal-one : (n : ℕ) → n < 10 → decimal n ≡ (48 + n % 10) ∷ []
unfolding decimal digits
decimal-one n h = rw (lt-ltb n 10 h)

pub decimal-more : (n : ℕ) → 10 ≤ n → decimal n ≡ decimal (n / 10) ++ ((48 + n % 10) ∷ [])
unfolding decimal digits
decimal-more n h = rw (le-ltb n 10 h, digits-room n (suc (n / 10)) (n / 10) (omega arith) (omega arith))

-- WHAT IT STANDS FOR

value_snoc : (l : List ℕ) (d v : ℕ) → value (l ++ (d ∷ [])) v ≡ value l v * 10 + (d - 48)
unfolding value
value_snoc [] d v = refl
value_snoc (c ∷ l) d v = value_snoc l d (v * 10 + (c - 48))

value-digits : (k n : ℕ) → n < k → value (digits k n) 0 ≡ n
unfolding digits value
value-digits zero n h = absurd (not-suc-le-zero h)
value-digits (suc k) n h = go (dec_lt n 10) (value-digits k (n / 10))
  where
    go : Dec (n < 10) → (n / 10 < k → value (digits k (n / 10)) 0 ≡ n / 10) → value (digits (suc k) n) 0 ≡ n
    go (yes s) f = rw (lt-ltb n 10 s) (omega arith)
    go (no s) f = rw (le-ltb n 10 (omega arith)) (value_snoc (digits k (n / 10)) (48 + n % 10) 0 ∙ rw (f (omega arith)) (omega arith))

-- different numbers have different digits, however large
pub decimal_inj : (m n : ℕ) → decimal m ≡ decimal n → m ≡ n
unfolding decimal
decimal_inj m n e =
    sym (value-digits (suc m) m (omega arith)) ∙ ap (λ (l : List ℕ). value l 0) e ∙ value-digits (suc n) n (omega arith)

-- different units have different names, however many units there are
pub unit-names-differ : (m n : ℕ) → unit_name m ≡ unit_name n → m ≡ n
unfolding unit_name ascii
unit-names-differ m n e = decimal_inj m n (ap (drop 5) e)

-- HOW MANY DIGITS

pub width_one : (n : ℕ) → n < 10 → width n ≡ 1
width_one n h = rw (decimal-one n h)

pub width-more : (n : ℕ) → 10 ≤ n → width n ≡ suc (width (n / 10))
width-more n h = rw (decimal-more n h) (simp length-append (omega arith))

-- by its logarithm
pub width_is : (k n : ℕ) → 10 ^ k ≤ n → n < 10 * 10 ^ k → width n ≡ suc k
width_is zero n h l = width_one n (omega arith)
width_is (suc k) n h l =
    let p : 10 ^ suc k ≡ 10 ^ k * 10 = pow-suc 10 k in
    let q = one-le-pow k 10 (omega arith) in
    width-more n (omega arith) ∙ ap suc (width_is k (n / 10) (omega arith) (omega arith))

pub width_zero : width 0 ≡ 1
width_zero = width_one 0 (omega arith)

pub ruleset digits_counted = (width_is, width_zero)

pub width_some : (n : ℕ) → 0 < width n
width_some n = go (dec_lt n 10)
  where
    go : Dec (n < 10) → 0 < width n
    go (yes s) = omega (arith, width_one n s)
    go (no s) = omega (arith, width-more n (omega arith))

-- FROM THE LAST DIGIT ON

-- the digits that are still to come: the first i
unfoldable pub front : ℕ → ℕ → List ℕ
front zero rest = []
front (suc i) rest = decimal rest

pub front-step : (i rest : ℕ) → 0 < i → length (front i rest) ≡ i
    → (front i rest ≡ front (i - 1) (rest / 10) ++ ((48 + rest % 10) ∷ [])) × (length (front (i - 1) (rest / 10)) ≡ i - 1)
unfolding front
front-step zero rest h l = absurd (omega arith)
front-step (suc zero) rest h l = go (dec_lt rest 10)
  where
    go : Dec (rest < 10) → (decimal rest ≡ (48 + rest % 10) ∷ []) × (◌≡◌ {A = ℕ} 0 0)
    go (yes s) = (decimal-one rest s, refl)
    go (no s) = absurd (omega (arith, width-more rest (omega arith), width_some (rest / 10)))
front-step (suc (suc j)) rest h l =
    let z : suc (suc j) - 1 ≡ suc j = omega arith in
    rw z (go (dec_lt rest 10))
  where
    go : Dec (rest < 10) → (decimal rest ≡ decimal (rest / 10) ++ ((48 + rest % 10) ∷ [])) × (length (decimal (rest / 10)) ≡ suc j)
    go (yes s) = absurd (omega (arith, width_one rest s))
    go (no s) = (decimal-more rest (omega arith), omega (arith, width-more rest (omega arith)))

-- all of them
front_is : (id k : ℕ) → k ≡ width id → front k id ≡ decimal id
unfolding front
front_is id zero e = absurd (omega (arith, width_some id))
front_is id (suc k) e = refl

-- one digit more in place: the bytes from p on, of which n are written
pub slice_step : (l : List ℕ) (p n d : ℕ) → suc p + n ≤ length l
    → take (suc n) (drop p (set l p d)) ≡ d ∷ take n (drop (suc p) l)
slice_step l p n d h =
    rw (drop-cons (set l p d) p 0 (simp length-set (omega arith)), get_or-set_same l p d 0 (omega arith), drop-set-lt (suc p) l p d (omega arith))

-- a unit's name of n bytes, of which those from i on are written, and `rest` is left
pub record Written (id n i rest : ℕ) (bytes : List ℕ) : Type 0 where
  pub whole : length bytes ≡ 25
  pub led : take 5 bytes ≡ ascii "unit_"
  pub clear : drop n bytes ≡ replicate (25 - n) 0
  pub within : 5 ≤ i
  pub left : length (front (i - 5) rest) ≡ i - 5
  pub so_far : front (i - 5) rest ++ take (n - i) (drop i bytes) ≡ decimal id

pub written_none : (id k : ℕ) → k ≡ width id → k ≤ 20 → Written id (5 + k) (5 + k) id (ascii "unit_" ++ replicate 20 0)
unfolding ascii
written_none id k e h =
    let z : 5 + k - 5 ≡ k = omega arith in
    let y : 5 + k - (5 + k) ≡ 0 = omega arith in
    record {
      whole = refl;
      led = refl;
      clear =
          let x : 25 - (5 + k) ≡ 20 - k = omega arith in
          sym (drop-drop k 5 (ascii "unit_" ++ replicate 20 0)) ∙ rw x (drop-replicate k 20 0);
      within = omega arith;
      left = rw z (ap length (front_is id k e) ∙ sym e);
      so_far = rw (z, y) (append-nil (front k id) ∙ front_is id k e);
    }

-- a digit more
pub written_more : (id n i rest : ℕ) (bytes : List ℕ) → 5 < i → i ≤ n → n ≤ 25 → Written id n i rest bytes
    → Written id n (i - 1) (rest / 10) (set bytes (i - 1) (48 + rest % 10))
written_more id n i rest bytes a h short w =
    let d = 48 + rest % 10 in
    let z : i - 1 - 5 ≡ i - 5 - 1 = omega arith in
    let y : n - (i - 1) ≡ suc (n - i) = omega arith in
    let x : suc (i - 1) ≡ i = omega arith in
    let f = front-step (i - 5) rest (omega arith) w.left in
    let s = slice_step bytes (i - 1) (n - i) d (omega (arith, w.whole)) in
    record {
      whole = length-set bytes (i - 1) d ∙ w.whole;
      led = take-set-le 5 bytes (i - 1) d (omega arith) ∙ w.led;
      clear = drop-set-lt n bytes (i - 1) d (omega arith) ∙ w.clear;
      within = omega arith;
      left = rw z f.1;
      so_far =
          rw (z, y, s, x)
          (sym (append_assoc (front (i - 5 - 1) (rest / 10)) (d ∷ []) (take (n - i) (drop i bytes))) ∙ rw (← f.0) w.so_far);
    }

pub written_all : (id n i rest : ℕ) (bytes : List ℕ) → i ≤ 5 → 5 ≤ n → Written id n i rest bytes → take n bytes ≡ unit_name id
unfolding front unit_name
written_all id n i rest bytes h long w =
    let z : i ≡ 5 = omega (arith, w.within) in
    let g : take (n - 5) (drop 5 bytes) ≡ decimal id = rw z at w.so_far in
    let y : 5 + (n - 5) ≡ n = omega arith in
    rw (← y) (take-add 5 (n - 5) bytes ∙ rw (w.led, g))
