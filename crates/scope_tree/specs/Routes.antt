-- What bounds a walk through the index: a scope, a kind and a name have 382 bits by which it turns, and two of them that agree in all are
-- one. Assumes nothing.
use Rattle.std.specs.Prelude.{ℕ, zero, suc, ◌+◌, ◌-◌, ◌*◌, ◌/◌, ◌%◌, ◌^◌, ◌<◌, ◌≡◌}
use Rattle.std.proofs.Common.{arith, pow-suc, div-one, div-lt_iff_lt-mul, zero-lt-suc, ap, sym, subst, ◌∙◌, le-ltb}
use Rattle.std.proofs.Math.Nat.{pow-zero, pow-succ', div-div-eq-div-mul}
use Rattle.names.specs.declared.Name.{Name}
use Rattle.scope_tree.specs.Index.{word_at, turn_of, turn, mix}

-- NUMBERS OF n BITS

-- the bit at j of the half
half_bit : (x j : ℕ) → x / 2 / 2 ^ j ≡ x / 2 ^ suc j
half_bit x j = div-div-eq-div-mul x 2 (2 ^ j) ∙ ap (λ (m : ℕ). x / m) (sym (pow-succ' 2 j))

first_bit : (x : ℕ) → x / 2 ^ 0 ≡ x
first_bit x = ap (λ (m : ℕ). x / m) (pow-zero 2) ∙ div-one x

half_below : (n x : ℕ) → x < 2 ^ suc n → x / 2 < 2 ^ n
half_below n x h = (div-lt_iff_lt-mul (zero-lt-suc 1)).1 (subst (λ (m : ℕ). x < m) (pow-suc 2 n) h)

-- two that agree in each are one
bits-same : (n x y : ℕ) → x < 2 ^ n → y < 2 ^ n → ((j : ℕ) → j < n → x / 2 ^ j % 2 ≡ y / 2 ^ j % 2) → x ≡ y
bits-same zero x y h k w = let z = pow-zero 2 in omega (arith, (subst (λ (m : ℕ). x < m) z h), (subst (λ (m : ℕ). y < m) z k))
bits-same (suc n) x y h k w =
    let halves : x / 2 ≡ y / 2 =
    bits-same n (x / 2) (y / 2) (half_below n x h) (half_below n y k) (λ j l. ap (λ (m : ℕ). m % 2) (half_bit x j) ∙ w (suc j) (omega arith) ∙ sym (ap (λ (m : ℕ). m % 2) (half_bit y j))) in
    let low : x % 2 ≡ y % 2 = ap (λ (m : ℕ). m % 2) (sym (first_bit x)) ∙ w 0 (omega arith) ∙ ap (λ (m : ℕ). m % 2) (first_bit y) in
    omega arith

-- THE BITS OF A WORD
turn_at : (m s k : ℕ) (n : Name) (i j : ℕ) → j < 64 → turn_of m s k n (62 + (64 * i + j)) ≡ word_at s k n i / 2 ^ j % 2
unfolding turn_of
turn_at m s k n i j h =
    let u : (62 + (64 * i + j) - 62) / 64 ≡ i = omega arith in
    let v : (62 + (64 * i + j) - 62) % 64 ≡ j = omega arith in
    rw (le-ltb (62 + (64 * i + j)) 26 (omega arith), le-ltb (62 + (64 * i + j)) 62 (omega arith), u, v)

-- numbers as the arrays hold them
pub record Key (s k : ℕ) (n : Name) : Type 0 where
  pub scope : s < 65536
  pub kind : k < 65536
  pub w0 : n.w0 < 18446744073709551616
  pub w1 : n.w1 < 18446744073709551616
  pub w2 : n.w2 < 18446744073709551616
  pub w3 : n.w3 < 18446744073709551616

module _ (s k : ℕ) (n : Name) (s' k' : ℕ) (n' : Name) (w : (d : ℕ) → d < 382 → turn s k n d ≡ turn s' k' n' d) where
  word_same : (i : ℕ) → i < 5 → word_at s k n i < 18446744073709551616 → word_at s' k' n' i < 18446744073709551616 → word_at s k n i ≡ word_at s' k' n' i
  word_same i l a b =
      bits-same 64 (word_at s k n i) (word_at s' k' n' i) a b (λ j h. sym (turn_at (mix s k n) s k n i j h) ∙ w (62 + (64 * i + j)) (omega arith) ∙ turn_at (mix s' k' n') s' k' n' i j h)

  -- THE THEOREM: what agrees in all bits is one
  pub route_one : Key s k n → Key s' k' n' → (s ≡ s') × ((k ≡ k') × (n ≡ n'))
  unfolding word_at
  route_one a b =
      let e0 : n.w0 ≡ n'.w0 = word_same 0 (omega arith) a.w0 b.w0 in
      let e1 : n.w1 ≡ n'.w1 = word_same 1 (omega arith) a.w1 b.w1 in
      let e2 : n.w2 ≡ n'.w2 = word_same 2 (omega arith) a.w2 b.w2 in
      let e3 : n.w3 ≡ n'.w3 = word_same 3 (omega arith) a.w3 b.w3 in
      let e4 : s + k * 65536 ≡ s' + k' * 65536 = word_same 4 (omega arith) (omega (arith, a.scope, a.kind)) (omega (arith, b.scope, b.kind)) in
      (omega (arith, a.scope, b.scope), (omega (arith, a.scope, b.scope), (λ j. record { w0 = e0 j; w1 = e1 j; w2 = e2 j; w3 = e3 j })))
