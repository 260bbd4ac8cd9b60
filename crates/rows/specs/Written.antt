-- Numbers stored in what is lent, as far as there is place. Assumes nothing.
use Rattle.std.specs.Prelude.{ℕ, ◌+◌, ◌≤◌, ◌<◌, ◌≡◌, refl, cond, List, [], ◌∷◌, ltb, length, set}
use Rattle.std.proofs.Common.{length-set, lt-ltb, le-ltb}

-- a number at i, where there is place
abbrev pub put_at : List ℕ → ℕ → ℕ → List ℕ
put_at o i v = cond (ltb i (length o)) (set o i v) o

-- numbers written one after another from i on, as far as there is place
unfoldable pub written : List ℕ → ℕ → List ℕ → List ℕ
written o i [] = o
written o i (v ∷ vs) = written (put_at o i v) (i + 1) vs

-- AS THE CODE HAS IT
module _ (o : List ℕ) (i v : ℕ) where
  pub put-inside : i < length o → (set o i v ≡ put_at o i v) × (length (set o i v) ≡ length o)
  put-inside h = (rw (lt-ltb i (length o) h), length-set o i v)

  pub put-outside : length o ≤ i → (o ≡ put_at o i v) × (length o ≡ length o)
  put-outside h = (rw (le-ltb i (length o) h), refl)
