-- A buffer that is filled from its start, by stores one after the other. Assumes nothing.
use Rattle.std.specs.Prelude.{ℕ, suc, ◌+◌, ◌<◌, ◌≤◌, ◌≡◌, List, [], ◌∷◌, ◌++◌, length, get_or, set, take, drop}
use Rattle.std.proofs.Common.{arith, add-one, sym, ap, ◌∙◌, drop-cons, length-take-le, take_all, take-suc}
use Rattle.std.proofs.lemmas.List.{set_at}
use Rattle.std.proofs.Math.Seq.{append_snoc}

-- w, and behind it what the buffer o held
abbrev pub started : List ℕ → List ℕ → List ℕ
started w o = w ++ drop (length w) o

module _ (w o : List ℕ) (at : ℕ) (is : length w ≡ at) where
  pub put_one : (v : ℕ) → at < length o → set (w ++ drop at o) at v ≡ (w ++ (v ∷ [])) ++ drop (at + 1) o
  put_one v h =
      ap (λ (r : List ℕ). set (w ++ r) at v) (drop-cons o at 0 h)
      ∙ (set_at w (get_or o at 0) (drop (suc at) o) v at is
      ∙ (sym (append_snoc w v (drop (suc at) o)) ∙ ap (λ (n : ℕ). (w ++ (v ∷ [])) ++ drop n o) (sym (add-one at))))

-- BYTE BY BYTE
module _ (t o : List ℕ) (i : ℕ) where
  pub byte_more : i < length t → length t ≤ length o → set (take i t ++ drop i o) i (get_or t i 0) ≡ take (i + 1) t ++ drop (i + 1) o
  byte_more h r =
      put_one (take i t) o i (length-take-le i t (omega arith)) (get_or t i 0) (omega arith)
      ∙ ap (λ (w : List ℕ). w ++ drop (i + 1) o) (sym (take-suc t i 0 h) ∙ ap (λ (n : ℕ). take n t) (sym (add-one i)))

  pub bytes_all : i ≡ length t → take i t ++ drop i o ≡ started t o
  bytes_all e = ap (λ (w : List ℕ). w ++ drop i o) (take_all i t (omega arith)) ∙ ap (λ (n : ℕ). t ++ drop n o) e

pub ruleset byte_by_byte = (byte_more, bytes_all)
