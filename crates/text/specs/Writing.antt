-- What a lent buffer holds once a text is written into it, as much as there is room for. Assumes nothing.
use Rattle.std.specs.Prelude.{ℕ, suc, ◌+◌, ◌<◌, ◌≤◌, ◌≡◌, refl, List, [], ◌∷◌, ◌++◌, length, take, drop, set, get_or}
use Rattle.std.proofs.Common.{arith, add-one, sym, ap, subst, ◌∙◌, append_assoc, append-nil, length-append, length-take, length-drop, length-set, drop_of_length-le, take_all, take-suc, drop-cons}
use Rattle.std.proofs.Math.Seq.{take-nil, append_snoc}
use Rattle.std.proofs.lemmas.List.{take-append-le, set_at}

-- THE BUFFER o with the text w at its start, the rest as it was; a text that is longer is cut at the buffer's end
abbrev pub shown : List ℕ → List ℕ → List ℕ
shown w o = take (length o) w ++ drop (length w) o

-- where the text ends
abbrev pub reach : List ℕ → List ℕ → ℕ
reach w o = length (take (length o) w)

-- WRITING ON: o holds a text up to `at`; afterwards o' holds that text and then `text`, up to r
pub record Put (text o : List ℕ) (at : ℕ) (o' : List ℕ) (r : ℕ) : Type 0 where
  pub buffer : (w o₀ : List ℕ) → o ≡ shown w o₀ → at ≡ reach w o₀ → o' ≡ shown (w ++ text) o₀
  pub end : (w o₀ : List ℕ) → o ≡ shown w o₀ → at ≡ reach w o₀ → r ≡ reach (w ++ text) o₀
  pub same : length o' ≡ length o

-- all of it fits
pub shown-all : (w o : List ℕ) → length w ≤ length o → (shown w o ≡ w ++ drop (length w) o) × (reach w o ≡ length w)
shown-all w o h = let e = take_all (length o) w h in (ap (λ (l : List ℕ). l ++ drop (length w) o) e, ap length e)

-- LAWS
shown-length : (w o : List ℕ) → length (shown w o) ≡ length o
shown-length w o = omega (arith, length-append (take (length o) w) (drop (length w) o), length-take (length o) w, length-drop (length w) o)

module _ (o : List ℕ) (at : ℕ) where
  pub put-none : Put [] o at o at
  put-none = record { buffer = λ w o₀ e f. rw append-nil e; end = λ w o₀ e f. rw append-nil f; same = refl }

  pub put_one : (b : ℕ) → at < length o → Put (b ∷ []) o at (set o at b) (at + 1)
  put_one b h =
      record {
        buffer = λ w o₀ e f. (one w o₀ e f).0;
        end = λ w o₀ e f. (one w o₀ e f).1;
        same = length-set o at b;
      }
    where
      one : (w o₀ : List ℕ) → o ≡ shown w o₀ → at ≡ reach w o₀ → (set o at b ≡ shown (w ++ (b ∷ [])) o₀) × (at + 1 ≡ reach (w ++ (b ∷ [])) o₀)
      one w o₀ e f =
          let n : length o ≡ length o₀ = ap length e ∙ shown-length w o₀ in
          let t = length-take (length o₀) w in
          let l : length w < length o₀ = omega arith in
          let s = shown-all w o₀ (omega arith) in
          let i : at ≡ length w = f ∙ s.1 in
          let k = length-append w (b ∷ []) in
          let a = shown-all (w ++ (b ∷ [])) o₀ (omega arith) in
          let z : length (w ++ (b ∷ [])) ≡ suc (length w) = omega arith in (
            ap (λ (x : List ℕ). set x at b) (e ∙ (s.0 ∙ ap (λ (x : List ℕ). w ++ x) (drop-cons o₀ (length w) 0 l)))
                ∙ (set_at w (get_or o₀ (length w) 0) (drop (suc (length w)) o₀) b at (sym i)
                ∙ (sym (append_snoc w b (drop (suc (length w)) o₀)) ∙ (ap (λ (m : ℕ). (w ++ (b ∷ [])) ++ drop m o₀) (sym z) ∙ sym a.0))),
            omega (arith, a.1),
          )

  -- there is no room
  pub put-over : (b : ℕ) → length o ≤ at → Put (b ∷ []) o at o at
  put-over b h =
      record {
        buffer = λ w o₀ e f. (over w o₀ e f).0;
        end = λ w o₀ e f. (over w o₀ e f).1;
        same = refl;
      }
    where
      over : (w o₀ : List ℕ) → o ≡ shown w o₀ → at ≡ reach w o₀ → (o ≡ shown (w ++ (b ∷ [])) o₀) × (at ≡ reach (w ++ (b ∷ [])) o₀)
      over w o₀ e f =
          let n : length o ≡ length o₀ = ap length e ∙ shown-length w o₀ in
          let t = length-take (length o₀) w in
          let l : length o₀ ≤ length w = omega arith in
          let k = length-append w (b ∷ []) in
          let c : take (length o₀) (w ++ (b ∷ [])) ≡ take (length o₀) w = take-append-le (length o₀) w (b ∷ []) l in
          let d : drop (length (w ++ (b ∷ []))) o₀ ≡ drop (length w) o₀ = drop_of_length-le o₀ {i = length (w ++ (b ∷ []))} (omega arith) ∙ sym (drop_of_length-le o₀ {i = length w} l) in
          (e ∙ sym (ap (λ (x : List ℕ). x ++ drop (length (w ++ (b ∷ []))) o₀) c ∙ ap (λ (x : List ℕ). take (length o₀) w ++ x) d), f ∙ sym (ap length c))

pub ruleset one_byte = (put_one, put-over)

module _ {x y o o₁ o₂ : List ℕ} {at a b : ℕ} where
  -- one text, then another
  pub put_then : Put x o at o₁ a → Put y o₁ a o₂ b → Put (x ++ y) o at o₂ b
  put_then p q =
      record {
        buffer = λ w o₀ e f. rw (← append_assoc) (q.buffer (w ++ x) o₀ (p.buffer w o₀ e f) (p.end w o₀ e f));
        end = λ w o₀ e f. rw (← append_assoc) (q.end (w ++ x) o₀ (p.buffer w o₀ e f) (p.end w o₀ e f));
        same = q.same ∙ p.same;
      }

-- the same text, said another way
pub put_as : {x y o o₁ : List ℕ} {at a : ℕ} → Put x o at o₁ a → x ≡ y → Put y o at o₁ a
put_as {x} {y} {o} {o₁} {at} {a} p e = subst (λ (z : List ℕ). Put z o at o₁ a) e p

pub put-length : {x o o₁ : List ℕ} {at a : ℕ} → Put x o at o₁ a → length o₁ ≡ length o
put-length p = p.same

-- FROM THE START
pub put_whole : (text o o₁ : List ℕ) (r : ℕ) → Put text o 0 o₁ r → (o₁ ≡ shown text o) × (r ≡ reach text o)
put_whole text o o₁ r p = (p.buffer [] o first start, p.end [] o first start)
  where
    first : o ≡ shown [] o
    first = sym (ap (λ (l : List ℕ). l ++ o) (take-nil (length o)))

    start : 0 ≡ reach [] o
    start = sym (ap length (take-nil {A = ℕ} (length o)))

-- BYTE BY BYTE
module _ (s o o₁ o₂ : List ℕ) (at to to' i : ℕ) where
  pub bytes-more : i < length s → Put (take i s) o at o₁ to → Put (get_or s i 0 ∷ []) o₁ to o₂ to' → Put (take (i + 1) s) o at o₂ to'
  bytes-more h p q = put_as (put_then p q) (sym (take-suc s i 0 h) ∙ ap (λ (n : ℕ). take n s) (sym (add-one i)))

  pub bytes-all : length s ≤ i → Put (take i s) o at o₁ to → Put s o at o₁ to
  bytes-all h p = put_as p (take_all i s h)
