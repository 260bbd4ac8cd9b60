-- Laws of splitting: the first byte of a kind in a text, the pieces between them, lines, one slash at the end. Assumes nothing.
use Prim.Native.Nat.{ℕ, zero, suc, ◌+◌, ◌-◌, ◌≤◌, ◌<◌, suc-le-suc}
use Rattle.std.proofs.Common.{not-suc-le-zero, le_of_suc-le-suc, append-nil, length-append, eq-eqb, ne_eqb, eqb-true}
use native.Mathlib.Omega.{arith}
use Rattle.std.specs.Prelude.{Bool, ◌||◌, ◌≡◌, eqb, get_or, Some}
use Rattle.std.specs.Bool.{MatchBool}
use Rattle.std.specs.Borrow.{Bor}
use Rattle.std.specs.Fn.{ComputesKey}
use Rattle.std.specs.Slice.Iter.{split_steps}
use Rattle.std.specs.declared.slice.Split.{Split}
use Rattle.std.specs.List.{AllWithin, HoldsAt, IsFirstMatchOrLen}
use denote.Param.Members.{Mut}
use Rattle.std.proofs.Math.Bool.{true, false, cond}
use Rattle.std.proofs.Math.Path.{refl, sym, ap}
use mathlib.Core.List.{List, [], ◌∷◌, ◌++◌}
use Rattle.std.proofs.Math.ListN.{length, take, drop}
use Rattle.names.specs.Bytes.{slash, same, different, false_true}
use Rattle.names.specs.Path.{onto, root}
use Rattle.bundle.specs.Bundle.{Text}
use Rattle.remapping_lines.specs.Lines.{has, before, behind, pieces, dropped, Line, placed, content, colon, prefix_in, name_place, target_in}

-- AT THE FIRST c: it stands at i, and before and behind it is what splitting gives
pub record FoundAt (c : ℕ) (t : Text) (i : ℕ) : Type 0 where
  pub there : has c t ≡ true
  pub front : take i t ≡ before c t
  pub back : drop (i + 1) t ≡ behind c t

module _ (c : ℕ) where
  pub found_at : (t : Text) (i : ℕ) → i < length t → ((k : ℕ) → k < i → get_or t k 0 ≡ c → ⊥) → get_or t i 0 ≡ c → FoundAt c t i
  unfolding has before behind
  found_at [] i h f e = absurd (not-suc-le-zero h)
  found_at (b ∷ t) zero h f e = record { there = rw (eq-eqb b c e); front = rw (eq-eqb b c e); back = rw (eq-eqb b c e) }
  found_at (b ∷ t) (suc i) h f e =
      let r = found_at t i (le_of_suc-le-suc h) (λ k l. f (suc k) (suc-le-suc l)) e in
      let n = ne_eqb b c (f 0 (omega arith)) in
      let p : suc i + 1 ≡ suc (i + 1) = omega arith in
      record { there = rw n r.there; front = rw n (ap (λ (l : Text). b ∷ l) r.front); back = rw (n, p) r.back }

  -- without one all of it stands before
  pub found_none : (t : Text) → ((k : ℕ) → k < length t → get_or t k 0 ≡ c → ⊥) → (has c t ≡ false) × (before c t ≡ t)
  unfolding has before
  found_none [] f = (refl, refl)
  found_none (b ∷ t) f =
      let r = found_none t (λ k l. f (suc k) (suc-le-suc l)) in
      let n = ne_eqb b c (f 0 (omega arith)) in
      (rw n r.0, rw n (ap (λ (l : Text). b ∷ l) r.1))

  -- THE PIECES: the first, and those of what follows
  pub pieces-is : (t : Text) → pieces c t ≡ before c t ∷ cond (has c t) (pieces c (behind c t)) []
  unfolding pieces has before behind onto
  pieces-is [] = refl
  pieces-is (b ∷ t) = go (eqb b c) (pieces-is t)
    where
      go : (q : Bool) → pieces c t ≡ before c t ∷ cond (has c t) (pieces c (behind c t)) []
          → cond q ([] ∷ pieces c t) (onto b (pieces c t)) ≡ cond q [] (b ∷ before c t) ∷ cond (q || has c t) (pieces c (cond q t (behind c t))) []
      go true h = refl
      go false h = rw h

  -- of a text with one, and of one without
  pub front-piece : (t r : Text) → has c t ≡ false → pieces c (t ++ (c ∷ r)) ≡ t ∷ pieces c r
  unfolding pieces has onto
  front-piece [] r h = rw (eq-eqb c c refl)
  front-piece (b ∷ t) r h = go (eqb b c) refl h (front-piece t r)
    where
      go : (q : Bool) → eqb b c ≡ q → (q || has c t) ≡ false → (has c t ≡ false → pieces c (t ++ (c ∷ r)) ≡ t ∷ pieces c r)
          → cond q ([] ∷ pieces c (t ++ (c ∷ r))) (onto b (pieces c (t ++ (c ∷ r)))) ≡ (b ∷ t) ∷ pieces c r
      go true e h f = absurd (false_true (sym h))
      go false e h f = rw (f h)

  pub one_piece : (t : Text) → has c t ≡ false → pieces c t ≡ t ∷ []
  unfolding pieces has onto
  one_piece [] h = refl
  one_piece (b ∷ t) h = go (eqb b c) h (one_piece t)
    where
      go : (q : Bool) → (q || has c t) ≡ false → (has c t ≡ false → pieces c t ≡ t ∷ []) → cond q ([] ∷ pieces c t) (onto b (pieces c t)) ≡ (b ∷ t) ∷ []
      go true h f = absurd (false_true (sym h))
      go false h f = rw (f h)

  -- AS `split` GIVES THEM: what is left after a call, and the piece that it gave
  abbrev pub left_pieces : Bool → Text → List Text
  left_pieces true rest = []
  left_pieces false rest = pieces c rest

  none_before : (x r : Text) → AllWithin (λ b. eqb b c ≡ false) (x ++ r) 0 (length x) → has c x ≡ false
  unfolding has
  none_before [] r f = refl
  none_before (b ∷ x) r f =
      let n = f 0 0 (omega arith) (omega arith) in
      rw n (none_before x r (λ k d l u. f (suc k) d (omega arith) (omega arith)))

  first_after : (x r : Text) (y : ℕ) → HoldsAt (λ b. eqb b c ≡ true) (x ++ (y ∷ r)) (length x) → y ≡ c
  first_after [] r y f = eqb-true y c (f 0)
  first_after (b ∷ x) r y f = first_after x r y (λ d. f d)

  pub given-piece : (s x r : Text) (done : Bool) → MatchBool done (s ≡ x) ((y : ℕ) × (s ≡ x ++ (y ∷ r))) → IsFirstMatchOrLen (λ b. eqb b c) s (length x)
      → pieces c s ≡ x ∷ left_pieces done r
  given-piece s x r true e f =
      let g : AllWithin (λ b. eqb b c ≡ false) x 0 (length x) = rw e at f.0 in
      rw e (one_piece x (none_before x [] (rw append-nil g)))
  given-piece s x r false e f =
      let y = first_after x r e.0 (rw e.1 at (f.1 (rw e.1 (omega (arith, length-append x (e.0 ∷ r)))))) in
      rw (e.1, y) (front-piece x r (none_before x (e.0 ∷ r) (rw e.1 at f.0)))

  -- by a closure that asks for c
  pub given_step : {F : Type 0} (g : Mut F (Bor ℕ × Unit {0}) Bool) (s t : Split ℕ F) (x : Bor Text) → split_steps g s (Some x) t → ComputesKey g (λ b. eqb b c) s.pred
      → left_pieces s.done s.rest.now ≡ x.now ∷ left_pieces t.done t.rest.now
  given_step g s t x h k = rw h.0 (given-piece s.rest.now x.now t.rest.now t.done h.1 (h.2 (λ b. eqb b c) k).1)

-- how far on the pieces that are left begin
abbrev pub Within : ℕ → ℕ → Bool → Text → Type 0
Within n at done rest = MatchBool done (at ≤ n + 1) (at + length rest ≤ n)

pub within_step : {F : Type 0} (g : Mut F (Bor ℕ × Unit {0}) Bool) (s t : Split ℕ F) (x : Bor Text) (n at : ℕ) → split_steps g s (Some x) t → Within n at s.done s.rest.now
    → Within n (at + (length x.now + 1)) t.done t.rest.now
within_step g s t x n at h w = go t.done h.1 (rw h.0 at w)
  where
    go : (done : Bool) → MatchBool done (s.rest.now ≡ x.now) ((y : ℕ) × (s.rest.now ≡ x.now ++ (y ∷ t.rest.now))) → at + length s.rest.now ≤ n → Within n (at + (length x.now + 1)) done t.rest.now
    go true e k = omega (arith, ap length e)
    go false e k = omega (arith, ap length e.1, length-append x.now (e.0 ∷ t.rest.now))

-- LINES: the first, and those of what follows
abbrev pub piece : ℕ → Text → List Line
piece at t = content (placed at (t ∷ []))

content-cons : (l : Line) (ls : List Line) → content (l ∷ ls) ≡ content (l ∷ []) ++ content ls
unfolding content
content-cons l ls = go (eqb (length l.text) 0)
  where
    go : (q : Bool) → cond q (content ls) (l ∷ content ls) ≡ cond q [] (l ∷ []) ++ content ls
    go true = refl
    go false = refl

pub pieces_step : (at : ℕ) (t : Text) (ts : List Text) → content (placed at (t ∷ ts)) ≡ piece at t ++ content (placed (at + length t + 1) ts)
unfolding placed
pieces_step at t ts = content-cons (record { place = at; text = t }) (placed (at + length t + 1) ts)

-- a piece is a line, or empty and skipped
pub piece-none : (at : ℕ) (t : Text) → length t ≡ 0 → piece at t ≡ []
unfolding content placed
piece-none at t h = rw (eq-eqb (length t) 0 h)

pub piece-one : (at : ℕ) (t : Text) → 0 < length t → piece at t ≡ record { place = at; text = t } ∷ []
unfolding content placed
piece-one at t h = rw (ne_eqb (length t) 0 (λ e. omega arith))

-- ONE SLASH AT THE END, by the last byte
by_last : (t : Text) (m : ℕ) → length t ≡ suc m → dropped t ≡ cond (eqb (get_or t m 0) slash) (take m t) t
unfolding dropped
by_last [] m h = absurd (omega arith)
by_last (b ∷ []) zero h = refl
by_last (b ∷ []) (suc m) h = absurd (omega arith)
by_last (b ∷ (d ∷ t)) zero h = absurd (omega arith)
by_last (b ∷ (d ∷ t)) (suc m) h = rw (by_last (d ∷ t) m (omega arith)) (go (eqb (get_or (d ∷ t) m 0) slash))
  where
    go : (q : Bool) → b ∷ cond q (take m (d ∷ t)) (d ∷ t) ≡ cond q (b ∷ take m (d ∷ t)) (b ∷ (d ∷ t))
    go true = refl
    go false = refl

pub dropped_some : (t : Text) → 0 < length t → dropped t ≡ cond (eqb (get_or t (length t - 1) 0) slash) (take (length t - 1) t) t
dropped_some t h = by_last t (length t - 1) (omega arith)

pub dropped_none : (t : Text) → length t < 1 → dropped t ≡ t
unfolding dropped
dropped_none [] h = refl
dropped_none (b ∷ t) h = absurd (omega arith)

-- THE HALVES
split-length : (c : ℕ) (t : Text) → has c t ≡ true → length t ≡ length (before c t) + 1 + length (behind c t)
unfolding has before behind
split-length c [] h = absurd (false_true h)
split-length c (b ∷ t) h = go (eqb b c) h (split-length c t)
  where
    go : (q : Bool) → (q || has c t) ≡ true → (has c t ≡ true → length t ≡ length (before c t) + 1 + length (behind c t))
        → suc (length t) ≡ length (cond q [] (b ∷ before c t)) + 1 + length (cond q t (behind c t))
    go true h f = omega arith
    go false h f = let e = f h in omega arith

-- the prefix is what the left half has from its place on
pub prefix_place : (l : Text) → name_place l + length (prefix_in l) ≡ length l
unfolding name_place prefix_in
prefix_place l = go (has colon l) refl
  where
    go : (q : Bool) → has colon l ≡ q → cond q (length (before colon l) + 1) 0 + length (cond q (behind colon l) l) ≡ length l
    go true h = sym (split-length colon l h)
    go false h = omega arith

pub before_few : (c : ℕ) (t : Text) → length (before c t) ≤ length t
unfolding before
before_few c [] = omega arith
before_few c (b ∷ t) = go (eqb b c) (before_few c t)
  where
    go : (q : Bool) → length (before c t) ≤ length t → length (cond q [] (b ∷ before c t)) ≤ suc (length t)
    go true h = omega arith
    go false h = omega arith

-- the right half is `/`, or drops its slash
pub target-root : (r : Text) → r ≡ root → r ≡ target_in r
unfolding target_in same
target-root r e = rw e

pub target-dropped : (r : Text) → (r ≡ root → ⊥) → dropped r ≡ target_in r
unfolding target_in
target-dropped r f = rw (different r root f)
