-- Splitting in words: at the first byte of a kind and nowhere else, lines joined again are the list, and each stands at its
-- place; one slash is dropped. Assumes nothing.
use Rattle.std.specs.Prelude.{ℕ, ◌+◌, ◌<◌, Bool, true, false, cond, ◌||◌, ◌≡◌, refl, List, [], ◌∷◌, ◌++◌, eqb, length, drop}
use Rattle.std.proofs.Common.{arith, sym, ap, ◌∙◌, append-nil, drop-drop, eq-eqb, ne_eqb, eqb-true}
use Rattle.std.proofs.lemmas.Bool.{eqb-false}
use Rattle.names.specs.Bytes.{slash, false_true}
use Rattle.names.specs.Path.{onto}
use Rattle.bundle.specs.Bundle.{Text}
use Rattle.bundle.specs.Form.{Every}
use Rattle.bundle.specs.Stand.{Stands, at-append}
use Rattle.remapping_lines.specs.Lines.{line_feed, has, before, behind, pieces, dropped, Line, placed, content, lines_of}
use Rattle.remapping_lines.specs.Splitting.{pieces-is, front-piece, one_piece}

-- t splits into l and r at a byte c, and there is none earlier
pub record Split (c : ℕ) (t l r : Text) : Type 0 where
  pub joins : t ≡ l ++ (c ∷ r)
  pub first : has c l ≡ false

-- where there is one the text splits so, in one way alone
pub split-there : (c : ℕ) (t : Text) → has c t ≡ true → Split c t (before c t) (behind c t)
unfolding has before behind
split-there c [] h = absurd (false_true h)
split-there c (b ∷ t) h = go (eqb b c) refl h (split-there c t)
  where
    go : (q : Bool) → eqb b c ≡ q → (q || has c t) ≡ true → (has c t ≡ true → Split c t (before c t) (behind c t)) → Split c (b ∷ t) (cond q [] (b ∷ before c t)) (cond q t (behind c t))
    go true e h f = record { joins = ap (λ (a : ℕ). a ∷ t) (eqb-true b c e); first = refl }
    go false e h f = let s = f h in record { joins = ap (λ (l : Text). b ∷ l) s.joins; first = rw e s.first }

pub record SplitOnly (c : ℕ) (t l r : Text) : Type 0 where
  pub has_one : has c t ≡ true
  pub left : before c t ≡ l
  pub right : behind c t ≡ r

joined-only : (c : ℕ) (l r : Text) → has c l ≡ false → SplitOnly c (l ++ (c ∷ r)) l r
unfolding has before behind
joined-only c [] r h = record { has_one = rw (eq-eqb c c refl); left = rw (eq-eqb c c refl); right = rw (eq-eqb c c refl) }
joined-only c (b ∷ l) r h = go (eqb b c) refl h (joined-only c l r)
  where
    go : (q : Bool) → eqb b c ≡ q → (q || has c l) ≡ false → (has c l ≡ false → SplitOnly c (l ++ (c ∷ r)) l r) → SplitOnly c (b ∷ (l ++ (c ∷ r))) (b ∷ l) r
    go true e h f = absurd (false_true (sym h))
    go false e h f =
        let s = f h in
        record { has_one = rw e s.has_one; left = rw e (ap (λ (x : Text). b ∷ x) s.left); right = rw e s.right }

pub split-only : (c : ℕ) (t l r : Text) → Split c t l r → SplitOnly c t l r
split-only c t l r s = let o = joined-only c l r s.first in record { has_one = ap (has c) s.joins ∙ o.has_one; left = ap (before c) s.joins ∙ o.left; right = ap (behind c) s.joins ∙ o.right }

-- LINES: texts with the byte c between them
unfoldable pub glued : ℕ → List Text → Text
glued c [] = []
glued c (t ∷ []) = t
glued c (t ∷ (u ∷ ts)) = t ++ (c ∷ glued c (u ∷ ts))

abbrev pub Without : ℕ → Text → Type 0
Without c t = has c t ≡ false

-- the pieces have no c, and with it between them are the text
pub pieces-without : (c : ℕ) (t : Text) → Every (Without c) (pieces c t)
unfolding pieces Every has onto
pieces-without c [] = (refl, tt)
pieces-without c (b ∷ t) = go (eqb b c) refl (pieces-without c t)
  where
    go : (q : Bool) → eqb b c ≡ q → Every (Without c) (pieces c t) → Every (Without c) (cond q ([] ∷ pieces c t) (onto b (pieces c t)))
    go true e h = (refl, h)
    go false e h = let k = rw (pieces-is c t) at h in rw (pieces-is c t) (rw e k.0, k.1)

pub pieces-glued : (c : ℕ) (t : Text) → glued c (pieces c t) ≡ t
unfolding pieces glued onto
pieces-glued c [] = refl
pieces-glued c (b ∷ t) = go (eqb b c) refl (pieces-glued c t)
  where
    more : (x : Text) (ts : List Text) → glued c ((b ∷ x) ∷ ts) ≡ b ∷ glued c (x ∷ ts)
    more x [] = refl
    more x (u ∷ ts) = refl

    go : (q : Bool) → eqb b c ≡ q → glued c (pieces c t) ≡ t → glued c (cond q ([] ∷ pieces c t) (onto b (pieces c t))) ≡ b ∷ t
    go true e h =
        let k : glued c (before c t ∷ cond (has c t) (pieces c (behind c t)) []) ≡ t = rw (pieces-is c t) at h in
        rw (pieces-is c t, k) (ap (λ (a : ℕ). a ∷ t) (sym (eqb-true b c e)))
    go false e h =
        let k : glued c (before c t ∷ cond (has c t) (pieces c (behind c t)) []) ≡ t = rw (pieces-is c t) at h in
        rw (pieces-is c t) (more (before c t) (cond (has c t) (pieces c (behind c t)) []) ∙ ap (λ (x : Text). b ∷ x) k)

-- there are no other such pieces
pub pieces-only : (c : ℕ) (t : Text) (ts : List Text) → Every (Without c) (t ∷ ts) → pieces c (glued c (t ∷ ts)) ≡ t ∷ ts
unfolding glued Every
pieces-only c t [] h = one_piece c t h.0
pieces-only c t (u ∷ ts) h = front-piece c t (glued c (u ∷ ts)) h.0 ∙ ap (λ (l : List Text). t ∷ l) (pieces-only c u ts h.1)

-- EACH LINE stands in the list at its place, has a byte and no line feed
pub record LineOf (s : Text) (l : Line) : Type 0 where
  pub stands : Stands s l.place l.text (l.place + length l.text)
  pub some : 0 < length l.text
  pub one_line : has line_feed l.text ≡ false

line-stands : (s : Text) (p : ℕ) (t r : Text) → drop p s ≡ t ++ r → Stands s p t (p + length t)
line-stands s p t r e = e ∙ ap (λ (l : Text). t ++ l) (sym (at-append s p t r e))

nonzero : (n : ℕ) → eqb n 0 ≡ false → 0 < n
nonzero n h = let f = eqb-false n 0 h in omega arith

placed_stand : (s : Text) (p : ℕ) (ts : List Text) → drop p s ≡ glued line_feed ts → Every (Without line_feed) ts → Every (LineOf s) (content (placed p ts))
unfolding content placed Every glued
placed_stand s p [] e h = tt
placed_stand s p (t ∷ []) e h = go (eqb (length t) 0) refl
  where
    go : (q : Bool) → eqb (length t) 0 ≡ q → Every (LineOf s) (cond q [] (record { place = p; text = t } ∷ []))
    go true k = tt
    go false k = (record { stands = line-stands s p t [] (e ∙ sym (append-nil t)); some = nonzero (length t) k; one_line = h.0 }, tt)
placed_stand s p (t ∷ (u ∷ ts)) e h =
    let a : drop (p + length t) s ≡ line_feed ∷ glued line_feed (u ∷ ts) = at-append s p t (line_feed ∷ glued line_feed (u ∷ ts)) e in
    let b : drop (p + length t + 1) s ≡ glued line_feed (u ∷ ts) = sym (drop-drop 1 (p + length t) s) ∙ ap (drop 1) a in
    go (eqb (length t) 0) refl (placed_stand s (p + length t + 1) (u ∷ ts) b h.1)
  where
    go : (q : Bool) → eqb (length t) 0 ≡ q → Every (LineOf s) (content (placed (p + length t + 1) (u ∷ ts)))
        → Every (LineOf s) (cond q (content (placed (p + length t + 1) (u ∷ ts))) (record { place = p; text = t } ∷ content (placed (p + length t + 1) (u ∷ ts))))
    go true k r = r
    go false k r = (record { stands = line-stands s p t (line_feed ∷ glued line_feed (u ∷ ts)) e; some = nonzero (length t) k; one_line = h.0 }, r)

pub lines_stand : (s : Text) → Every (LineOf s) (lines_of s)
lines_stand s = placed_stand s 0 (pieces line_feed s) (sym (pieces-glued line_feed s)) (pieces-without line_feed s)

-- ONE SLASH is dropped, and nothing else
pub slash-dropped : (t : Text) → dropped (t ++ (slash ∷ [])) ≡ t
unfolding dropped
slash-dropped [] = refl
slash-dropped (b ∷ []) = refl
slash-dropped (b ∷ (d ∷ t)) = ap (λ (l : Text). b ∷ l) (slash-dropped (d ∷ t))

pub others-kept : (t : Text) (b : ℕ) → (b ≡ slash → ⊥) → dropped (t ++ (b ∷ [])) ≡ t ++ (b ∷ [])
unfolding dropped
others-kept [] b f = rw (ne_eqb b slash f)
others-kept (a ∷ []) b f = ap (λ (l : Text). a ∷ l) (others-kept [] b f)
others-kept (a ∷ (d ∷ t)) b f = ap (λ (l : Text). a ∷ l) (others-kept (d ∷ t) b f)
