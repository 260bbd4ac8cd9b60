-- The second pass: the remappings of lines that passed, one after the other. Assumes nothing.
use Rattle.std.specs.Prelude.{ℕ, ◌+◌, ◌<◌, Bool, true, false, cond, ◌≡◌, refl, List, [], ◌∷◌, ◌++◌, eqb, length, Option, Some, MatchOption}
use Rattle.std.specs.Borrow.{Bor}
use Rattle.std.proofs.Common.{arith, sym, ap, ◌∙◌, append_assoc, append-nil, ne_eqb}
use Rattle.names.specs.Bytes.{false_true}
use Rattle.bundle.specs.Bundle.{Text}
use Rattle.bundle.specs.Limits.{capacity}
use Rattle.bundle.specs.Encode.{string, joined, remapping}
use Rattle.bundle.specs.declared.Width.TheVariants.{Byte}
use Rattle.bundle.specs.Results.{Ok}
use Rattle.bundle.specs.Form.{Every}
use Rattle.encoder.specs.Parts.{Filled, filled_none}
use Rattle.remapping_lines.specs.Lines.{has, line_feed, equals, pieces, Line, placed, content, lines_of, left, right, context_in, name_in, target_in, remapping_of, verdict, remappings_of}
use Rattle.remapping_lines.specs.Splitting.{piece, piece-one, pieces_step}
use Rattle.remapping_lines.specs.Testing.{Passes, part-lengths, line_bytes, lines-pass, remapping_bytes}

-- THE WRITING, line by line
abbrev pub Passable : Text → Type 0
Passable t = 0 < length t → Passes t

unfoldable pub piece_bytes : Text → List ℕ
piece_bytes t = cond (eqb (length t) 0) [] (remapping_bytes t)

unfoldable pub list_bytes : Text → List ℕ
list_bytes s = line_bytes (lines_of s)

abbrev pub Accepted : Text → Type 0
Accepted s = verdict s ≡ Ok

lines-append : (xs ys : List Line) → line_bytes (xs ++ ys) ≡ line_bytes xs ++ line_bytes ys
unfolding remappings_of joined
lines-append [] ys = refl
lines-append (l ∷ xs) ys = ap (λ (r : List ℕ). remapping_bytes l.text ++ r) (lines-append xs ys) ∙ sym (append_assoc (remapping_bytes l.text) (line_bytes xs) (line_bytes ys))

every_append : (P : Line → Type 0) (xs ys : List Line) → Every P (xs ++ ys) → Every P xs × Every P ys
unfolding Every
every_append P [] ys h = (tt, h)
every_append P (l ∷ xs) ys h = let r = every_append P xs ys h.1 in ((h.0, r.0), r.1)

-- a piece's bytes; what passes
piece_bytes_lem : (at : ℕ) (t : Text) → line_bytes (piece at t) ≡ piece_bytes t
unfolding content placed remappings_of joined piece_bytes
piece_bytes_lem at t = go (eqb (length t) 0)
  where
    go : (q : Bool) → line_bytes (cond q [] (record { place = at; text = t } ∷ [])) ≡ cond q [] (remapping_bytes t)
    go true = refl
    go false = append-nil (remapping_bytes t)

abbrev pub AllPass : List Line → Type 0
AllPass ls = Every (λ l. Passes l.text) ls

piece-passes : (at : ℕ) (t : Text) → AllPass (piece at t) → Passable t
unfolding Every
piece-passes at t h some = let g : AllPass (record { place = at; text = t } ∷ []) = rw (piece-one at t some) at h in g.0

-- piece by piece
pub pieces-bytes : (at : ℕ) (ts : List Text) → line_bytes (content (placed at ts)) ≡ joined piece_bytes ts
unfolding content placed remappings_of joined
pieces-bytes at [] = refl
pieces-bytes at (t ∷ ts) =
    ap line_bytes (pieces_step at t ts)
    ∙ (lines-append (piece at t) (content (placed (at + length t + 1) ts))
    ∙ (ap (λ (l : List ℕ). l ++ line_bytes (content (placed (at + length t + 1) ts))) (piece_bytes_lem at t) ∙ ap (λ (l : List ℕ). piece_bytes t ++ l) (pieces-bytes (at + length t + 1) ts)))

pieces-pass : (at : ℕ) (ts : List Text) → AllPass (content (placed at ts)) → Every Passable ts
unfolding Every
pieces-pass at [] h = tt
pieces-pass at (t ∷ ts) h =
    let r = every_append (λ l. Passes l.text) (piece at t) (content (placed (at + length t + 1) ts)) (rw (pieces_step at t ts) at h) in
    (piece-passes at t r.0, pieces-pass (at + length t + 1) ts r.1)

-- before the first, of what is left, and after the last
pub list_all : (s : Text) (out : List ℕ) → Filled (list_bytes s) (joined piece_bytes (pieces line_feed s)) out out 0
unfolding list_bytes
list_all s out = rw (pieces-bytes 0 (pieces line_feed s)) (filled_none (joined piece_bytes (pieces line_feed s)) out)

pub accepted-pass : (s : Text) → Accepted s → Every Passable (pieces line_feed s)
unfolding verdict
accepted-pass s h = pieces-pass 0 (pieces line_feed s) (lines-pass 0 (lines_of s) (omega arith) h).1

pub bytes-step : (t : Text) (ts left : List Text) → left ≡ t ∷ ts → joined piece_bytes left ≡ piece_bytes t ++ joined piece_bytes ts
unfolding joined
bytes-step t ts left e = rw e

pub pass_step : (t : Text) (ts left : List Text) → left ≡ t ∷ ts → Every Passable left → Passable t × Every Passable ts
unfolding Every
pass_step t ts left e h = rw e at h

pub no_bytes : (left : List Text) → left ≡ [] → joined piece_bytes left ≡ []
unfolding joined
no_bytes left e = rw e

-- A LINE'S BYTES by its parts, where there is an `=`; a line without one is empty
pub passed_none : (t : Text) → Passable t → has equals t ≡ false → piece_bytes t ≡ []
unfolding piece_bytes
passed_none [] p h = refl
passed_none (b ∷ t) p h = absurd (false_true (sym h ∙ (p (omega arith)).split))

has_some : (c : ℕ) (t : Text) → has c t ≡ true → 0 < length t
unfolding has
has_some c [] h = absurd (false_true h)
has_some c (b ∷ t) h = omega arith

pub record InParts (t x y z : Text) : Type 0 where
  pub bytes : piece_bytes t ≡ string x ++ (string y ++ string z)
  pub first : length x < capacity Byte
  pub second : length y < capacity Byte
  pub third : length z < capacity Byte

pub passed_some : (t x y : Text) (z : Bor Text) (target : Option (Bor Text)) → Passable t → x ≡ context_in (left t) → y ≡ name_in (left t)
    → MatchOption target (has equals t ≡ false) (λ r. (has equals t ≡ true) × (r.now ≡ target_in (right t))) → target ≡ Some z → InParts t x y z.now
unfolding piece_bytes remapping remapping_of
passed_some t x y z target p a b m e =
    let split = rw e at m in
    let some : 0 < length t = has_some equals t split.0 in
    let l = part-lengths t (p some).formed in
    record { bytes = rw (a, b, split.1, ne_eqb (length t) 0 (λ k. omega arith)) refl; first = rw a l.context; second = rw b l.name; third = rw split.1 l.target }
