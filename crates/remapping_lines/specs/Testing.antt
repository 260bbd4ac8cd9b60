-- The first pass over a list: lines are tested and counted. Assumes nothing.
use Rattle.std.specs.Prelude.{ℕ, suc, ◌+◌, ◌≤◌, ◌<◌, Bool, ◌≡◌, List, [], ◌∷◌, ◌++◌, ltb}
use native.Mathlib.Omega.{arith}
use Rattle.std.proofs.Math.Bool.{true, false}
use Rattle.std.proofs.Math.Path.{refl, ap}
use Rattle.std.proofs.Common.{◌∙◌}
use Rattle.std.proofs.Math.Dec.{leb}
use Rattle.std.proofs.Math.ListN.{length, length-append}
use borrow.Author.Tests.{ltb-true, leb-true}
use Rattle.names.specs.Path.{is_path}
use Rattle.names.specs.PathTheorems.{form as path-form}
use Rattle.bundle.specs.Bundle.{Text, Remapping}
use Rattle.bundle.specs.Limits.{capacity, remapping_limit, remapping_size}
use Rattle.bundle.specs.Encode.{string, joined, remapping}
use Rattle.bundle.specs.declared.Width.TheVariants.{Byte}
use Rattle.bundle.specs.Results.{Checked}
use Rattle.bundle.specs.Results.{Ok}
use Rattle.bundle.specs.Results.{Refused as Fault}
use Rattle.bundle.specs.Conflicts.{or_else}
use Rattle.bundle.specs.Answers.{refused-ok, both_ok}
use Rattle.bundle.specs.Form.{Every, FormedRemapping}
use Rattle.encoder.specs.Strings.{string-length}
use Rattle.remapping_lines.specs.Lines.{equals, name_size, has, Line, left, right, context_in, name_in, target_in, remapping_of, unless, line_verdict, lines_verdict, remappings_of, placed, content}
use Rattle.remapping_lines.specs.Splitting.{piece, piece-none, piece-one, pieces_step}

-- ANSWERS of the test: how many lines have content and how many bytes their section takes; or a number and a place
pub data Tested : Type 0 where
  Counted : ℕ → ℕ → Tested
  Bad : ℕ → ℕ → Tested

pub counted-count : {n z m y : ℕ} → Counted n z ≡ Counted m y → n ≡ m
counted-count e = cc

pub counted-size : {n z m y : ℕ} → Counted n z ≡ Counted m y → z ≡ y
counted-size e = cc

pub bad-number : {n z m y : ℕ} → Bad n z ≡ Bad m y → n ≡ m
bad-number e = cc

pub bad-place : {n z m y : ℕ} → Bad n z ≡ Bad m y → z ≡ y
bad-place e = cc

pub bad-counted : {n z m y : ℕ} → Bad n z ≡ Counted m y → ⊥
bad-counted e = let z : ◌≡◌ {A = ℕ} 0 1 = cc in omega arith

-- THE TEST: n lines with content so far, whose section takes `size` bytes
abbrev pub and_tally : Tested → (ℕ → ℕ → Tested) → Tested
and_tally (Counted n size) f = f n size
and_tally (Bad w p) f = Bad w p

abbrev pub passed : Checked → Tested → Tested
passed Ok r = r
passed (Fault n p) r = Bad n p

abbrev pub remapping_bytes : Text → List ℕ
remapping_bytes t = remapping (remapping_of t)

abbrev pub tally_line : ℕ → ℕ → Line → Tested
tally_line n size l = passed (line_verdict n l) (Counted (n + 1) (size + length (remapping_bytes l.text)))

unfoldable pub tally : ℕ → ℕ → List Line → Tested
tally n size [] = Counted n size
tally n size (l ∷ ls) = and_tally (tally_line n size l) (λ m z. tally m z ls)

-- how long they are: three length bytes, and what they count
pub remapping_length : (r : Remapping) → length (remapping r) ≡ 3 + length r.context + length r.name + length r.target
unfolding remapping
remapping_length r = omega (arith, length-append (string r.context) (string r.name ++ string r.target), length-append (string r.name) (string r.target), string-length r.context, string-length r.name, string-length r.target)

-- a path is short
pub path_short : (t : Text) → is_path t ≡ true → length t < capacity Byte
path_short t h = let s = (path-form t h).short in omega arith

-- of what stands between two line feeds, at a place
unfoldable pub tally_piece : ℕ → ℕ → ℕ → Text → Tested
tally_piece at n size t = tally n size (piece at t)

tally-append : (n size : ℕ) (xs ys : List Line) → tally n size (xs ++ ys) ≡ and_tally (tally n size xs) (λ m z. tally m z ys)
unfolding tally
tally-append n size [] ys = refl
tally-append n size (l ∷ xs) ys = go (tally_line n size l) (λ m z. tally-append m z xs ys)
  where
    go : (r : Tested) → ((m z : ℕ) → tally m z (xs ++ ys) ≡ and_tally (tally m z xs) (λ m z. tally m z ys))
        → and_tally r (λ m z. tally m z (xs ++ ys)) ≡ and_tally (and_tally r (λ m z. tally m z xs)) (λ m z. tally m z ys)
    go (Counted m z) f = f m z
    go (Bad w p) f = refl

-- the first piece of what is left, then the others
pub tally-step : (n size at : ℕ) (t : Text) (ts : List Text) → tally n size (content (placed at (t ∷ ts))) ≡ and_tally (tally_piece at n size t) (λ m z. tally m z (content (placed (at + length t + 1) ts)))
unfolding tally_piece
tally-step n size at t ts = ap (tally n size) (pieces_step at t ts) ∙ tally-append n size (piece at t) (content (placed (at + length t + 1) ts))

pub tally_bad : (n size at : ℕ) (t : Text) (ts left : List Text) (w p : ℕ) → left ≡ t ∷ ts → Bad w p ≡ tally_piece at n size t → Bad w p ≡ tally n size (content (placed at left))
tally_bad n size at t ts left w p e h = rw (e, tally-step n size at t ts, ← h)

pub tally_counted : (n size at : ℕ) (t : Text) (ts left : List Text) (m z : ℕ) → left ≡ t ∷ ts → Counted m z ≡ tally_piece at n size t
    → tally n size (content (placed at left)) ≡ tally m z (content (placed (at + (length t + 1)) ts))
tally_counted n size at t ts left m z e h =
    let p : at + length t + 1 ≡ at + (length t + 1) = omega arith in
    rw (e, tally-step n size at t ts, ← h, p)

-- an empty piece, and one that is a line
pub tally_empty : (at n size : ℕ) (t : Text) → length t ≡ 0 → tally_piece at n size t ≡ Counted n size
unfolding tally_piece tally
tally_empty at n size t h = rw (piece-none at t h)

pub tally_some : (at n size : ℕ) (t : Text) → 0 < length t → tally_piece at n size t ≡ tally_line n size (record { place = at; text = t })
unfolding tally_piece tally
tally_some at n size t h = ap (tally n size) (piece-one at t h) ∙ go (tally_line n size (record { place = at; text = t }))
  where
    go : (r : Tested) → and_tally r (λ m z. Counted m z) ≡ r
    go (Counted m z) = refl
    go (Bad w p) = refl

pub ruleset tests = (tally_some, tally_empty, remapping_length, path_short)

-- WHAT A LINE THAT PASSES IS: split, and its remapping in form
pub record Passes (t : Text) : Type 0 where
  pub split : has equals t ≡ true
  pub formed : FormedRemapping (remapping_of t)

unless-then : (q : Bool) (n p : ℕ) (c : Checked) → or_else (unless q n p) c ≡ Ok → (q ≡ true) × (c ≡ Ok)
unless-then true n p c h = (refl, h)
unless-then false n p c h = absurd (refused-ok h)

unless-last : (q : Bool) (n p : ℕ) → unless q n p ≡ Ok → q ≡ true
unless-last true n p h = refl
unless-last false n p h = absurd (refused-ok h)

pub line-passes : (n : ℕ) (l : Line) → line_verdict n l ≡ Ok → (n < remapping_limit) × Passes l.text
unfolding line_verdict
line-passes n l h =
    let a = unless-then (ltb n remapping_limit) _ _ _ h in
    let b = unless-then (has equals l.text) _ _ _ a.1 in
    let c = unless-then (is_path (remapping_of l.text).context) _ _ _ b.1 in
    let d = unless-then (is_path (remapping_of l.text).target) _ _ _ c.1 in
    let e : length (remapping_of l.text).name ≤ name_size = leb-true _ _ (unless-last (leb (length (remapping_of l.text).name) name_size) _ _ d.1) in
    (ltb-true _ _ a.0, record { split = b.0; formed = (c.0, (omega arith, d.0)) })

-- in order, all of them
pub lines-pass : (n : ℕ) (ls : List Line) → n ≤ remapping_limit → lines_verdict n ls ≡ Ok → (n + length ls ≤ remapping_limit) × Every (λ l. Passes l.text) ls
unfolding lines_verdict Every
lines-pass n [] k h = (omega arith, tt)
lines-pass n (l ∷ ls) k h =
    let a = both_ok (line_verdict n l) (lines_verdict (n + 1) ls) h in
    let b = line-passes n l a.0 in
    let few = b.0 in
    let c = lines-pass (n + 1) ls (omega arith) a.1 in
    (let d = c.0 in omega arith, (b.1, c.1))

-- BYTES of lines
abbrev pub line_bytes : List Line → List ℕ
line_bytes ls = joined remapping (remappings_of ls)

pub remapping-few : (t : Text) → FormedRemapping (remapping_of t) → length (remapping_bytes t) ≤ remapping_size
remapping-few t f =
    let c = path_short (remapping_of t).context f.0 in
    let n = f.1.0 in
    let g = path_short (remapping_of t).target f.1.1 in
    omega (arith, remapping_length (remapping_of t))

-- and of its parts
pub record Lengths (t : Text) : Type 0 where
  pub context : length (context_in (left t)) < capacity Byte
  pub name : length (name_in (left t)) < capacity Byte
  pub target : length (target_in (right t)) < capacity Byte

pub part-lengths : (t : Text) → FormedRemapping (remapping_of t) → Lengths t
unfolding remapping_of
part-lengths t f = record { context = path_short (context_in (left t)) f.0; name = f.1.0; target = path_short (target_in (right t)) f.1.1 }

-- WHAT THE TEST COMES TO: the verdict, and of lines that pass their count and the length of their bytes
pub tally-is : (n size : ℕ) (ls : List Line) → tally n size ls ≡ passed (lines_verdict n ls) (Counted (n + length ls) (size + length (line_bytes ls)))
unfolding tally lines_verdict remappings_of joined
tally-is n size [] =
    let a : n ≡ n + 0 = omega arith in
    let b : size ≡ size + 0 = omega arith in
    rw (← a, ← b)
tally-is n size (l ∷ ls) = go (line_verdict n l) (tally-is (n + 1) (size + length (remapping_bytes l.text)) ls)
  where
    go : (v : Checked) → tally (n + 1) (size + length (remapping_bytes l.text)) ls ≡ passed (lines_verdict (n + 1) ls) (Counted (n + 1 + length ls) (size + length (remapping_bytes l.text) + length (line_bytes ls)))
        → and_tally (passed v (Counted (n + 1) (size + length (remapping_bytes l.text)))) (λ m z. tally m z ls)
        ≡ passed (or_else v (lines_verdict (n + 1) ls)) (Counted (n + suc (length ls)) (size + length (remapping_bytes l.text ++ line_bytes ls)))
    go Ok e =
        let a : n + 1 + length ls ≡ n + suc (length ls) = omega arith in
        let b : size + length (remapping_bytes l.text) + length (line_bytes ls) ≡ size + length (remapping_bytes l.text ++ line_bytes ls) = omega (arith, length-append (remapping_bytes l.text) (line_bytes ls)) in
        rw (← a, ← b) e
    go (Fault w p) e = refl
