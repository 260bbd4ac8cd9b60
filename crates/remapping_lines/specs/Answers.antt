-- What both passes come to: the answer and the buffer. Assumes nothing.
use Rattle.std.specs.Prelude.{ℕ, ◌+◌, ◌≤◌, ◌<◌, true, ◌≡◌, refl, List, [], ◌∷◌, ◌++◌, length, set}
use Rattle.std.proofs.Common.{arith, sym, ap, ◌∙◌}
use Rattle.std.proofs.Math.Bool.{false}
use Rattle.std.proofs.Math.Dec.{leb}
use Rattle.std.proofs.lemmas.List.{length-map}
use borrow.Author.Tests.{le-leb, lt-leb}
use Rattle.bundle.specs.Bundle.{Text}
use Rattle.bundle.specs.Limits.{remapping_limit}
use Rattle.bundle.specs.Encode.{counted}
use Rattle.bundle.specs.Results.{Checked}
use Rattle.bundle.specs.Results.{Ok}
use Rattle.bundle.specs.Results.{Refused as Fault}
use Rattle.encoder.specs.Started.{started}
use Rattle.encoder.specs.Parts.{Front, one_front}
use Rattle.remapping_lines.specs.Lines.{Line, lines_of, remapping_of, lines_verdict, verdict, remappings_of, section, lines_answer, lines_buffer}
use Rattle.remapping_lines.specs.Lines.{Section, Refused}
use Rattle.remapping_lines.specs.Testing.{Counted, Bad}
use Rattle.remapping_lines.specs.Testing.{bad-counted, bad-number, bad-place, counted-count, counted-size, line_bytes, lines-pass, passed, tally, tally-is}
use Rattle.remapping_lines.specs.Writing.{Accepted, AllPass, list_bytes}

-- THE ANSWER
pub meant-length : (ls : List Line) → length (remappings_of ls) ≡ length ls
unfolding remappings_of
meant-length ls = length-map ls (λ l. remapping_of l.text)

pub section-is : (s : Text) → section s ≡ length (lines_of s) ∷ list_bytes s
unfolding section list_bytes counted
section-is s = ap (λ (n : ℕ). n ∷ line_bytes (lines_of s)) (meant-length (lines_of s))

-- the list is refused
pub record Turned (s : Text) (w p : ℕ) : Type 0 where
  pub answers : (room : ℕ) → Refused w p ≡ lines_answer s room
  pub keeps : (out : List ℕ) → out ≡ lines_buffer s out

turned : (s : Text) (w p : ℕ) → verdict s ≡ Fault w p → Turned s w p
unfolding lines_answer lines_buffer
turned s w p h = record { answers = λ room. rw h; keeps = λ out. rw h }

pub tested-bad : (s : Text) (w p : ℕ) → Bad w p ≡ tally 0 1 (lines_of s) → Turned s w p
unfolding verdict
tested-bad s w p h = go (lines_verdict 0 (lines_of s)) refl (h ∙ tally-is 0 1 (lines_of s))
  where
    go : (v : Checked) → lines_verdict 0 (lines_of s) ≡ v → Bad w p ≡ passed v (Counted (0 + length (lines_of s)) (1 + length (line_bytes (lines_of s)))) → Turned s w p
    go Ok e k = absurd (bad-counted k)
    go (Fault n q) e k = turned s w p (e ∙ ap (λ (m : ℕ). Fault m q) (sym (bad-number k)) ∙ ap (λ (m : ℕ). Fault w m) (sym (bad-place k)))

-- the list is accepted: n lines, and a section of `size` bytes
pub record Ready (s : Text) (n size : ℕ) : Type 0 where
  pub accepted : Accepted s
  pub few : n ≤ remapping_limit
  pub bytes : section s ≡ n ∷ list_bytes s
  pub long : size ≡ length (section s)
  pub passing : AllPass (lines_of s)

pub tested-good : (s : Text) (n size : ℕ) → Counted n size ≡ tally 0 1 (lines_of s) → Ready s n size
unfolding verdict list_bytes
tested-good s n size h = go (lines_verdict 0 (lines_of s)) refl (h ∙ tally-is 0 1 (lines_of s))
  where
    go : (v : Checked) → lines_verdict 0 (lines_of s) ≡ v → Counted n size ≡ passed v (Counted (0 + length (lines_of s)) (1 + length (line_bytes (lines_of s)))) → Ready s n size
    go Ok e k =
        let c₀ = counted-count k in
        let c : n ≡ length (lines_of s) = omega arith in
        let z = counted-size k in
        let p = lines-pass 0 (lines_of s) (omega arith) e in
        let b : section s ≡ n ∷ line_bytes (lines_of s) = section-is s ∙ ap (λ (m : ℕ). m ∷ line_bytes (lines_of s)) (sym c) in
        record { accepted = e; few = let f = p.0 in omega arith; bytes = b; long = z ∙ sym (ap length b ∙ omega arith); passing = p.1 }
    go (Fault w p) e k = absurd (bad-counted (sym k))

pub section-some : (s : Text) (n size : ℕ) → Ready s n size → 0 < size
section-some s n size g = let l = g.long in let b = ap length g.bytes in omega arith

module _ (s : Text) (n size : ℕ) (g : Ready s n size) (out : List ℕ) where
  pub no_room : length out < size → (Refused 14 0 ≡ lines_answer s (length out)) × (out ≡ lines_buffer s out)
  unfolding lines_answer lines_buffer
  no_room h =
      let k : leb (length (section s)) (length out) ≡ false = let l = g.long in lt-leb (length (section s)) (length out) (omega arith) in
      (rw (g.accepted, k), rw (g.accepted, k))

  module _ (room : size ≤ length out) where
    fits : leb (length (section s)) (length out) ≡ true
    fits = let l = g.long in le-leb (length (section s)) (length out) (omega arith)

    pub section-told : Section size ≡ lines_answer s (length out)
    unfolding lines_answer
    section-told = rw (g.accepted, fits) (ap Section g.long)

    pub section-held : started (section s) out ≡ lines_buffer s out
    unfolding lines_answer lines_buffer
    section-held = rw (g.accepted, fits)

    -- the count stands, and the remappings go behind it
    pub section-front : Front (n ∷ []) (list_bytes s) out (set out 0 n) 1
    section-front = let l = g.long in one_front out (list_bytes s) (section s) n g.bytes (omega arith)

    pub section-whole : (final : List ℕ) → final ≡ started ((n ∷ []) ++ list_bytes s) out → final ≡ lines_buffer s out
    section-whole final e = e ∙ (ap (λ (l : List ℕ). started l out) (sym g.bytes) ∙ section-held)
