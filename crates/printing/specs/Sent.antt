-- What is sent of the buffer that tell wrote: as many of its first bytes as tell answers. Assumes nothing.
use Rattle.std.specs.Prelude.{ℕ, ◌≤◌, ◌≡◌, List, ◌++◌, length, take, drop, replicate}
use Rattle.std.proofs.Common.{arith, ap, subst, ◌∙◌, length-append, length-take, length-drop, take_all}
use Rattle.std.proofs.lemmas.List.{length-replicate, take-append-le}
use Rattle.bundle.specs.Read.{Bytes, Reading, read}
use Rattle.text.specs.Words.{Text, lines}
use Rattle.text.specs.Writing.{shown-all}
use Rattle.printing.specs.Answers.{Shows}
use Rattle.printing.specs.Lines.{reading_lines, printed}
use Rattle.printing.specs.ReadTheorems.{read_enough}
use Rattle.printing.specs.LengthTheorems.{printed-fits}
use Rattle.printing.specs.Sizes.{text_size, read_size}

-- there are so many
pub told-counts : (ls : List (List Text)) (o o₁ : List ℕ) (r : ℕ) → Shows ls o o₁ r → (r ≤ length o₁) × (r ≡ length (take r o₁))
told-counts ls o o₁ r x =
    let e = ap length x.0 in
    let a = length-append (take (length o) (lines ls)) (drop (length (lines ls)) o) in
    let b = length-take (length o) (lines ls) in
    let d = length-drop (length (lines ls)) o in
    let f = x.1 in
    let l : r ≤ length o₁ = omega arith in
    (l, omega (arith, length-take r o₁))

-- WHERE THE BUFFER HAS ROOM FOR IT, what is sent is all that is printed of the bytes, and nothing else
pub sent_whole : (s o o₁ : List ℕ) (r : ℕ) → length (printed s) ≤ length o → Shows (reading_lines (read s)) o o₁ r → take r o₁ ≡ printed s
unfolding printed
sent_whole s o o₁ r room x =
    let w = lines (reading_lines (read s)) in
    let a = shown-all w o room in
    let e : o₁ ≡ w ++ drop (length w) o = x.0 ∙ a.0 in
    let n : r ≡ length w = x.1 ∙ a.1 in
    ap (take r) e ∙ (take-append-le r w (drop (length w) o) (omega arith) ∙ take_all r w (omega arith))

-- the same of a buffer of that length
sent_of-size : (s : List ℕ) → Bytes s → (o o₁ : List ℕ) (r : ℕ) → length o ≡ text_size → Shows (reading_lines (read (take read_size s))) o o₁ r → take r o₁ ≡ printed s
sent_of-size s B o o₁ r l x =
    sent_whole s o o₁ r
    (omega (arith, printed-fits s B))
    (subst (λ (z : Reading). Shows (reading_lines z) o o₁ r) (read_enough s B read_size (omega arith)) x)

-- THE PROGRAM: of a file of whatever bytes it reads the first read_size, and its buffer has text_size. What it sends is all that
-- is printed of the file
pub program_sends : (s : List ℕ) → Bytes s → (o₁ : List ℕ) (r : ℕ) → Shows (reading_lines (read (take read_size s))) (replicate text_size 0) o₁ r → take r o₁ ≡ printed s
program_sends s B o₁ r x = sent_of-size s B (replicate text_size 0) o₁ r (length-replicate {A = ℕ} text_size 0) x
