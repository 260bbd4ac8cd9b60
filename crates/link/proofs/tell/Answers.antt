-- What was read are the reader's first bytes, as many as there is room for; so all that is printed of its bytes is written.
use Rattle.std.proofs.Common.{arith, ◌≡◌, ◌≤◌, ◌<◌, ℕ, List, ◌++◌, Option, Some, None, IfSome, length, take, replicate, sym, ap, subst, ◌∙◌, take_at, take_all, [], append-nil}
use Rattle.std.proofs.Math.Decide.{dec_lt}
use Rattle.std.proofs.lemmas.List.{length-take-le}
use Rattle.std.proofs.lemmas.Result.{on_ok_weaker}
use Rattle.std.specs.Io.KnownBytes.{Appends, Consumes, IsAtEnd}
use Rattle.bundle.specs.Read.{Bytes, read}
use Rattle.printing.specs.Lines.{reading_lines, printed}
use Rattle.printing.specs.Answers.{Shows}
use Rattle.printing.specs.Sizes.{text_size, read_size}
use Rattle.printing.specs.Sent.{program_sends}
use Rattle.link.proofs.tell.Goals as goal

first_read : (s rest buffer : List ℕ) (n : ℕ) → length buffer ≡ read_size → n ≤ length buffer → s ≡ take n buffer ++ rest → (n < length buffer → rest ≡ []) → take n buffer ≡ take read_size s
first_read s rest buffer n size fits all end = go (dec_lt n (length buffer))
  where
    long : length (take n buffer) ≡ n
    long = length-take-le n buffer fits

    go : Dec (n < length buffer) → take n buffer ≡ take read_size s
    go (yes h) =
        let whole : s ≡ take n buffer = all ∙ ap (λ l. take n buffer ++ l) (end h) ∙ append-nil (take n buffer) in
        sym (take_all read_size s (omega (arith, long, ap length whole)) ∙ whole)
    go (no h) = sym (ap (take read_size) all ∙ take_at (take n buffer) rest read_size (omega (arith, long)))

all_told : (had left : Option (List ℕ)) (buffer : List ℕ) (n : ℕ) → length buffer ≡ read_size → n ≤ length buffer → Consumes had left (take n buffer) → (n < length buffer → IsAtEnd left)
    → (text : List ℕ) (r : ℕ) → Shows (reading_lines (read (take n buffer))) (replicate text_size 0) text r
    → (held holds : Option (List ℕ)) → Appends held holds (take r text) → IfSome had (λ s. Bytes s → Appends held holds (printed s))
all_told None left buffer n size fits took end text r shows held holds sent = tt
all_told (Some s) None buffer n size fits took end text r shows held holds sent = absurd took
all_told (Some s) (Some rest) buffer n size fits took end text r shows held holds sent = λ bytes.
    let whole = subst (λ l. Shows (reading_lines (read l)) (replicate text_size 0) text r) (first_read s rest buffer n size fits took end) shows in
    subst (Appends held holds) (program_sends s bytes text r whole) sent

pub returns : goal.returns
returns g c =
    on_ok_weaker c.write_all.result
    (λ sent. all_told _ _ c.fill.new.buffer c.in_ok-n.n c.fill.auto.buffer c.in_ok-n.ensures.within c.in_ok-n.ensures.bytes c.in_ok-n.ensures.end c.tell-r.new.out c.tell-r.result c.tell-r.ensures _ _ sent)
    c.write_all.ensures.bytes
