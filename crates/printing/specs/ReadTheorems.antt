-- How much of a file has to be read: the first 65,539 bytes decide. Assumes nothing.
use Rattle.std.specs.Prelude.{ℕ, ◌+◌, ◌-◌, ◌≤◌, ◌<◌, Bool, true, false, cond, ◌≡◌, refl}
use Rattle.std.proofs.Common.{arith, sym, ◌∙◌, take_all, get_or-take, length-take-le, lt-ltb, le-ltb}
use Rattle.std.proofs.Math.Decide.{dec_lt}
use Rattle.std.proofs.Math.Path.{ap}
use mathlib.Core.List.{List}
use lib.ListN.{length, take, get_or-eq_default}
use Rattle.bundle.specs.Limits.{defined, header}
use Rattle.bundle.specs.Scan.{byte, word, version_of, scan_header, scan_path}
use Rattle.bundle.specs.Stand.{Bytes}
use Rattle.bundle.specs.Bundle.{Bundle}
use Rattle.bundle.specs.Conflicts.{or_else, conflicts}
use Rattle.bundle.specs.Decode.{decode}
use Rattle.bundle.specs.Read.{Reading, form, lists, verdict, after, reading, read}
use Rattle.bundle.specs.Results.{Bad}
use Rattle.bundle.specs.Results.{Checked}
use Rattle.bundle.specs.Results.{Refused}
use Rattle.text.specs.Words.{lines}
use Rattle.printing.specs.Lines.{reading_lines, printed}

-- what is told of bytes that go on past the longest length: the version, or the first byte past what is declared
abbrev past_length : Bool → ℕ → Checked
past_length b w = cond b (Refused 1 (header + w)) (Refused 2 0)

header-long : (s : List ℕ) → Bytes s → 65538 < length s → scan_header s ≡ cond (defined (version_of s)) (Bad 1 (header + word s 1)) (Bad 2 0)
unfolding scan_header
header-long s B h =
    let a = B 1 in
    let b = B 2 in
    let l : header ≤ length s = omega arith in
    let w : word s 1 < length s - header = omega arith in
    let v : word s 1 ≤ length s - header = omega arith in
    rw (le-ltb (length s) header l, le-ltb (length s - header) (word s 1) v, lt-ltb (word s 1) (length s - header) w)

verdict-long : (s : List ℕ) → Bytes s → 65538 < length s → verdict s ≡ past_length (defined (version_of s)) (word s 1)
unfolding verdict form
verdict-long s B h = rw (header-long s B h) (go (defined (version_of s)) (conflicts s) (λ root. after (scan_path s (length s) root) (lists s)))
  where
    go : (b : Bool) (c : Checked) (f : ℕ → Checked) → or_else (after (cond b (Bad 1 (header + word s 1)) (Bad 2 0)) f) c ≡ past_length b (word s 1)
    go true c f = refl
    go false c f = refl

reading-long : (b : Bool) (w : ℕ) (x y : Bundle) → reading (past_length b w) x ≡ reading (past_length b w) y
reading-long true w x y = refl
reading-long false w x y = refl

module _ (s : List ℕ) (B : Bytes s) (n : ℕ) (enough : 65539 ≤ n) where
  taken : Bytes (take n s)
  taken i = go (dec_lt i n)
    where
      go : Dec (i < n) → byte (take n s) i < 256
      go (yes h) = omega (arith, get_or-take n s i 0 h, B i)
      go (no h) = go' (dec_lt i (length (take n s)))
        where
          go' : Dec (i < length (take n s)) → byte (take n s) i < 256
          go' (yes l) = absurd (omega (arith, lib.ListN.length-take n s))
          go' (no l) = omega (arith, get_or-eq_default (take n s) 0 {n = i} (omega arith))

  both_told : n < length s → (verdict (take n s) ≡ past_length (defined (version_of s)) (word s 1)) × (verdict s ≡ past_length (defined (version_of s)) (word s 1))
  both_told l =
      let z = length-take-le n s (omega arith) in
      let e0 = get_or-take n s 0 0 (omega arith) in
      let e1 = get_or-take n s 1 0 (omega arith) in
      let e2 = get_or-take n s 2 0 (omega arith) in
      (rw (e0, e1, e2) at (verdict-long (take n s) taken (omega arith)), verdict-long s B (omega arith))

  -- THE FIRST 65,539 BYTES DECIDE what is told of any bytes
  pub verdict_enough : verdict (take n s) ≡ verdict s
  verdict_enough = go (dec_lt n (length s))
    where
      go : Dec (n < length s) → verdict (take n s) ≡ verdict s
      go (yes l) = let b = both_told l in b.0 ∙ sym b.1
      go (no l) = ap verdict (take_all n s (omega arith))

  -- and what they are read as
  pub read_enough : read (take n s) ≡ read s
  unfolding read
  read_enough = go (dec_lt n (length s))
    where
      go : Dec (n < length s) → reading (verdict (take n s)) (decode (take n s)) ≡ reading (verdict s) (decode s)
      go (yes l) = let b = both_told l in rw (b.0, b.1) (reading-long (defined (version_of s)) (word s 1) (decode (take n s)) (decode s))
      go (no l) = ap (λ (x : List ℕ). reading (verdict x) (decode x)) (take_all n s (omega arith))

  -- so the same is printed of them
  pub printed_enough : printed (take n s) ≡ printed s
  unfolding printed
  printed_enough = ap (λ (r : Reading). lines (reading_lines r)) read_enough
