-- The report: its records as bytes, its length, and what a lent buffer holds afterwards. Assumes nothing.
use Rattle.std.specs.Prelude.{ℕ, ◌+◌, ◌/◌, ◌%◌, ◌<◌, ◌≤◌, Bool, not, List, [], ◌∷◌, ◌++◌, map, eqb, take}
use Rattle.std.proofs.Common.{mod-eq_of_lt, div-lt_iff_lt-mul, arith, true≢false, sym, take_at, drop_at}
use Rattle.std.proofs.Math.Bool.{true, false, cond}
use Rattle.std.proofs.Math.Path.{◌≡◌, refl}
use Rattle.std.proofs.Math.Dec.{leb}
use Rattle.std.proofs.Math.ListN.{length, drop, length-append, length-drop}
use Rattle.std.proofs.lemmas.List.{length-map}
use borrow.Author.Tests.{leb-true, leb-false, le-leb, lt-leb, ne_eqb}
use Rattle.bundle.specs.Limits.{capacity}
use Rattle.bundle.specs.declared.Width.TheVariants.{Word}
use Rattle.bundle.specs.Encode.{two, joined}
use Rattle.discovery.specs.Discovery.{Fault}
use Rattle.order.specs.Outcome.{Outcome, faulty, closed, ended, result}
use Rattle.order.specs.Results.{Reported}
use Rattle.order.specs.Results as reported

-- the specification's numbers
abbrev pub small_buffer : ℕ
small_buffer = 14

abbrev pub ring_met : ℕ
ring_met = 26

-- RECORDS
pub data Record : Type 0 where
  -- a number and a place
  fault : Fault → Record
  -- 26 at place 0, with the ids of the ring
  ring : List ℕ → Record

-- the report of an outcome: one record per fault, or one for the ring alone; otherwise there is none
abbrev pub records_of : {A : Type 0} → Outcome A → List Record
records_of (faulty l) = map fault l
records_of (closed r) = ring r ∷ []
records_of (ended n p) = []
records_of (result x) = []

-- BYTES
-- a number's last byte
abbrev pub low : ℕ → ℕ
low n = n % 256

-- a place, big-endian in two bytes; no place in a bundle is longer (`place-bytes`)
abbrev pub place_bytes : ℕ → List ℕ
place_bytes p = low (p / 256) ∷ low p ∷ []

-- number (1 byte), place (2 bytes); after a 26 also the count of ids and the ids, 1 byte each
unfoldable pub record_bytes : Record → List ℕ
record_bytes (fault f) = f.number ∷ place_bytes f.place
record_bytes (ring ids) = ring_met ∷ (place_bytes 0 ++ (length ids ∷ map low ids))

unfoldable pub report_bytes : List Record → List ℕ
report_bytes rs = joined record_bytes rs

-- how many bytes that is
unfoldable pub record_length : Record → ℕ
record_length (fault f) = 3
record_length (ring ids) = 4 + length ids

unfoldable pub report_length : List Record → ℕ
report_length [] = 0
report_length (r ∷ rs) = record_length r + report_length rs

-- THE LENT BUFFER
-- what it holds afterwards: the report at its start and the rest as it was where all of it fits, and otherwise what it held
unfoldable pub lent_report : List Record → List ℕ → List ℕ
lent_report rs out = cond (leb (report_length rs) (length out)) (report_bytes rs ++ drop (report_length rs) out) out

-- the answer for a buffer of n bytes
unfoldable pub reporting : List Record → ℕ → Reported
reporting rs n = cond (leb (report_length rs) n) (reported.Report (report_length rs)) (reported.Refused small_buffer 0)

-- whether something is told: a report of some bytes, or 14
abbrev pub tells : Reported → Bool
tells (reported.Report n) = not (eqb n 0)
tells (reported.Refused n p) = true

-- LAWS
record_length_lem : (r : Record) → length (record_bytes r) ≡ record_length r
unfolding record_bytes record_length
record_length_lem (fault f) = refl
record_length_lem (ring ids) = omega (arith, length-map ids low)

pub report-length : (rs : List Record) → length (report_bytes rs) ≡ report_length rs
unfolding report_bytes report_length joined
report-length [] = refl
report-length (r ∷ rs) =
    let a = record_length_lem r in
    let c = report-length rs in
    omega (arith, length-append (record_bytes r) (joined record_bytes rs))

-- where it fits: the report's bytes, then the bytes that were there; the answer is the length
pub record Fits (rs : List Record) (out : List ℕ) : Type 0 where
  pub answered : reporting rs (length out) ≡ reported.Report (report_length rs)
  pub written : take (report_length rs) (lent_report rs out) ≡ report_bytes rs
  pub rest : drop (report_length rs) (lent_report rs out) ≡ drop (report_length rs) out

-- where it doesn't: 14 at place 0, and not a byte is changed
pub record Exceeds (rs : List Record) (out : List ℕ) : Type 0 where
  pub answered : reporting rs (length out) ≡ reported.Refused small_buffer 0
  pub untouched : lent_report rs out ≡ out

module _ (rs : List Record) (out : List ℕ) where
  pub fits : report_length rs ≤ length out → Fits rs out
  unfolding reporting lent_report
  fits h = record {
    answered = rw (le-leb (report_length rs) (length out) h);
    written = rw (le-leb (report_length rs) (length out) h) (take_at (report_bytes rs) (drop (report_length rs) out) (report_length rs) (report-length rs));
    rest = rw (le-leb (report_length rs) (length out) h) (drop_at (report_bytes rs) (drop (report_length rs) out) (report_length rs) (report-length rs));
  }

  pub exceeds : length out < report_length rs → Exceeds rs out
  unfolding reporting lent_report
  exceeds h = record {
    answered = rw (lt-leb (report_length rs) (length out) h);
    untouched = rw (lt-leb (report_length rs) (length out) h);
  }

  -- 14 is answered only where there is too little space
  pub small-only : reporting rs (length out) ≡ reported.Refused small_buffer 0 → length out < report_length rs
  unfolding reporting
  small-only e = go (leb (report_length rs) (length out)) refl e
    where
      go : (t : Bool) → leb (report_length rs) (length out) ≡ t → cond t (reported.Report (report_length rs)) (reported.Refused small_buffer 0) ≡ reported.Refused small_buffer 0 → length out < report_length rs
      go true h k = let z : ◌≡◌ {A = ℕ} 0 1 = cc in absurd (omega arith)
      go false h k = leb-false (report_length rs) (length out) h

  -- the buffer keeps its length
  pub same_length : length (lent_report rs out) ≡ length out
  unfolding lent_report
  same_length = go (leb (report_length rs) (length out)) refl
    where
      go : (t : Bool) → leb (report_length rs) (length out) ≡ t → length (cond t (report_bytes rs ++ drop (report_length rs) out) out) ≡ length out
      go true h =
          let l = leb-true (report_length rs) (length out) h in
          omega (arith, length-append (report_bytes rs) (drop (report_length rs) out), report-length rs, length-drop (report_length rs) out)
      go false h = refl

-- nothing to tell, nothing is written
pub nothing_lent : (out : List ℕ) → lent_report [] out ≡ out
unfolding report_length
nothing_lent out = let f = fits [] out (omega arith) in f.rest

-- a place of a bundle is the two bytes of the bundle's own numbers, and an id of a unit is its byte
pub place-bytes : (p : ℕ) → p < capacity Word → place_bytes p ≡ two p
unfolding two
place-bytes p h = let q : p / 256 < 256 = (div-lt_iff_lt-mul {k = 256} {x = p} {y = 256} (omega arith)).1 (omega arith) in rw (mod-eq_of_lt q)

pub id-byte : (u : ℕ) → u < 256 → low u ≡ u
id-byte u h = mod-eq_of_lt h

-- faults are told where there are some
pub tells-some : (fs : List Fault) (n : ℕ) → tells (reporting (map fault fs) n) ≡ true → 0 < length fs
unfolding reporting report_length
tells-some [] n e = absurd (true≢false (sym (rw (le-leb 0 n (omega arith)) at e)))
tells-some (f ∷ fs) n e = omega arith

pub tells_none : (fs : List Fault) (n : ℕ) → tells (reporting (map fault fs) n) ≡ false → fs ≡ []
unfolding reporting report_length record_length
tells_none [] n e = refl
tells_none (f ∷ fs) n e = go (leb (3 + report_length (map fault fs)) n) e
  where
    go : (t : Bool) → tells (cond t (reported.Report (3 + report_length (map fault fs))) (reported.Refused small_buffer 0)) ≡ false → (f ∷ fs) ≡ []
    go true k = absurd (true≢false (rw (ne_eqb (3 + report_length (map fault fs)) 0 (λ z. omega arith)) at k))
    go false k = absurd (true≢false k)
