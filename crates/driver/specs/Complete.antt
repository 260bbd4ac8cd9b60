-- THE TABLE IS COMPLETE: after discovery every use of every reached file has its entry, and the entry says what it resolves to. Assumes
-- nothing.
use Rattle.std.specs.Prelude.{ℕ, suc, ◌+◌, ◌≤◌, ◌<◌, ◌≡◌, length, get_or, take}
use Rattle.std.proofs.Common.{arith, sym, ap, subst, ◌∙◌}
use Rattle.std.proofs.Math.Logic.{⊎_elim}
use mathlib.Core.List.Memᴰ
use mathlib.Core.List.{List, Memᴰ}
use Rattle.std.proofs.Math.Seq.{take-length}
use Rattle.bundle.specs.Bundle.{Text, File, Bundle}
use Rattle.bundle.specs.Limits.{file_limit, use_limit}
use Rattle.bundle.specs.Decode.{decode}
use Rattle.bundle.specs.Stand.{Bytes}
use Rattle.bundle.specs.Read.{verdict}
use Rattle.bundle.specs.Theorems.{accepted, sound}
use Rattle.bundle.specs.Results.{Checked}
use Rattle.bundle.specs.Results.{Ok, Refused}
use Rattle.resolution.specs.Lists.{lists_of}
use Rattle.resolution.specs.Call.{position}
use Rattle.driver.specs.declared.record.Graph.{Graph}
use Rattle.discovery.specs.Discovery.{Use, uses, program_of, paths_of, discover_dependencies}
use Rattle.discovery.specs.Discovery as definition
use Rattle.discovery.specs.Facts.{mem_snoc}
use Rattle.discovery.specs.Room.{Roomy}
use Rattle.discovery.specs.Weight.{sum_uses}
use Rattle.driver.specs.Record.{looked_all, no_imports, read_all}
use Rattle.driver.specs.Readings.{sources_of}
use Rattle.driver.specs.Turns.{Invariant, Discovers, place-small, position-is, program, weight, not-before, sources-before, sum_is}
use Rattle.discovery.specs.declared.known.Known.{Known}
use Rattle.discovery.specs.declared.known.FileRow.{FileRow}
use Rattle.discovery.specs.Known.{Wide, no_row, row_of, from_of, to_of, place_of, entry_of, Row, begun, begun-wide, begun-row, begun-other, Fills, Rises, uses-rise}
use Rattle.discovery.specs.Places.{Places}

-- the entries of the file of a path are those of its uses
abbrev pub RowOf : Bundle → Known → Text → Type 0
RowOf b t p = Row t (position p (paths_of b)) (lists_of b) p (uses (program_of b.files p))

pub record Complete (b : Bundle) (t : Known) : Type 0 where
  pub rows : (p : Text) → Memᴰ p (discover_dependencies b).sources → RowOf b t p

-- WHILE UNITS ARE HANDLED: the entries of the first n
abbrev handled_of : Bundle → ℕ → Graph → List Text
handled_of b n g = take n (sources_of (lists_of b) g)

pub record Table (b : Bundle) (n : ℕ) (g : Graph) (t : Known) : Type 0 where
  pub wide : Wide t
  -- there are no more than uses
  pub weighs : t.next ≤ sum_uses b.files (handled_of b n g)
  pub rows : (p : Text) → Memᴰ p (handled_of b n g) → RowOf b t p × (to_of t (position p (paths_of b)) ≤ t.next)

-- at first there is no entry
pub table-first : (b : Bundle) (g : Graph) (t : Known) → Wide t → t.next ≡ 0 → Table b 0 g t
table-first b g t w none = record { wide = w; weighs = omega arith; rows = λ p m. absurd (Memᴰ.not-nil m) }

-- ONE UNIT: the n-th, whose file is f
module _ (b : Bundle) (roomy : Roomy b) (n : ℕ) (g : Graph) (v : Invariant b n g) (waits : n < g.units) (f : File) (is : get_or b.files (get_or g.files n 0) f ≡ f) (t : Known) (x : Table b n g t) where
  abbrev index : ℕ
  index = get_or g.files n 0

  abbrev us : List Use
  us = uses f.items

  pub index-small : index < file_limit
  index-small = let p = place-small b roomy n g v waits in let r = roomy.files in omega arith

  pub row_room : t.next + length us ≤ use_limit
  row_room = let w = weight b roomy n g v waits f is in let y = x.weighs in omega arith

  module _ (r : Known) (y : Fills (lists_of b) f.path (begun t index (length us)) r t.next us (length us)) where
    next-is : r.next ≡ t.next + length us
    next-is = y.next

    row-is : row_of r index ≡ record { from = t.next; to = t.next + length us; place = place_of t index }
    row-is = ap (λ (rows : List FileRow). get_or rows index no_row) y.rows ∙ begun-row t x.wide.rows index (length us) index-small

    from-is : from_of r index ≡ t.next
    from-is = ap (λ (z : FileRow). z.from) row-is

    to-is : to_of r index ≡ t.next + length us
    to-is = ap (λ (z : FileRow). z.to) row-is

    row_here : Row r index (lists_of b) f.path us
    row_here = record {
      ends = to-is ∙ ap (λ (n : ℕ). n + length us) (sym from-is);
      fits = let e = to-is in let w = row_room in omega arith;
      entries = λ j h. ap (λ (n : ℕ). entry_of r (n + j)) from-is ∙ y.entries j h;
    }

    here : RowOf b r f.path × (to_of r (position f.path (paths_of b)) ≤ r.next)
    here = rw (position-is b roomy n g v waits f is, program b roomy n g v waits f is) (row_here, (let a = to-is in let c = next-is in omega arith))

    module _ (p : Text) (m : Memᴰ p (handled_of b n g)) where
      abbrev at : ℕ
      at = position p (paths_of b)

      old : RowOf b t p × (to_of t at ≤ t.next)
      old = x.rows p m

      same-row : row_of r at ≡ row_of t at
      same-row = ap (λ (rows : List FileRow). get_or rows at no_row) y.rows ∙ begun-other t x.wide.rows index (length us) index-small at (not-before b roomy n g v waits f is p m)

      same-from : from_of r at ≡ from_of t at
      same-from = ap (λ (z : FileRow). z.from) same-row

      same-to : to_of r at ≡ to_of t at
      same-to = ap (λ (z : FileRow). z.to) same-row

      before : RowOf b r p × (to_of r at ≤ r.next)
      before =
          let o = old in
          let q = next-is in
          let a = same-from in
          let c = same-to in
          let e = o.0.ends in
          let h = o.0.fits in
          let u = o.1 in (
            record {
              ends = omega arith;
              fits = omega arith;
              entries = λ j h. ap (λ (n : ℕ). entry_of r (n + j)) same-from ∙ (y.before (from_of t at + j) (omega arith) ∙ o.0.entries j h);
            },
            omega arith,
          )

    pub table-next : Table b (suc n) (read_all (looked_all (lists_of b) f.path us (no_imports g)) n) r
    unfolding read_all
    table-next = record {
      wide = let w = begun-wide t index (length us) x.wide in record { rows = ap length y.rows ∙ w.rows; entries = y.wide ∙ w.entries };
      weighs = let w = x.weighs in let z = next-is in let e = sum_is b roomy n g v waits f is in omega arith;
      rows = λ p m. ⊎_elim (λ w. before p w) (λ e. rw e here) (mem_snoc (handled_of b n g) (subst (λ (l : List Text). Memᴰ p l) (sources-before b roomy n g v waits f is) m));
    }

-- IN THE END
pub all_known : (b : Bundle) (n : ℕ) (g : Graph) (t : Known) → Table b n g t → n ≡ g.units → length (sources_of (lists_of b) g) ≡ g.units → Discovers b g → Complete b t
all_known b n g t x e k d = record {
  rows = λ p m. (x.rows p (subst (λ (l : List Text). Memᴰ p l) (sym (take_whole (sources_of (lists_of b) g) n (e ∙ sym k))) (subst (λ (l : List Text). Memᴰ p l) (sym (ap (λ (h : definition.Graph). h.sources) d.is)) m))).0;
}
  where
    take_whole : (l : List Text) (n : ℕ) → n ≡ length l → take n l ≡ l
    take_whole l n q = rw q (take-length l)

-- WHAT IS HANDED UP: in a checked bundle every use of a reached file has its entry, the marks of a file rise, and every file has its
-- place
pub record Knows (b : Bundle) (t : Known) : Type 0 where
  pub complete : Complete b t
  pub rise : (p : Text) → Rises (uses (program_of b.files p))

pub record Carries (s : List ℕ) (t : Known) : Type 0 where
  pub known : verdict s ≡ Ok → Knows (decode s) t
  pub places : verdict s ≡ Ok → Places s t

pub carries_all : (s : List ℕ) (t : Known) → Bytes s → verdict s ≡ Ok → Complete (decode s) t → Places s t → Carries s t
carries_all s t B v x y = record { places = λ e. y; known = λ e. record { complete = x; rise = uses-rise (decode s) (sound s B (decode s) (accepted s v)).1 } }

-- of a bundle that is refused nothing is said
pub carries_none : (s : List ℕ) (t : Known) (n p : ℕ) → verdict s ≡ Refused n p → Carries s t
carries_none s t n p e = let no : verdict s ≡ Ok → ⊥ = λ o. omega (arith, ap refusals (sym o ∙ e)) in record { known = λ o. absurd (no o); places = λ o. absurd (no o) }
  where
    refusals : Checked → ℕ
    refusals Ok = 0
    refusals (Refused n p) = 1
