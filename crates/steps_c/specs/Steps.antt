-- How an answer of a step is told in numbers, by named places, for the differential run. Assumes nothing.
use Rattle.std.specs.Prelude.{ℕ, suc, ◌+◌, ◌<◌, ◌≡◌, Bool, true, false, cond, eqb, length, take, get_or}
use Rattle.std.proofs.Common.{add-one, arith, sym, ◌∙◌, take-suc, length-take-le, eq-eqb, ne_eqb}
use Rattle.std.proofs.Math.Path.{ap}
use mathlib.Core.List.{List, [], ◌∷◌, ◌++◌}
use Rattle.std.proofs.Math.ListN.{set}
use Rattle.std.proofs.Math.Seq.{sets}
use Rattle.bundle.specs.Read.{number_of, verdict}
use Rattle.bundle.specs.Limits.{file_limit}
use Rattle.bundle.specs.Decode.{decode}
use Rattle.driver.specs.declared.record.Graph.{Graph}
use Rattle.driver.specs.Turns.{Discovers}
use Rattle.order.specs.Results.{Answer}
use Rattle.bundle.specs.Results.{Checked}
use Rattle.bundle.specs.Results.{Ok, Refused}

-- a truth
abbrev pub bit_of : Bool → ℕ
bit_of true = 1
bit_of false = 0

-- where the lists of what is told stand
abbrev pub assembled_files : ℕ
assembled_files = 3

abbrev pub assembled_ids : ℕ
assembled_ids = assembled_files + file_limit

abbrev pub graph_files : ℕ
graph_files = 1

abbrev pub graph_starts : ℕ
graph_starts = graph_files + file_limit

abbrev pub graph_lengths : ℕ
graph_lengths = graph_starts + file_limit

abbrev pub graph_ids : ℕ
graph_ids = graph_lengths + file_limit

-- a refusal's place; or the report's length, the number of units, the image's length, the units' files and the linked order
unfoldable pub assemble_told : Answer → List ℕ → List ℕ
assemble_told a l =
    cond (eqb a.number 0)
    (sets (sets (set (set (set l 0 a.report) 1 a.units) 2 a.image) assembled_files (take a.units a.files)) assembled_ids (take a.units a.ids))
    (set l 0 a.place)

-- the number of units, their files, and their lists
abbrev pub graph_told : Graph → List ℕ → List ℕ
graph_told g l =
    sets (sets (sets (sets (set l 0 g.units) graph_files (take g.units g.files)) graph_starts (take g.units g.start)) graph_lengths (take g.units g.len)) graph_ids (take g.count g.ids)

-- what is told of bytes: a refusal's place, or a record that holds the definition's graph
pub data GraphTold (s l m : List ℕ) : Type 0 where
  refused : (n p : ℕ) → verdict s ≡ Refused n p → m ≡ set l 0 p → GraphTold s l m
  accepted : (g : Graph) → verdict s ≡ Ok → Discovers (decode s) g → m ≡ graph_told g l → GraphTold s l m

pub told-ok : (v : Checked) → v ≡ Ok → 0 ≡ number_of v
unfolding number_of
told-ok v e = rw e

pub told-refused : (v : Checked) (n p : ℕ) → v ≡ Refused n p → n ≡ number_of v
unfolding number_of
told-refused v n p e = rw e

-- A RUN OF STORES, one more at a time
sets_snoc : (vs l : List ℕ) (i a : ℕ) → sets l i (vs ++ (a ∷ [])) ≡ set (sets l i vs) (i + length vs) a
sets_snoc [] l i a = let e : i ≡ i + 0 = omega arith in ap (λ (k : ℕ). set l k a) e
sets_snoc (v ∷ vs) l i a = let e : suc i + length vs ≡ i + suc (length vs) = omega arith in sets_snoc vs (set l i v) (suc i) a ∙ ap (λ (k : ℕ). set (sets (set l i v) (suc i) vs) k a) e

module _ (o : List ℕ) (at : ℕ) (l : List ℕ) where
  pub told-next : (i : ℕ) (m : List ℕ) → i < length l → m ≡ sets o at (take i l) → set m (at + i) (get_or l i 0) ≡ sets o at (take (i + 1) l)
  told-next i m h e =
      let n = length-take-le i l (omega arith) in
      rw (e, add-one i, take-suc l i 0 h) (ap (λ (k : ℕ). set (sets o at (take i l)) (at + k) (get_or l i 0)) (sym n) ∙ sym (sets_snoc (take i l) o at (get_or l i 0)))

-- WHAT THE CALLS TELL
module _ (a : Answer) (l : List ℕ) where
  pub assemble_refused : (a.number ≡ 0 → ⊥) → (m : List ℕ) → m ≡ set l 0 a.place → m ≡ assemble_told a l
  unfolding assemble_told
  assemble_refused h m e = rw (ne_eqb a.number 0 h) e

  pub assemble_told_lem : a.number ≡ 0 → (m₁ m₂ m₃ m₄ : List ℕ) → m₁ ≡ set (set l 0 a.report) 1 a.units → m₂ ≡ set m₁ 2 a.image → m₃ ≡ sets m₂ assembled_files (take a.units a.files)
      → m₄ ≡ sets m₃ assembled_ids (take a.units a.ids) → m₄ ≡ assemble_told a l
  unfolding assemble_told
  assemble_told_lem h m₁ m₂ m₃ m₄ e₁ e₂ e₃ e₄ =
      rw (eq-eqb a.number 0 h)
      (e₄ ∙ ap (λ (m : List ℕ). sets m assembled_ids (take a.units a.ids)) (e₃ ∙ ap (λ (m : List ℕ). sets m assembled_files (take a.units a.files)) (e₂ ∙ ap (λ (m : List ℕ). set m 2 a.image) e₁)))

pub graph-told : (g : Graph) (l m₁ m₂ m₃ m₄ m₅ : List ℕ) → m₁ ≡ set l 0 g.units → m₂ ≡ sets m₁ graph_files (take g.units g.files) → m₃ ≡ sets m₂ graph_starts (take g.units g.start)
    → m₄ ≡ sets m₃ graph_lengths (take g.units g.len) → m₅ ≡ sets m₄ graph_ids (take g.count g.ids) → m₅ ≡ graph_told g l
graph-told g l m₁ m₂ m₃ m₄ m₅ e₁ e₂ e₃ e₄ e₅ =
    e₅ ∙ ap (λ (m : List ℕ). sets m graph_ids (take g.count g.ids))
    (e₄ ∙ ap (λ (m : List ℕ). sets m graph_lengths (take g.units g.len))
    (e₃ ∙ ap (λ (m : List ℕ). sets m graph_starts (take g.units g.start)) (e₂ ∙ ap (λ (m : List ℕ). sets m graph_files (take g.units g.files)) e₁)))
