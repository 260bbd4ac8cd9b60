-- Laws for `gontsamy_link`'s code. Assumes nothing.
use Rattle.std.specs.Prelude.{ℕ, suc, ◌+◌, ◌*◌, ◌≤◌, ◌<◌, ◌≡◌, refl, Bool, false, cond, List, [], ◌∷◌, ◌++◌, leb, ltb, set, drop}
use Rattle.std.proofs.Common.{arith, add-one, sym, ◌∙◌, length-append, le-leb, ltb-false}
use Rattle.std.proofs.Math.Path.{ap}
use Rattle.std.proofs.Math.Bool.{true}
use Rattle.std.proofs.Math.ListN.{length}
use Rattle.std.proofs.lemmas.List.Edits.{sets, sets-eq}
use Rattle.std.proofs.Math.Seq.{set_out}
use Rattle.std.proofs.lemmas.Bool.{lt-leb}
use Rattle.order.specs.Results.{Answer}
use Rattle.scope_tree.specs.Flat.{Entry}
use Rattle.rows.specs.Written.{put_at, written}
use Rattle.rows.specs.TreeRows.{numbers, all_numbers, Listed}
use Rattle.linker.specs.Call.{link_answer, link_report, link_image, link_entries}
use Rattle.host.specs.LinkTold.{answer_length, rows_length, roomy, answer_of, rows_of, number_told, report_told, image_told, answer_told, rows_told}

-- STORES within what is lent
written_sets : (o : List ℕ) (i : ℕ) (xs : List ℕ) → written o i xs ≡ sets o i xs
unfolding written
written_sets o i [] = refl
written_sets o i (x ∷ xs) = ap (λ (k : ℕ). written (put_at o i x) k xs) (add-one i) ∙ ap (λ (l : List ℕ). written l (suc i) xs) (go (ltb i (length o)) refl) ∙ written_sets (set o i x) (suc i) xs
  where
    go : (b : Bool) → ltb i (length o) ≡ b → cond b (set o i x) o ≡ set o i x
    go true e = refl
    go false e = sym (set_out o i x (ltb-false i (length o) e))

numbers-length : (es : List Entry) → length (all_numbers es) ≡ 11 * length es
unfolding all_numbers
numbers-length [] = refl
numbers-length (e ∷ es) = omega (arith, length-append (numbers e) (all_numbers es), numbers-length es)

pub rows_whole : (es : List Entry) (l : List ℕ) → length es ≤ 1024 → rows_length ≤ length l → written l 0 (all_numbers es) ≡ rows_of es l
rows_whole es l h k =
    let n = numbers-length es in
    let b : 0 + length (all_numbers es) ≤ length l = omega (arith, n) in
    let e : 0 + length (all_numbers es) ≡ 11 * length es = omega (arith, n) in
    written_sets l 0 (all_numbers es) ∙ sets-eq (all_numbers es) l 0 b ∙ ap (λ (j : ℕ). all_numbers es ++ drop j l) e

-- AS THE CODE HAS IT
module _ (s report image answer rows : List ℕ) where
  abbrev pub Told : ℕ → List ℕ → List ℕ → List ℕ → List ℕ → Type 0
  Told n report' image' answer' rows' =
      (n ≡ number_told s report image answer rows)
      × ((report' ≡ report_told s report answer rows)
      × ((image' ≡ image_told s image answer rows) × ((answer' ≡ answer_told s report image answer rows) × (rows' ≡ rows_told s image answer rows))))

  untold : roomy answer rows ≡ false → Told 14 report image answer rows
  unfolding number_told report_told image_told answer_told rows_told
  untold e = rw e (refl, (refl, (refl, (refl, refl))))

  pub short-answer : length answer < answer_length → Told 14 report image answer rows
  short-answer h = untold (rw (lt-leb answer_length (length answer) h))

  pub short-rows : length rows < rows_length → Told 14 report image answer rows
  short-rows h = untold (go (leb answer_length (length answer)))
    where
      go : (b : Bool) → cond b (leb rows_length (length rows)) false ≡ false
      go true = lt-leb rows_length (length rows) h
      go false = refl

  pub told : answer_length ≤ length answer → rows_length ≤ length rows → (a : Answer) → a ≡ link_answer s report image
      → (report' image' answer' rows' : List ℕ) → report' ≡ link_report s report → image' ≡ link_image s image → (n : ℕ) → Listed (link_entries s image) rows n rows' × (n ≤ 1024) → answer' ≡ answer_of a n answer
      → Told a.number report' image' answer' rows'
  unfolding number_told report_told image_told answer_told rows_told
  told h k a aq report' image' answer' rows' rq iq n (l, b) q =
      let z : roomy answer rows ≡ true = rw (le-leb answer_length (length answer) h) (le-leb rows_length (length rows) k) in
      let f : length (link_entries s image) ≤ 1024 = omega (arith, l.count, b) in
      rw z (
        ap (λ (x : Answer). x.number) aq,
        (
          rq,
          (
            iq,
            (
              q ∙ ap (λ (x : Answer). answer_of x n answer) aq ∙ ap (λ (m : ℕ). answer_of (link_answer s report image) m answer) l.count,
              l.out ∙ rows_whole (link_entries s image) rows f k,
            ),
          ),
        ),
      )
