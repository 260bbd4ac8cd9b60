-- What `gontsamy_link` is lent, and what it leaves there. Assumes nothing.
use Rattle.std.specs.Prelude.{ℕ, ◌+◌, ◌*◌, Bool, false, cond, List, [], ◌∷◌, ◌++◌, leb, length, take, drop}
use Rattle.std.proofs.lemmas.List.Edits.{sets}
use Rattle.bundle.specs.Limits.{file_limit}
use Rattle.order.specs.Report.{small_buffer}
use Rattle.order.specs.Results.{Answer}
use Rattle.scope_tree.specs.Flat.{Entry}
use Rattle.rows.specs.TreeRows.{all_numbers}
use Rattle.linker.specs.Call.{link_answer, link_report, link_image, link_entries}

-- THE LAYOUT of the lent answer: a refusal's place, the report's length, how many units, the image's length, how many entries; then
-- the units' files, and the ids in linked order
abbrev pub answer_place : ℕ
answer_place = 0

abbrev pub answer_files : ℕ
answer_files = 5

abbrev pub answer_ids : ℕ
answer_ids = answer_files + file_limit

abbrev pub answer_length : ℕ
answer_length = answer_ids + file_limit

-- of the lent rows: an entry's numbers, and the most entries
abbrev pub row_length : ℕ
row_length = 11

abbrev pub entry_limit : ℕ
entry_limit = 1024

abbrev pub rows_length : ℕ
rows_length = row_length * entry_limit

-- whether both are long enough
abbrev pub roomy : List ℕ → List ℕ → Bool
roomy answer rows = cond (leb answer_length (length answer)) (leb rows_length (length rows)) false

-- an answer and a count of entries as they are laid out; all other places as they were
abbrev pub answer_of : Answer → ℕ → List ℕ → List ℕ
answer_of a n l =
    sets
    (sets (sets l answer_place (a.place ∷ a.report ∷ a.units ∷ a.image ∷ n ∷ [])) answer_files (take a.units a.files))
    answer_ids
    (take a.units a.ids)

-- the entries' numbers from the start on, the rest as it was
abbrev pub rows_of : List Entry → List ℕ → List ℕ
rows_of es l = all_numbers es ++ drop (row_length * length es) l

-- WHAT IS TOLD. Of bytes and the four that are lent: the number, and what each holds afterwards. Where the answer or the rows are too
-- short: 14, and all as it was
unfoldable pub number_told : List ℕ → List ℕ → List ℕ → List ℕ → List ℕ → ℕ
number_told s report image answer rows = cond (roomy answer rows) (link_answer s report image).number small_buffer

unfoldable pub report_told : List ℕ → List ℕ → List ℕ → List ℕ → List ℕ
report_told s report answer rows = cond (roomy answer rows) (link_report s report) report

unfoldable pub image_told : List ℕ → List ℕ → List ℕ → List ℕ → List ℕ
image_told s image answer rows = cond (roomy answer rows) (link_image s image) image

unfoldable pub answer_told : List ℕ → List ℕ → List ℕ → List ℕ → List ℕ → List ℕ
answer_told s report image answer rows =
    cond (roomy answer rows) (answer_of (link_answer s report image) (length (link_entries s image)) answer) answer

unfoldable pub rows_told : List ℕ → List ℕ → List ℕ → List ℕ → List ℕ
rows_told s image answer rows = cond (roomy answer rows) (rows_of (link_entries s image) rows) rows
