-- The operation: bytes, a lent report buffer, a lent image buffer and a tree, and what is answered. Assumes nothing.
use Rattle.std.specs.Prelude.{ℕ, ◌≡◌, List, [], length}
use Rattle.bundle.specs.Read.{Reading, value, refused, read}
use Rattle.order.specs.Outcome.{result_or, ResultOr}
use Rattle.order.specs.Call.{unit_files, answer_by, answer_from, report_from, held_from, KeptFrom}
use Rattle.order.specs.Results.{Answer}
pub use Rattle.order.specs.Report.{records_of}
use Rattle.assembly.specs.Image.{imaging, lent_image}
use Rattle.assembly.specs.Assemble.{Built}
use Rattle.assembly.specs.Call.{with_image}
use Rattle.assembly.specs.Results.{Imaged}
use Rattle.assembly.specs.Results as imaged
use Rattle.scope_tree.specs.Flat.{Flat, Entry}
use Rattle.scope_tree.specs.Trees.{Good, flat_of}
use Rattle.scope_tree.specs.declared.Tree.{Tree}
use Rattle.linker.specs.Link.{Made, Outcome, link_bundle}

-- THE ANSWER for a report buffer of n bytes and an image buffer of m. 14 and 15 of the image come after 40 to 51
abbrev pub built_of : Made → Built
built_of q = record { ids = q.ids; items = q.items }

abbrev pub answering : List ℕ → ℕ → ℕ → Outcome → Answer
answering files n m x = answer_by (λ q. with_image files m (built_of q)) n x

abbrev pub answer_to : Reading → ℕ → ℕ → Answer
answer_to x n m = answer_from link_bundle (λ b q. with_image (unit_files b) m (built_of q)) x n

unfoldable pub link_answer : List ℕ → List ℕ → List ℕ → Answer
link_answer s report image = answer_to (read s) (length report) (length image)

-- THE REPORT BUFFER afterwards
abbrev pub report_to : Reading → List ℕ → List ℕ
report_to x out = report_from link_bundle x out

unfoldable pub link_report : List ℕ → List ℕ → List ℕ
link_report s report = report_to (read s) report

-- THE IMAGE BUFFER afterwards
abbrev pub image_after : Outcome → List ℕ → List ℕ
image_after x out = result_or (λ q. lent_image q.items out) out x

abbrev pub image_to : Reading → List ℕ → List ℕ
image_to x out = held_from link_bundle (λ q out. lent_image q.items out) x out

unfoldable pub link_image : List ℕ → List ℕ → List ℕ
link_image s image = image_to (read s) image

-- THE TREE: t was given, u comes back. Its entries and open modules are those of step 6's tree; array places past the count are free
pub record TreeOf (x : Flat) (u : Tree) : Type 0 where
  pub good : Good u
  pub is : flat_of u ≡ x

-- 14 and 15 leave it was
abbrev pub TreeWith : Imaged → Flat → Tree → Tree → Type 0
TreeWith (imaged.Image n) x t u = TreeOf x u
TreeWith (imaged.Refused n p) x t u = u ≡ t

-- so do a report and every other refusal
abbrev pub TreeOfMade : ℕ → Tree → Tree → Made → Type 0
TreeOfMade m t u q = TreeWith (imaging q.items m) q.tree t u

abbrev pub TreeAfter : ℕ → Outcome → Tree → Tree → Type 0
TreeAfter m y t u = ResultOr (TreeOfMade m t u) (u ≡ t) y

abbrev pub TreeTo : Reading → ℕ → Tree → Tree → Type 0
TreeTo x m t u = KeptFrom link_bundle (TreeOfMade m t u) (u ≡ t) x

unfoldable pub LinkTree : List ℕ → List ℕ → Tree → Tree → Type 0
LinkTree s image t u = TreeTo (read s) (length image) t u

-- THE TREE'S ENTRIES as rows tell them: step 6's, where the bundle links and the image fits into a buffer of m bytes
abbrev pub entries_with : Imaged → Flat → List Entry
entries_with (imaged.Image n) x = x.entries
entries_with (imaged.Refused n p) x = []

abbrev pub entries_after : ℕ → Outcome → List Entry
entries_after m y = result_or (λ q. entries_with (imaging q.items m) q.tree) [] y

abbrev pub entries_to : Reading → ℕ → List Entry
entries_to (refused k p) m = []
entries_to (value b) m = entries_after m (link_bundle b)

unfoldable pub link_entries : List ℕ → List ℕ → List Entry
link_entries s image = entries_to (read s) (length image)
