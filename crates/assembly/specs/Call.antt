-- The operation: bytes, a lent report buffer and a lent image buffer, and what is answered. Assumes nothing.
use Rattle.std.specs.Prelude.{ℕ, ◌<◌, ◌≤◌, ◌≡◌, List, map, length, take, drop}
use Rattle.bundle.specs.Bundle.{Items, Bundle}
use Rattle.bundle.specs.Read.{Reading, read}
use Rattle.order.specs.Outcome.{result_or}
use Rattle.order.specs.Call.{padded, unit_files, answer_by, answer_from, report_from, held_from}
use Rattle.order.specs.Results.{Answer}
use Rattle.order.specs.Report.{Record, fault}
pub use Rattle.order.specs.Report.{records_of}
pub use Rattle.order.specs.Call.{telling, refusing, reported_to}
use Rattle.assembly.specs.Assemble.{Built, Outcome, assembly_faults, linearize_and_assemble}
use Rattle.assembly.specs.Image.{small_buffer, long_image, image_limit, image_bytes, items_length, image_length, imaging, lent_image}
use Rattle.assembly.specs.Results.{Imaged}
use Rattle.assembly.specs.Results as imaged

-- the records of step 5's faults
abbrev pub faults_told : Bundle → List ℕ → List Record
faults_told b o = map fault (assembly_faults b o)

-- an image: the units, their files and their order, in arrays, and its length; or 15, 14
abbrev pub imaged_to : ℕ → List ℕ → List ℕ → Imaged → Answer
imaged_to units files ids (imaged.Image n) = record { number = 0; place = 0; report = 0; units = units; files = files; ids = ids; image = n }
imaged_to units files ids (imaged.Refused n p) = refusing n p

-- what is answered of a program, for an image buffer of m bytes; a unit's file is its path's place among the files
abbrev pub with_image : List ℕ → ℕ → Built → Answer
with_image files m q = imaged_to (length files) (padded files) (padded q.ids) (imaging q.items m)

-- and of any outcome, for a report buffer of n bytes
abbrev pub answering : List ℕ → ℕ → ℕ → Outcome → Answer
answering files n m x = answer_by (with_image files m) n x

-- what the image buffer holds afterwards
abbrev pub image_after : Outcome → List ℕ → List ℕ
image_after x out = result_or (λ q. lent_image q.items out) out x

abbrev pub answer_to : Reading → ℕ → ℕ → Answer
answer_to x n m = answer_from linearize_and_assemble (λ b q. with_image (unit_files b) m q) x n

abbrev pub report_to : Reading → List ℕ → List ℕ
report_to x out = report_from linearize_and_assemble x out

abbrev pub image_to : Reading → List ℕ → List ℕ
image_to x out = held_from linearize_and_assemble (λ q out. lent_image q.items out) x out

-- the answer, and what the lent buffers hold afterwards
unfoldable pub assemble_answer : List ℕ → List ℕ → List ℕ → Answer
assemble_answer s report image = answer_to (read s) (length report) (length image)

unfoldable pub assemble_report : List ℕ → List ℕ → List ℕ
assemble_report s report = report_to (read s) report

unfoldable pub assemble_image : List ℕ → List ℕ → List ℕ
assemble_image s image = image_to (read s) image

-- AN IMAGE WAS WRITTEN: its length n; its bytes stand at the start of the buffer, the rest is as it was
pub record ImageWritten (p : Items) (img final : List ℕ) (n : ℕ) : Type 0 where
  pub length_is : n ≡ image_length p
  pub bytes : take n final ≡ image_bytes p
  pub rest : drop n final ≡ drop n img

-- why there is no image of a program, for a buffer of m bytes: 15, and otherwise 14
pub data NoImage (p : Items) (m : ℕ) : ℕ → Type 0 where
  too_long : image_limit < items_length p → NoImage p m long_image
  too_small : items_length p ≤ image_limit → m < image_length p → NoImage p m small_buffer
