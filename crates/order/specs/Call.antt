-- The operation: bytes and a lent report buffer, and what is answered. Assumes nothing.
use Rattle.std.specs.Prelude.{ℕ, ◌<◌, ◌≡◌, List, [], ◌∷◌, ◌++◌, map, length, get_or, take, drop, replicate}
use Rattle.bundle.specs.Bundle.{Text, Bundle}
use Rattle.bundle.specs.Limits.{file_limit}
use Rattle.bundle.specs.Read.{Reading, value, refused, read}
use Rattle.resolution.specs.Call.{position}
use Rattle.discovery.specs.Discovery.{paths_of}
use Rattle.order.specs.Outcome.{faulty, closed, ended, result, result_or, ResultOr}
use Rattle.order.specs.Outcome as steps
use Rattle.order.specs.Run.{Outcome, ordered, units_of}
use Rattle.order.specs.Report.{Record, fault, ring, records_of, report_bytes, report_length, lent_report, reporting}
use Rattle.order.specs.Results.{Reported, Answer}
use Rattle.order.specs.Results as reported

-- numbers at the start of cleared places, one for each unit that there may be
abbrev pub padded : List ℕ → List ℕ
padded l = l ++ drop (length l) (replicate file_limit 0)

abbrev pub cleared : List ℕ
cleared = replicate file_limit 0

-- THE ANSWER OF AN OUTCOME
-- no units: a number and a place, and the length of a report
abbrev pub telling : ℕ → ℕ → ℕ → Answer
telling n p r = record { number = n; place = p; report = r; units = 0; files = cleared; ids = cleared; image = 0 }

-- a refusal: its number and place alone
abbrev pub refusing : ℕ → ℕ → Answer
refusing n p = telling n p 0

-- a report: its length, or 14
abbrev pub reported_to : Reported → Answer
reported_to (reported.Report n) = telling 0 0 n
reported_to (reported.Refused n p) = refusing n p

-- for a report buffer of n bytes; of a result by f
abbrev pub answer_by : {A : Type 0} → (A → Answer) → ℕ → steps.Outcome A → Answer
answer_by f n (faulty l) = reported_to (reporting (map fault l) n)
answer_by f n (closed r) = reported_to (reporting (ring r ∷ []) n)
answer_by f n (ended k p) = refusing k p
answer_by f n (result x) = f x

-- of what is read: the bundle is tested first, 1 to 13, and no byte is changed
abbrev pub answer_from : {A : Type 0} → (Bundle → steps.Outcome A) → (Bundle → A → Answer) → Reading → ℕ → Answer
answer_from run f (refused k p) n = refusing k p
answer_from run f (value b) n = answer_by (f b) n (run b)

-- what the report buffer holds afterwards, and another that a result alone changes
abbrev pub report_from : {A : Type 0} → (Bundle → steps.Outcome A) → Reading → List ℕ → List ℕ
report_from run (refused k p) out = out
report_from run (value b) out = lent_report (records_of (run b)) out

abbrev pub held_from : {A : Type 0} → (Bundle → steps.Outcome A) → (A → List ℕ → List ℕ) → Reading → List ℕ → List ℕ
held_from run f (refused k p) out = out
held_from run f (value b) out = result_or (λ x. f x out) out (run b)

-- and what is claimed of a result, or without one
abbrev pub KeptFrom : {A : Type 0} → (Bundle → steps.Outcome A) → (A → Type 0) → Type 0 → Reading → Type 0
KeptFrom run P Q (refused k p) = Q
KeptFrom run P Q (value b) = ResultOr P Q (run b)

-- STEPS 3 AND 4
-- the files of the units and, in an array, the order
abbrev pub linking : List ℕ → List ℕ → Answer
linking files ids = record { number = 0; place = 0; report = 0; units = length files; files = padded files; ids = ids; image = 0 }

-- a unit's file is its path's place among the bundle's files
abbrev pub answering : List ℕ → ℕ → Outcome → Answer
answering files n x = answer_by (λ o. linking files (padded o)) n x

abbrev pub unit_files : Bundle → List ℕ
unit_files b = map (λ p. position p (paths_of b)) (units_of b)

abbrev pub answer_to : Reading → ℕ → Answer
answer_to x n = answer_from ordered (λ b o. linking (unit_files b) (padded o)) x n

abbrev pub report_to : Reading → List ℕ → List ℕ
report_to x out = report_from ordered x out

-- the answer, and what the lent buffer holds afterwards
unfoldable pub order_answer : List ℕ → List ℕ → Answer
order_answer s out = answer_to (read s) (length out)

unfoldable pub order_report : List ℕ → List ℕ → List ℕ
order_report s out = report_to (read s) out

-- THE PATHS that an answer gives by its files, ids and count: of each id, in order, the path of its file
abbrev pub paths_of_ids : Bundle → List ℕ → List ℕ → ℕ → List Text
paths_of_ids b files ids n = map (λ u. get_or (paths_of b) (get_or files u 0) []) (take n ids)

-- A REPORT WAS WRITTEN: number 0 and a length are answered; the report's bytes stand at the start of the buffer, the rest is as it was
pub record Wrote (rs : List Record) (out final : List ℕ) (number report : ℕ) : Type 0 where
  pub no_refusal : number ≡ 0
  pub length_is : report ≡ report_length rs
  pub some : 0 < report
  pub bytes : take report final ≡ report_bytes rs
  pub rest : drop report final ≡ drop report out
