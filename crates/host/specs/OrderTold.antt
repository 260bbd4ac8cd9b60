-- What `gontsamy_order` is lent, and what it leaves there. Assumes nothing.
use Rattle.std.specs.Prelude.{ℕ, ◌<◌, ◌≤◌, ◌≡◌, refl, cond, List, leb, length}
use Rattle.std.proofs.Math.Path.{ap}
use Rattle.std.proofs.Common.{◌∙◌, le-leb}
use Rattle.std.proofs.lemmas.Bool.{lt-leb}
use Rattle.order.specs.Report.{small_buffer}
use Rattle.order.specs.Call.{order_answer, order_report}
use Rattle.order.specs.Results.{Answer}
use Rattle.host.specs.LinkTold.{answer_length, answer_of}

-- WHAT IS TOLD. Of bytes and the two that are lent: the number, and what each holds afterwards. Where the answer is too short: 14, and
-- all as it was
unfoldable pub order_number_told : List ℕ → List ℕ → List ℕ → ℕ
order_number_told s report answer = cond (leb answer_length (length answer)) (order_answer s report).number small_buffer

unfoldable pub order_report_told : List ℕ → List ℕ → List ℕ → List ℕ
order_report_told s report answer = cond (leb answer_length (length answer)) (order_report s report) report

unfoldable pub order_told : List ℕ → List ℕ → List ℕ → List ℕ
order_told s report answer = cond (leb answer_length (length answer)) (answer_of (order_answer s report) 0 answer) answer

-- AS THE CODE HAS IT
module _ (s report answer : List ℕ) where
  abbrev Told : ℕ → List ℕ → List ℕ → Type 0
  Told n report' answer' =
      (n ≡ order_number_told s report answer) × ((report' ≡ order_report_told s report answer) × (answer' ≡ order_told s report answer))

  pub order-short : length answer < answer_length → Told 14 report answer
  unfolding order_number_told order_report_told order_told
  order-short h = rw (lt-leb answer_length (length answer) h) (refl, (refl, refl))

  pub order-told : answer_length ≤ length answer → (a : Answer) → a ≡ order_answer s report → (report' answer' : List ℕ) → report' ≡ order_report s report
      → answer' ≡ answer_of a 0 answer → Told a.number report' answer'
  unfolding order_number_told order_report_told order_told
  order-told h a e report' answer' f g =
      rw (le-leb answer_length (length answer) h)
      (ap (λ (x : Answer). x.number) e, (f, g ∙ ap (λ (x : Answer). answer_of x 0 answer) e))
