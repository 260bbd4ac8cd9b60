-- What the linker answers in the program's buffers has the lines of the definition.
use Rattle.std.proofs.Common.{arith, refl, ℕ, ◌≡◌, List, replicate, get_or, get_or-take, sym, ap, ◌∙◌, subst, length-take-le, Fits, w8}
use Rattle.text.specs.Words.{lines}
use Rattle.text.specs.Telling.{tells_as}
use Rattle.text.specs.LineLaws.{lines-one}
use Rattle.bundle.specs.Read.{read}
use Rattle.order.specs.Results.{Answer}
use Rattle.order.specs.Call.{telling}
use Rattle.order.specs.Told.{refusal_told, units_told}
use Rattle.printing.specs.Told.{some-report, some-image}
use Rattle.assembly.specs.Given.{OneUnit}
use Rattle.scope_tree.specs.Trees.{cleared}
use Rattle.linker.specs.Call.{link_answer, link_report, LinkTree}
use Rattle.printing.specs.Answers.{Lined, lined}
use Rattle.printing.specs.Lines.{reading_lines, printed}
use Rattle.printing.specs.Sizes.{report_size, image_size}
use Rattle.printing.specs.Whole.{answer-lines}
use Rattle.printing.proofs.put_all.Goals as goal

answered : (s : List ℕ) → ((i : ℕ) → Fits w8 (get_or s i 0)) → (a : Answer) → a ≡ link_answer s (replicate report_size 0) (replicate image_size 0) → (report : List ℕ) → report ≡ link_report s (replicate report_size 0)
    → Lined s a report (λ u. LinkTree s (replicate image_size 0) cleared u) (reading_lines (read s))
answered s bytes a is report reports =
    lined s (replicate report_size 0) (replicate image_size 0) cleared (reading_lines (read s)) (answer-lines s (λ i. omega (arith, bytes i))) a is report reports

pub put_units-requires : goal.put_units-requires
put_units-requires g c = λ i h.
    let l = c.link_new-linked in
    let k = l.ensures.link_tree in
    let e = rw c.in-Image.is at (rw c.in-Ok.is at l.ensures.answer_value) in
    let a = units_told c.in-Image.units c.in-Image.field-1 in
    let x = answered c.args.s.now c.type_inv.s a e l.new.report l.ensures.report_after in
    let y = x.linked (some-image c.args.s.now (λ i. omega (arith, c.type_inv.s i)) _ _ _ _ k _ c.in-Image.units c.in-Image.field-1 refl e) l.result.tree k in
    let n = length-take-le a.units a.ids y.fits in
    subst (OneUnit c.args.s.now a.files) (sym (get_or-take a.units a.ids i 0 (omega arith))) (y.units i (omega arith))

pub returns-in-Image : goal.returns-in-Image
unfolding printed
returns-in-Image g c =
    let l = c.link_new-linked in
    let k = l.ensures.link_tree in
    let e = rw c.in-Image.is at (rw c.in-Ok.is at l.ensures.answer_value) in
    let x = answered c.args.s.now c.type_inv.s (units_told c.in-Image.units c.in-Image.field-1) e l.new.report l.ensures.report_after in
    tells_as g.S.Sink.tells (g.met.S.Sink.tells_more _ _ _ _ _ c.put_units.ensures c.put_tree.ensures)
    (let e = (x.linked (some-image c.args.s.now (λ i. omega (arith, c.type_inv.s i)) _ _ _ _ k _ c.in-Image.units c.in-Image.field-1 refl e) l.result.tree k).is in grind arith)

pub slice_bounds-report-end : goal.slice_bounds-report-end
slice_bounds-report-end g c =
    let l = c.link_new-linked in
    let e = rw c.in-Report.is at (rw c.in-Ok.is at l.ensures.answer_value) in
    let x = answered c.args.s.now c.type_inv.s (telling 0 0 c.in-Report.n) e l.new.report l.ensures.report_after in
    (x.report refl (some-report c.args.s.now (λ i. omega (arith, c.type_inv.s i)) _ _ _ _ l.ensures.link_tree c.in-Report.n e)).fits

pub slice_bounds-put_report-end : goal.slice_bounds-put_report-end
slice_bounds-put_report-end g c =
    let l = c.link_new-linked in
    let e = rw c.in-Report.is at (rw c.in-Ok.is at l.ensures.answer_value) in
    let x = answered c.args.s.now c.type_inv.s (telling 0 0 c.in-Report.n) e l.new.report l.ensures.report_after in
    sym (length-take-le c.in-Report.n l.new.report (x.report refl (some-report c.args.s.now (λ i. omega (arith, c.type_inv.s i)) _ _ _ _ l.ensures.link_tree c.in-Report.n e)).fits)

pub returns-in-Report : goal.returns-in-Report
unfolding printed
returns-in-Report g c =
    let l = c.link_new-linked in
    let e = rw c.in-Report.is at (rw c.in-Ok.is at l.ensures.answer_value) in
    let x = answered c.args.s.now c.type_inv.s (telling 0 0 c.in-Report.n) e l.new.report l.ensures.report_after in
    tells_as g.S.Sink.tells c.put_report.ensures
    (let e = (x.report refl (some-report c.args.s.now (λ i. omega (arith, c.type_inv.s i)) _ _ _ _ l.ensures.link_tree c.in-Report.n e)).is in grind arith)

pub returns-in-Err : goal.returns-in-Err
unfolding printed
returns-in-Err g c =
    let l = c.link_new-linked in
    let e = rw c.in-Err.is at l.ensures.answer_value in
    let x = answered c.args.s.now c.type_inv.s (refusal_told c.in-Err.e) e l.new.report l.ensures.report_after in
    tells_as g.S.Sink.tells c.put_no.ensures (let e = ap lines (x.number refl refl) ∙ lines-one _ in grind arith)
