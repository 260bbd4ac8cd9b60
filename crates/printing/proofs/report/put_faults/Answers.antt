-- A line for each record.
use Rattle.std.proofs.Common.{rules, ℕ, List, ◌++◌, map, get_or, take, ap, sym, ◌∙◌, take_all, []}
use Rattle.text.specs.Words.{Text, lines}
use Rattle.text.specs.Telling.{tells_as}
use Rattle.printing.specs.Reports.{record_line, records_more, record_told, fault_lines}
use Rattle.printing.proofs.report.put_faults.Goals as goal

pub loop-number-init : goal.loop-number-init
unfolding lines
loop-number-init g c = g.met.S.Sink.tells_none _

pub loop-number-preserved : goal.loop-number-preserved
loop-number-preserved g c =
    let rs = c.as_chunks.result.0.now in
    let i = c.loop-number.number-index in
    let e = record_told (get_or rs i []) c.from.result c.from-in-loop-number.result (search rules) (search rules) in
    tells_as g.S.Sink.tells (g.met.S.Sink.tells_more _ _ _ _ _ c.loop-number.invariant c.put_no.ensures)
    (ap (λ (t : Text). lines (map record_line (take i rs)) ++ t) e ∙ sym (records_more rs i (search rules)))

pub returns : goal.returns
unfolding fault_lines
returns g c =
    let rs = c.as_chunks.result.0.now in
    tells_as g.S.Sink.tells c.loop-number.invariant
    (ap (λ (l : List (List ℕ)). lines (map record_line l)) (take_all c.loop-number.number-index rs (search rules) ∙ search rules))
