-- `load_and_parse_dependencies` meets its contract. Assumes nothing.
use Rattle.std.proofs.Common.{arith, ap, sym, ◌∙◌}
use Rattle.driver.specs.declared.record.Graph.{Graph}
use Rattle.driver.specs.Record.{read_none, read_more, read_done, pushed_id, pushed_fault, pushed_unread}
use Rattle.driver.proofs.readings.load_and_parse_dependencies.Goals as goal
use Rattle.driver.proofs.readings.load_and_parse_dependencies.Goals.{in-Nothing, in-Listed, in-New, in-Told}

pub loop-i-init : goal.loop-i-init
loop-i-init c = read_none _ _

pub loop-i-preserved : goal.loop-i-preserved
loop-i-preserved c =
    elim c.match-load.branch [
      | in-Nothing w ↦ w.g-is ∙ read_more c.args.g.now c.args.g.now.count c.loop-i.i c.loop-i.g _ c.loop-i.invariant (sym w.in-Nothing.is ∙ c.load.ensures)
      | in-Listed w ↦ w.g-is ∙ (w.push_id.ensures ∙ read_more c.args.g.now c.args.g.now.count c.loop-i.i c.loop-i.g _ c.loop-i.invariant (sym w.in-Listed.is ∙ c.load.ensures))
      | in-New w ↦ w.g-is ∙ (w.push_id-in-New.ensures ∙ (ap (λ (h : Graph). pushed_id h c.loop-i.g.units) w.push_unit.ensures ∙ read_more c.args.g.now c.args.g.now.count c.loop-i.i c.loop-i.g _ c.loop-i.invariant (sym w.in-New.is ∙ c.load.ensures)))
      | in-Told w ↦ w.g-is ∙ (w.push_fault.ensures ∙ (ap (λ (h : Graph). pushed_fault h w.at.result) w.push_unread.ensures ∙ (ap (pushed_fault (pushed_unread c.loop-i.g w.in-Told.folder)) w.at.ensures ∙ read_more c.args.g.now c.args.g.now.count c.loop-i.i c.loop-i.g _ c.loop-i.invariant (sym w.in-Told.is ∙ c.load.ensures))))
    ]

pub returns : goal.returns
returns c = read_done c.args.g.now c.args.unit c.loop-i.i c.loop-i.g c.loop-i.invariant (omega arith)
