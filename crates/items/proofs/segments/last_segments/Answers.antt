-- `last_segments` meets its contract. Assumes nothing.
use Rattle.std.proofs.Common.{arith, ◌∙◌, ap, ◌-◌, length, length-drop}
use Rattle.assembly.specs.Walk.{segments-read}
use Rattle.items.specs.Uses.{count-is}
use Rattle.items.proofs.segments.last_segments.Goals as goal

pub overflow_sub-segments : goal.overflow_sub-segments
overflow_sub-segments c =
    let segments = c.use_segments-segments in
    let n = count-is c.args.s.now c.args.mark segments.result.first segments.result.count (segments-read c.args.s.now c.args.mark c.requires.0.kind segments.result.first segments.result.count segments.ensures.0) in
    omega arith

pub returns : goal.returns
returns c =
    let segments = c.use_segments-segments in
    let read = segments-read c.args.s.now c.args.mark c.requires.0.kind segments.result.first segments.result.count segments.ensures.0 in
    let n = count-is c.args.s.now c.args.mark segments.result.first segments.result.count read in
    let whole = c.new.ensures ∙ read in
    let l = ap length c.rest.ensures in
    let k = ap length whole in
    record { last = c.rest.ensures ∙ rw (whole, n); few = omega (arith, length-drop (segments.result.count - c.args.left) c.new.result) }
