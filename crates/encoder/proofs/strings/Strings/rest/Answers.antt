-- `rest` meets its contract. Assumes nothing.
use Rattle.std.proofs.Common.{ap, ◌∙◌, drop, drop-drop}
use Rattle.encoder.specs.Strings.{given_rest}
use Rattle.encoder.proofs.strings.Strings.rest.Goals as goal

pub loop-preserved : goal.loop-preserved
loop-preserved c = given_rest c.loop.self c.next.new.self c.next.result c.next.ensures.steps ∙ (ap (drop 1) c.loop.invariant ∙ drop-drop 1 c.loop.counter c.args.self)
