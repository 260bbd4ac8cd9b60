-- `names::path::parent_len` meets its contract: what `rposition` finds. Assumes nothing.
use Rattle.std.proofs.Common.{rules, arith, sym}
use Rattle.names.specs.PathSteps.{parent-at}
use Rattle.names.proofs.path.parent_len.Goals as goal

pub returns-in-Some : goal.returns-in-Some
returns-in-Some c = sym (parent-at c.args.s.now c.in-Some.i (omega arith) (search rules) (search rules) (search rules))
