-- `target_in` meets its contract. Assumes nothing.
use Rattle.std.proofs.Common.{rules, ◌∙◌}
use Rattle.remapping_lines.specs.Splitting.{target-root, target-dropped}
use Rattle.remapping_lines.proofs.line.target_in.Goals as goal

pub returns-then-eq : goal.returns-then-eq
returns-then-eq c = target-root c.args.right.now (search rules)

pub returns : goal.returns
returns c = c.without_slash.ensures ∙ target-dropped c.args.right.now (search rules)
