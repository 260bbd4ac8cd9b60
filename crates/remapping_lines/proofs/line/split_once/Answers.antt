-- `split_once` meets its contract. Assumes nothing.
use Rattle.std.proofs.Common.{rules, ◌+◌, ◌∙◌, sym}
use Rattle.std.proofs.lemmas.List.{take_rest}
use Rattle.remapping_lines.specs.Splitting.{found_at, found_none}
use Rattle.remapping_lines.proofs.line.split_once.Goals as goal

pub returns-in-Some : goal.returns-in-Some
returns-in-Some c =
    let at = found_at c.args.c c.args.t.now c.in-Some.i (search rules) (search rules) (search rules) in
    record { before = at.front; behind = (at.there, take_rest c.args.t.now (c.in-Some.i + 1) ∙ at.back) }

pub returns-in-None : goal.returns-in-None
returns-in-None c =
    let none = found_none c.args.c c.args.t.now (search rules) in
    record { before = sym none.1; behind = none.0 }
