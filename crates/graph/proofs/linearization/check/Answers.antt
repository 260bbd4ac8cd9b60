-- `linearization::check` turns back the first unit whose list has an id that is no unit. Assumes nothing.
use Rattle.std.proofs.Common.{sym, ◌∙◌, arith}
use Rattle.graph.specs.GivenFacts.{fits_all, knows_not, is-unknown}
use Rattle.graph.proofs.linearization.check.Goals as goal

pub returns-then-not-knows : goal.returns-then-not-knows
returns-then-not-knows c =
    let g = c.args.g in
    is-unknown g (omega arith) (omega arith) (omega arith) (fits_all g _ c.loop-u.invariant (omega arith)) (knows_not g _ c.loop-u-2-test.true (sym c.knows.ensures ∙ c.if-not-knows.true))
