-- `resolve_in` meets its contract. Assumes nothing.
use Rattle.std.proofs.Common.{◌∙◌}
use Rattle.resolution.specs.UseLaws.{unlisted, is-listed}
use Rattle.resolution.proofs.uses.resolve_in.Goals as goal

pub returns-in_default : goal.returns-in_default
returns-in_default c = rw (← c.is_path.ensures, c.if-not-is_path.false, c.in_ok-segments.ensures.1.1) (unlisted c.args.b.now.is _ _ c.in_default.ensures)

pub returns : goal.returns
returns c =
    let k = rw c.in_ok-segments.ensures.0 at c.resolve_path_internal.ensures in
    rw (← c.is_path.ensures, c.if-not-is_path.false, c.in_ok-segments.ensures.1.1) (k ∙ is-listed c.args.b.now.is _ _ _ c.in-Some.ensures)
