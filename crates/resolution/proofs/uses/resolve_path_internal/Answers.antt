-- `resolve_path_internal` meets its contract. Assumes nothing.
use Rattle.std.proofs.Common.{sym, ◌∙◌}
use Rattle.resolution.specs.UseLaws.{target_path, use_empty, use_crate, use_unknown, use_external}
use Rattle.resolution.proofs.uses.resolve_path_internal.Goals as goal

pub returns-then-is_crate : goal.returns-then-is_crate
returns-then-is_crate c = rw c.in-Some.ensures.steps.0 (c.resolve_crate_path.ensures ∙ use_crate _ _ _ _ (sym c.is_crate.ensures ∙ c.if-is_crate.true))

pub returns-in_default : goal.returns-in_default
returns-in_default c = rw c.in_default.ensures.steps.0 (use_empty _ _)

pub returns-in_default-remapping_for : goal.returns-in_default-remapping_for
returns-in_default-remapping_for c = rw c.in-Some.ensures.steps.0 (use_unknown _ _ _ _ (sym c.is_crate.ensures ∙ c.if-is_crate.false) (sym c.in_default-remapping_for.ensures.0))

pub returns : goal.returns
returns c =
    let k = rw (c.from.ensures, (target_path c.args.b.now.is _ c.in-Some-remapping_for.ensures.1.0).1) at c.resolve_external_path.ensures in
    rw c.in-Some.ensures.steps.0 (k ∙ use_external _ _ _ _ (sym c.is_crate.ensures ∙ c.if-is_crate.false) _ (sym c.in-Some-remapping_for.ensures.0))
