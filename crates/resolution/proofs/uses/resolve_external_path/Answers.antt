-- `resolve_external_path` meets its contract. Assumes nothing.
use Rattle.std.proofs.Common.{sym, ◌∙◌}
use Rattle.resolution.specs.UseLaws.{external-found}
use Rattle.resolution.proofs.uses.resolve_external_path.Goals as goal

pub returns : goal.returns
returns c = c.resolved.ensures ∙ external-found c.args.b.now.is _ _ _ c.in-Some.ensures (sym c.check_local_file_imported_as_external.ensures ∙ c.if-check_local_file_imported_as_external.false)
