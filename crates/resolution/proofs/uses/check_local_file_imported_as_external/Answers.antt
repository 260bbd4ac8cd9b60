-- `check_local_file_imported_as_external` meets its contract. Assumes nothing.
use Rattle.std.proofs.Common.{sym, ◌∙◌}
use Rattle.resolution.specs.CardLaws.{own-none, own-some}
use Rattle.resolution.proofs.uses.check_local_file_imported_as_external.Goals as goal

pub returns-in-Some : goal.returns-in-Some
returns-in-Some c = c.eq.ensures ∙ own-some c.args.b.now.is _ _ c.requires.0 c.requires.1 _ (sym c.in-Some.is ∙ c.nearest_root.ensures) _ c.nearest_root-in-Some.ensures

pub returns-in-None : goal.returns-in-None
returns-in-None c = own-none c.args.b.now.is _ _ c.requires.0 c.requires.1 (sym c.in-None.is ∙ c.nearest_root.ensures)
