-- `card::index::Index::folder_of` meets its contract. Assumes nothing.
use mathlib.Core.Path.{sym, ◌∙◌}
use Rattle.card.specs.Folders.{folder-root, folder-found}
use Rattle.card.proofs.index.Index.folder_of.Goals as goal

pub returns-then-is_root : goal.returns-then-is_root
returns-then-is_root c = folder-root _ _ _ c.is_root.ensures c.if-is_root.true

pub returns : goal.returns
returns c = folder-found _ _ _ c.args.self.now.folders (sym c.is_root.ensures ∙ c.if-is_root.false) _ (rw c.paths.ensures.bytes at c.find_up_to.ensures)
