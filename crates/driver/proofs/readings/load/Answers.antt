-- `load` meets its contract. Assumes nothing.
use Rattle.std.proofs.Common.{◌≡◌, arith, sym, ◌∙◌}
use Rattle.driver.specs.Record.{reading-known, reading-new, reading-folder}
use Rattle.driver.proofs.readings.load.Goals as goal

pub returns-in-Some : goal.returns-in-Some
returns-in-Some c = rw c.in-File.is (rw c.if-lists.true at (reading-known c.args.g.now c.args.first _ (omega (arith, c.requires.units)) c.requires.list _ _ (sym c.unit_of.ensures ∙ c.in-Some.is) c.lists.ensures))

pub returns-in-Some-2 : goal.returns-in-Some-2
returns-in-Some-2 c = rw c.in-File.is (rw c.if-lists.false at (reading-known c.args.g.now c.args.first _ (omega (arith, c.requires.units)) c.requires.list _ _ (sym c.unit_of.ensures ∙ c.in-Some.is) c.lists.ensures))

pub returns-in-None : goal.returns-in-None
returns-in-None c = rw c.in-File.is (reading-new c.args.g.now c.args.first _ (omega (arith, c.requires.units)) (sym c.unit_of.ensures ∙ c.in-None.is))

pub returns-in-Folder : goal.returns-in-Folder
returns-in-Folder c = rw c.in-Folder.is (rw c.if-is_unread.true at (reading-folder c.args.g.now c.args.first _ _ c.is_unread.ensures))

pub returns-in-Folder-2 : goal.returns-in-Folder-2
returns-in-Folder-2 c =
    let same : c.in-Folder.folder ≡ c.in-Folder-2.folder = cc in
    rw (c.in-Folder.is, ← same) (rw c.if-is_unread.false at (reading-folder c.args.g.now c.args.first _ _ c.is_unread.ensures))
