-- `reader::paths::parent_of` meets its contract. Assumes nothing.
use native.Mathlib.Omega.{arith}
use mathlib.Core.Path.{sym}
use lib.Seq.{length-take-le}
use Rattle.reader.specs.Linking.{parent-fits, at-parent}
use Rattle.reader.proofs.paths.parent_of.Goals as goal

pub slice_bounds-folder_of-end : goal.slice_bounds-folder_of-end
slice_bounds-folder_of-end c = sym (length-take-le _ _ (omega (arith, c.parent_len.ensures, parent-fits _ c.requires)))

pub returns : goal.returns
returns c = at-parent c.args.index.now.bytes.now c.args.p.now c.requires _ c.parent_len.ensures c.folder_of.result c.folder_of.ensures
