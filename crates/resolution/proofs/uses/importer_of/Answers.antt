-- `importer_of` meets its contract. Assumes nothing.
use Rattle.std.proofs.Common.{arith}
use Rattle.resolution.specs.UseLaws.{importer-none, importer-folder, importer-is}
use Rattle.resolution.proofs.uses.importer_of.Goals as goal

pub returns-in_err-f : goal.returns-in_err-f
returns-in_err-f c = rw c.from_residual.ensures (importer-none c.args.b.now.is c.args.file.now c.in_err-f.ensures)

pub returns-then-f-b : goal.returns-then-f-b
returns-then-f-b c = importer-folder c.args.b.now.is _ _ c.in_ok-f.ensures (omega (arith, c.args.b.now.is.folders))

pub returns : goal.returns
returns c = importer-is c.args.b.now.is _ _ c.in_ok-f.ensures (omega (arith, c.args.b.now.is.folders))
