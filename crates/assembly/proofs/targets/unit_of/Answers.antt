-- `unit_of`: the place of the file among the units' files. Assumes nothing.
use Rattle.std.proofs.Common.{◌∙◌}
use Rattle.assembly.specs.Targets.{found_there}
use Rattle.assembly.proofs.targets.unit_of.Goals as goal

pub returns-in-File : goal.returns-in-File
returns-in-File c = rw c.in-File.is (c.unwrap_or.ensures ∙ rw c.find_unit.ensures (found_there c.args.files.now c.in-File.file))
