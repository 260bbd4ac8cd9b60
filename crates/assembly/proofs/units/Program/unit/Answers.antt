-- `Program::unit`: the unit is there. Assumes nothing.
use Rattle.assembly.specs.GivenLaws.{placed, among}
use Rattle.assembly.proofs.units.Program.unit.Goals as goal

pub invariant_of-result : goal.invariant_of-result
invariant_of-result c = record { fit = c.args.self.now.fit; placed = placed c.args.self.now.given c.args.id c.requires; among = among c.args.self.now.given c.args.id c.requires }
