-- `load_and_parse_dependencies` meets its contract. Assumes nothing.
use Rattle.std.proofs.Common.{◌≡◌}
use Rattle.driver.specs.Record.{read_to}
use Rattle.driver.proofs.readings.load_and_parse_dependencies.Given as goal

abbrev pub invariant-loop-i : goal.invariant-loop-i
invariant-loop-i l = l.g ≡ read_to l.initial.g l.first l.i
