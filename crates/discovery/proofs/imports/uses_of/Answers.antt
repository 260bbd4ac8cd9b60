-- The uses of a file, from none. Assumes nothing.
use Rattle.std.proofs.Common.{ap}
use Rattle.discovery.specs.Discovery.{uses}
use Rattle.discovery.specs.Walk.{from-none}
use Rattle.discovery.proofs.imports.uses_of.Goals as goal

pub returns : goal.returns
returns c = from-none _ _ _ _ (ap uses c.file_items.ensures.0) (rw c.new-uses.ensures at c.process_items.ensures)
