use Rattle.std.proofs.Common.{◌∙◌}
use Rattle.scopes.specs.Meets.{number-told}
use Rattle.host.specs.TreeTold.{tree-told}
use Rattle.host.proofs.tree.tell_made.Goals as goal

pub returns-clause-told : goal.returns-clause-told
returns-clause-told c = tree-told c.call.ensures.met (c.number_of.ensures ∙ number-told _)
