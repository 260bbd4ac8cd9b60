use Rattle.scopes.specs.Declares.{answers-function}
use Rattle.host.specs.TreeTold.{found-told}
use Rattle.host.proofs.tree.gontsamy_get_function.Goals as goal

pub returns : goal.returns
returns c = found-told (answers-function _ _ _ c.get.ensures) c.tell_found.ensures.0 c.tell_found.ensures.1
