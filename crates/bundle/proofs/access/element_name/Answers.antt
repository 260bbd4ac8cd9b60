-- `bundle::access::element_name` meets its contract, way by way. Assumes nothing.
use Rattle.bundle.specs.Decode.{element_at}
use Rattle.bundle.proofs.access.element_name.Goals as goal

pub returns : goal.returns
unfolding element_at
returns c = c.text_at.ensures
