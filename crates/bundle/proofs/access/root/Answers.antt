-- `bundle::access::root` meets its contract, way by way. Assumes nothing.
use Rattle.bundle.specs.Decode.{decode}
use Rattle.bundle.proofs.access.root.Goals as goal

pub returns : goal.returns
unfolding decode
returns c = c.text_at.ensures
