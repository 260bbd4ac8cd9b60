-- `bundle::access::remapping_context` meets its contract, way by way. Assumes nothing.
use Rattle.bundle.specs.Decode.{remapping_at}
use Rattle.bundle.proofs.access.remapping_context.Goals as goal

pub returns : goal.returns
unfolding remapping_at
returns c = c.text_at.ensures
