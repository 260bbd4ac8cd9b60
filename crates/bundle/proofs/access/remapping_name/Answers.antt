-- `bundle::access::remapping_name` meets its contract, way by way. Assumes nothing.
use mathlib.Core.Path.{◌∙◌}
use Rattle.bundle.specs.Decode.{remapping_at}
use Rattle.bundle.proofs.access.remapping_name.Goals as goal

pub returns : goal.returns
unfolding remapping_at
returns c = c.text_at.ensures ∙ rw c.after_string-name.ensures.0
