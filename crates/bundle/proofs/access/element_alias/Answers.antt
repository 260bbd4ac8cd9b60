-- `bundle::access::element_alias` meets its contract, way by way. Assumes nothing.
use mathlib.Core.Path.{◌∙◌}
use Rattle.bundle.specs.Decode.{element_at}
use Rattle.bundle.proofs.access.element_alias.Goals as goal

pub returns : goal.returns
unfolding element_at
returns c = c.text_at.ensures ∙ rw c.after_string-alias.ensures.0
