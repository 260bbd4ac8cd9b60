-- `bundle::access::next_element` meets its contract, way by way. Assumes nothing.
use mathlib.Core.Path.{◌∙◌}
use native.Mathlib.Omega.{arith}
use Rattle.bundle.proofs.access.next_element.Goals as goal

pub returns : goal.returns
returns c = (c.after_string.ensures.0 ∙ rw c.after_string-alias.ensures.0, omega arith)
