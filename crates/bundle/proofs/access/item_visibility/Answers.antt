-- `bundle::access::item_visibility` meets its contract, way by way. Assumes nothing.
use mathlib.Core.Path.{sym, ◌∙◌}
use Rattle.bundle.specs.Access.{first-visibility}
use Rattle.bundle.proofs.access.item_visibility.Goals as goal

pub returns : goal.returns
returns c = λ depth end h. c.byte_at.ensures.0 ∙ sym (first-visibility depth c.args.s.now end c.args.at h)
