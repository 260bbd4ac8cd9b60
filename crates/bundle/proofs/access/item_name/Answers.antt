-- `bundle::access::item_name` meets its contract, way by way. Assumes nothing.
use mathlib.Core.Path.{sym, ◌∙◌}
use Rattle.bundle.specs.Access.{first_name}
use Rattle.bundle.proofs.access.item_name.Goals as goal

pub returns : goal.returns
returns c = λ depth end h n3 n6. c.text_at.ensures ∙ sym (first_name depth c.args.s.now end c.args.at h n3 n6)
