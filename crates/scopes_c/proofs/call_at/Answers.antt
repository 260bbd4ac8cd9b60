use Rattle.std.proofs.Common.{sym, ap, ◌∙◌}
use Rattle.scopes_c.specs.Lists.{order_told, turned_clears}
use Rattle.scopes_c.proofs.call_at.Goals as goal

pub returns-in_default : goal.returns-in_default
returns-in_default c =
    record { turned = turned_clears (ap order_told (sym c.in_default.is) ∙ c.next_call-next.ensures.call) c.empty.ensures; next = c.next_call-next.ensures.next.0; near = c.next_call-next.ensures.next.1 }
