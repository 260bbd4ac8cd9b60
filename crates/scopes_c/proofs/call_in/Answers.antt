use Rattle.std.proofs.Common.{sym, ap}
use Rattle.scopes_c.specs.Lists.{order_told, turned-emptied}
use Rattle.scopes_c.proofs.call_in.Goals as goal

pub returns-in_default-clause-turned : goal.returns-in_default-clause-turned
returns-in_default-clause-turned c = turned-emptied _ (ap order_told (sym c.in_default.is))
