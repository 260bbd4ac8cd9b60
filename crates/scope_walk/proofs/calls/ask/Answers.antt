-- `ask`: what the call answers. Assumes nothing.
use Rattle.scope_walk.specs.Steps.{walks_made, walks_refused}
use Rattle.scope_walk.proofs.calls.ask.Goals as goal

pub returns-in-Ok-clause-walked : goal.returns-in-Ok-clause-walked
returns-in-Ok-clause-walked c = walks_made c.args.place c.in-Ok.field-0 c.in-Ok.ensures.met

pub returns-in-Err-clause-walked : goal.returns-in-Err-clause-walked
returns-in-Err-clause-walked c = rw c.at.ensures (walks_refused c.args.place c.in-Err.cause c.in-Err.ensures.met)
