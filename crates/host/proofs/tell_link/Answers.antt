-- `tell_link` meets its contract. Assumes nothing.
use Rattle.host.proofs.tell_link.Goals as goal

pub returns-in-Err : goal.returns-in-Err
returns-in-Err c = record { number = rw c.in-Err.is c.from.ensures; answer_after = rw c.in-Err.is c.tell_places.ensures }
