-- `bundle::access::listed_at` meets its contract, way by way. Assumes nothing.
use Rattle.bundle.proofs.access.listed_at.Goals as goal

pub returns : goal.returns
returns c =
    ((rw c.width_bytes.ensures.0, c.count_at-n.ensures.0), c.count_at-n.ensures.1)
