-- `bundle::access::next_file` meets its contract, way by way. Assumes nothing.
use native.Mathlib.Omega.{arith}
use Rattle.bundle.proofs.access.next_file.Goals as goal

pub returns : goal.returns
returns c =
    (rw (← c.after_string-length.ensures.0) c.after_length.ensures.0, omega arith)
