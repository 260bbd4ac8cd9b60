-- `bundle::access::file_items` meets its contract, way by way. Assumes nothing.
use native.Mathlib.Omega.{arith}
use Rattle.bundle.specs.Decode.{file_at}
use Rattle.bundle.proofs.access.file_items.Goals as goal

pub returns : goal.returns
unfolding file_at
returns c = (rw (c.after_length-end.ensures.0, c.after_string-length.ensures.0), omega arith)
