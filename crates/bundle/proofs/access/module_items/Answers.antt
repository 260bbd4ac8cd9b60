-- `bundle::access::module_items` meets its contract, way by way. Assumes nothing.
use native.Mathlib.Omega.{arith}
use Rattle.bundle.specs.Access.{first_inner}
use Rattle.bundle.proofs.access.module_items.Goals as goal

pub returns : goal.returns
returns c =
    (λ depth end h k. rw (first_inner depth c.args.s.now end c.args.at h k) (rw (c.after_string-inner.ensures.0, c.after_length-end.ensures.0)), (omega (arith, c.after_string-inner.ensures.0), omega arith))
