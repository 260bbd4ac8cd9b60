-- `bundle::access::use_segments` meets its contract, way by way. Assumes nothing.
use native.Mathlib.Omega.{arith}
use Rattle.bundle.specs.Access.{first-segments}
use Rattle.bundle.proofs.access.use_segments.Goals as goal

pub returns : goal.returns
returns c =
    (λ depth end h k. rw (first-segments depth c.args.s.now end c.args.at h k) (rw (c.listed_at.ensures.0.0, c.listed_at.ensures.0.1)), omega arith)
