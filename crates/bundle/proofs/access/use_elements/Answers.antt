-- `bundle::access::use_elements` meets its contract, way by way. Assumes nothing.
use native.Mathlib.Omega.{arith}
use mathlib.Core.Path.{◌≡◌, ◌∙◌}
use Prim.Native.Nat.{◌+◌}
use Rattle.bundle.specs.Decode.{after, after_list}
use Rattle.bundle.specs.Access.{first-elements}
use Rattle.bundle.proofs.access.use_elements.Goals as goal

pub returns : goal.returns
returns c =
    let e : c.past-elements.result ≡ after_list (after c.args.s.now) c.args.s.now (c.args.at + 4) = c.past-elements.ensures.0 ∙ rw (c.listed_at-segments.ensures.0.0, c.listed_at-segments.ensures.0.1) in
    (λ depth end h k. rw (first-elements depth c.args.s.now end c.args.at h k) (rw (c.listed_at.ensures.0.0, c.listed_at.ensures.0.1, e)), omega arith)
