-- `bundle::access::remappings` meets its contract, way by way. Assumes nothing.
use native.Mathlib.Omega.{arith}
use mathlib.Core.Path.{◌≡◌, ◌∙◌}
use Rattle.bundle.specs.Decode.{decode, remappings_at, remapping_first, remapping_count}
use Rattle.bundle.proofs.access.remappings.Goals as goal

pub returns : goal.returns
unfolding decode
returns c =
    let at : c.past-at.result ≡ remappings_at c.args.s.now = c.past-at.ensures.0 ∙ rw (c.folders-folders.ensures.place.0, c.folders-folders.ensures.place.1) in
    let first : c.listed_at.result.first ≡ remapping_first c.args.s.now = c.listed_at.ensures.0.0 ∙ rw at in
    let n : c.listed_at.result.count ≡ remapping_count c.args.s.now = c.listed_at.ensures.0.1 ∙ rw at in
    record { place = (first, n); list = rw (first, n); bound = omega arith }
