-- `bundle::access::files` meets its contract, way by way. Assumes nothing.
use native.Mathlib.Omega.{arith}
use mathlib.Core.Path.{◌≡◌, ap, ◌∙◌}
use Prim.Native.Nat.{◌<◌}
use Rattle.bundle.specs.Limits.{capacity, file_width}
use Rattle.bundle.specs.Scan.{version_of, past_count}
use Rattle.bundle.specs.Decode.{decode, files_at, file_first, file_count}
use Rattle.bundle.specs.Versions.{file_count_limit}
use Rattle.bundle.proofs.access.files.Goals as goal

pub returns : goal.returns
unfolding decode
returns c =
    let w : c.file_width.result ≡ file_width (version_of c.args.s.now) = c.file_width.ensures ∙ ap file_width c.version_of.ensures in
    let at : c.past-at.result ≡ files_at c.args.s.now = c.past-at.ensures.0 ∙ rw (c.remappings-remappings.ensures.place.0, c.remappings-remappings.ensures.place.1) in
    let near : c.listed_at.result.first ≡ past_count (file_width (version_of c.args.s.now)) c.past-at.result = c.listed_at.ensures.0.0 ∙ rw w in
    let first : c.listed_at.result.first ≡ file_first c.args.s.now = near ∙ rw at in
    let n : c.listed_at.result.count ≡ file_count c.args.s.now = c.listed_at.ensures.0.1 ∙ rw (w, at) in
    let few : c.listed_at.result.count < capacity (file_width (version_of c.args.s.now)) = rw w at c.listed_at.ensures.1 in
    record { place = (first, n); list = rw (first, n); bound = omega (arith, near, few, file_count_limit (version_of c.args.s.now)) }
