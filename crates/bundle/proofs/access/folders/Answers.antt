-- `bundle::access::folders` meets its contract, way by way. Assumes nothing.
use native.Mathlib.Omega.{arith}
use mathlib.Core.Path.{◌≡◌, ap, ◌∙◌}
use Prim.Native.Nat.{◌<◌}
use Rattle.bundle.specs.Limits.{capacity, folder_width}
use Rattle.bundle.specs.Scan.{version_of}
use Rattle.bundle.specs.Decode.{decode, folder_first, folder_count}
use Rattle.bundle.specs.Versions.{folder_count_limit}
use Rattle.bundle.proofs.access.folders.Goals as goal

pub returns : goal.returns
unfolding decode
returns c =
    let w : c.folder_width.result ≡ folder_width (version_of c.args.s.now) = c.folder_width.ensures ∙ ap folder_width c.version_of.ensures in
    let first : c.listed_at.result.first ≡ folder_first c.args.s.now = c.listed_at.ensures.0.0 ∙ rw (w, c.after_string-at.ensures.0) in
    let n : c.listed_at.result.count ≡ folder_count c.args.s.now = c.listed_at.ensures.0.1 ∙ rw (w, c.after_string-at.ensures.0) in
    let few : c.listed_at.result.count < capacity (folder_width (version_of c.args.s.now)) = rw w at c.listed_at.ensures.1 in
    record { place = (first, n); list = rw (first, n); bound = omega (arith, first, few, folder_count_limit (version_of c.args.s.now)) }
