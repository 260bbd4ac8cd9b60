-- `bundle::access::remapping_at` meets its contract, way by way. Assumes nothing.
use native.Mathlib.Omega.{arith}
use mathlib.Core.Path.{◌≡◌, sym, ap, ◌∙◌}
use Prim.Native.Nat.{ℕ}
use Rattle.bundle.specs.Decode.{far, after_remapping, remapping_at, decode, remapping_first, remapping_count}
use Rattle.bundle.specs.ListLaws.{each_at, each-length}
use Rattle.bundle.proofs.access.remapping_at.Goals as goal

pub returns : goal.returns
unfolding decode
returns c =
    let e : c.past.result ≡ far (after_remapping c.args.s.now) c.args.i (remapping_first c.args.s.now) = c.past.ensures.0 ∙ rw c.remappings-remappings.ensures.place.0 in
    let n = each-length (after_remapping c.args.s.now) (remapping_at c.args.s.now) (remapping_count c.args.s.now) (remapping_first c.args.s.now) in
    (λ d h. each_at (after_remapping c.args.s.now) (remapping_at c.args.s.now) (remapping_count c.args.s.now) c.args.i (remapping_first c.args.s.now) d (omega (arith, n, h)) ∙ ap (λ (m : ℕ). remapping_at c.args.s.now m) (sym e), omega arith)
