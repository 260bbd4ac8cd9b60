-- `bundle::access::folder_at` meets its contract, way by way. Assumes nothing.
use native.Mathlib.Omega.{arith}
use mathlib.Core.Path.{◌≡◌, sym, ap, ◌∙◌}
use Prim.Native.Nat.{ℕ}
use Rattle.bundle.specs.Decode.{far, after, decode, folder_first, folder_count}
use Rattle.bundle.specs.Scan.{text}
use Rattle.bundle.specs.ListLaws.{each_at, each-length}
use Rattle.bundle.proofs.access.folder_at.Goals as goal

pub returns : goal.returns
unfolding decode
returns c =
    let e : c.past.result ≡ far (after c.args.s.now) c.args.i (folder_first c.args.s.now) = c.past.ensures.0 ∙ rw c.folders-folders.ensures.place.0 in
    let n = each-length (after c.args.s.now) (text c.args.s.now) (folder_count c.args.s.now) (folder_first c.args.s.now) in
    (λ d h. each_at (after c.args.s.now) (text c.args.s.now) (folder_count c.args.s.now) c.args.i (folder_first c.args.s.now) d (omega (arith, n, h)) ∙ ap (λ (m : ℕ). text c.args.s.now m) (sym e), omega arith)
