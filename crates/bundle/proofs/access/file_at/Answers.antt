-- `bundle::access::file_at` meets its contract, way by way. Assumes nothing.
use native.Mathlib.Omega.{arith}
use mathlib.Core.Path.{◌≡◌, sym, ap, ◌∙◌}
use Prim.Native.Nat.{ℕ}
use Rattle.bundle.specs.Decode.{far, after_file, file_at, decode, file_first, file_count}
use Rattle.bundle.specs.ListLaws.{each_at, each-length}
use Rattle.bundle.proofs.access.file_at.Goals as goal

pub returns : goal.returns
unfolding decode
returns c =
    let e : c.past.result ≡ far (after_file c.args.s.now) c.args.i (file_first c.args.s.now) = c.past.ensures.0 ∙ rw c.files-files.ensures.place.0 in
    let n = each-length (after_file c.args.s.now) (file_at c.args.s.now) (file_count c.args.s.now) (file_first c.args.s.now) in
    (λ d h. each_at (after_file c.args.s.now) (file_at c.args.s.now) (file_count c.args.s.now) c.args.i (file_first c.args.s.now) d (omega (arith, n, h)) ∙ ap (λ (m : ℕ). file_at c.args.s.now m) (sym e), omega arith)
