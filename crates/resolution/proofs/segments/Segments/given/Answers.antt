-- `Segments::given` meets its contract. Assumes nothing.
use Rattle.std.proofs.Common.{arith, rules, tests, ◌≡◌, true}
use Rattle.std.specs.Result.{is_ok}
use Rattle.resolution.specs.SegmentLaws.{scan-named}
use Rattle.resolution.proofs.segments.Segments.given.Goals as goal

pub of-requires : goal.of-requires
of-requires c =
    let k : is_ok c.segments_end.result ≡ true = search (rules, tests) in
    (rw c.byte_at.ensures.0 (scan-named c.args.u.now (λ i. omega (arith, c.type_inv.u i)) _ c.segments_end.ensures k), (omega arith, omega arith))
