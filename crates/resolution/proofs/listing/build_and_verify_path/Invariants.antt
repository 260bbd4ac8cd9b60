-- `build_and_verify_path` meets its contract. Assumes nothing.
use Rattle.std.proofs.Common.{length}
use Rattle.resolution.specs.LookupLaws.{Down}
use Rattle.resolution.proofs.listing.build_and_verify_path.Given as goal

abbrev pub invariant-loop-name : goal.invariant-loop-name
invariant-loop-name l = Down l.b.bytes.now l.base l.dir l.initial.segments l.segments

abbrev pub decreases-loop-name : goal.decreases-loop-name
decreases-loop-name l = length l.segments
