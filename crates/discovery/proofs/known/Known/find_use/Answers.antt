-- `Known::find_use` meets its contract. Assumes nothing.
use Rattle.std.proofs.Common.{◌≡◌, rules, of_calls, true, false, arith, length}
use Rattle.std.proofs.lemmas.Fn.{always_returns_same}
use Rattle.std.specs.List.Sorted.{IsPartitionPoint}
use Rattle.bundle.specs.Limits.{use_limit}
use Rattle.discovery.specs.Known.{entries_of, is_before, entries-parted, point-inside, finds}
use Rattle.discovery.proofs.known.Known.find_use.Goals as goal
use Rattle.discovery.proofs.known.Known.find_use.Goals.{After-partition_point}

point : (c : After-partition_point) → IsPartitionPoint (λ e. is_before c.args.mark e ≡ true) (λ e. is_before c.args.mark e ≡ false) (entries_of c.args.self.now c.args.index) c.partition_point.result
point c =
    let wide : length c.args.self.now.entries ≡ use_limit = omega arith in
    c.partition_point.ensures.partitioned (is_before c.args.mark) (always_returns_same _ _ _ (λ a r f k. search (rules, of_calls))) (entries-parted c.requires wide)

pub bounds-entries-partition_point : goal.bounds-entries-partition_point
bounds-entries-partition_point c = point-inside c.requires (omega arith) _ (point (goal.at.bounds-entries-partition_point c).After-partition_point)

pub returns : goal.returns
returns c = finds c.requires (omega arith) _ (point (goal.at.returns c).After-partition_point) _
