use Rattle.std.proofs.Common.{rules, tests, ◌≡◌, true, false}
use Rattle.std.proofs.lemmas.Iterator.{YieldsList-from_slice, IsFirst-from_position}
use Rattle.decision.specs.Batches.{has_name}
use Rattle.decision.specs.BatchLaws.{fresh_first}
use Rattle.decision.proofs.batch.Batch.first_named.Goals as goal

pub returns : goal.returns
returns c =
    let x = c.args.name in
    let f = IsFirst-from_position _ _ _ (λ e. has_name x e ≡ true) (λ e. has_name x e ≡ false) c.position.ensures.ran (YieldsList-from_slice _ c.iter.ensures.rest) (λ y q k. search (rules, tests)) (λ y q k. search (rules, tests)) in
    rw c.unwrap_or.ensures (fresh_first x c.args.self.now.entries c.args.self.now.count (search rules) c.position.result f)
