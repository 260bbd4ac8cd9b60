-- `card::index::Paths::walk`: what is passed before each step. Assumes nothing.
use Rattle.std.proofs.Common.{suc}
use Rattle.card.specs.Layout.{bucket_of}
use Rattle.card.specs.Card.{nodes_in, is_up_to, bucket_at}
use Rattle.card.specs.Index.{Walking}
use Rattle.card.specs.Chains.{Going}
use Rattle.card.proofs.index.Paths.walk.Given as goal

abbrev pub invariant-loop-i : goal.invariant-loop-i
invariant-loop-i l = Going l.self.card.now (Walking (is_up_to (nodes_in l.self.bytes.now) l.t l.last) (bucket_at l.self.card.now) (bucket_of l.h) (suc l.from)) l.i-iterator
