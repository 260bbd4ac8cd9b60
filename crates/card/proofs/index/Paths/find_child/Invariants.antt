-- `card::index::Paths::find_child`: what is passed before each step. Assumes nothing.
use Rattle.std.proofs.Common.{◌++◌, length}
use Rattle.card.specs.Layout.{bucket_of}
use Rattle.card.specs.Card.{nodes_in, sought, bucket_at}
use Rattle.card.specs.Index.{Walking}
use Rattle.card.specs.Chains.{Going}
use Rattle.card.proofs.index.Paths.find_child.Given as goal

abbrev pub invariant-loop-i : goal.invariant-loop-i
invariant-loop-i l = Going l.self.card.now (Walking (sought (nodes_in l.self.bytes.now) l.d (l.name ++ l.ending)) (bucket_at l.self.card.now) (bucket_of l.h) (length (nodes_in l.self.bytes.now))) l.i-iterator
