-- `card::index::Paths::walk` meets its contract. Assumes nothing.
use Rattle.std.proofs.Common.{refl}
use Rattle.card.specs.Card.{path-start, path-within, path-end, path-found, path-on}
use Rattle.card.specs.Chains.{falls-of, stands, going-end}
use Rattle.card.proofs.index.Paths.walk.Goals as goal

pub of-i-items-requires : goal.of-i-items-requires
of-i-items-requires c = falls-of c.args.self.now.index _ c.requires.within

pub loop-i-init : goal.loop-i-init
loop-i-init c = record {
  at = c.args.from;
  rest = rw c.into_iter-i-iterator.ensures.into_iter_gives c.of-i-items.ensures;
  walk = path-start c.args.self.now.index _ _ _ c.requires _;
}

pub is_path_at-requires : goal.is_path_at-requires
is_path_at-requires c =
    (stands (λ i w. falls-of c.args.self.now.index i (path-within c.args.self.now.index _ _ _ c.requires _ i w)) c.loop-i.invariant _ _ c.in-Some.ensures.steps).within

pub returns-then-is_path_at : goal.returns-then-is_path_at
returns-then-is_path_at c =
    let x = stands (λ i w. falls-of c.args.self.now.index i (path-within c.args.self.now.index _ _ _ c.requires _ i w)) c.loop-i.invariant _ _ c.in-Some.ensures.steps in
    path-found c.args.self.now.index _ _ _ c.requires _ _ x.walk x.some _ c.is_path_at.ensures c.if-is_path_at.true

pub loop-i-preserved : goal.loop-i-preserved
loop-i-preserved c =
    let x = stands (λ i w. falls-of c.args.self.now.index i (path-within c.args.self.now.index _ _ _ c.requires _ i w)) c.loop-i.invariant _ _ c.in-Some.ensures.steps in
    record {
      at = _;
      rest = x.rest;
      walk = (path-on c.args.self.now.index _ _ _ c.requires _ _ x.walk x.some _ c.is_path_at.ensures c.if-is_path_at.false _ refl).0;
    }

pub returns : goal.returns
returns c =
    path-end c.args.self.now.index _ _ _ c.requires _ 0 (going-end (λ i w. falls-of c.args.self.now.index i (path-within c.args.self.now.index _ _ _ c.requires _ i w)) c.loop-i.invariant c.in-None.ensures.steps.0) refl
