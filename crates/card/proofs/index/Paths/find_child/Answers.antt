-- `card::index::Paths::find_child` meets its contract. Assumes nothing.
use Rattle.std.proofs.Common.{refl}
use Rattle.card.specs.Card.{hash_steps, find-start, find-end, find-found, find-on}
use Rattle.card.specs.Chains.{falls-of, stands, going-end}
use Rattle.card.proofs.index.Paths.find_child.Goals as goal

pub of-i-items-requires : goal.of-i-items-requires
of-i-items-requires c =
    falls-of c.args.self.now.index _ (find-start c.args.self.now.index c.requires.tree _ c.requires.child.0 _ c.requires.child.1 _ (hash_steps _ _ _ _ _ c.mix-a.ensures _ c.mix-b.ensures _ c.mix-h.ensures) _ c.last_of.ensures).within

pub loop-i-init : goal.loop-i-init
loop-i-init c = record {
  at = _;
  rest = rw c.into_iter-i-iterator.ensures.into_iter_gives c.of-i-items.ensures;
  walk = find-start c.args.self.now.index c.requires.tree _ c.requires.child.0 _ c.requires.child.1 _ (hash_steps _ _ _ _ _ c.mix-a.ensures _ c.mix-b.ensures _ c.mix-h.ensures) _ c.last_of.ensures;
}

pub is_hit-requires : goal.is_hit-requires
is_hit-requires c = (stands (λ i w. falls-of c.args.self.now.index i w.within) c.loop-i.invariant _ _ c.in-Some.ensures.steps).within

pub returns-then-is_hit : goal.returns-then-is_hit
returns-then-is_hit c =
    let x = stands (λ i w. falls-of c.args.self.now.index i w.within) c.loop-i.invariant _ _ c.in-Some.ensures.steps in
    find-found c.args.self.now.index c.requires.tree _ c.requires.child.0 _ c.requires.child.1 _ (hash_steps _ _ _ _ _ c.mix-a.ensures _ c.mix-b.ensures _ c.mix-h.ensures) _ c.cut_of-cut.ensures _ x.walk x.some _ c.is_hit.ensures c.if-is_hit.true

pub loop-i-preserved : goal.loop-i-preserved
loop-i-preserved c =
    let x = stands (λ i w. falls-of c.args.self.now.index i w.within) c.loop-i.invariant _ _ c.in-Some.ensures.steps in
    record {
      at = _;
      rest = x.rest;
      walk = (find-on c.args.self.now.index c.requires.tree _ c.requires.child.0 _ c.requires.child.1 _ (hash_steps _ _ _ _ _ c.mix-a.ensures _ c.mix-b.ensures _ c.mix-h.ensures) _ c.cut_of-cut.ensures _ x.walk x.some _ c.is_hit.ensures c.if-is_hit.false _ refl).0;
    }

pub returns : goal.returns
returns c =
    find-end c.args.self.now.index c.requires.tree _ c.requires.child.0 _ c.requires.child.1 _ (hash_steps _ _ _ _ _ c.mix-a.ensures _ c.mix-b.ensures _ c.mix-h.ensures) _ c.cut_of-cut.ensures 0 (going-end (λ i w. falls-of c.args.self.now.index i w.within) c.loop-i.invariant c.in-None.ensures.steps.0) refl
