-- `bundle::bytes::text_at` meets its contract, way by way. Assumes nothing.
use lib.ListN.{get_or-eq_default}
use Rattle.bundle.specs.Steps.{text-cut, text-whole}
use Rattle.bundle.proofs.bytes.text_at.Goals as goal

pub returns-then-s-at : goal.returns-then-s-at
returns-then-s-at c = let z = get_or-eq_default c.args.s.now 0 {n = c.args.at} c.if-s-at.true in rw z

pub returns-then-s-a : goal.returns-then-s-a
returns-then-s-a c =
    text-cut c.args.s.now c.args.at _ c.from-n.ensures c.if-s-a.true

pub returns : goal.returns
returns c =
    text-whole c.args.s.now c.args.at _ c.from-n.ensures
