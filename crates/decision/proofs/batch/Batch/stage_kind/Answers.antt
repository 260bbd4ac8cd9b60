use Rattle.std.proofs.Common.{ap, sym, refl, ◌∙◌, arith}
use Rattle.scope_tree.specs.Staging.{Staged, numbered}
use Rattle.decision.specs.BatchLaws.{item-clash, item-put}
use Rattle.decision.proofs.batch.Batch.stage_kind.Goals as goal

pub returns-then-holds-clause-told : goal.returns-then-holds-clause-told
returns-then-holds-clause-told c =
    ap (λ (s : Staged). s.number) (sym (item-clash _ _ _ _ _ _ _ (omega arith) _ _ _ c.in_ok-entry.ensures.told refl c.holds.ensures c.if-holds.true))

pub returns-then-holds-clause-left : goal.returns-then-holds-clause-left
returns-then-holds-clause-left c =
    ap (numbered 0) (sym (item-clash _ _ _ _ _ _ _ (omega arith) _ _ _ c.in_ok-entry.ensures.told refl c.holds.ensures c.if-holds.true))

pub returns-clause-told : goal.returns-clause-told
returns-clause-told c =
    ap (λ (s : Staged). s.number) (sym (item-put _ _ _ _ _ _ _ (omega arith) _ _ _ c.in_ok-entry.ensures.told refl c.holds.ensures c.if-holds.false))

pub returns-clause-left : goal.returns-clause-left
returns-clause-left c =
    c.push.ensures.stored ∙ rw (c.in_ok-entry.ensures.shown.0, c.in_ok-entry.ensures.shown.1)
    (ap (numbered 0) (sym (item-put _ _ _ _ _ _ _ (omega arith) _ _ _ c.in_ok-entry.ensures.told refl c.holds.ensures c.if-holds.false)))

pub returns-clause-fresh : goal.returns-clause-fresh
returns-clause-fresh c = c.push.ensures.fresh _ _ c.requires.fresh
