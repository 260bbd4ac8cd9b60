use Rattle.std.proofs.Common.{arith, sym, ◌∙◌}
use Rattle.std.proofs.Math.Logic.{inl, inr}
use Rattle.scopes_c.specs.Lists.{is_coded, coded_none, order-exit, order_use, order-alias, order-function, order-enter, order_type, order-enum, order_fn, order-none, after_item, after_use, after_get, after_exit, after_none}
use Rattle.scopes_c.proofs.next_call.Goals as goal

pub returns-in-1-clause-call : goal.returns-in-1-clause-call
returns-in-1-clause-call c = order-enter _ _ c.byte-2.ensures c.item_at.ensures c.in-1.is

pub returns-in-1-clause-code : goal.returns-in-1-clause-code
returns-in-1-clause-code c = is_coded _ (sym c.byte-2.ensures ∙ c.in-1.is)

pub returns-in-1-clause-next : goal.returns-in-1-clause-next
returns-in-1-clause-next c = (after_item _ _ c.byte-2.ensures (inl c.in-1.is) (c.from-name.ensures ∙ c.byte.ensures), omega arith)

pub returns-in-3-clause-call : goal.returns-in-3-clause-call
returns-in-3-clause-call c = order_type _ _ c.byte-2.ensures c.item_at-in-3.ensures c.in-3.is

pub returns-in-3-clause-code : goal.returns-in-3-clause-code
returns-in-3-clause-code c = is_coded _ (sym c.byte-2.ensures ∙ c.in-3.is)

pub returns-in-3-clause-next : goal.returns-in-3-clause-next
returns-in-3-clause-next c = (after_item _ _ c.byte-2.ensures (inr (omega arith, omega arith)) (c.from-name.ensures ∙ c.byte.ensures), omega arith)

pub returns-in-4-clause-call : goal.returns-in-4-clause-call
returns-in-4-clause-call c = order-enum _ _ c.byte-2.ensures c.item_at-in-4.ensures c.in-4.is

pub returns-in-4-clause-code : goal.returns-in-4-clause-code
returns-in-4-clause-code c = is_coded _ (sym c.byte-2.ensures ∙ c.in-4.is)

pub returns-in-4-clause-next : goal.returns-in-4-clause-next
returns-in-4-clause-next c = (after_item _ _ c.byte-2.ensures (inr (omega arith, omega arith)) (c.from-name.ensures ∙ c.byte.ensures), omega arith)

pub returns-in-5-clause-call : goal.returns-in-5-clause-call
returns-in-5-clause-call c = order_fn _ _ c.byte-2.ensures c.item_at-in-5.ensures c.in-5.is

pub returns-in-5-clause-code : goal.returns-in-5-clause-code
returns-in-5-clause-code c = is_coded _ (sym c.byte-2.ensures ∙ c.in-5.is)

pub returns-in-5-clause-next : goal.returns-in-5-clause-next
returns-in-5-clause-next c = (after_item _ _ c.byte-2.ensures (inr (omega arith, omega arith)) (c.from-name.ensures ∙ c.byte.ensures), omega arith)

pub returns-in-2-clause-call : goal.returns-in-2-clause-call
returns-in-2-clause-call c = order-exit _ _ c.byte-2.ensures c.in-2.is

pub returns-in-2-clause-code : goal.returns-in-2-clause-code
returns-in-2-clause-code c = is_coded _ (sym c.byte-2.ensures ∙ c.in-2.is)

pub returns-in-2-clause-next : goal.returns-in-2-clause-next
returns-in-2-clause-next c = (after_exit _ _ c.byte-2.ensures c.in-2.is, omega arith)

pub returns-in-6-clause-call : goal.returns-in-6-clause-call
returns-in-6-clause-call c = order_use _ _ c.byte-2.ensures c.in-6.is (c.from-n.ensures ∙ c.pair.ensures) c.part.ensures c.byte-public.ensures

pub returns-in-6-clause-code : goal.returns-in-6-clause-code
returns-in-6-clause-code c = is_coded _ (sym c.byte-2.ensures ∙ c.in-6.is)

pub returns-in-6-clause-next : goal.returns-in-6-clause-next
returns-in-6-clause-next c = (after_use _ _ c.byte-2.ensures c.in-6.is (c.from-n.ensures ∙ c.pair.ensures), omega arith)

pub returns-in-7-clause-call : goal.returns-in-7-clause-call
returns-in-7-clause-call c = order-alias _ _ c.byte-2.ensures c.name_at.ensures c.in-7.is

pub returns-in-7-clause-code : goal.returns-in-7-clause-code
returns-in-7-clause-code c = is_coded _ (sym c.byte-2.ensures ∙ c.in-7.is)

pub returns-in-7-clause-next : goal.returns-in-7-clause-next
returns-in-7-clause-next c = (after_get _ _ c.byte-2.ensures (omega arith, omega arith) (c.from-name.ensures ∙ c.byte.ensures), omega arith)

pub returns-in-8-clause-call : goal.returns-in-8-clause-call
returns-in-8-clause-call c = order-function _ _ c.byte-2.ensures c.name_at-in-8.ensures c.in-8.is

pub returns-in-8-clause-code : goal.returns-in-8-clause-code
returns-in-8-clause-code c = is_coded _ (sym c.byte-2.ensures ∙ c.in-8.is)

pub returns-in-8-clause-next : goal.returns-in-8-clause-next
returns-in-8-clause-next c = (after_get _ _ c.byte-2.ensures (omega arith, omega arith) (c.from-name.ensures ∙ c.byte.ensures), omega arith)

pub returns-in_default-clause-call : goal.returns-in_default-clause-call
returns-in_default-clause-call c = order-none _ _ c.byte-2.ensures (λ e. omega arith) (λ e. omega arith) (λ e. omega arith) (λ e. omega arith) (λ e. omega arith) (λ e. omega arith) (λ e. omega arith) (λ e. omega arith)

pub returns-in_default-clause-code : goal.returns-in_default-clause-code
returns-in_default-clause-code c = coded_none

pub returns-in_default-clause-next : goal.returns-in_default-clause-next
returns-in_default-clause-next c = (after_none _ _ c.byte-2.ensures (λ e. omega arith) (λ e. omega arith) (λ e. omega arith) (λ e. omega arith) (λ e. omega arith) (λ e. omega arith) (λ e. omega arith), omega arith)
