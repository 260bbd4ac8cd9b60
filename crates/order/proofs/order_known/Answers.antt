-- `order_known` meets its contract. Assumes nothing.
use Rattle.std.proofs.Common.{arith, refl, sym}
use Rattle.std.proofs.lemmas.Result.{err_from_is_err_and}
use Rattle.bundle.specs.Stand.{Bytes}
use Rattle.order.specs.Join.{turned_back, ready, answered}
use Rattle.driver.specs.Complete.{carries_all, carries_none}
use Rattle.order.proofs.order_known.Goals as goal

pub returns-in_err-b-clause-value : goal.returns-in_err-b-clause-value
returns-in_err-b-clause-value c =
    let p = err_from_is_err_and c.from_residual.result c.from_residual.ensures.1 in
    rw (p.1, p.2) (turned_back c.args.s.now c.args.out.now _ _ _ (sym c.in_err-b.ensures.tells) refl).0

pub returns-in_err-b-clause-out_after : goal.returns-in_err-b-clause-out_after
returns-in_err-b-clause-out_after c = (turned_back c.args.s.now c.args.out.now _ _ _ (sym c.in_err-b.ensures.tells) refl).1

pub returns-in_err-b-clause-carries : goal.returns-in_err-b-clause-carries
returns-in_err-b-clause-carries c = carries_none _ _ _ _ (sym c.in_err-b.ensures.tells)

pub order_of-requires : goal.order_of-requires
order_of-requires c =
    let bytes : Bytes c.args.s.now = λ i. omega (arith, c.type_inv.s i) in
    ready c.args.s.now bytes (sym c.in_ok-b.ensures.tells) c.discover.result (rw c.in_ok-b.ensures.same at c.discover.ensures.discovers)

pub returns : goal.returns
returns c =
    let bytes : Bytes c.args.s.now = λ i. omega (arith, c.type_inv.s i) in
    let ok = sym c.in_ok-b.ensures.tells in
    let found = rw c.in_ok-b.ensures.same at c.discover.ensures.discovers in
    let kept = rw c.in_ok-b.ensures.same at c.discover.ensures.complete in
    let t = answered c.args.s.now bytes ok c.discover.result found c.args.out.now c.order_of.new.out _ c.order_of.ensures.value c.order_of.ensures.out_after in
    record { value = t.0; out_after = t.1; carries = carries_all _ _ bytes ok kept.0 kept.1 }
