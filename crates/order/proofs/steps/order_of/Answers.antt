-- `order::steps::order_of` meets its contract. Assumes nothing.
use native.Mathlib.Omega.{arith}
use Rattle.std.proofs.Common.{rules, refl, ◌∙◌}
use Rattle.std.proofs.lemmas.Result.{err_from_is_err_and}
use Rattle.std.specs.Prelude.{◌≡◌, length}
use Rattle.bundle.specs.Limits.{file_limit, use_limit}
use Rattle.graph.specs.ToldTheorems.{refusal-told}
use Rattle.order.specs.Steps.{given_of, units-few, some-units, told-faults, told-order, told-ring}
use Rattle.order.proofs.steps.order_of.Goals as goal

pub returns-in_err-n-clause-value : goal.returns-in_err-n-clause-value
returns-in_err-n-clause-value c =
    let wide : length c.args.g.faults ≡ use_limit = search (rules, c.well_formed) in
    let few = c.requires.few in
    let p = err_from_is_err_and c.from_residual.result c.from_residual.ensures.1 in
    rw (p.1, p.2) (told-faults c.args.g c.requires c.args.out.now _ _ _ (omega arith) (omega arith) c.in_err-n.ensures.value refl c.in_err-n.ensures.out_after).0

pub returns-in_err-n-clause-out_after : goal.returns-in_err-n-clause-out_after
returns-in_err-n-clause-out_after c =
    let wide : length c.args.g.faults ≡ use_limit = search (rules, c.well_formed) in
    let few = c.requires.few in
    (told-faults c.args.g c.requires c.args.out.now _ _ _ (omega arith) (omega arith) c.in_err-n.ensures.value refl c.in_err-n.ensures.out_after).1

pub returns-then-g-gt0-clause-value : goal.returns-then-g-gt0-clause-value
returns-then-g-gt0-clause-value c =
    let wide : length c.args.g.faults ≡ use_limit = search (rules, c.well_formed) in
    let few = c.requires.few in
    (told-faults c.args.g c.requires c.args.out.now _ _ _ (omega arith) (omega arith) c.in_ok-n.ensures.value refl c.in_ok-n.ensures.out_after).0

pub returns-then-g-gt0-clause-out_after : goal.returns-then-g-gt0-clause-out_after
returns-then-g-gt0-clause-out_after c =
    let wide : length c.args.g.faults ≡ use_limit = search (rules, c.well_formed) in
    let few = c.requires.few in
    (told-faults c.args.g c.requires c.args.out.now _ _ _ (omega arith) (omega arith) c.in_ok-n.ensures.value refl c.in_ok-n.ensures.out_after).1

pub linked-requires : goal.linked-requires
linked-requires c =
    let zf : length c.args.g.files ≡ file_limit = search (rules, c.well_formed) in
    let few = units-few c.args.g c.requires in
    (some-units c.args.g c.requires, few, omega arith)

pub unreachable-requires : goal.unreachable-requires
unreachable-requires c = refusal-told (given_of c.args.g) c.requires.sound _ (rw c.in-Refused.is at c.in-Err.ensures)

pub returns-in-Ok-clause-value : goal.returns-in-Ok-clause-value
returns-in-Ok-clause-value c =
    (told-order c.args.g c.requires c.args.out.now _ (omega arith) c.in-Ok.order c.in-Ok.ensures (rw c.padded.ensures at c.linked.ensures)).0

pub returns-in-Ok-clause-out_after : goal.returns-in-Ok-clause-out_after
returns-in-Ok-clause-out_after c =
    (told-order c.args.g c.requires c.args.out.now _ (omega arith) c.in-Ok.order c.in-Ok.ensures (rw c.padded.ensures at c.linked.ensures)).1

pub returns-in_err-n-in-Ring-clause-value : goal.returns-in_err-n-in-Ring-clause-value
returns-in_err-n-in-Ring-clause-value c =
    let ids : c.as_slice.result.now ≡ c.in-Ring.ring = c.as_slice.ensures.value in
    let p = err_from_is_err_and c.from_residual-in_err-n-in-Ring.result c.from_residual-in_err-n-in-Ring.ensures.1 in
    rw (p.1, p.2)
    (told-ring c.args.g c.requires c.args.out.now _ (omega arith) c.in-Ring.ring _ _ (rw c.in-Ring.is at c.in-Err.ensures)
    (rw ids at c.in_err-n-in-Ring.ensures.value) refl (rw ids at c.in_err-n-in-Ring.ensures.out_after)).0

pub returns-in_err-n-in-Ring-clause-out_after : goal.returns-in_err-n-in-Ring-clause-out_after
returns-in_err-n-in-Ring-clause-out_after c =
    let ids : c.as_slice.result.now ≡ c.in-Ring.ring = c.as_slice.ensures.value in
    (told-ring c.args.g c.requires c.args.out.now _ (omega arith) c.in-Ring.ring _ _ (rw c.in-Ring.is at c.in-Err.ensures)
    (rw ids at c.in_err-n-in-Ring.ensures.value) refl (rw ids at c.in_err-n-in-Ring.ensures.out_after)).1

pub returns-in_ok-n-in-Ring-clause-value : goal.returns-in_ok-n-in-Ring-clause-value
returns-in_ok-n-in-Ring-clause-value c =
    let ids : c.as_slice.result.now ≡ c.in-Ring.ring = c.as_slice.ensures.value in
    (told-ring c.args.g c.requires c.args.out.now _ (omega arith) c.in-Ring.ring _ _ (rw c.in-Ring.is at c.in-Err.ensures)
    (rw ids at c.in_ok-n-in-Ring.ensures.value) refl (rw ids at c.in_ok-n-in-Ring.ensures.out_after)).0

pub returns-in_ok-n-in-Ring-clause-out_after : goal.returns-in_ok-n-in-Ring-clause-out_after
returns-in_ok-n-in-Ring-clause-out_after c =
    let ids : c.as_slice.result.now ≡ c.in-Ring.ring = c.as_slice.ensures.value in
    (told-ring c.args.g c.requires c.args.out.now _ (omega arith) c.in-Ring.ring _ _ (rw c.in-Ring.is at c.in-Err.ensures)
    (rw ids at c.in_ok-n-in-Ring.ensures.value) refl (rw ids at c.in_ok-n-in-Ring.ensures.out_after)).1
