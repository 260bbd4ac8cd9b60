-- `walk_item`, `walk_items` and `walk_module` meet their contracts. Assumes nothing.
use Rattle.std.proofs.Common.{arith}
use Rattle.std.proofs.lemmas.Result.{err_from_is_err_and}
use mathlib.Core.Path.{refl}
use Rattle.std.specs.List.{flat_map}
use Rattle.bundle.specs.Kinds.{use_byte, module_byte, ignored_byte}
use Rattle.bundle.specs.Decode.{decode}
use Rattle.assembly.specs.Assemble.{file_of}
use Rattle.assembly.specs.Walk.{every-cons, named_at, module_name}
use Rattle.commit.specs.Lending.{lent_in, kept-after}
use Rattle.scope_walk.specs.Steps.{Walks, stop_at, walks_as, walks_none, item_calls, inside_calls, calls-places, ignored-calls, use_calls, named-calls, module_calls, inside_none, inside_some, plain-places, plain_use, plain-mark, plain-inside, onward_first, onward_next, onward_stop, onward_all, framed_in, framed_inside, framed_all}
use Rattle.scope_walk.proofs.walk.+walk_item_walk_items_walk_module.Goals as goal
use Rattle.scope_walk.proofs.walk.+walk_item_walk_items_walk_module.Goals.{walk_module-then-depth-gt0+in_ok-walk_items, walk_module-else-depth-gt0}

pub walk_item-ask_use-requires : goal.walk_item-ask_use-requires
walk_item-ask_use-requires t c =
    let s = c.args.unit.now.bytes.now in
    let b = use_byte c.kind.ensures.byte c.in-Use.is in
    let p = plain_use _ s c.args.at c.args.depth c.requires.1 b in
    ((record { kind = b; small = omega (arith, c.requires.0) }, p.1), p.0)

pub walk_item-ask_named-requires : goal.walk_item-ask_named-requires
walk_item-ask_named-requires t c =
    let s = c.args.unit.now.bytes.now in
    let n = named_at c.kind.ensures.byte c.in-Named.is in
    (plain-mark _ s c.args.at c.args.depth c.requires.1 n.no_ignored, n)

pub walk_item-walk_module-requires : goal.walk_item-walk_module-requires
walk_item-walk_module-requires t c =
    (rw (← c.decreases) (omega arith), ((c.requires.0, module_byte c.kind.ensures.byte c.in-Module.is), c.requires.1))

pub walk_item-returns-in-Ignored-clause-walked : goal.walk_item-returns-in-Ignored-clause-walked
walk_item-returns-in-Ignored-clause-walked t c =
    let s = c.args.unit.now.bytes.now in
    walks_as (ignored-calls s c.args.at (file_of (decode s) c.args.unit.now.id) c.args.depth (ignored_byte c.kind.ensures.byte c.in-Ignored.is)) (walks_none _ _ refl)

pub walk_item-returns-in-Use-clause-walked : goal.walk_item-returns-in-Use-clause-walked
walk_item-returns-in-Use-clause-walked t c =
    let s = c.args.unit.now.bytes.now in
    walks_as (use_calls s c.args.at (file_of (decode s) c.args.unit.now.id) c.args.depth (use_byte c.kind.ensures.byte c.in-Use.is)) c.ask_use.ensures.walked

pub walk_item-returns-in-Named-clause-walked : goal.walk_item-returns-in-Named-clause-walked
walk_item-returns-in-Named-clause-walked t c =
    let s = c.args.unit.now.bytes.now in
    walks_as (named-calls s c.args.at (file_of (decode s) c.args.unit.now.id) c.args.depth c.in-Named.kind (named_at c.kind.ensures.byte c.in-Named.is)) c.ask_named.ensures.walked

pub walk_items-loop-at-init : goal.walk_items-loop-at-init
walk_items-loop-at-init t c =
    let s = c.args.unit.now.bytes.now in
    let k = c.args.tree.now in
    rw (c.into_iter-at-iterator.ensures.into_iter_gives, c.of-at-items.ensures) (
      (
        record { opened = refl; cells = refl; visible = refl; scopes = refl; marks = refl; n0 = refl; n1 = refl; n2 = refl; n3 = refl },
        onward_first _ (calls-places s (file_of (decode s) c.args.unit.now.id) c.args.depth c.args.items.end c.args.items.at),
      ),
      plain-places _ s c.args.depth c.args.items.end c.args.items.at c.requires.1,
    )

pub walk_items-walk_item-requires : goal.walk_items-walk_item-requires
walk_items-walk_item-requires t c =
    let h = (every-cons _ _ _ ((rw c.in-Some.ensures.steps at c.loop-at.invariant).1)).0 in
    let l = h.0 in
    (rw (← c.decreases) (omega arith), (omega (arith, c.requires.0), h.1))

pub walk_items-loop-at-preserved : goal.walk_items-loop-at-preserved
walk_items-loop-at-preserved t c =
    let s = c.args.unit.now.bytes.now in
    let one = item_calls s (file_of (decode s) c.args.unit.now.id) c.args.depth in
    let i = rw c.in-Some.ensures.steps at c.loop-at.invariant in
    ((kept-after i.0.0 c.in_ok-walk_item.ensures.kept, onward_next (one c.in-Some.at) (flat_map one c.next.new.self) i.0.1 c.in_ok-walk_item.ensures.walked), (every-cons _ _ _ i.1).1)

pub walk_items-returns-in_err-walk_item-clause-walked : goal.walk_items-returns-in_err-walk_item-clause-walked
walk_items-returns-in_err-walk_item-clause-walked t c =
    let s = c.args.unit.now.bytes.now in
    let one = item_calls s (file_of (decode s) c.args.unit.now.id) c.args.depth in
    let i = rw c.in-Some.ensures.steps at c.loop-at.invariant in
    let p = err_from_is_err_and c.from_residual.result c.from_residual.ensures.1 in
    rw (p.1, p.2) (onward_stop (one c.in-Some.at) (flat_map one c.next.new.self) i.0.1 _ c.in_err-walk_item.ensures.walked)

pub walk_items-returns-clause-walked : goal.walk_items-returns-clause-walked
walk_items-returns-clause-walked t c =
    let i = rw c.in-None.ensures.steps.0 at c.loop-at.invariant in
    onward_all _ refl i.0.1

pub walk_module-item_at-requires : goal.walk_module-item_at-requires
walk_module-item_at-requires t c =
    let s = c.args.unit.now.bytes.now in
    let b = c.requires.0.1 in
    (plain-mark _ s c.args.at c.args.depth c.requires.1 (λ e. omega (arith, b, e)), module_name b)

pub walk_module-returns-in_err-ask-clause-walked : goal.walk_module-returns-in_err-ask-clause-walked
walk_module-returns-in_err-ask-clause-walked t c =
    let s = c.args.unit.now.bytes.now in
    let n = c.item_at.ensures in
    let p = err_from_is_err_and c.from_residual.result c.from_residual.ensures.1 in
    rw (p.1, p.2) (walks_as (module_calls s c.args.at (file_of (decode s) c.args.unit.now.id) c.args.depth c.requires.0.1)
    (framed_in c.args.at _ _ _ (rw (n.0, n.1.0, n.1.1) at c.in_err-ask.ensures.walked)))

pub walk_module-walk_items-requires : goal.walk_module-walk_items-requires
walk_module-walk_items-requires t c =
    let s = c.args.unit.now.bytes.now in
    (rw (← c.decreases) (omega arith), (omega (arith, c.requires.0.0, c.module_items.ensures.1), plain-inside _ s c.args.at c.args.depth c.requires.1 c.module_items.result.end c.module_items.result.at c.requires.0.1 c.if-depth-gt0.true c.module_items.ensures.0))

pub walk_module-returns-in_err-walk_items-clause-walked : goal.walk_module-returns-in_err-walk_items-clause-walked
walk_module-returns-in_err-walk_items-clause-walked t c =
    let s = c.args.unit.now.bytes.now in
    let file = file_of (decode s) c.args.unit.now.id in
    let n = c.item_at.ensures in
    let p = err_from_is_err_and c.from_residual-in_err-walk_items.result c.from_residual-in_err-walk_items.ensures.1 in
    let inside = inside_some s c.args.at file c.args.depth c.requires.0.1 c.module_items.result.end c.module_items.result.at c.if-depth-gt0.true c.module_items.ensures.0 in
    rw (p.1, p.2) (walks_as (module_calls s c.args.at file c.args.depth c.requires.0.1)
    (framed_inside c.args.at _ _ (rw (n.0, n.1.0, n.1.1) at c.in_ok-ask.ensures.walked) _ (walks_as inside c.in_err-walk_items.ensures.walked)))

pub walk_module-returns-clause-walked : goal.walk_module-returns-clause-walked
walk_module-returns-clause-walked t c =
    let s = c.args.unit.now.bytes.now in
    let file = file_of (decode s) c.args.unit.now.id in
    let n = c.item_at.ensures in
    let inside : Walks (lent_in c.ask.new.tree) (inside_calls s c.args.at file c.args.depth) (stop_at 0 0) (lent_in c.if-depth-gt0.tree) =
    elim c.if-depth-gt0.branch [
      | walk_module-then-depth-gt0+in_ok-walk_items w ↦
          rw w.tree-is (walks_as (inside_some s c.args.at file c.args.depth c.requires.0.1 w.module_items.result.end w.module_items.result.at w.if-depth-gt0.true w.module_items.ensures.0) w.in_ok-walk_items.ensures.walked)
      | walk_module-else-depth-gt0 w ↦ rw w.tree-is (walks_as (inside_none s c.args.at file c.args.depth c.requires.0.1 (omega (arith, w.if-depth-gt0.false))) (walks_none _ _ refl))
    ] in
    walks_as (module_calls s c.args.at file c.args.depth c.requires.0.1)
    (framed_all c.args.at _ _ (rw (n.0, n.1.0, n.1.1) at c.in_ok-ask.ensures.walked) inside c.ask-2.ensures.walked)
