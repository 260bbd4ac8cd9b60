-- `tell_items` and `tell_module` meet their contracts. Assumes nothing.
use Rattle.std.proofs.Common.{arith, ap, ◌∙◌, length, inl, inr, ⊎_elim}
use Rattle.bundle.specs.Kinds.{use_byte, module_byte, ignored_byte}
use Rattle.assembly.specs.FaultRoom.{telling-first, telling-room, telling-next, telling-all, told-none}
use Rattle.assembly.specs.Walk.{every-cons, enums-places, places_small, named_at, named-enums, enums_other, enums_flat, enums_inside}
use Rattle.assembly.proofs.enums.+tell_items_tell_module.Goals as goal

pub tell_items-loop-at-init : goal.tell_items-loop-at-init
tell_items-loop-at-init t c =
    let s = c.args.s.now in
    let e = c.into_iter-at-iterator.ensures.into_iter_gives ∙ c.of-at-items.ensures in
    rw e (telling-first _ c.args.faults.now _ _ (enums-places s c.args.depth c.args.items.end c.args.items.at) c.requires.1, places_small s c.args.items.end c.args.items.end (omega arith) c.args.items.at)

pub tell_items-kind-requires : goal.tell_items-kind-requires
tell_items-kind-requires t c = let h = (every-cons _ _ _ ((rw c.in-Some.ensures.steps at c.loop-at.invariant).1)).0 in omega (arith, c.requires.0)

pub tell_items-tell_named-requires : goal.tell_items-tell_named-requires
tell_items-tell_named-requires t c =
    let i = rw c.in-Some.ensures.steps at c.loop-at.invariant in
    let e = named-enums c.args.s.now c.in-Some.at c.args.depth c.in-Named.kind (named_at c.kind.ensures.byte c.in-Named.is) in
    rw e at (telling-room i.0)

pub tell_items-tell_module-requires : goal.tell_items-tell_module-requires
tell_items-tell_module-requires t c =
    let i = rw c.in-Some.ensures.steps at c.loop-at.invariant in
    let h = (every-cons _ _ _ i.1).0 in
    (rw (← c.decreases) (omega arith), ((omega (arith, c.requires.0), module_byte c.kind.ensures.byte c.in-Module.is), telling-room i.0))

pub tell_items-loop-at-preserved-in-Named : goal.tell_items-loop-at-preserved-in-Named
tell_items-loop-at-preserved-in-Named t c =
    let i = rw c.in-Some.ensures.steps at c.loop-at.invariant in
    let e = named-enums c.args.s.now c.in-Some.at c.args.depth c.in-Named.kind (named_at c.kind.ensures.byte c.in-Named.is) in
    (telling-next i.0 _ (rw e c.tell_named.ensures), (every-cons _ _ _ i.1).1)

pub tell_items-loop-at-preserved-in-Module : goal.tell_items-loop-at-preserved-in-Module
tell_items-loop-at-preserved-in-Module t c =
    let i = rw c.in-Some.ensures.steps at c.loop-at.invariant in
    (telling-next i.0 _ c.tell_module.ensures, (every-cons _ _ _ i.1).1)

pub tell_items-loop-at-preserved : goal.tell_items-loop-at-preserved
tell_items-loop-at-preserved t c =
    let i = rw c.in-Some.ensures.steps at c.loop-at.invariant in
    let b = ⊎_elim (λ e. inl (use_byte c.kind.ensures.byte e)) (λ e. inr (ignored_byte c.kind.ensures.byte e)) c.in-Use.is in
    (telling-next i.0 _ (told-none _ _ (enums_other c.args.s.now c.in-Some.at c.args.depth b)), (every-cons _ _ _ i.1).1)

pub tell_items-returns : goal.tell_items-returns
tell_items-returns t c = telling-all _ c.in-None.ensures.steps.0 c.loop-at.invariant.0

pub tell_module-tell_items-requires : goal.tell_module-tell_items-requires
tell_module-tell_items-requires t c =
    let e = ap length (enums_inside c.args.s.now c.args.at c.requires.0.1 c.args.depth _ _ c.if-depth-gt0.true c.module_items.ensures.0) in
    (rw (← c.decreases) (omega arith), (omega (arith, c.requires.0.0, c.module_items.ensures.1), omega (arith, c.requires.1)))

pub tell_module-returns-then-depth-gt0 : goal.tell_module-returns-then-depth-gt0
tell_module-returns-then-depth-gt0 t c = rw (enums_inside c.args.s.now c.args.at c.requires.0.1 c.args.depth _ _ c.if-depth-gt0.true c.module_items.ensures.0) c.tell_items.ensures

pub tell_module-returns-else-depth-gt0 : goal.tell_module-returns-else-depth-gt0
tell_module-returns-else-depth-gt0 t c = told-none _ _ (enums_flat c.args.s.now c.args.at c.requires.0.1 c.args.depth (omega arith))
