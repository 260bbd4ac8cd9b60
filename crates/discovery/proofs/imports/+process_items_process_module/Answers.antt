-- The walk over items meets its contract. Assumes nothing.
use Rattle.std.proofs.Common.{ap, arith, length}
use Rattle.bundle.specs.Kinds.{module_byte}
use Rattle.discovery.specs.Walk.{gathered_none, gathered_use, so_far-none, so_far-before, so_far-room, so_far-next, so_far-all, use_mark, use_item, other_item, module_flat, module_deep}
use Rattle.discovery.proofs.imports.+process_items_process_module.Goals as goal

pub process_items-loop-at-init : goal.process_items-loop-at-init
process_items-loop-at-init t c =
    rw (c.into_iter-at-iterator.ensures.into_iter_gives, c.of-at-items.ensures) (so_far-none c.args.depth c.args.s.now c.args.uses.now c.args.items.end c.args.items.at c.requires.1)

pub process_items-kind-requires : goal.process_items-kind-requires
process_items-kind-requires t c = let before = so_far-before c.loop-at.invariant c.in-Some.ensures.steps in omega arith

pub process_items-push-requires : goal.process_items-push-requires
process_items-push-requires t c =
    let e = ap length (use_item c.args.depth c.args.s.now c.in-Some.at c.kind.ensures.byte c.in-Use.is) in
    let r = so_far-room c.loop-at.invariant c.in-Some.ensures.steps in
    omega arith

pub process_items-process_module-requires : goal.process_items-process_module-requires
process_items-process_module-requires t c =
    let before = so_far-before c.loop-at.invariant c.in-Some.ensures.steps in (
      rw (← c.decreases) (omega arith),
      (omega arith, (so_far-room c.loop-at.invariant c.in-Some.ensures.steps, module_byte c.kind.ensures.byte c.in-Module.is)),
    )

pub process_items-loop-at-preserved-in-Use : goal.process_items-loop-at-preserved-in-Use
process_items-loop-at-preserved-in-Use t c =
    let before = so_far-before c.loop-at.invariant c.in-Some.ensures.steps in
    let mark = use_mark c.args.depth c.args.s.now c.in-Some.at c.kind.ensures.byte c.in-Use.is (omega arith) in
    rw c.push.ensures (so_far-next c.loop-at.invariant c.in-Some.ensures.steps
    (rw (use_item c.args.depth c.args.s.now c.in-Some.at c.kind.ensures.byte c.in-Use.is) (gathered_use c.args.s.now c.loop-at.uses c.in-Some.at mark)))

pub process_items-loop-at-preserved-in-Module : goal.process_items-loop-at-preserved-in-Module
process_items-loop-at-preserved-in-Module t c = so_far-next c.loop-at.invariant c.in-Some.ensures.steps c.process_module.ensures

pub process_items-loop-at-preserved : goal.process_items-loop-at-preserved
process_items-loop-at-preserved t c =
    so_far-next c.loop-at.invariant c.in-Some.ensures.steps (rw (other_item c.args.depth c.args.s.now c.in-Some.at c.kind.ensures.byte c.in-Named.is) (gathered_none _ _))

pub process_items-returns : goal.process_items-returns
process_items-returns t c = so_far-all c.loop-at.invariant c.in-None.ensures.steps.0

pub process_module-process_items-requires : goal.process_module-process_items-requires
process_module-process_items-requires t c =
    let e = module_deep _ _ _ c.requires.1.1 _ _ c.if-depth-gt0.true c.module_items.ensures.0 in
    (rw (← c.decreases) (omega arith), (omega arith, rw e at c.requires.1.0))

pub process_module-returns-then-depth-gt0 : goal.process_module-returns-then-depth-gt0
process_module-returns-then-depth-gt0 t c = rw (module_deep _ _ _ c.requires.1.1 _ _ c.if-depth-gt0.true c.module_items.ensures.0) c.process_items.ensures

pub process_module-returns-else-depth-gt0 : goal.process_module-returns-else-depth-gt0
process_module-returns-else-depth-gt0 t c = rw (module_flat c.args.depth c.args.s.now c.args.at c.requires.1.1 (omega arith)) (gathered_none _ _)
