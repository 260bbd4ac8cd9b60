-- `form::items::item` and `form::items::items` meet their contracts: each way through an item, and the loop over siblings. Assumes nothing.
use mathlib.Core.Path.{◌≡◌, sym, ◌∙◌}
use Rattle.std.specs.Prelude.{ℕ, ◌⊎◌}
use Rattle.bundle.specs.declared.kinds.Kind.{Kind}
use Rattle.bundle.specs.declared.kinds.Kind.TheVariants.{Named, Use, Module, Ignored}
use native.Mathlib.Omega.{arith}
use Rattle.std.proofs.Common.{⊎_elim}
use Prim.Native.Nat.{◌+◌}
use Rattle.std.proofs.lemmas.Result.{err_from_is_err_and}
use Rattle.bundle.specs.Kinds.{module_byte, no_module}
use Rattle.bundle.specs.Scan.{scan_item}
use Rattle.bundle.specs.Steps.{head-next, formed-next, string-next}
use Rattle.bundle.specs.Walks.{goes, siblings-next, siblings-fault, siblings-done, head-fault, too_deep, name-fault, enters, leaf_fault, leaf_past}
use Rattle.names.specs.Identifier.{is_identifier}
use Rattle.form.proofs.items.+item_items.Goals as goal

other : {k : Kind} → ((m : ℕ) × (k ≡ Named m)) ⊎ ((k ≡ Use) ⊎ (k ≡ Ignored)) → k ≡ Module → ⊥
other h e = ⊎_elim (λ p. let q = p.1 in cc) (λ f. ⊎_elim (λ q. cc) (λ q. cc) f) h

pub item-returns-in_err-end : goal.item-returns-in_err-end
item-returns-in_err-end t c =
    let p = err_from_is_err_and c.from_residual.result c.from_residual.ensures.1 in
    rw (p.1, p.2) (head-fault c.args.depth c.args.container.now.bytes.now c.args.container.now.end c.args.w.at c.args.w.items c.args.w.uses _ _ (sym c.in_err-end.ensures))

pub item-invariant_of-item : goal.item-invariant_of-item
item-invariant_of-item t c =
    let hd = head-next c.args.container.now.bytes.now c.args.container.now.end c.args.w.at c.args.w.items c.args.w.uses (sym c.in_ok-end.ensures) in
    record { inside = omega (arith, hd.within, c.args.container.now.inside) }

pub item-returns-then-depth-eq0 : goal.item-returns-then-depth-eq0
item-returns-then-depth-eq0 t c =
    rw c.at.ensures (too_deep c.args.depth c.args.container.now.bytes.now c.args.container.now.end c.args.w.at c.args.w.items c.args.w.uses c.in_ok-end.end (sym c.in_ok-end.ensures)
    (module_byte c.kind.ensures.byte c.in-Module.is) c.if-depth-eq0.true)

pub item-returns-in_err-inner-in-Module : goal.item-returns-in_err-inner-in-Module
item-returns-in_err-inner-in-Module t c =
    let p = err_from_is_err_and c.from_residual-in_err-inner-in-Module.result c.from_residual-in_err-inner-in-Module.ensures.1 in
    rw (p.1, p.2) (name-fault c.args.depth c.args.container.now.bytes.now c.args.container.now.end c.args.w.at c.args.w.items c.args.w.uses c.in_ok-end.end (sym c.in_ok-end.ensures) _ _
    (module_byte c.kind.ensures.byte c.in-Module.is) c.if-depth-eq0.false (sym c.in_err-inner-in-Module.ensures))

pub item-items-requires : goal.item-items-requires
item-items-requires t c =
    let hd = head-next c.args.container.now.bytes.now c.args.container.now.end c.args.w.at c.args.w.items c.args.w.uses (sym c.in_ok-end.ensures) in
    let n = formed-next c.args.container.now.bytes.now c.in_ok-end.end (c.args.w.at + 4) is_identifier 5 (sym c.in_ok-inner-in-Module.ensures) in
    let b = string-next c.args.container.now.bytes.now c.in_ok-end.end (c.args.w.at + 4) n.0 in
    (omega arith, (b.2, (omega (arith, hd.count_small), c.requires.1.1)))

pub item-returns-in_ok-inner-in-Module : goal.item-returns-in_ok-inner-in-Module
item-returns-in_ok-inner-in-Module t c =
    c.items.ensures ∙ enters c.args.depth c.args.container.now.bytes.now c.args.container.now.end c.args.w.at c.args.w.items c.args.w.uses c.in_ok-end.end (sym c.in_ok-end.ensures) _
    (module_byte c.kind.ensures.byte c.in-Module.is) c.if-depth-eq0.false (sym c.in_ok-inner-in-Module.ensures)

pub item-invariant_of-item-in-Named : goal.item-invariant_of-item-in-Named
item-invariant_of-item-in-Named t c =
    let hd = head-next c.args.container.now.bytes.now c.args.container.now.end c.args.w.at c.args.w.items c.args.w.uses (sym c.in_ok-end.ensures) in
    record { inside = omega (arith, hd.within, c.args.container.now.inside) }

pub item-leaf_end-requires : goal.item-leaf_end-requires
item-leaf_end-requires t c =
    let hd = head-next c.args.container.now.bytes.now c.args.container.now.end c.args.w.at c.args.w.items c.args.w.uses (sym c.in_ok-end.ensures) in
    hd.long

pub item-returns-in_err-past-in-Named : goal.item-returns-in_err-past-in-Named
item-returns-in_err-past-in-Named t c =
    let p = err_from_is_err_and c.from_residual-in_err-past-in-Named.result c.from_residual-in_err-past-in-Named.ensures.1 in
    rw (p.1, p.2) (leaf_fault c.args.depth c.args.container.now.bytes.now c.args.container.now.end c.args.w.at c.args.w.items c.args.w.uses c.in_ok-end.end (sym c.in_ok-end.ensures) _ _
    (no_module c.kind.ensures.byte (other c.in-Named.is)) (sym c.in_err-past-in-Named.ensures))

pub item-returns-in_ok-past-in-Named : goal.item-returns-in_ok-past-in-Named
item-returns-in_ok-past-in-Named t c =
    rw c.uses_after.ensures (leaf_past c.args.depth c.args.container.now.bytes.now c.args.container.now.end c.args.w.at c.args.w.items c.args.w.uses c.in_ok-end.end (sym c.in_ok-end.ensures) _
    (no_module c.kind.ensures.byte (other c.in-Named.is)) (sym c.in_ok-past-in-Named.ensures))

pub items-returns-in_err-x : goal.items-returns-in_err-x
items-returns-in_err-x t c =
    let p = err_from_is_err_and c.from_residual.result c.from_residual.ensures.1 in
    rw (p.1, p.2) (sym (siblings-fault (scan_item c.args.depth c.args.container.now.bytes.now c.args.container.now.end) c.args.container.now.end (goes c.args.depth c.args.container.now.bytes.now c.args.container.now.end) c.loop-x.x.at c.loop-x.x.items c.loop-x.x.uses _ _ c.loop-x-test.true (sym c.in_err-x.ensures)) ∙ c.loop-x.invariant.1)

pub items-loop-x-smaller : goal.items-loop-x-smaller
items-loop-x-smaller t c =
    let w = goes c.args.depth c.args.container.now.bytes.now c.args.container.now.end c.loop-x.x.at c.loop-x.x.items c.loop-x.x.uses c.in_ok-x.x.at c.in_ok-x.x.items c.in_ok-x.x.uses (sym c.in_ok-x.ensures) in
    omega (arith, w.from, w.to, c.loop-x-test.true)

pub items-loop-x-preserved : goal.items-loop-x-preserved
items-loop-x-preserved t c =
    let w = goes c.args.depth c.args.container.now.bytes.now c.args.container.now.end c.loop-x.x.at c.loop-x.x.items c.loop-x.x.uses c.in_ok-x.x.at c.in_ok-x.x.items c.in_ok-x.x.uses (sym c.in_ok-x.ensures) in (
      (w.to, w.count, w.uses),
      sym (siblings-next (scan_item c.args.depth c.args.container.now.bytes.now c.args.container.now.end) c.args.container.now.end (goes c.args.depth c.args.container.now.bytes.now c.args.container.now.end) c.loop-x.x.at c.loop-x.x.items c.loop-x.x.uses c.in_ok-x.x.at c.in_ok-x.x.items c.in_ok-x.x.uses c.loop-x-test.true (sym c.in_ok-x.ensures)) ∙ c.loop-x.invariant.1,
    )

pub items-returns : goal.items-returns
items-returns t c =
    sym (siblings-done (scan_item c.args.depth c.args.container.now.bytes.now c.args.container.now.end) c.args.container.now.end (goes c.args.depth c.args.container.now.bytes.now c.args.container.now.end) c.loop-x.x.at c.loop-x.x.items c.loop-x.x.uses c.loop-x-test.false) ∙ c.loop-x.invariant.1
