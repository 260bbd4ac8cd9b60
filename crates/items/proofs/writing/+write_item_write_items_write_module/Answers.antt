-- `write_item`, `write_items` and `write_module` meet their contracts: each kind of item, a module's items behind its start, and the loop that writes items one after the other. Assumes nothing.
use Rattle.std.proofs.Common.{arith, ap, subst, ◌+◌, ◌-◌, List, ℕ, length}
use mathlib.Core.Path.{refl}
use Rattle.std.specs.List.{flat_map}
use Rattle.bundle.specs.Kinds.{use_byte, module_byte, ignored_byte}
use Rattle.bundle.specs.Decode.{decode}
use Rattle.bundle.specs.Encode.{string}
use Rattle.encoder.specs.Strings.{text-short}
use Rattle.encoder.specs.Parts.{none_filled}
use Rattle.assembly.specs.Assemble.{file_of}
use Rattle.assembly.specs.Walk.{item_bytes, items_bytes, every-cons, bytes-places, brief_places, named_at, has_name, module_name, name-text, visibility-at, ignored-bytes, use_bytes_lem, named-bytes, flat-bytes, module_bytes, module-room, brief_use, brief_known, brief_inside}
use Rattle.items.specs.Written.{Fits, begun_of, by_name_inside, inside-fits, inside-length, inside-done, writing_first, writing-fits, writing-next}
use Rattle.items.proofs.writing.+write_item_write_items_write_module.Goals as goal

pub write_item-write_use-requires : goal.write_item-write_use-requires
write_item-write_use-requires t c =
    let s = c.args.unit.now.bytes.now in
    let b = use_byte c.kind.ensures.byte c.in-Use.is in
    let e = ap length (use_bytes_lem s c.args.at (file_of (decode s) c.args.unit.now.id) c.args.depth b) in
    let f = c.requires.1.1 in
    let few = f.few in
    let short = f.short in
    ((record { kind = b; small = omega (arith, c.requires.0) }, brief_known _ s c.args.at c.args.depth c.requires.1.0 b), (brief_use _ s c.args.at c.args.depth c.requires.1.0 b, (omega arith, omega arith)))

pub write_item-write_named-requires : goal.write_item-write_named-requires
write_item-write_named-requires t c =
    let s = c.args.unit.now.bytes.now in
    let n = named_at c.kind.ensures.byte c.in-Named.is in
    let k = n.is in
    let b = c.args.unit.now.fit (c.args.at + 2) in
    rw c.from.ensures
    ((omega (arith, c.requires.0), has_name n), (omega arith, subst (λ (l : List ℕ). Fits l c.args.out.now) (named-bytes s c.args.at (file_of (decode s) c.args.unit.now.id) c.args.depth _ n) c.requires.1.1))

pub write_item-write_module-requires : goal.write_item-write_module-requires
write_item-write_module-requires t c =
    (rw (← c.decreases) (omega arith), ((c.requires.0, module_byte c.kind.ensures.byte c.in-Module.is), c.requires.1))

pub write_item-returns-in-Ignored : goal.write_item-returns-in-Ignored
write_item-returns-in-Ignored t c =
    let s = c.args.unit.now.bytes.now in
    none_filled _ c.args.out.now (ignored-bytes s c.args.at (file_of (decode s) c.args.unit.now.id) c.args.depth (ignored_byte c.kind.ensures.byte c.in-Ignored.is))

pub write_item-returns-in-Use : goal.write_item-returns-in-Use
write_item-returns-in-Use t c =
    let s = c.args.unit.now.bytes.now in
    let e = use_bytes_lem s c.args.at (file_of (decode s) c.args.unit.now.id) c.args.depth (use_byte c.kind.ensures.byte c.in-Use.is) in
    let n = ap length e in
    let r = c.write_use.ensures.0 in
    (omega arith, rw e c.write_use.ensures.1)

pub write_item-returns-in-Named : goal.write_item-returns-in-Named
write_item-returns-in-Named t c =
    let s = c.args.unit.now.bytes.now in
    rw (named-bytes s c.args.at (file_of (decode s) c.args.unit.now.id) c.args.depth _ (named_at c.kind.ensures.byte c.in-Named.is))
    (rw c.from.ensures at c.write_named.ensures)

pub write_items-loop-at-init : goal.write_items-loop-at-init
write_items-loop-at-init t c =
    let s = c.args.unit.now.bytes.now in
    let file = file_of (decode s) c.args.unit.now.id in
    rw (c.into_iter-at-iterator.ensures.into_iter_gives, c.of-at-items.ensures, ← bytes-places s file c.args.depth c.args.items.end c.args.items.at)
    (writing_first c.requires.1.1, brief_places _ s c.args.depth c.args.items.end c.args.items.at c.requires.1.0)

pub write_items-write_item-sum-requires : goal.write_items-write_item-sum-requires
write_items-write_item-sum-requires t c =
    let s = c.args.unit.now.bytes.now in
    let one = item_bytes s (file_of (decode s) c.args.unit.now.id) c.args.depth in
    let i = rw c.in-Some.ensures.steps at c.loop-at.invariant in
    let h = (every-cons _ _ _ i.1).0 in
    let l = h.0 in
    (rw (← c.decreases) (omega arith), (omega (arith, c.requires.0), (h.1, writing-fits i.0 (one c.in-Some.at) (flat_map one c.next.new.self) refl)))

pub write_items-loop-at-preserved : goal.write_items-loop-at-preserved
write_items-loop-at-preserved t c =
    let s = c.args.unit.now.bytes.now in
    let one = item_bytes s (file_of (decode s) c.args.unit.now.id) c.args.depth in
    let i = rw c.in-Some.ensures.steps at c.loop-at.invariant in
    (writing-next i.0 (one c.in-Some.at) (flat_map one c.next.new.self) refl c.write_item-sum.new.out c.write_item-sum.result c.write_item-sum.ensures, (every-cons _ _ _ i.1).1)

pub write_module-write_named-requires : goal.write_module-write_named-requires
write_module-write_named-requires t c =
    let s = c.args.unit.now.bytes.now in
    ((omega (arith, c.requires.0.0), module_name c.requires.0.1), (omega arith, subst (λ (l : List ℕ). Fits l c.args.out.now) (flat-bytes s c.args.at c.requires.0.1 (file_of (decode s) c.args.unit.now.id) c.args.depth c.if-depth-eq0.true) c.requires.1.1))

pub write_module-returns-then-depth-eq0 : goal.write_module-returns-then-depth-eq0
write_module-returns-then-depth-eq0 t c =
    let s = c.args.unit.now.bytes.now in
    rw (flat-bytes s c.args.at c.requires.0.1 (file_of (decode s) c.args.unit.now.id) c.args.depth c.if-depth-eq0.true) c.write_named.ensures

pub write_module-put_start-a-requires : goal.write_module-put_start-a-requires
write_module-put_start-a-requires t c =
    let s = c.args.unit.now.bytes.now in
    let n = name-text s c.args.at c.item_name.result.now (module_name c.requires.0.1) c.item_name.ensures in
    let v = visibility-at s c.args.at c.item_visibility.result c.item_visibility.ensures in
    let b3 = c.args.unit.now.fit (c.args.at + 3) in
    let short = text-short s c.args.unit.now.fit (c.args.at + 4) in
    let l = ap length n in
    let ls = ap (λ t. length (string t)) n in
    let r = module-room s c.args.at c.requires.0.1 (file_of (decode s) c.args.unit.now.id) c.args.depth in
    let few = c.requires.1.1.few in
    ((omega arith, omega arith), (omega arith, omega arith))

pub write_module-write_items-requires : goal.write_module-write_items-requires
write_module-write_items-requires t c =
    let s = c.args.unit.now.bytes.now in
    let file = file_of (decode s) c.args.unit.now.id in
    let inner = c.module_items-inner in
    let x = items_bytes s file (c.args.depth - 1) inner.result.end inner.result.at in
    let n = name-text s c.args.at c.item_name.result.now (module_name c.requires.0.1) c.item_name.ensures in
    let v = visibility-at s c.args.at c.item_visibility.result c.item_visibility.ensures in
    let form = by_name_inside x n v (module_bytes s c.args.at c.requires.0.1 file c.args.depth inner.result.end inner.result.at (omega arith) inner.ensures.0) in (
      rw (← c.decreases) (omega arith),
      (
        omega (arith, c.requires.0.0, inner.ensures.1),
        (
          brief_inside _ s c.args.at c.args.depth c.requires.1.0 inner.result.end inner.result.at c.requires.0.1 (omega arith) inner.ensures.0,
          inside-fits (record { begun = begun_of c.put_start-a.ensures c.requires.1.1; form = form }),
        ),
      ),
    )

pub write_module-put_two-requires : goal.write_module-put_two-requires
write_module-put_two-requires t c =
    let s = c.args.unit.now.bytes.now in
    let file = file_of (decode s) c.args.unit.now.id in
    let inner = c.module_items-inner in
    let x = items_bytes s file (c.args.depth - 1) inner.result.end inner.result.at in
    let n = name-text s c.args.at c.item_name.result.now (module_name c.requires.0.1) c.item_name.ensures in
    let v = visibility-at s c.args.at c.item_visibility.result c.item_visibility.ensures in
    let form = by_name_inside x n v (module_bytes s c.args.at c.requires.0.1 file c.args.depth inner.result.end inner.result.at (omega arith) inner.ensures.0) in
    inside-length (record { begun = begun_of c.put_start-a.ensures c.requires.1.1; form = form }) c.write_items.new.out c.write_items.result c.write_items.ensures

pub write_module-returns : goal.write_module-returns
write_module-returns t c =
    let s = c.args.unit.now.bytes.now in
    let file = file_of (decode s) c.args.unit.now.id in
    let inner = c.module_items-inner in
    let x = items_bytes s file (c.args.depth - 1) inner.result.end inner.result.at in
    let n = name-text s c.args.at c.item_name.result.now (module_name c.requires.0.1) c.item_name.ensures in
    let v = visibility-at s c.args.at c.item_visibility.result c.item_visibility.ensures in
    let form = by_name_inside x n v (module_bytes s c.args.at c.requires.0.1 file c.args.depth inner.result.end inner.result.at (omega arith) inner.ensures.0) in
    inside-done (record { begun = begun_of c.put_start-a.ensures c.requires.1.1; form = form }) c.write_items.new.out c.write_items.result c.write_items.ensures c.put_two.new.out c.put_two.ensures
