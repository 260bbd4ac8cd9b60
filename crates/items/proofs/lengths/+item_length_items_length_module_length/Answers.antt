-- `item_length`, `items_length` and `module_length` meet their contracts: each kind of item, and the loop that counts the items one after the other. Assumes nothing.
use Rattle.std.proofs.Common.{arith, ap, ◌+◌, ◌-◌, length, length-append}
use mathlib.Core.Path.{refl}
use Rattle.std.specs.List.{flat_map}
use Rattle.bundle.specs.Kinds.{use_byte, module_byte, ignored_byte}
use Rattle.bundle.specs.Decode.{decode}
use Rattle.bundle.specs.Scan.{text}
use Rattle.bundle.specs.Encode.{string}
use Rattle.encoder.specs.Parts.{counted_none, counted-more, counted-all}
use Rattle.assembly.specs.Image.{length_cap}
use Rattle.assembly.specs.Assemble.{file_of}
use Rattle.assembly.specs.Walk.{item_bytes, items_bytes, every-cons, bytes-places, brief_places, named_at, has_name, ignored-bytes, use_bytes_lem, named-bytes, flat-bytes, module_bytes, brief_known, brief_inside}
use Rattle.items.proofs.lengths.+item_length_items_length_module_length.Goals as goal

pub item_length-use_length-requires : goal.item_length-use_length-requires
item_length-use_length-requires t c =
    let s = c.args.unit.now.bytes.now in
    let b = use_byte c.kind.ensures.byte c.in-Use.is in
    (record { kind = b; small = omega (arith, c.requires.0) }, brief_known _ s c.args.at c.args.depth c.requires.1 b)

pub item_length-head_length-requires : goal.item_length-head_length-requires
item_length-head_length-requires t c =
    (omega (arith, c.requires.0), has_name (named_at c.kind.ensures.byte c.in-Named.is))

pub item_length-module_length-requires : goal.item_length-module_length-requires
item_length-module_length-requires t c =
    (rw (← c.decreases) (omega arith), ((c.requires.0, module_byte c.kind.ensures.byte c.in-Module.is), c.requires.1))

pub item_length-returns-in-Ignored : goal.item_length-returns-in-Ignored
item_length-returns-in-Ignored t c =
    let s = c.args.unit.now.bytes.now in
    let e = ap length (ignored-bytes s c.args.at (file_of (decode s) c.args.unit.now.id) c.args.depth (ignored_byte c.kind.ensures.byte c.in-Ignored.is)) in
    omega arith

pub item_length-returns-in-Use : goal.item_length-returns-in-Use
item_length-returns-in-Use t c =
    let s = c.args.unit.now.bytes.now in
    let e = ap length (use_bytes_lem s c.args.at (file_of (decode s) c.args.unit.now.id) c.args.depth (use_byte c.kind.ensures.byte c.in-Use.is)) in
    let u = c.use_length.ensures in
    omega arith

pub item_length-returns-in-Named : goal.item_length-returns-in-Named
item_length-returns-in-Named t c =
    let s = c.args.unit.now.bytes.now in
    let e = ap length (named-bytes s c.args.at (file_of (decode s) c.args.unit.now.id) c.args.depth _ (named_at c.kind.ensures.byte c.in-Named.is)) in
    let u = c.head_length.ensures in
    omega arith

pub items_length-loop-at-init : goal.items_length-loop-at-init
items_length-loop-at-init t c =
    let s = c.args.unit.now.bytes.now in
    let file = file_of (decode s) c.args.unit.now.id in
    rw (c.into_iter-at-iterator.ensures.into_iter_gives, c.of-at-items.ensures, ← bytes-places s file c.args.depth c.args.items.end c.args.items.at)
    (counted_none _ length_cap, brief_places _ s c.args.depth c.args.items.end c.args.items.at c.requires.1)

pub items_length-item_length-n-requires : goal.items_length-item_length-n-requires
items_length-item_length-n-requires t c =
    let h = (every-cons _ _ _ ((rw c.in-Some.ensures.steps at c.loop-at.invariant).1)).0 in
    let l = h.0 in
    (rw (← c.decreases) (omega arith), (omega (arith, c.requires.0), h.1))

pub items_length-loop-at-preserved : goal.items_length-loop-at-preserved
items_length-loop-at-preserved t c =
    let s = c.args.unit.now.bytes.now in
    let one = item_bytes s (file_of (decode s) c.args.unit.now.id) c.args.depth in
    let i = rw c.in-Some.ensures.steps at c.loop-at.invariant in
    (counted-more _ _ _ _ i.0 (one c.in-Some.at) (flat_map one c.next.new.self) c.item_length-n.result _ refl c.item_length-n.ensures c.min-sum.ensures, (every-cons _ _ _ i.1).1)

pub items_length-returns : goal.items_length-returns
items_length-returns t c =
    let i = rw c.in-None.ensures.steps.0 at c.loop-at.invariant in
    counted-all _ _ _ _ i.0 refl

pub module_length-returns-then-depth-eq0 : goal.module_length-returns-then-depth-eq0
module_length-returns-then-depth-eq0 t c =
    let s = c.args.unit.now.bytes.now in
    let e = ap length (flat-bytes s c.args.at c.requires.0.1 (file_of (decode s) c.args.unit.now.id) c.args.depth c.if-depth-eq0.true) in
    let u = c.head_length-head.ensures in
    omega arith

pub module_length-items_length-n-requires : goal.module_length-items_length-n-requires
module_length-items_length-n-requires t c =
    let s = c.args.unit.now.bytes.now in
    let inner = c.module_items.ensures in
    (rw (← c.decreases) (omega arith), (omega (arith, c.requires.0.0, inner.1), brief_inside _ s c.args.at c.args.depth c.requires.1 c.module_items.result.end c.module_items.result.at c.requires.0.1 (omega arith) inner.0))

pub module_length-returns : goal.module_length-returns
module_length-returns t c =
    let s = c.args.unit.now.bytes.now in
    let file = file_of (decode s) c.args.unit.now.id in
    let x = items_bytes s file (c.args.depth - 1) c.module_items.result.end c.module_items.result.at in
    let e = ap length (module_bytes s c.args.at c.requires.0.1 file c.args.depth c.module_items.result.end c.module_items.result.at (omega arith) c.module_items.ensures.0) in
    let u = c.head_length-head.ensures in
    let n = c.items_length-n.ensures in
    omega (arith, length-append (string (text s (c.args.at + 4))) x)
