-- `write_named` meets its contract: its start, then its length ahead of it. Assumes nothing.
use Rattle.std.proofs.Common.{arith, ap, ◌+◌, length}
use Rattle.bundle.specs.Encode.{string}
use Rattle.encoder.specs.Strings.{text-short}
use Rattle.assembly.specs.Walk.{name-text, visibility-at}
use Rattle.items.specs.Written.{begun_of, by_name, leaf_length, leaf_done}
use Rattle.items.proofs.writing.write_named.Goals as goal

pub put_start-a-requires : goal.put_start-a-requires
put_start-a-requires c =
    let s = c.args.s.now in
    let n = name-text s c.args.at c.item_name.result.now c.requires.0.1 c.item_name.ensures in
    let v = visibility-at s c.args.at c.item_visibility.result c.item_visibility.ensures in
    let b3 = c.type_inv.s (c.args.at + 3) in
    let short = text-short s (λ i. omega (arith, c.type_inv.s i)) (c.args.at + 4) in
    let l = ap length n in
    let ls = ap (λ t. length (string t)) n in
    let f = c.requires.1.1.few in
    ((c.requires.1.0, omega arith), (omega arith, omega arith))

pub put_two-requires : goal.put_two-requires
put_two-requires c =
    let s = c.args.s.now in
    let n = name-text s c.args.at c.item_name.result.now c.requires.0.1 c.item_name.ensures in
    let v = visibility-at s c.args.at c.item_visibility.result c.item_visibility.ensures in
    leaf_length (begun_of c.put_start-a.ensures c.requires.1.1) (by_name n v)

pub returns : goal.returns
returns c =
    let s = c.args.s.now in
    let n = name-text s c.args.at c.item_name.result.now c.requires.0.1 c.item_name.ensures in
    let v = visibility-at s c.args.at c.item_visibility.result c.item_visibility.ensures in
    leaf_done (begun_of c.put_start-a.ensures c.requires.1.1) (by_name n v) c.put_two.new.out c.put_two.ensures
