-- `write_use` meets its contract: what is behind the head, then the head. Assumes nothing.
use Rattle.std.proofs.Common.{arith, ◌+◌}
use Rattle.bundle.specs.Decode.{decode}
use Rattle.assembly.specs.Assemble.{file_of}
use Rattle.assembly.specs.Walk.{use_bytes, visibility-at}
use Rattle.items.specs.Written.{behind-long, head_done}
use Rattle.items.proofs.writing.write_use.Goals as goal

pub put_head-requires : goal.put_head-requires
put_head-requires c =
    let s = c.args.unit.now.bytes.now in
    let v = visibility-at s c.args.at c.item_visibility.result c.item_visibility.ensures in
    let b = c.args.unit.now.fit (c.args.at + 3) in
    let l = behind-long (use_bytes s (file_of (decode s) c.args.unit.now.id) c.args.at) c.args.out.now c.rewrite_use-n.new.out c.rewrite_use-n.result c.rewrite_use-n.ensures c.requires.1.1.0 in
    let r = c.rewrite_use-n.ensures.0 in
    (omega arith, (omega arith, (omega arith, omega arith)))

pub returns : goal.returns
returns c =
    let s = c.args.unit.now.bytes.now in
    head_done (use_bytes s (file_of (decode s) c.args.unit.now.id) c.args.at) c.args.out.now c.rewrite_use-n.new.out c.rewrite_use-n.result c.rewrite_use-n.ensures c.requires.1.1.0
    3 c.item_visibility.result _ (visibility-at s c.args.at c.item_visibility.result c.item_visibility.ensures) c.put_head.new.out c.put_head.ensures
