-- `forbid_enum_dec`: the items of the unit are told. Assumes nothing.
use Rattle.std.proofs.Common.{arith, sym}
use Rattle.assembly.specs.Walk.{enums_of}
use Rattle.assembly.proofs.enums.forbid_enum_dec.Goals as goal

pub tell_items-requires : goal.tell_items-requires
tell_items-requires c =
    let i = c.items.ensures in
    let e = enums_of c.args.unit.now.bytes.now 8 c.items.result.end c.items.result.at _ i.0 in
    (omega (arith, i.1), rw e c.requires)

pub returns : goal.returns
returns c = rw (sym (enums_of c.args.unit.now.bytes.now 8 c.items.result.end c.items.result.at _ c.items.ensures.0)) c.tell_items.ensures
