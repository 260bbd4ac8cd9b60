-- `write_unit` meets its contract: a module's start, the unit's items behind it, then its length ahead of them. Assumes nothing.
use Rattle.std.proofs.Common.{arith}
use Rattle.bundle.specs.Decode.{decode}
use Rattle.assembly.specs.GivenLaws.{unit_brief, unit-room, unit-form}
use Rattle.items.specs.Written.{begun_of, inside-fits, inside-length, inside-done}
use Rattle.items.proofs.writing.write_unit.Goals as goal

pub put_unit_start-a-requires : goal.put_unit_start-a-requires
put_unit_start-a-requires c =
    let r = unit-room (decode c.args.unit.now.bytes.now) c.args.unit.now.id in
    let f = c.requires.few in
    omega arith

pub write_items-requires : goal.write_items-requires
write_items-requires c =
    let u = c.args.unit.now in
    let i = c.items.ensures in (
      omega (arith, i.1),
      (
        unit_brief u.bytes.now u.fit u.placed c.items.result.end c.items.result.at i.0,
        inside-fits (record { begun = begun_of c.put_unit_start-a.ensures c.requires; form = unit-form u.bytes.now u.id c.items.result.end c.items.result.at i.0 }),
      ),
    )

pub put_two-requires : goal.put_two-requires
put_two-requires c =
    let u = c.args.unit.now in
    inside-length (record { begun = begun_of c.put_unit_start-a.ensures c.requires; form = unit-form u.bytes.now u.id c.items.result.end c.items.result.at c.items.ensures.0 })
    c.write_items.new.out c.write_items.result c.write_items.ensures

pub returns : goal.returns
returns c =
    let u = c.args.unit.now in
    inside-done (record { begun = begun_of c.put_unit_start-a.ensures c.requires; form = unit-form u.bytes.now u.id c.items.result.end c.items.result.at c.items.ensures.0 })
    c.write_items.new.out c.write_items.result c.write_items.ensures c.put_two.new.out c.put_two.ensures
