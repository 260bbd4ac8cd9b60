-- `unit_length` meets its contract. Assumes nothing.
use Rattle.std.proofs.Common.{arith, ap, ◌∙◌, length, length-append}
use Rattle.names.specs.Decimal.{unit_name}
use Rattle.bundle.specs.Decode.{decode}
use Rattle.bundle.specs.Encode.{string}
use Rattle.encoder.specs.Strings.{string-length}
use Rattle.assembly.specs.Assemble.{file_of}
use Rattle.assembly.specs.GivenLaws.{unit_brief, unit-form}
use Rattle.assembly.specs.Walk.{items_bytes}
use Rattle.items.proofs.lengths.unit_length.Goals as goal

pub items_length-n-requires : goal.items_length-n-requires
items_length-n-requires c =
    let u = c.args.unit.now in
    let i = c.items.ensures in
    (omega (arith, i.1), unit_brief u.bytes.now u.fit u.placed c.items.result.end c.items.result.at i.0)

pub returns : goal.returns
returns c =
    let u = c.args.unit.now in
    let s = u.bytes.now in
    let f = ap length (unit-form s u.id c.items.result.end c.items.result.at c.items.ensures.0) in
    let e = ap length (c.as_slice.ensures.value ∙ c.unit_name-name.ensures) in
    let l = string-length (unit_name u.id) in
    let m = c.items_length-n.ensures in
    omega (arith, length-append (string (unit_name u.id)) (items_bytes s (file_of (decode s) u.id) 8 c.items.result.end c.items.result.at))
