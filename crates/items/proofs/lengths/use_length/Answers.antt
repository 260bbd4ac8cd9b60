-- `use_length` meets its contract. Assumes nothing.
use Rattle.std.proofs.Common.{arith, ap, length, length-append}
use Rattle.bundle.specs.Decode.{decode}
use Rattle.bundle.specs.Encode.{string, counted, element}
use Rattle.assembly.specs.Assemble.{file_of}
use Rattle.assembly.specs.Targets.{path_by}
use Rattle.assembly.specs.Walk.{segments_at, elements_at}
use Rattle.items.specs.Uses.{use_form}
use Rattle.items.proofs.lengths.use_length.Goals as goal

pub returns : goal.returns
returns c =
    let s = c.args.unit.now.bytes.now in
    let u = ap length (use_form s c.args.mark (file_of (decode s) c.args.unit.now.id) c.target_of.result c.target_of.ensures.0) in
    let l = length-append (counted string (path_by (segments_at s c.args.mark) c.target_of.result)) (counted element (elements_at s c.args.mark)) in
    let p = c.path_length-path.ensures in
    let q = c.elements_length.ensures in
    (omega arith, omega arith)
