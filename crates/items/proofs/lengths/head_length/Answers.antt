-- `head_length` meets its contract. Assumes nothing.
use Rattle.std.proofs.Common.{arith, ap, ◌+◌, length}
use Rattle.bundle.specs.Scan.{text}
use Rattle.encoder.specs.Strings.{text-short, string-length}
use Rattle.assembly.specs.Walk.{name-text}
use Rattle.items.proofs.lengths.head_length.Goals as goal

pub returns : goal.returns
returns c =
    let n = ap length (name-text c.args.s.now c.args.at c.item_name.result.now c.requires.1 c.item_name.ensures) in
    let b = text-short c.args.s.now (λ i. omega (arith, c.type_inv.s i)) (c.args.at + 4) in
    let l = string-length (text c.args.s.now (c.args.at + 4)) in
    (omega arith, omega arith)
