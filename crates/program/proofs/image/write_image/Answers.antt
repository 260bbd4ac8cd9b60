-- `write_image` meets its contract. Assumes nothing.
use Rattle.std.proofs.Common.{arith}
use mathlib.Core.Path.{refl}
use Rattle.bundle.specs.Decode.{decode}
use Rattle.items.specs.WholeImage.{too_long, too_small, all-written}
use Rattle.program.proofs.image.write_image.Goals as goal

pub returns-then-length-eq-LIMIT-clause-value : goal.returns-then-length-eq-LIMIT-clause-value
returns-then-length-eq-LIMIT-clause-value c =
    rw c.at.ensures (too_long (decode c.args.program.now.bytes.now) c.args.program.now.ids.now c.args.out.now c.program_length-length.result c.program_length-length.ensures c.if-length-eq-LIMIT.true).0

pub returns-then-length-eq-LIMIT-clause-out_after : goal.returns-then-length-eq-LIMIT-clause-out_after
returns-then-length-eq-LIMIT-clause-out_after c =
    (too_long (decode c.args.program.now.bytes.now) c.args.program.now.ids.now c.args.out.now c.program_length-length.result c.program_length-length.ensures c.if-length-eq-LIMIT.true).1

pub returns-then-length-out-clause-value : goal.returns-then-length-out-clause-value
returns-then-length-out-clause-value c =
    rw c.at-then-length-out.ensures (too_small (decode c.args.program.now.bytes.now) c.args.program.now.ids.now c.args.out.now c.program_length-length.result c.program_length-length.ensures c.if-length-eq-LIMIT.false c.if-length-out.true).0

pub returns-then-length-out-clause-out_after : goal.returns-then-length-out-clause-out_after
returns-then-length-out-clause-out_after c =
    (too_small (decode c.args.program.now.bytes.now) c.args.program.now.ids.now c.args.out.now c.program_length-length.result c.program_length-length.ensures c.if-length-eq-LIMIT.false c.if-length-out.true).1

pub returns : goal.returns
returns c =
    let e = c.program_length-length.ensures in
    let r = c.write_program-n.ensures.0 in
    let told = all-written (decode c.args.program.now.bytes.now) c.args.program.now.ids.now c.args.out.now c.write_program-n.new.out _ c.put_two.new.out c.write_program-n.result r (omega arith) (omega arith) c.write_program-n.ensures.1 refl c.put_two.ensures in
    record { value = told.0; out_after = told.1 }
