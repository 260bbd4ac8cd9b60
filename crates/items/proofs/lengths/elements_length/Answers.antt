-- `elements_length` meets its contract. Assumes nothing.
use Rattle.std.proofs.Common.{arith, ◌∙◌, ◌*◌, ap, length}
use Rattle.bundle.specs.Encode.{string, joined}
use Rattle.assembly.specs.Walk.{elements-read}
use Rattle.encoder.specs.Strings.{strings-count}
use Rattle.items.specs.Uses.{elements-form}
use Rattle.items.proofs.lengths.elements_length.Goals as goal

pub overflow_add-result : goal.overflow_add-result
overflow_add-result c =
    let elements = c.use_elements-elements.result in
    let n = ap length c.new.ensures in
    omega (arith, strings-count c.args.s.now (2 * elements.count) elements.first)

pub returns : goal.returns
returns c =
    let elements = c.use_elements-elements.result in
    let n = ap length c.new.ensures in
    let form = ap length (elements-form c.args.s.now c.args.mark elements.first elements.count (elements-read c.args.s.now c.args.mark c.requires.kind elements.first elements.count c.use_elements-elements.ensures.0)) in
    let size = c.size.ensures.0 ∙ ap (λ l. length (joined string l)) c.new.ensures in
    (omega arith, omega (arith, strings-count c.args.s.now (2 * elements.count) elements.first))
