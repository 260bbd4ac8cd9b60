-- `unit_items`: those of the file that stands at its place. Assumes nothing.
use Rattle.std.proofs.Common.{arith, ◌∙◌}
use Rattle.assembly.specs.GivenLaws.{index-few, items_are}
use Rattle.assembly.proofs.units.unit_items.Goals as goal

pub place_of-requires : goal.place_of-requires
place_of-requires c = let k = index-few c.args.s.now c.args.known.now.files c.args.id c.requires.of_unit in omega arith

pub returns : goal.returns
returns c =
    let p = c.place_of.ensures c.args.s.now c.requires.places in
    let q = p.1 in
    (c.file_items.ensures.0 ∙ items_are c.args.s.now c.args.known.now.files c.args.id c.requires.of_unit c.place_of.result p.0, omega arith)
