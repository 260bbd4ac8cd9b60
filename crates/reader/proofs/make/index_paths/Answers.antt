-- `reader::make::index_paths` meets its contract. Assumes nothing.
use native.Mathlib.Omega.{arith}
use Rattle.reader.specs.Made.{first_fill, second_fill, indexes}
use Rattle.reader.proofs.make.index_paths.Goals as goal

pub fill-requires : goal.fill-requires
fill-requires c = first_fill c.args.s.now (λ i. omega (arith, c.type_inv.s i)) c.requires _ _ _ _ (record { folders = c.folders-folders.ensures.place; files = c.files-files.ensures.place; low = ((omega arith, omega arith), (omega arith, omega arith)) }) c.empty.result c.empty.ensures c.key_of-card.result c.key_of-card.ensures

pub fill-requires-2 : goal.fill-requires-2
fill-requires-2 c = second_fill c.args.s.now (λ i. omega (arith, c.type_inv.s i)) c.requires _ _ _ _ (record { folders = c.folders-folders.ensures.place; files = c.files-files.ensures.place; low = ((omega arith, omega arith), (omega arith, omega arith)) }) c.empty.result c.empty.ensures c.key_of-card.result c.key_of-card.ensures _ c.fill.ensures

pub returns : goal.returns
returns c = indexes c.args.s.now (λ i. omega (arith, c.type_inv.s i)) c.requires _ _ _ _ (record { folders = c.folders-folders.ensures.place; files = c.files-files.ensures.place; low = ((omega arith, omega arith), (omega arith, omega arith)) }) c.empty.result c.empty.ensures c.key_of-card.result c.key_of-card.ensures _ c.fill.ensures _ c.fill-2.ensures
