-- `reader::paths::is_again` meets its contract. Assumes nothing.
use mathlib.Core.Path.{refl, sym, ◌∙◌}
use Rattle.reader.specs.Linking.{again_root, from_next, again-told}
use Rattle.reader.proofs.paths.is_again.Goals as goal

pub returns-then-is_root : goal.returns-then-is_root
returns-then-is_root c = again_root c.args.index.now.index _ c.requires.0 c.requires.1.0 _ c.requires.1.1 refl _ c.is_root.ensures c.if-is_root.true

pub walk-requires : goal.walk-requires
walk-requires c = from_next c.args.index.now.index _ c.requires.0 c.requires.1.0 _ c.requires.1.1 refl _ _ refl c.from.ensures

pub returns : goal.returns
returns c = c.is_some.ensures ∙ again-told c.args.index.now.index _ c.requires.0 c.requires.1.0 _ c.requires.1.1 refl _ _ refl c.from.ensures (sym c.is_root.ensures ∙ c.if-is_root.false) _ c.walk.ensures
