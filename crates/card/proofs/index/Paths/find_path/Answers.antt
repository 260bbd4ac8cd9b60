-- `card::index::Paths::find_path`: every index may be found. Assumes nothing.
use native.Mathlib.Omega.{arith}
use Rattle.card.specs.Card.{up_to-all}
use mathlib.Core.Path.{refl}
use Rattle.card.proofs.index.Paths.find_path.Goals as goal

pub returns : goal.returns
returns c = up_to-all c.args.self.now.index _ _ refl _ _ (omega arith) c.find_up_to.ensures
