-- `reader::paths::link_paths`: what is linked before each turn. Assumes nothing.
use Rattle.reader.specs.Linking.{Linking}
use Rattle.reader.proofs.paths.link_paths.Given as goal

abbrev pub invariant-loop-i : goal.invariant-loop-i
invariant-loop-i l = Linking l.s l.fn.card l.card l.i
