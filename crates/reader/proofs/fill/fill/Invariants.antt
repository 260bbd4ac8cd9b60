-- `reader::fill::fill`: what is filed before each turn. Assumes nothing.
use Rattle.reader.specs.Build.{Filling}
use Rattle.reader.proofs.fill.fill.Given as goal

abbrev pub invariant-loop-i : goal.invariant-loop-i
invariant-loop-i g l = Filling l.s l.fn.card l.card (g.P.Part.after l.s) g.P.Part.size l.first l.n l.k l.a l.i
