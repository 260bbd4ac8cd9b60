-- `reader::maps::map_names`: what is mapped before each turn. Assumes nothing.
use Rattle.reader.specs.Mapping.{Mapping}
use Rattle.reader.proofs.maps.map_names.Given as goal

abbrev pub invariant-loop-j : goal.invariant-loop-j
invariant-loop-j l = Mapping l.s l.fn.card l.card l.list.first l.list.count l.a l.j
