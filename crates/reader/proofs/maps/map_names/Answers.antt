-- `reader::maps::map_names` meets its contract. Assumes nothing.
use native.Mathlib.Omega.{arith}
use Rattle.std.proofs.lemmas.Result.{err_from_is_err_and}
use Rattle.reader.specs.Mapping.{mapping_start, mapping_end, mapping_refused, mapping_more}
use Rattle.reader.proofs.maps.map_names.Goals as goal

pub loop-j-init : goal.loop-j-init
loop-j-init c = mapping_start _ _ c.requires _ _ c.remappings-list.ensures.place (omega arith)

pub returns-in_err-map : goal.returns-in_err-map
returns-in_err-map c =
    let p = err_from_is_err_and c.from_residual.result c.from_residual.ensures.1 in
    rw (p.1, p.2) (mapping_refused _ _ _ _ _ _ _ c.loop-j.invariant c.loop-j-test.true _ _ c.in_err-map.ensures.tells)

pub loop-j-preserved : goal.loop-j-preserved
loop-j-preserved c = rw c.from.ensures (mapping_more _ _ _ _ _ _ _ c.loop-j.invariant c.loop-j-test.true _ c.in_ok-map.ensures.found c.in_ok-map.ensures.tells _ c.next_remapping-a.ensures)

pub returns : goal.returns
returns c = mapping_end _ _ _ _ _ _ _ c.loop-j.invariant c.loop-j-test.false
