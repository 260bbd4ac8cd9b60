-- `reader::maps::locate` meets its contract. Assumes nothing.
use Rattle.reader.specs.Mapping.{is-located, nowhere, no_folder}
use Rattle.reader.proofs.maps.locate.Goals as goal

pub returns-in-Some-clause-tells : goal.returns-in-Some-clause-tells
returns-in-Some-clause-tells c = is-located _ _ _ (rw c.string-t.ensures at c.in-Some.ensures)

pub returns-in-None-find_path-clause-tells : goal.returns-in-None-find_path-clause-tells
returns-in-None-find_path-clause-tells c = rw c.at.ensures (nowhere _ _ (rw c.string-t.ensures at c.in-None.ensures) (rw c.string-t.ensures at c.in-None-find_path.ensures))

pub returns-in-Some-find_path-clause-tells : goal.returns-in-Some-find_path-clause-tells
returns-in-Some-find_path-clause-tells c = rw c.at-in-Some-find_path.ensures (no_folder _ _ (rw c.string-t.ensures at c.in-None.ensures) _ (rw c.string-t.ensures at c.in-Some-find_path.ensures))
