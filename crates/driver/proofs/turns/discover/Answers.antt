-- `discover` meets its contract. Assumes nothing.
use Rattle.std.proofs.Common.{◌≡◌, arith}
use Rattle.discovery.specs.Room.{bytes-roomy}
use Rattle.discovery.specs.Places.{starts-wide, starts-places}
use Rattle.driver.specs.Complete.{table-first, all_known}
use Rattle.driver.specs.Turns.{unit_small, entry-only, all_units, sources-count}
use Rattle.driver.proofs.turns.discover.Goals as goal

pub put_places-requires : goal.put_places-requires
put_places-requires c =
    let few = bytes-roomy _ c.args.b.now.fit c.args.b.now.ok in
    let is = c.args.b.now.is in
    (omega (arith, is.folders, few.folders), omega (arith, is.files, few.files))

pub loop-unit-init : goal.loop-unit-init
loop-unit-init c =
    let w = starts-wide _ _ _ _ c.args.b.now.is c.args.b.now.ok c.requires c.put_places.ensures in
    let p = starts-places _ _ _ _ c.args.b.now.is c.args.b.now.ok c.requires c.put_places.ensures in
    rw c.entry_alone-g.ensures (entry-only _ (bytes-roomy _ c.args.b.now.fit c.args.b.now.ok), (table-first _ _ _ w p.1, p.0))

pub loop-unit-smaller : goal.loop-unit-smaller
loop-unit-smaller c = let h = unit_small _ (bytes-roomy _ c.args.b.now.fit c.args.b.now.ok) _ _ c.loop-unit.invariant.0 c.loop-unit-test.true in omega arith

pub returns-clause-discovers : goal.returns-clause-discovers
returns-clause-discovers c = all_units _ _ _ c.loop-unit.invariant.0 (let h = c.loop-unit.invariant.0.handled in omega arith) (bytes-roomy _ c.args.b.now.fit c.args.b.now.ok)

pub returns-clause-complete : goal.returns-clause-complete
returns-clause-complete c =
    let v = c.loop-unit.invariant.0 in
    let roomy = bytes-roomy _ c.args.b.now.fit c.args.b.now.ok in
    let e : c.loop-unit.unit ≡ c.loop-unit.g.units = let h = v.handled in omega arith in
    (all_known _ _ _ _ c.loop-unit.invariant.1.0 e (sources-count _ roomy _ _ v) (all_units _ _ _ v e roomy), c.loop-unit.invariant.1.1)
