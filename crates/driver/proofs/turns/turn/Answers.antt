-- `turn` meets its contract. Assumes nothing.
use Rattle.std.proofs.Common.{arith}
use Rattle.discovery.specs.Known.{begun-wide}
use Rattle.driver.specs.Importing.{unit-below, index_small, at-small, unit-importer, uses_there, begins, marked, uses_room, reads, next-graph, next-table}
use Rattle.driver.proofs.turns.turn.Goals as goal

pub bounds-g-unit : goal.bounds-g-unit
bounds-g-unit c = let h = unit-below _ c.args.b.now.fit c.args.b.now.ok c.args.b.now.is _ _ c.requires.graph.0 c.requires.graph.1 in omega arith

pub place_of-requires : goal.place_of-requires
place_of-requires c = index_small _ c.args.b.now.fit c.args.b.now.ok c.args.b.now.is _ _ c.requires.graph.0 c.requires.graph.1 _ c.requires.table.0 c.requires.table.1

pub uses_of-uses-requires : goal.uses_of-uses-requires
uses_of-uses-requires c = uses_there _ c.args.b.now.fit c.args.b.now.ok c.args.b.now.is _ _ c.requires.graph.0 c.requires.graph.1 _ c.requires.table.0 c.requires.table.1 _ (c.place_of.ensures _ c.requires.table.1)

pub begin-first-requires : goal.begin-first-requires
begin-first-requires c = rw c.as_slice.ensures.value (begins _ c.args.b.now.fit c.args.b.now.ok c.args.b.now.is _ _ c.requires.graph.0 c.requires.graph.1 _ c.requires.table.0 c.requires.table.1 _ (c.place_of.ensures _ c.requires.table.1) _ c.uses_of-uses.ensures)

pub overflow_add-b-2 : goal.overflow_add-b-2
overflow_add-b-2 c = let h = at-small _ c.args.b.now.fit c.args.b.now.ok c.args.b.now.is _ _ c.requires.graph.0 c.requires.graph.1 in omega arith

pub resolve_imports-requires-clause-importer : goal.resolve_imports-requires-clause-importer
resolve_imports-requires-clause-importer c = unit-importer _ c.args.b.now.fit c.args.b.now.ok c.args.b.now.is _ _ c.requires.graph.0 c.requires.graph.1

pub resolve_imports-requires-clause-uses : goal.resolve_imports-requires-clause-uses
resolve_imports-requires-clause-uses c = marked _ c.args.b.now.fit c.args.b.now.ok c.args.b.now.is _ _ c.requires.graph.0 c.requires.graph.1 _ c.requires.table.0 c.requires.table.1 _ (c.place_of.ensures _ c.requires.table.1) _ c.uses_of-uses.ensures

pub resolve_imports-requires-clause-wide : goal.resolve_imports-requires-clause-wide
resolve_imports-requires-clause-wide c = rw c.begin-first.ensures.1 (begun-wide _ _ _ c.requires.table.0.wide)

pub resolve_imports-requires-clause-room : goal.resolve_imports-requires-clause-room
resolve_imports-requires-clause-room c = rw c.begin-first.ensures.0 (uses_room _ c.args.b.now.fit c.args.b.now.ok c.args.b.now.is _ _ c.requires.graph.0 c.requires.graph.1 _ c.requires.table.0 c.requires.table.1 _ (c.place_of.ensures _ c.requires.table.1) _ c.uses_of-uses.ensures)

pub load_and_parse_dependencies-requires : goal.load_and_parse_dependencies-requires
load_and_parse_dependencies-requires c = reads _ c.args.b.now.fit c.args.b.now.ok c.args.b.now.is _ _ c.requires.graph.0 c.requires.graph.1 _ c.requires.table.0 c.requires.table.1 _ (c.place_of.ensures _ c.requires.table.1) _ c.uses_of-uses.ensures _ c.resolve_imports.ensures.value

pub returns-clause-graph : goal.returns-clause-graph
returns-clause-graph c = next-graph _ c.args.b.now.fit c.args.b.now.ok c.args.b.now.is _ _ c.requires.graph.0 c.requires.graph.1 _ c.requires.table.0 c.requires.table.1 _ (c.place_of.ensures _ c.requires.table.1) _ c.uses_of-uses.ensures _ c.resolve_imports.ensures.value _ c.load_and_parse_dependencies.ensures

pub returns-clause-table : goal.returns-clause-table
returns-clause-table c = next-table _ c.args.b.now.fit c.args.b.now.ok c.args.b.now.is _ _ c.requires.graph.0 c.requires.graph.1 _ c.requires.table.0 c.requires.table.1 _ (c.place_of.ensures _ c.requires.table.1) _ c.uses_of-uses.ensures _ c.resolve_imports.ensures.value _ c.load_and_parse_dependencies.ensures _ (rw (c.begin-first.ensures.0, c.begin-first.ensures.1, c.as_slice.ensures.value) at c.resolve_imports.ensures.fills)
