-- `resolve_imports` meets its contract. Assumes nothing.
use Rattle.resolution.specs.Indices.{lists_in, path_in}
use Rattle.discovery.specs.Known.{Fills}
use Rattle.discovery.specs.Walk.{use_list}
use Rattle.driver.specs.Record.{LookedTo, no_imports}
use Rattle.driver.proofs.lookups.resolve_imports.Given as goal

abbrev pub invariant-loop-i : goal.invariant-loop-i
invariant-loop-i l =
    LookedTo (lists_in l.b.bytes.now) (path_in l.b.bytes.now l.f) (use_list l.b.bytes.now l.uses) (no_imports l.initial.g) l.g l.i
    × Fills (lists_in l.b.bytes.now) (path_in l.b.bytes.now l.f) l.initial.known l.known l.first (use_list l.b.bytes.now l.uses) l.i
