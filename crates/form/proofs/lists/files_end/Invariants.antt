-- `form::lists::files_end`: what is left to scan before each turn. Assumes nothing.
use mathlib.Core.Path.{◌≡◌}
use Prim.Native.Nat.{◌-◌, ◌≤◌}
use Rattle.bundle.specs.Limits.{item_limit, use_limit}
use Rattle.bundle.specs.Scan.{scan_files}
use Rattle.form.proofs.lists.files_end.Given as goal

abbrev pub invariant-loop : goal.invariant-loop
invariant-loop l =
    ((l.w.items ≤ item_limit) × (l.w.uses ≤ use_limit)) × (scan_files (l.n - l.counter) l.bundle.bytes.now l.bundle.end l.w.at l.w.items l.w.uses ≡ scan_files l.n l.bundle.bytes.now l.bundle.end l.at 0 0)
