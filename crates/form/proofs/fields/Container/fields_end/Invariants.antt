-- `form::fields::Container::fields_end`: what is left to scan before each turn. Assumes nothing.
use mathlib.Core.Path.{◌≡◌}
use Prim.Native.Nat.{◌-◌}
use Rattle.bundle.specs.Scan.{scan_field, times}
use Rattle.form.proofs.fields.Container.fields_end.Given as goal

abbrev pub invariant-loop : goal.invariant-loop
invariant-loop l = times (l.n - l.counter) (scan_field l.field l.self.bytes.now l.self.end) l.a ≡ times l.n (scan_field l.field l.self.bytes.now l.self.end) l.at
