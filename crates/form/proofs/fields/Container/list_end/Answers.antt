-- `form::fields::Container::list_end`: its count is there. Assumes nothing.
use native.Mathlib.Omega.{arith}
use mathlib.Core.Path.{sym}
use Rattle.bundle.specs.Steps.{some_bytes, count_next}
use Rattle.form.proofs.fields.Container.list_end.Goals as goal

pub count_at-requires : goal.count_at-requires
count_at-requires c =
    let n = count_next c.args.self.now.bytes.now c.args.self.now.end c.args.at c.args.width 0 c.args.limit (sym c.in_ok-first.ensures) in
    let some = some_bytes c.args.width in
    let e = n.0 in
    let l = n.1 in
    omega (arith, c.ranges)
