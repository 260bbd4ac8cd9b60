-- `form::lists::files_form`: its count is there. Assumes nothing.
use native.Mathlib.Omega.{arith}
use mathlib.Core.Path.{sym}
use Rattle.bundle.specs.Steps.{some_bytes, count_next}
use Rattle.form.proofs.lists.files_form.Goals as goal

pub count_at-requires : goal.count_at-requires
count_at-requires c =
    let n = count_next c.args.s.now _ c.args.at c.file_width-width.result 1 c.most_files.result (sym c.in_ok-first.ensures) in
    let some = some_bytes c.file_width-width.result in
    let e = n.0 in
    let l = n.1 in
    omega (arith, c.ranges)
