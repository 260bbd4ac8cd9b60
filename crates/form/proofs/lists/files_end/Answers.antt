-- `form::lists::files_end` meets its contract. Assumes nothing.
use mathlib.Core.Path.{◌≡◌, sym, ◌∙◌}
use native.Mathlib.Omega.{arith}
use Prim.Native.Nat.{◌-◌}
use Rattle.std.proofs.lemmas.Result.{err_from_is_err_and}
use Rattle.bundle.specs.Walks.{file_goes, files-next, files-fault, files-done}
use Rattle.form.proofs.lists.files_end.Goals as goal

pub loop-init : goal.loop-init
loop-init c = let z : c.args.n - 0 ≡ c.args.n = omega arith in ((omega arith, omega arith), rw z)

pub file_end-requires : goal.file_end-requires
file_end-requires c = c.loop.invariant.0

pub returns-in_err-w : goal.returns-in_err-w
returns-in_err-w c =
    let p = err_from_is_err_and c.from_residual.result c.from_residual.ensures.1 in
    rw (p.1, p.2) (sym (files-fault c.args.bundle.now.bytes.now c.args.bundle.now.end c.args.n c.loop.counter c.loop.w.at c.loop.w.items c.loop.w.uses _ _ c.loop-test.true (sym c.in_err-w.ensures)) ∙ c.loop.invariant.1)

pub loop-preserved : goal.loop-preserved
loop-preserved c =
    let w = file_goes c.args.bundle.now.bytes.now c.args.bundle.now.end c.loop.w.at c.loop.w.items c.loop.w.uses c.in_ok-w.w.at c.in_ok-w.w.items c.in_ok-w.w.uses c.loop.invariant.0.0 c.loop.invariant.0.1 (sym c.in_ok-w.ensures) in
    ((w.1, w.2), sym (files-next c.args.bundle.now.bytes.now c.args.bundle.now.end c.args.n c.loop.counter c.loop.w.at c.loop.w.items c.loop.w.uses c.in_ok-w.w.at c.in_ok-w.w.items c.in_ok-w.w.uses c.loop-test.true (sym c.in_ok-w.ensures)) ∙ c.loop.invariant.1)

pub returns : goal.returns
returns c =
    sym (files-done c.args.bundle.now.bytes.now c.args.bundle.now.end c.args.n c.loop.counter c.loop.w.at c.loop.w.items c.loop.w.uses c.loop-test.false) ∙ c.loop.invariant.1
