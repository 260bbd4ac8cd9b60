-- `form::fields::Container::fields_end` meets its contract. Assumes nothing.
use mathlib.Core.Path.{◌≡◌, sym, ◌∙◌}
use native.Mathlib.Omega.{arith}
use Prim.Native.Nat.{◌-◌}
use Rattle.std.proofs.lemmas.Result.{err_from_is_err_and}
use Rattle.bundle.specs.Scan.{scan_field}
use Rattle.bundle.specs.Steps.{times-next, times-bad, times-done}
use Rattle.form.proofs.fields.Container.fields_end.Goals as goal

pub loop-init : goal.loop-init
loop-init c = let z : c.args.n - 0 ≡ c.args.n = omega arith in rw z

pub returns-in_err-a : goal.returns-in_err-a
returns-in_err-a c =
    let p = err_from_is_err_and c.from_residual.result c.from_residual.ensures.1 in
    rw (p.1, p.2) (sym (times-bad (scan_field c.args.field c.args.self.now.bytes.now c.args.self.now.end) c.args.n c.loop.counter c.loop.a _ _ c.loop-test.true (sym c.in_err-a.ensures)) ∙ c.loop.invariant)

pub loop-preserved : goal.loop-preserved
loop-preserved c =
    sym (times-next (scan_field c.args.field c.args.self.now.bytes.now c.args.self.now.end) c.args.n c.loop.counter c.loop.a _ c.loop-test.true (sym c.in_ok-a.ensures)) ∙ c.loop.invariant

pub returns : goal.returns
returns c =
    sym (times-done (scan_field c.args.field c.args.self.now.bytes.now c.args.self.now.end) c.args.n c.loop.counter c.loop.a c.loop-test.false) ∙ c.loop.invariant
