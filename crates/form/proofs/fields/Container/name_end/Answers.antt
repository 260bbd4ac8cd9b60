-- `form::fields::Container::name_end`: its string ends within the bytes. Assumes nothing.
use mathlib.Core.Path.{sym}
use native.Mathlib.Omega.{arith}
use Rattle.bundle.specs.Steps.{string-next}
use Rattle.form.proofs.fields.Container.name_end.Goals as goal

pub text_at-requires : goal.text_at-requires
text_at-requires c =
    let b = string-next c.args.self.now.bytes.now c.args.self.now.end c.args.at (sym c.in_ok-next.ensures) in
    omega arith
