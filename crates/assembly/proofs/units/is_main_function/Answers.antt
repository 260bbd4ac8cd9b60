-- `is_main_function` meets its contract. Assumes nothing.
use Rattle.std.proofs.Common.{sym, ◌∙◌, ◌≡◌, ◌+◌, ⊎_elim, ne_eqb}
use mathlib.Core.Path.{refl}
use Rattle.bundle.specs.Kinds.{use_byte, module_byte, ignored_byte}
use Rattle.names.specs.Keywords.{is_main}
use Rattle.bundle.specs.Scan.{byte}
use Rattle.assembly.specs.Walk.{has_name, NamedAt, named_at, name-text, main-named}
use Rattle.assembly.proofs.units.is_main_function.Goals as goal

pub returns-then-kind-eq-FUNCTION : goal.returns-then-kind-eq-FUNCTION
unfolding is_main
returns-then-kind-eq-FUNCTION c =
    let n : NamedAt c.args.s.now c.args.at c.in-Named.kind = named_at c.kind.ensures.byte c.in-Named.is in
    let e : byte c.args.s.now (c.args.at + 2) ≡ 2 = n.is ∙ c.if-kind-eq-FUNCTION.true in
    c.is_main.ensures ∙ rw (name-text c.args.s.now c.args.at c.item_name.result.now (has_name n) c.item_name.ensures) (sym (main-named c.args.s.now c.args.at 2 e))

pub returns-else-kind-eq-FUNCTION : goal.returns-else-kind-eq-FUNCTION
returns-else-kind-eq-FUNCTION c =
    let n : NamedAt c.args.s.now c.args.at c.in-Named.kind = named_at c.kind.ensures.byte c.in-Named.is in
    rw (main-named c.args.s.now c.args.at c.in-Named.kind n.is, ne_eqb c.in-Named.kind 2 c.if-kind-eq-FUNCTION.false) refl

pub returns-in-Use : goal.returns-in-Use
returns-in-Use c =
    ⊎_elim (λ e. sym (main-named c.args.s.now c.args.at 3 (use_byte c.kind.ensures.byte e)))
    (λ r. ⊎_elim (λ e. sym (main-named c.args.s.now c.args.at 5 (module_byte c.kind.ensures.byte e)))
    (λ e. sym (main-named c.args.s.now c.args.at 6 (ignored_byte c.kind.ensures.byte e))) r)
    c.in-Use.is
