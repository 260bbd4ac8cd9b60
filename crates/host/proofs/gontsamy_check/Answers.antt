-- `gontsamy_check` meets its contract. Assumes nothing.
use mathlib.Core.Path.{refl, ◌∙◌}
use Rattle.host.specs.ResolveTold.{told-ok, told-refused}
use Rattle.host.proofs.gontsamy_check.Goals as goal

pub returns-in-Ok : goal.returns-in-Ok
returns-in-Ok c =
    let told = told-ok _ _ _ c.in-Ok.ensures refl in
    record { value = told.0; place_after = told.1 }

pub returns-in-Err : goal.returns-in-Err
returns-in-Err c =
    let told = told-refused _ _ _ c.in-Err.ensures _ _ refl in
    record { value = c.from.ensures ∙ told.0; place_after = told.1 }
