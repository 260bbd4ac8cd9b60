-- `gontsamy_resolve` meets its contract. Assumes nothing.
use mathlib.Core.Path.{refl, ap, ◌∙◌}
use Rattle.host.specs.ResolveTold.{told-file, told-folder, told-fault}
use Rattle.host.proofs.gontsamy_resolve.Goals as goal

pub returns-in-File : goal.returns-in-File
returns-in-File c =
    let told = told-file _ _ _ _ _ c.in-Ok.ensures _ _ (rw c.in-File.is refl) in
    record { value = told.0; index_after = told.1.0; left_after = told.1.1.0; place_after = told.1.1.1 }

pub returns-in-Folder : goal.returns-in-Folder
returns-in-Folder c =
    let told = told-folder _ _ _ _ _ c.in-Ok.ensures _ _ (rw c.in-Folder.is refl) in
    record { value = told.0; index_after = told.1.0; left_after = told.1.1.0; place_after = told.1.1.1 }

pub returns-in-Err : goal.returns-in-Err
returns-in-Err c =
    let told = told-fault _ _ _ _ _ c.in-Err.ensures _ _ refl in
    record { value = c.from.ensures ∙ told.0; index_after = told.1.0; left_after = told.1.1.0; place_after = told.1.1.1 }
