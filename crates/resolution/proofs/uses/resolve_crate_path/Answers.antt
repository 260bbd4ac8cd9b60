-- `resolve_crate_path` meets its contract. Assumes nothing.
use Rattle.std.proofs.Common.{arith, sym, ◌∙◌, refl}
use Rattle.resolution.specs.CardLaws.{root_is, root-is-folder, directly}
use Rattle.resolution.specs.UseLaws.{no_root, crate_found, crate_itself}
use Rattle.resolution.proofs.uses.resolve_crate_path.Goals as goal

pub returns-in_default : goal.returns-in_default
returns-in_default c = no_root c.args.b.now.is _ _ (root_is c.args.b.now.is _ c.requires.listed _ (sym c.in_default.is ∙ c.nearest_root.ensures))

pub build_and_verify_path-requires : goal.build_and_verify_path-requires
build_and_verify_path-requires c = root-is-folder c.args.b.now.is _ c.requires.listed _ (sym c.in-Some.is ∙ c.nearest_root.ensures) _ refl

pub returns-in-Some-build_and_verify_path : goal.returns-in-Some-build_and_verify_path
returns-in-Some-build_and_verify_path c =
    let r = root_is c.args.b.now.is _ c.requires.listed _ (sym c.in-Some.is ∙ c.nearest_root.ensures) in
    c.resolved.ensures ∙ crate_found c.args.b.now.is _ _ _ r _ c.in-Some-build_and_verify_path.ensures

pub returns-in-None : goal.returns-in-None
returns-in-None c =
    let m = sym c.in-Some.is ∙ c.nearest_root.ensures in
    rw c.len-n.ensures at c.itself.ensures ∙ crate_itself c.args.b.now.is _ _ _ c.requires (root_is c.args.b.now.is _ c.requires.listed _ m)
    (directly c.args.b.now.is _ c.requires.listed _ m _ (λ z. omega (arith, c.requires.file)) refl) c.in-None.ensures
