-- `resolve` meets its contract. Assumes nothing.
use Rattle.std.proofs.Common.{◌≡◌, rules, ◌∙◌, refl}
use Rattle.std.proofs.lemmas.Result.{err_from_is_err_and}
use Rattle.resolution.specs.Told.{told, told_use}
use Rattle.resolution.proofs.resolve.Goals as goal

pub returns-in_err-b : goal.returns-in_err-b
unfolding Rattle.resolution.specs.Call.resolve Rattle.bundle.specs.Read.read
returns-in_err-b c =
    let p = err_from_is_err_and c.from_residual.result c.from_residual.ensures.1 in
    rw (p.1, p.2, ← c.in_err-b.ensures.tells) refl

pub returns : goal.returns
unfolding Rattle.resolution.specs.Call.resolve Rattle.bundle.specs.Read.read
returns c =
    let k : told c.map_err.result ≡ told_use c.resolve_in.result = search rules in
    k ∙ (rw (c.mapped.ensures.bytes, c.in_ok-b.ensures.same) at c.resolve_in.ensures ∙ rw (← c.in_ok-b.ensures.tells) refl)
