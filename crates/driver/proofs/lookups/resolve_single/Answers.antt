-- `resolve_single` meets its contract. Assumes nothing.
use Rattle.std.proofs.Common.{◌≡◌, ℕ, arith, ap, sym, subst, ◌∙◌}
use mathlib.Core.List.{List}
use Rattle.bundle.specs.Bundle.{Text}
use Rattle.bundle.specs.Form.{Every, IsName}
use Rattle.resolution.specs.Indices.{lists_in, path_in}
use Rattle.resolution.specs.Resolution.{resolve_path_internal}
use Rattle.resolution.specs.Call.{answer}
use Rattle.resolution.specs.Told.{told_use, told_use-inj, told-answered, answered}
use Rattle.discovery.specs.Walk.{segments-at}
use Rattle.driver.proofs.lookups.resolve_single.Goals as goal

pub of-segments-requires : goal.of-segments-requires
of-segments-requires c =
    let e = segments-at c.args.b.now.bytes.now c.args.mark _ _ c.requires.1.0 c.use_segments.ensures.0 in
    (subst (Every IsName) (sym e) c.requires.1.1, (omega (arith, c.requires.1.0.small, c.use_segments.ensures.1.0), c.use_segments.ensures.1.1))

pub resolve_path_internal-requires : goal.resolve_path_internal-requires
resolve_path_internal-requires c = rw c.mapped.ensures.bytes c.requires.0

pub returns : goal.returns
returns c =
    let e = segments-at c.args.b.now.bytes.now c.args.mark _ _ c.requires.1.0 c.use_segments.ensures.0 in
    let r = subst (λ (s : List ℕ). told_use c.resolve_path_internal.result ≡ answer (lists_in s) (resolve_path_internal (lists_in s) (path_in s c.args.f) c.of-segments.result)) c.mapped.ensures.bytes c.resolve_path_internal.ensures in
    told_use-inj _ _ (r ∙ sym (told-answered (lists_in c.args.b.now.bytes.now) _)) ∙ ap (λ (l : List Text). answered (lists_in c.args.b.now.bytes.now) (resolve_path_internal (lists_in c.args.b.now.bytes.now) (path_in c.args.b.now.bytes.now c.args.f) l)) (c.of-segments.ensures ∙ e)
