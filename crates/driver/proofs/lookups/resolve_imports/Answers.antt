-- `resolve_imports` meets its contract. Assumes nothing.
use Rattle.std.proofs.Common.{arith, length, ap, sym, ◌∙◌, ◌<◌, ◌≡◌}
use Rattle.std.specs.Prelude.{get_or}
use Rattle.std.specs.Result.{result_ok}
use Rattle.std.proofs.lemmas.List.{length-map}
use Rattle.discovery.specs.Discovery.{Use}
use Rattle.discovery.specs.Facts.{get_d_any}
use Rattle.discovery.specs.Known.{fills_one}
use Rattle.discovery.specs.Walk.{use_at, use_list, mark-at-place, use_at-place, named-at-place}
use Rattle.driver.specs.Record.{pushed_fault, looked-next, looked-done}
use Rattle.driver.proofs.lookups.resolve_imports.Goals as goal
use Rattle.driver.proofs.lookups.resolve_imports.Goals.{in-Ok, in-Err}

pub resolve_single-found-requires : goal.resolve_single-found-requires
resolve_single-found-requires c =
    let h = rw c.as_slice-mark-items.ensures.value at c.loop-i-test.true in
    rw c.as_slice-mark-items.ensures.value (c.requires.importer, (mark-at-place _ _ _ h c.requires.uses.0, named-at-place _ _ c.requires.uses.1 _ h))

pub loop-i-preserved : goal.loop-i-preserved
loop-i-preserved c =
    let s = c.args.b.now.bytes.now in
    let u = c.args.uses.now in
    let i = c.loop-i.i in
    let e = c.as_slice-mark-items.ensures.value in
    let h = rw e at c.loop-i-test.true in
    let v = use_at s (get_or c.as_slice-mark-items.result.now i 0) in
    let few : i < length (use_list s u) = let n = length-map u (use_at s) in omega arith in
    let is : (w : Use) → get_or (use_list s u) i w ≡ v = λ w. get_d_any (use_list s u) i w v few ∙ rw e (use_at-place s u i h) in
    let next = looked-next _ _ _ _ c.loop-i.g c.match-found.g i v in (
      elim c.match-found.branch [
        | in-Ok w ↦ next _ c.loop-i.invariant.0 few (is v) (sym w.in-Ok.is ∙ c.resolve_single-found.ensures) (w.g-is ∙ w.push_import.ensures)
        | in-Err w ↦ next _ c.loop-i.invariant.0 few (is v) (sym w.in-Err.is ∙ c.resolve_single-found.ensures) (w.g-is ∙ (w.push_fault.ensures ∙ ap (pushed_fault c.loop-i.g) w.at.ensures))
      ],
      rw c.keep.ensures (fills_one _ _ _ _ _ c.loop-i.known i v _ (omega (arith, c.requires.wide.entries, c.requires.room.1.1)) c.loop-i.invariant.1 (is _) (c.ok.ensures.value ∙ ap result_ok c.resolve_single-found.ensures)),
    )

pub returns-clause-value : goal.returns-clause-value
returns-clause-value c =
    looked-done _ _ _ _ _ _ c.loop-i.invariant.0 (let e = length-map c.args.uses.now (use_at c.args.b.now.bytes.now) in let f = rw c.as_slice-mark-items.ensures.value at c.loop-i-test.false in omega arith)
