-- `build_and_verify_path` meets its contract. Assumes nothing.
use Rattle.resolution.specs.LookupLaws.{down_enters, down_names, down_ends}
use Rattle.resolution.proofs.listing.build_and_verify_path.Goals as goal

pub returns-in_default-enter : goal.returns-in_default-enter
returns-in_default-enter c = down_names c.loop-name.invariant c.args.b.now.is _ _ c.in-Some.ensures.steps.0 c.in_default-enter.ensures _ (rw c.len.ensures at c.locate.ensures)

pub loop-name-preserved : goal.loop-name-preserved
loop-name-preserved c = down_enters c.loop-name.invariant _ _ c.in-Some.ensures.steps.0 _ c.in-Some-enter.ensures

pub returns : goal.returns
returns c = down_ends c.loop-name.invariant c.in_default.ensures.steps.0
