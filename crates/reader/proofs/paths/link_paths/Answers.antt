-- `reader::paths::link_paths` meets its contract. Assumes nothing.
use mathlib.Core.Path.{sym, ◌∙◌}
use Rattle.reader.specs.Linking.{linking-start, link-end, link-index, link-folders, link-within, link-first, link-node, link-path, link-twice, link-orphan, link-more}
use Rattle.reader.proofs.paths.link_paths.Goals as goal

pub loop-i-init : goal.loop-i-init
loop-i-init c = linking-start _ _ c.requires

pub invariant_of-index : goal.invariant_of-index
invariant_of-index c = record { index = link-index _ _ _ _ c.loop-i.invariant; folders = link-folders _ _ _ _ c.loop-i.invariant }

pub is_again-requires : goal.is_again-requires
is_again-requires c = (link-within _ _ _ _ c.loop-i.invariant c.loop-i-test.true, (link-first _ _ _ _ c.loop-i.invariant c.loop-i-test.true, link-node _ _ _ _ c.loop-i.invariant c.loop-i-test.true _ c.string-p.ensures))

pub returns-then-is_again : goal.returns-then-is_again
returns-then-is_again c = rw c.at.ensures (link-twice _ _ _ _ c.loop-i.invariant c.loop-i-test.true _ c.string-p.ensures (sym c.if-is_again.true ∙ c.is_again.ensures))

pub parent_of-requires : goal.parent_of-requires
parent_of-requires c = link-path _ _ _ _ c.loop-i.invariant c.loop-i-test.true _ c.string-p.ensures

pub returns-in-None : goal.returns-in-None
returns-in-None c = rw c.at-in-None.ensures (link-orphan _ _ _ _ c.loop-i.invariant c.loop-i-test.true _ c.string-p.ensures (sym c.if-is_again.false ∙ c.is_again.ensures) c.in-None.ensures)

pub loop-i-preserved : goal.loop-i-preserved
loop-i-preserved c = link-more _ _ _ _ c.loop-i.invariant c.loop-i-test.true _ c.string-p.ensures (sym c.if-is_again.false ∙ c.is_again.ensures) _ c.in-Some.ensures

pub returns : goal.returns
returns c = link-end _ _ _ _ c.loop-i.invariant c.loop-i-test.false
