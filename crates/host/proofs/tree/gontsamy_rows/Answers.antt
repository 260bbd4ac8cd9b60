use Rattle.std.proofs.Common.{arith, ◌∙◌}
use Rattle.host.specs.TreeTold.{rows_short, rows-full, rows_told}
use Rattle.scope_tree.specs.Trees.{packed_in}
use Rattle.host.proofs.tree.gontsamy_rows.Goals as goal

pub returns-then-rows-lt-ROWS : goal.returns-then-rows-lt-ROWS
returns-then-rows-lt-ROWS c =
    let told = rows_short _ _ _ c.if-rows-lt-ROWS.true in
    record { value = c.from.ensures ∙ told.0; rows_after = told.1.0; count_after = told.1.1 }

pub returns-then-count-gt-ENTRIES : goal.returns-then-count-gt-ENTRIES
returns-then-count-gt-ENTRIES c =
    let told = rows-full _ _ _ c.if-rows-lt-ROWS.false _ c.count.ensures c.if-count-gt-ENTRIES.true in
    record { value = c.from-then-count-gt-ENTRIES.ensures ∙ told.0; rows_after = told.1.0; count_after = told.1.1 }

pub put_rows-requires : goal.put_rows-requires
put_rows-requires c = omega arith

pub returns : goal.returns
returns c =
    let told = rows_told (packed_in c.args.opened.now c.args.cells.now c.args.visible.now c.args.scopes.now c.args.marks.now c.args.n0.now c.args.n1.now c.args.n2.now c.args.n3.now) _ _ c.if-rows-lt-ROWS.false _ c.count.ensures c.if-count-gt-ENTRIES.false _ _ c.put_rows.ensures in
    record { value = told.0; rows_after = told.1.0; count_after = told.1.1 }
