use Rattle.scope_tree.specs.FormLaws.{At_name}
use Rattle.scope_tree.proofs.form.segments_form.Given as goal

abbrev pub invariant-loop : goal.invariant-loop
invariant-loop l = At_name l.s l.at l.count l.p l.counter
