use Rattle.scope_tree.specs.FormLaws.{At_element}
use Rattle.scope_tree.proofs.form.elements_form.Given as goal

abbrev pub invariant-loop : goal.invariant-loop
invariant-loop l = At_element l.s l.at l.count l.p l.counter
