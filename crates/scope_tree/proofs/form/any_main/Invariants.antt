use Rattle.scope_tree.specs.FormLaws.{From_element}
use Rattle.scope_tree.proofs.form.any_main.Given as goal

abbrev pub invariant-loop : goal.invariant-loop
invariant-loop l = From_element l.s l.at l.count l.p l.counter
