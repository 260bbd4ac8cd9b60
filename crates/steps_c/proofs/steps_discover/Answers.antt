-- `steps_discover` meets its contract. Assumes nothing.
use mathlib.Core.Path.{sym, ◌∙◌}
use Rattle.steps_c.specs.Steps.{told-ok, told-refused, refused, accepted, graph-told}
use Rattle.steps_c.proofs.steps_discover.Goals as goal

pub returns-in-Err : goal.returns-in-Err
returns-in-Err c =
    let e = sym c.in-Err.ensures.tells in
    record { value = c.from.ensures ∙ told-refused _ _ _ e; graph_told = refused _ _ e c.tell.ensures }

pub returns-in-Ok : goal.returns-in-Ok
returns-in-Ok c =
    let e = sym c.in-Ok.ensures.tells in
    record {
      value = told-ok _ e;
      graph_told = accepted c.discover_carded-g.result e (rw c.in-Ok.ensures.same at c.discover_carded-g.ensures)
          (graph-told c.discover_carded-g.result c.args.out.now _ _ _ _ _ c.tell-in-Ok.ensures c.tell_places.ensures c.tell_ids.ensures c.tell_ids-in-Ok.ensures c.tell_ids-in-Ok-2.ensures);
    }
