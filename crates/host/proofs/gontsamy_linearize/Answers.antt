-- `gontsamy_linearize` tells the order or the ring, which has ids, or leaves what is lent as it was. Assumes nothing.
use Rattle.std.proofs.Common.{◌∙◌}
use Rattle.graph.specs.ToldTheorems.{some-order, some-ring}
use Rattle.host.specs.GraphTold.{graph-told, graph-refused}
use Rattle.host.proofs.gontsamy_linearize.Goals.{in-Ok, in-Err+in-Ring}
use Rattle.host.proofs.gontsamy_linearize.Goals as goal

pub returns-in-Refused : goal.returns-in-Refused
returns-in-Refused c =
    let told = graph-refused _ _ _ _ (rw c.in-Refused.is at c.in-Err.ensures) in
    record { value = c.from-in-Refused.ensures ∙ told.0; ordered_after = told.1.0; length_after = told.1.1 }

pub returns : goal.returns
returns c =
    elim c.match-linearize_given.branch [
      | in-Ok w ↦
          let told = graph-told _ _ _ _ _ w.in-Ok.ensures (some-order _ _ w.in-Ok.ensures) in
          record {
            value = rw w.number-is told.0;
            ordered_after = (rw w.number-is at c.padded.ensures) ∙ told.1.0;
            length_after = rw (c.as_slice.ensures.value, w.number-is) told.1.1;
          }
      | in-Err+in-Ring w ↦
          let e = rw w.in-Ring.is at w.in-Err.ensures in
          let told = graph-told _ _ _ _ _ e (some-ring _ _ e) in
          record {
            value = rw (w.number-is, w.from.ensures) told.0;
            ordered_after = (rw w.number-is at c.padded.ensures) ∙ told.1.0;
            length_after = rw (c.as_slice.ensures.value, w.number-is) told.1.1;
          }
    ]
