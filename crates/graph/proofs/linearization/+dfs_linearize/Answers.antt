-- `linearization::dfs_linearize` walks as the definition does: a step of specs/Steps for each test of the code. Assumes nothing.
use Rattle.std.proofs.Common.{refl}
use Rattle.std.proofs.lemmas.Result.{err_from_is_err_and}
use Rattle.graph.specs.Steps.{met, begin, room, same_turn, done_turn, id_small, call_ready, call_less, after_call, call_ring, order_room, finish}
use Rattle.graph.proofs.linearization.+dfs_linearize.Goals.{then-d-u+then-not-x-from+in_ok-dfs_linearize, else-d-u, else-d-u-via-then-d-u+else-not-x-from, else-d-u-via-else-d-u}
use Rattle.graph.proofs.linearization.+dfs_linearize.Goals as goal

pub returns-in-Some : goal.returns-in-Some
returns-in-Some t c = met _ _ _ c.requires _ c.in-Some.ensures _ _ c.as_slice.ensures.value c.of.ensures

pub push-requires : goal.push-requires
push-requires t c = room _ _ _ c.requires c.in_default.ensures

pub loop-d-init : goal.loop-d-init
loop-d-init t c = begin _ _ _ c.requires c.in_default.ensures _ c.push.ensures

pub bounds-x-from : goal.bounds-x-from
bounds-x-from t c = id_small _ _ _ c.requires c.in_default.ensures _ _ c.from.ensures c.list-d-items.ensures _ _ c.loop-d.invariant c.loop-d-test.true _ c.from-then-d-u.ensures (rw c.from-then-d-u.ensures c.if-d-u.true)

pub dfs_linearize-requires : goal.dfs_linearize-requires
dfs_linearize-requires t c = (
  rw (← c.decreases) (call_less _ _ _ c.requires c.in_default.ensures _ _ c.from.ensures c.list-d-items.ensures _ _ c.loop-d.invariant c.loop-d-test.true _ refl c.if-d-u.true),
  call_ready _ _ _ c.requires c.in_default.ensures _ _ c.from.ensures c.list-d-items.ensures _ _ c.loop-d.invariant c.loop-d-test.true _ refl c.if-d-u.true (rw c.from-then-d-u.ensures at c.if-not-x-from.true),
)

pub returns-in_err-dfs_linearize : goal.returns-in_err-dfs_linearize
returns-in_err-dfs_linearize t c =
    let p = err_from_is_err_and c.from_residual.result c.from_residual.ensures.1 in
    rw (p.1, p.2)
    (call_ring _ _ _ c.requires c.in_default.ensures _ _ c.from.ensures c.list-d-items.ensures _ _ c.loop-d.invariant c.loop-d-test.true _ refl c.if-d-u.true (rw c.from-then-d-u.ensures at c.if-not-x-from.true) _ c.in_err-dfs_linearize.ensures)

pub loop-d-preserved : goal.loop-d-preserved
loop-d-preserved t c =
    elim c.if-d-u.branch [
      | then-d-u+then-not-x-from+in_ok-dfs_linearize w ↦ rw w.x-is (after_call _ _ _ c.requires c.in_default.ensures _ _ c.from.ensures c.list-d-items.ensures _ _ c.loop-d.invariant c.loop-d-test.true _ refl w.if-d-u.true (rw w.from-then-d-u.ensures at w.if-not-x-from.true) _ w.in_ok-dfs_linearize.ensures)
      | else-d-u w ↦
          rw w.x-is
          (elim w.else-d-u.branch [
            | else-d-u-via-then-d-u+else-not-x-from w' ↦ done_turn _ _ _ c.requires c.in_default.ensures _ _ c.from.ensures c.list-d-items.ensures _ _ c.loop-d.invariant c.loop-d-test.true _ refl w'.if-d-u.true (rw w'.from-then-d-u.ensures at w'.if-not-x-from.false)
            | else-d-u-via-else-d-u w' ↦ same_turn _ _ _ c.requires c.in_default.ensures _ _ c.from.ensures c.list-d-items.ensures _ _ c.loop-d.invariant c.loop-d-test.true w'.if-d-u.false
          ])
    ]

pub push-requires-2 : goal.push-requires-2
push-requires-2 t c = order_room _ _ _ c.requires c.in_default.ensures _ _ c.from.ensures c.list-d-items.ensures _ _ c.loop-d.invariant

pub returns : goal.returns
returns t c =
    rw (c.from-2.ensures, c.pop.ensures, c.push-2.ensures)
    (finish _ _ _ c.requires c.in_default.ensures _ _ c.from.ensures c.list-d-items.ensures _ _ c.loop-d.invariant c.loop-d-test.false)
