-- `read_lines` meets its contract. Assumes nothing.
use Rattle.std.proofs.Common.{rules, length, arith}
use Rattle.std.proofs.lemmas.Result.{err_from_is_err_and}
use Rattle.encoder.specs.Parts.{front-room, front-all}
use Rattle.remapping_lines.specs.Answers.{tested-bad, tested-good, no_room, section-some, section-told, section-front, section-whole}
use Rattle.remapping_lines.proofs.read_lines.Goals as goal

pub returns-in_err-counted : goal.returns-in_err-counted
returns-in_err-counted c =
    let b = tested-bad c.args.s.now _ _ c.in_err-counted.ensures in
    let y = err_from_is_err_and c.from_residual.result c.from_residual.ensures.1 in
    record { value = rw (y.1, y.2) (b.answers (length c.args.out.now)); out_after = b.keeps c.args.out.now }

pub returns-then-out-counted : goal.returns-then-out-counted
returns-then-out-counted c =
    let g = tested-good c.args.s.now _ _ c.in_ok-counted.ensures in
    let told = no_room c.args.s.now _ _ g c.args.out.now (omega arith) in
    record { value = rw c.at.ensures told.0; out_after = told.1 }

pub bounds-out-0 : goal.bounds-out-0
bounds-out-0 c = let some = section-some c.args.s.now _ _ (tested-good c.args.s.now _ _ c.in_ok-counted.ensures) in omega arith

pub slice_bounds-write_lines-count : goal.slice_bounds-write_lines-count
slice_bounds-write_lines-count c = let some = section-some c.args.s.now _ _ (tested-good c.args.s.now _ _ c.in_ok-counted.ensures) in search rules

pub slice_bounds-write_lines-start : goal.slice_bounds-write_lines-start
slice_bounds-write_lines-start c = let some = section-some c.args.s.now _ _ (tested-good c.args.s.now _ _ c.in_ok-counted.ensures) in search rules

pub write_lines-requires : goal.write_lines-requires
write_lines-requires c =
    let g = tested-good c.args.s.now _ _ c.in_ok-counted.ensures in
    (g.accepted, front-room (section-front c.args.s.now _ _ g c.args.out.now c.if-out-counted.false))

pub returns : goal.returns
returns c =
    let g = tested-good c.args.s.now _ _ c.in_ok-counted.ensures in
    let room = c.if-out-counted.false in
    let whole = front-all (section-front c.args.s.now _ _ g c.args.out.now room) c.write_lines.new.out c.write_lines.ensures in
    record { value = section-told c.args.s.now _ _ g c.args.out.now room; out_after = section-whole c.args.s.now _ _ g c.args.out.now room _ whole }
