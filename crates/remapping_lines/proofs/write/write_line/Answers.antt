-- `write_line` meets its contract. Assumes nothing.
use Rattle.std.proofs.Common.{arith, ℕ, ◌≡◌, ◌≤◌, ◌∙◌, sym, List, ◌++◌, length, length-append, append_assoc}
use Rattle.bundle.specs.Encode.{string}
use Rattle.encoder.specs.Started.{started}
use Rattle.encoder.specs.Parts.{Front, none_filled, front-room, front-part, front_next, front-done, same-filled}
use Rattle.encoder.specs.Strings.{string-length}
use Rattle.remapping_lines.specs.Writing.{piece_bytes, InParts, passed_none, passed_some}
use Rattle.remapping_lines.proofs.write.write_line.Goals as goal

-- the first part stands, and two are to come
first_front : (t x y z out cur : List ℕ) (a : ℕ) → InParts t x y z → length (piece_bytes t) ≤ length out → (a ≡ length (string x)) × (cur ≡ started (string x) out)
    → Front (string x) (string y ++ string z) out cur a
first_front t x y z out cur a p r h = record { starts = h.1; is = h.0; room = rw p.bytes at r }

pub returns-in_default : goal.returns-in_default
returns-in_default c = none_filled (piece_bytes c.args.t.now) c.args.out.now (passed_none c.args.t.now c.requires.0 (rw c.in_default.is at c.of-line.ensures.target))

pub put_string-a-requires : goal.put_string-a-requires
put_string-a-requires c =
    let p = passed_some c.args.t.now _ _ c.in-Some.target _ c.requires.0 c.of-line.ensures.context c.of-line.ensures.name c.of-line.ensures.target c.in-Some.is in
    let x = c.of-line.result.context.now in
    let rest = string c.of-line.result.name.now ++ string c.in-Some.target.now in
    let r = rw p.bytes at c.requires.1 in
    (p.first, omega (arith, string-length x, length-append (string x) rest))

pub put_string-requires : goal.put_string-requires
put_string-requires c =
    let p = passed_some c.args.t.now _ _ c.in-Some.target _ c.requires.0 c.of-line.ensures.context c.of-line.ensures.name c.of-line.ensures.target c.in-Some.is in
    let y = c.of-line.result.name.now in
    let room = front-part (string y) (string c.in-Some.target.now) (first_front _ _ _ _ _ _ _ p c.requires.1 c.put_string-a.ensures) in
    (p.second, omega (arith, string-length y))

pub put_string-requires-2 : goal.put_string-requires-2
put_string-requires-2 c =
    let p = passed_some c.args.t.now _ _ c.in-Some.target _ c.requires.0 c.of-line.ensures.context c.of-line.ensures.name c.of-line.ensures.target c.in-Some.is in
    let z = c.in-Some.target.now in
    let front = first_front _ _ _ _ _ _ _ p c.requires.1 c.put_string-a.ensures in
    let room = front-room (front_next (string c.of-line.result.name.now) (string z) front c.put_string.new.out c.put_string.result c.put_string.ensures) in
    (p.third, omega (arith, string-length z))

pub returns : goal.returns
returns c =
    let p = passed_some c.args.t.now _ _ c.in-Some.target _ c.requires.0 c.of-line.ensures.context c.of-line.ensures.name c.of-line.ensures.target c.in-Some.is in
    let x = string c.of-line.result.context.now in
    let y = string c.of-line.result.name.now in
    let z = string c.in-Some.target.now in
    let front = first_front _ _ _ _ _ _ _ p c.requires.1 c.put_string-a.ensures in
    same-filled (piece_bytes c.args.t.now) ((x ++ y) ++ z) c.args.out.now _ _ (p.bytes ∙ sym (append_assoc x y z))
    (front-done (front_next y z front c.put_string.new.out c.put_string.result c.put_string.ensures) c.put_string-2.new.out c.put_string-2.result c.put_string-2.ensures)
