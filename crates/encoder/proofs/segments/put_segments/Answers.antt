-- `put_segments` meets its contract. Assumes nothing.
use Rattle.std.proofs.Common.{ℕ, ◌≡◌, ◌≤◌, sym, List, ◌∷◌, [], ◌++◌, length, append_assoc}
use Rattle.names.specs.Bytes.{ascii}
use Rattle.names.specs.Decimal.{unit_name}
use Rattle.bundle.specs.Encode.{string, joined}
use Rattle.encoder.specs.Started.{started}
use Rattle.encoder.specs.Parts.{Front, front_next, front-done, same-filled}
use Rattle.encoder.proofs.segments.put_segments.Goals as goal

-- `crate` stands, and two parts are to come
crate_front : (x y out cur : List ℕ) (a : ℕ) → length (string (ascii "crate") ++ (x ++ y)) ≤ length out
    → (a ≡ length (string (99 ∷ 114 ∷ 97 ∷ 116 ∷ 101 ∷ []))) × (cur ≡ started (string (99 ∷ 114 ∷ 97 ∷ 116 ∷ 101 ∷ [])) out) → Front (string (ascii "crate")) (x ++ y) out cur a
unfolding ascii
crate_front x y out cur a r h = record { starts = h.1; is = h.0; room = r }

pub returns : goal.returns
returns c =
    let unit = string (unit_name c.args.id) in
    let rest = joined string c.args.rest in
    let front = crate_front unit rest c.args.out.now c.put_string-a.new.out c.put_string-a.result c.requires c.put_string-a.ensures in
    same-filled (string (ascii "crate") ++ (unit ++ rest)) ((string (ascii "crate") ++ unit) ++ rest) c.args.out.now _ _ (sym (append_assoc (string (ascii "crate")) unit rest))
    (front-done (front_next unit rest front c.put_unit.new.out c.put_unit.result c.put_unit.ensures) c.put.new.out c.put.result c.put.ensures)
