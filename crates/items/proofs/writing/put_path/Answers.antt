-- `put_path` meets its contract. Assumes nothing.
use Rattle.std.proofs.Common.{rules, ℕ, ◌≡◌, ◌∙◌, Option, Some, None, ap, subst, ◌+◌, ◌-◌, List, [], ◌∷◌, ◌++◌, length, drop}
use Rattle.names.specs.Bytes.{ascii}
use Rattle.names.specs.Decimal.{unit_name}
use Rattle.bundle.specs.Encode.{string, counted, joined}
use Rattle.assembly.specs.declared.targets.Target.{Target}
use Rattle.assembly.specs.Walk.{segments_at}
use Rattle.assembly.specs.Targets.{path_by, Within}
use Rattle.encoder.specs.Parts.{one_some, one_front, front-room, front-done, one-filled, same-filled}
use Rattle.items.specs.Uses.{path-form, no_path}
use Rattle.items.proofs.writing.put_path.Goals as goal

none_is : (s : List ℕ) (mark : ℕ) (t : Option Target) → t ≡ None → counted string (path_by (segments_at s mark) t) ≡ 0 ∷ []
none_is s mark t e = ap (λ t. counted string (path_by (segments_at s mark) t)) e ∙ no_path s mark

-- `crate`, the unit's name and what the path keeps
abbrev kept : List ℕ → ℕ → Target → List ℕ
kept s mark t = string (ascii "crate") ++ (string (unit_name t.id) ++ joined string (drop (length (segments_at s mark) - t.left) (segments_at s mark)))

unit_is : (s : List ℕ) (mark : ℕ) (o : Option Target) (t : Target) → Within (segments_at s mark) o → o ≡ Some t → counted string (path_by (segments_at s mark) o) ≡ (t.left + 2) ∷ kept s mark t
unit_is s mark o t w e =
    let v = subst (Within (segments_at s mark)) e w in
    ap (λ x. counted string (path_by (segments_at s mark) x)) e ∙ path-form s mark t v.0

pub bounds-out-0 : goal.bounds-out-0
bounds-out-0 c = one_some c.args.out.now _ _ _ (none_is c.args.s.now c.args.mark c.args.target c.in-None.is) c.requires.1.1

pub bounds-out-0-in-Some : goal.bounds-out-0-in-Some
bounds-out-0-in-Some c = let some = one_some c.args.out.now _ _ _ (unit_is c.args.s.now c.args.mark c.args.target _ c.requires.0.1 c.in-Some.is) c.requires.1.1 in search rules

pub slice_bounds-put_segments-count : goal.slice_bounds-put_segments-count
slice_bounds-put_segments-count c = let some = one_some c.args.out.now _ _ _ (unit_is c.args.s.now c.args.mark c.args.target _ c.requires.0.1 c.in-Some.is) c.requires.1.1 in search rules

pub slice_bounds-put_segments-start : goal.slice_bounds-put_segments-start
slice_bounds-put_segments-start c = let some = one_some c.args.out.now _ _ _ (unit_is c.args.s.now c.args.mark c.args.target _ c.requires.0.1 c.in-Some.is) c.requires.1.1 in search rules

pub put_segments-requires : goal.put_segments-requires
put_segments-requires c = rw c.last_segments.ensures.last (front-room (one_front c.args.out.now _ _ _ (unit_is c.args.s.now c.args.mark c.args.target _ c.requires.0.1 c.in-Some.is) c.requires.1.1))

pub returns-in-None : goal.returns-in-None
returns-in-None c =
    let none = none_is c.args.s.now c.args.mark c.args.target c.in-None.is in
    one-filled _ c.args.out.now 0 none (one_some c.args.out.now _ _ _ none c.requires.1.1)

pub returns-in-Some : goal.returns-in-Some
returns-in-Some c =
    let form = unit_is c.args.s.now c.args.mark c.args.target _ c.requires.0.1 c.in-Some.is in
    same-filled _ _ c.args.out.now _ _ form (front-done (one_front c.args.out.now _ _ _ form c.requires.1.1) c.put_segments.new.out c.put_segments.result (rw c.last_segments.ensures.last at c.put_segments.ensures))
