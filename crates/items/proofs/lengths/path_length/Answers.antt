-- `path_length` meets its contract. Assumes nothing.
use Rattle.std.proofs.Common.{arith, ◌∙◌, sym, ap, subst, ◌-◌, ◌++◌, length, drop, length-append}
use Rattle.names.specs.Bytes.{ascii}
use Rattle.names.specs.Decimal.{unit_name}
use Rattle.bundle.specs.Encode.{string, counted, joined}
use Rattle.assembly.specs.Walk.{segments_at}
use Rattle.assembly.specs.Targets.{path_by, Within}
use Rattle.encoder.specs.Strings.{crate_length, string-length}
use Rattle.items.specs.Uses.{path-form, no_path}
use Rattle.items.proofs.lengths.path_length.Goals as goal

pub overflow_add-result-in-Some-3 : goal.overflow_add-result-in-Some-3
overflow_add-result-in-Some-3 c = let few = c.last_segments.ensures.few in omega arith

pub returns-in-None : goal.returns-in-None
returns-in-None c =
    let none = ap (λ t. counted string (path_by (segments_at c.args.s.now c.args.mark) t)) c.in-None.is ∙ no_path c.args.s.now c.args.mark in
    (sym (ap length none), omega arith)

pub returns-in-Some : goal.returns-in-Some
returns-in-Some c =
    let s = c.args.s.now in
    let t = c.in-Some.target in
    let segments = segments_at s c.args.mark in
    let w = subst (Within segments) c.in-Some.is c.requires.1 in
    let rest = joined string (drop (length segments - t.left) segments) in
    let f = ap (λ t. length (counted string (path_by segments t))) c.in-Some.is ∙ ap length (path-form s c.args.mark t w.0) in
    let u = ap length (c.as_slice.ensures.value ∙ c.unit_name-unit.ensures) in
    let v = string-length (unit_name t.id) in
    let size = c.size.ensures.0 ∙ ap (λ l. length (joined string l)) c.last_segments.ensures.last in
    let a = length-append (string (ascii "crate")) (string (unit_name t.id) ++ rest) in
    let b = length-append (string (unit_name t.id)) rest in
    let few = c.last_segments.ensures.few in
    (omega (arith, crate_length), omega arith)
