-- One byte more.
use Rattle.std.proofs.Common.{arith, ◌≡◌, ◌+◌, ◌<◌, ◌++◌, ◌∷◌, [], length, take, get_or, sym, ap, ◌∙◌, subst}
use Rattle.std.proofs.KnownBytes.{Appends-trans}
use Rattle.std.proofs.lemmas.List.{take_more, flat_map_more}
use Rattle.std.specs.Io.KnownBytes.{Appends}
use Rattle.lines.specs.Hex.{hex, pair, pair-digits}
use Rattle.lines.proofs.hex.tell_hex.Goals as goal

pub loop-b-preserved : goal.loop-b-preserved
loop-b-preserved g c =
    let xs = c.args.bytes.now in
    let i = c.loop-b.b-index in
    let b = get_or xs i 0 in
    let lt : i < length xs = omega arith in
    let digits : c.glyph.result ∷ c.glyph-in-loop-b.result ∷ [] ≡ pair b = rw (c.glyph.ensures, c.glyph-in-loop-b.ensures) (sym (pair-digits b (omega (arith, c.type_inv.bytes i)))) in
    let more : hex (take i xs) ++ pair b ≡ hex (take (i + 1) xs) = flat_map_more pair [] (take i xs) b ∙ ap hex (sym (take_more xs i 0 lt)) in
    subst (Appends _ _) more (Appends-trans _ _ _ _ _ c.loop-b.invariant (subst (Appends _ _) digits c.in_ok-write_all.ensures.bytes))
