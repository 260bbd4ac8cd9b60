-- One byte more.
use Rattle.std.proofs.Common.{arith, ◌≡◌, ◌+◌, ◌<◌, ◌++◌, [], length, take, get_or, sym, ap, ◌∙◌}
use Rattle.std.proofs.Output.{has_written_append, has_written_of_eq}
use Rattle.std.proofs.lemmas.List.{take_more, flat_map_more}
use Rattle.std.specs.Fmt.{HasWritten}
use Rattle.lines.specs.Hex.{hex, pair}
use Rattle.lines.proofs.hex.HexDisplay.fmt.Goals as goal

pub loop-b-preserved : goal.loop-b-preserved
loop-b-preserved g c = λ p.
    let xs = c.args.self.now.0.now in
    let i = c.loop-b.b-index in
    let b = get_or xs i 0 in
    let lt : i < length xs = omega arith in
    let more : hex (take i xs) ++ pair b ≡ hex (take (i + 1) xs) = flat_map_more pair [] (take i xs) b ∙ ap hex (sym (take_more xs i 0 lt)) in
    let so_far = c.loop-b.invariant p in
    let one : HasWritten g.W.Write.write_str_gives c.loop-b.f (pair b) c.put_pair.new.f = c.in_ok-put_pair.ensures so_far.plain in
    has_written_of_eq _ _ _ _ _ more (has_written_append _ _ _ _ _ _ so_far one)
