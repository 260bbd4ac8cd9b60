-- The digits of the bytes so far are appended.
use Rattle.std.proofs.Common.{take}
use Rattle.std.specs.Io.KnownBytes.{Appends}
use Rattle.lines.specs.Hex.{hex}
use Rattle.lines.proofs.hex.tell_hex.Given as goal

abbrev pub invariant-loop-b : goal.invariant-loop-b
invariant-loop-b g l = Appends (g.W.Write.contents l.initial.out) (g.W.Write.contents l.out) (hex (take l.b-index l.bytes))
