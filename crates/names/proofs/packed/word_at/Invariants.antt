use Rattle.std.proofs.Common.{◌≡◌, ◌<◌}
use Rattle.names.specs.Packed.{word, limit}
use Rattle.names.proofs.packed.word_at.Given as goal

abbrev pub invariant-loop-i : goal.invariant-loop-i
invariant-loop-i l = (l.w ≡ word l.s l.k l.i) × (l.w < limit l.i)
