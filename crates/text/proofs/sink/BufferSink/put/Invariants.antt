-- The bytes so far are written.
use Rattle.std.proofs.Common.{◌≡◌, take}
use Rattle.text.specs.Writing.{Put}
use Rattle.text.proofs.sink.BufferSink.put.Given as goal

abbrev pub invariant-loop-b : goal.invariant-loop-b
invariant-loop-b l =
    (l.self.bytes.ghost_name ≡ l.initial.self.bytes.ghost_name)
    × Put (take l.b-index l.bytes) l.initial.self.bytes.now l.initial.self.at l.self.bytes.now l.self.at
