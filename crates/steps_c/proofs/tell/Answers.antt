-- `steps_c::tell` meets its contract. Assumes nothing.
use mathlib.Core.Path.{sym}
use lib.Seq.{set_out}
use Rattle.steps_c.proofs.tell.Goals as goal

pub returns-else-i-out : goal.returns-else-i-out
returns-else-i-out c = sym (set_out _ _ _ c.if-i-out.false)
