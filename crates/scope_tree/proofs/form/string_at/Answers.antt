use Rattle.std.proofs.Common.{arith}
use Rattle.scope_tree.specs.FormLaws.{string-part}
use Rattle.scope_tree.proofs.form.string_at.Goals as goal

pub returns : goal.returns
returns c = string-part _ _ _ _ (omega arith) (omega arith)
