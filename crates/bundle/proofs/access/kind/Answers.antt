-- `bundle::access::kind` meets its contract, way by way. Assumes nothing.
use Rattle.std.proofs.Common.{sym, ap, ◌∙◌}
use Rattle.bundle.specs.Told.{kind_from}
use Rattle.bundle.specs.Access.{first_kind}
use Rattle.bundle.proofs.access.kind.Goals as goal

pub returns : goal.returns
returns c =
    let byte = c.from.ensures ∙ ap kind_from c.byte_at.ensures.0 in
    record { item = λ depth end h. byte ∙ ap kind_from (sym (first_kind depth c.args.s.now end c.args.at h)); byte = byte }
