-- `Segments::len` meets its contract. Assumes nothing.
use Rattle.std.proofs.Common.{sym, ap, ◌∙◌, length}
use Rattle.resolution.specs.SegmentLaws.{left-length}
use Rattle.resolution.proofs.segments.Segments.len.Goals as goal

pub returns : goal.returns
returns c = sym (left-length c.self.inside) ∙ ap length c.self.view_is
