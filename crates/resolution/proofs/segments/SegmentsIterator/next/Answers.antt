-- The next segment. Assumes nothing.
use Rattle.std.proofs.Common.{sym, ap, ◌∙◌, length, arith}
use Rattle.resolution.specs.SegmentLaws.{left_none, left_more, first-name, rest-names}
use Rattle.resolution.proofs.segments.SegmentsIterator.next.Goals as goal

pub returns-then-self-eq0-clause-steps : goal.returns-then-self-eq0-clause-steps
returns-then-self-eq0-clause-steps c = let z = sym c.self.view_is ∙ left_none c.self.inside c.if-self-eq0.true in (z, z)

pub invariant_of-self : goal.invariant_of-self
invariant_of-self c = rest-names c.self.inside c.if-self-eq0.false _ c.next_string-self-inside.ensures.0 c.self.invariant c.next_string-self-inside.ensures.1

pub returns-clause-steps : goal.returns-clause-steps
returns-clause-steps c = (
  sym c.self.view_is ∙ rw c.string-name.ensures (left_more c.self.inside c.if-self-eq0.false _ c.next_string-self-inside.ensures.0),
  rw c.string-name.ensures (first-name c.self.inside c.if-self-eq0.false _ c.next_string-self-inside.ensures.0 c.self.invariant),
)

pub returns-clause-goes : goal.returns-clause-goes
returns-clause-goes c =
    let e = ap length (sym c.self.view_is ∙ left_more c.self.inside c.if-self-eq0.false _ c.next_string-self-inside.ensures.0) in
    record { on = λ f. (tt, tt, omega arith); keeps = tt; rests = λ f. tt }
