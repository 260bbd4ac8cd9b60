-- `names::path::first_slash` meets its contract: what `position` finds. Assumes nothing.
use Rattle.std.proofs.Common.{rules, tests, ◌≡◌, sym, ◌∙◌}
use Rattle.std.proofs.lemmas.Iterator.{YieldsList-from_slice, IsFirst-from_position}
use Rattle.names.specs.Bytes.{slash}
use Rattle.names.specs.Pieces.{first_slash_is, first_slash-le, first_slash}
use Rattle.names.proofs.path.first_slash.Goals as goal

pub returns : goal.returns
returns c =
    let s = c.args.s.now in
    let f = IsFirst-from_position _ _ _ (λ b. b ≡ slash) (λ b. b ≡ slash → ⊥) c.position.ensures.ran (YieldsList-from_slice s c.iter.ensures.rest) (λ x q k. search (rules, tests)) (λ x q k. search (rules, tests)) in
    let e : c.unwrap_or.result ≡ first_slash s = c.unwrap_or.ensures ∙ sym (first_slash_is s c.position.result f) in
    record { value = e; bound = rw e (first_slash-le s) }
