-- `card::hash::mix` meets its contract. Assumes nothing.
use native.Mathlib.Omega.{arith}
use Prim.Native.Nat.{ℕ, ◌+◌, ◌%◌}
use mathlib.Core.Path.{◌≡◌, sym, ◌∙◌}
use Rattle.card.specs.Index.{folded, hash-more, hash-end}
use Rattle.card.proofs.hash.mix.Goals as goal

wrapped : (y b : ℕ) → (y % 4294967296 + b) % 4294967296 ≡ folded (y + b)
wrapped y b = omega arith

pub loop-b-preserved : goal.loop-b-preserved
loop-b-preserved c = rw (c.from.ensures, wrapped) (sym (hash-more _ _ _ _ c.loop-b-test.true) ∙ c.loop-b.invariant)

pub returns : goal.returns
returns c = sym (hash-end _ _ _ _ c.loop-b-test.false) ∙ c.loop-b.invariant
