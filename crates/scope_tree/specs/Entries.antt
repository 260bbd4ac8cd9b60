-- An entry to add, in the numbers that the arrays hold. Assumes nothing.
use Rattle.std.specs.Prelude.{ℕ, Bool}
use Rattle.names.specs.declared.Name.{Name}

pub record Entry : Type 0 where
  pub kind : ℕ
  pub visible : ℕ
  pub scope : ℕ
  pub mark : ℕ
  pub name : Name
  pub origin : ℕ
  pub target : ℕ
  pub moment : ℕ
  -- whether a module opens
  pub opens : Bool
