-- The number of a kind, as the code tells the kind. Assumes nothing.
use Rattle.std.specs.Prelude.{ℕ, ◌≡◌}
use Rattle.std.proofs.Common.{sym, ap, ◌∙◌}
use Rattle.bundle.specs.Limits.{use_kind, module_kind, ignored_kind}
use Rattle.bundle.specs.Told.{kind_from, kind_number, kind-number}
use Rattle.bundle.specs.declared.kinds.Kind.{Kind}
use Rattle.bundle.specs.declared.kinds.Kind.TheVariants.{Named, Use, Module, Ignored}

module _ {n : ℕ} {k : Kind} (e : k ≡ kind_from n) where
  number_is : kind_number k ≡ n
  number_is = ap kind_number e ∙ kind-number n

  pub use_byte : k ≡ Use → n ≡ use_kind
  use_byte i = sym number_is ∙ ap kind_number i

  pub module_byte : k ≡ Module → n ≡ module_kind
  module_byte i = sym number_is ∙ ap kind_number i

  pub ignored_byte : k ≡ Ignored → n ≡ ignored_kind
  ignored_byte i = sym number_is ∙ ap kind_number i

  pub named_byte : {m : ℕ} → k ≡ Named m → n ≡ m
  named_byte i = sym number_is ∙ ap kind_number i

  -- not of another kind
  pub no_use : (k ≡ Use → ⊥) → n ≡ use_kind → ⊥
  no_use f i = f (e ∙ ap kind_from i)

  pub no_module : (k ≡ Module → ⊥) → n ≡ module_kind → ⊥
  no_module f i = f (e ∙ ap kind_from i)

  pub not_ignored : (k ≡ Ignored → ⊥) → n ≡ ignored_kind → ⊥
  not_ignored f i = f (e ∙ ap kind_from i)
