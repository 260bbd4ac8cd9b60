-- The code's answers in the specification's numbers. Assumes nothing.
use Rattle.std.specs.Prelude.{ℕ, Bool, true, false, cond, eqb, ◌≡◌, refl, Result, Ok, Err}
use Rattle.std.proofs.Common.{sym, ap, ◌∙◌, eqb-true}
use Rattle.refusal.specs.declared.Refusal.{Refusal}
use Rattle.refusal.specs.Numbers.{number_of}
use Rattle.bundle.specs.declared.Passed.{Passed}
use Rattle.bundle.specs.declared.kinds.Kind.{Kind}
use Rattle.bundle.specs.declared.kinds.Kind.TheVariants.{Named, Use, Module, Ignored}
use Rattle.bundle.specs.Limits.{use_kind, module_kind, ignored_kind}
use Rattle.bundle.specs.Results.{Scan, Next, Bad, Walk, Past, Fault, Checked, Refused}
use Rattle.bundle.specs.Results as results

abbrev pub scanned : Result ℕ Refusal → Scan
scanned (Ok at) = Next at
scanned (Err e) = Bad (number_of e.cause) e.place

abbrev pub walked : Result Passed Refusal → Walk
walked (Ok w) = Past w.at w.items w.uses
walked (Err e) = Fault (number_of e.cause) e.place

abbrev pub checked : {A : Type 0} → Result A Refusal → Checked
checked (Ok x) = results.Ok
checked (Err e) = Refused (number_of e.cause) e.place

-- an item's kind as a bundle has it: 1, 2 and 4 have a name
abbrev pub kind_number : Kind → ℕ
kind_number (Named k) = k
kind_number Use = use_kind
kind_number Module = module_kind
kind_number Ignored = ignored_kind

-- and the kind of a number
abbrev pub kind_from : ℕ → Kind
kind_from k = cond (eqb k use_kind) Use (cond (eqb k module_kind) Module (cond (eqb k ignored_kind) Ignored (Named k)))

pub kind-number : (k : ℕ) → kind_number (kind_from k) ≡ k
kind-number k = go (eqb k use_kind) (eqb k module_kind) (eqb k ignored_kind) refl refl refl
  where
    go : (a b c : Bool) → eqb k use_kind ≡ a → eqb k module_kind ≡ b → eqb k ignored_kind ≡ c → kind_number (cond a Use (cond b Module (cond c Ignored (Named k)))) ≡ k
    go true b c p q r = sym (eqb-true k use_kind p)
    go false true c p q r = sym (eqb-true k module_kind q)
    go false false true p q r = sym (eqb-true k ignored_kind r)
    go false false false p q r = refl

-- AN ITEM'S KIND, as the code tells it
pub told-use : (n : ℕ) → kind_from n ≡ Use → n ≡ use_kind
told-use n e = sym (kind-number n) ∙ ap kind_number e

pub told-module : (n : ℕ) → kind_from n ≡ Module → n ≡ module_kind
told-module n e = sym (kind-number n) ∙ ap kind_number e

-- neither
pub told-other : (n : ℕ) → (kind_from n ≡ Use → ⊥) → (kind_from n ≡ Module → ⊥) → (n ≡ use_kind → ⊥) × (n ≡ module_kind → ⊥)
told-other n f g = (λ e. f (ap kind_from e), λ e. g (ap kind_from e))
