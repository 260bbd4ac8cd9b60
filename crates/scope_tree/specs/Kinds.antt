-- The numbers of a kind. Assumes nothing.
use Rattle.std.specs.Prelude.{ℕ, zero, suc, ◌+◌, ◌<◌, ◌≡◌, refl, Bool, true, false, [], ◌∷◌, get_or}
use Rattle.std.proofs.Common.{arith}
use Rattle.scope_tree.specs.declared.Kind.{Kind}
use Rattle.scope_tree.specs.declared.Kind.TheVariants.{«Type», Function, Module}

-- 1 type, 2 function, 3 module
abbrev pub kind_number : Kind → ℕ
kind_number «Type» = 1
kind_number Function = 2
kind_number Module = 3

-- 47 / 48 / 49: "name held"
abbrev pub twice_number : Kind → ℕ
twice_number «Type» = 48
twice_number Function = 49
twice_number Module = 47

-- a module opens with its declaration
abbrev pub opens_for : Kind → Bool
opens_for «Type» = false
opens_for Function = false
opens_for Module = true

-- how many modules may be open where it is declared: at most 9 after it
abbrev pub deepest_for : Kind → ℕ
deepest_for «Type» = 9
deepest_for Function = 9
deepest_for Module = 8

pub twice-some : (k : Kind) → twice_number k ≡ 0 → ⊥
twice-some «Type» e = omega arith
twice-some Function e = omega arith
twice-some Module e = omega arith

pub opens-deepest : (k : Kind) → opens_for k ≡ true → deepest_for k ≡ 8
opens-deepest «Type» e = let z : ◌≡◌ {A = ℕ} 0 1 = cc in absurd (omega arith)
opens-deepest Function e = let z : ◌≡◌ {A = ℕ} 0 1 = cc in absurd (omega arith)
opens-deepest Module e = refl

-- the kinds in the order of their numbers
pub kinds-in_order : (i : ℕ) → i < 3 → kind_number (get_or («Type» ∷ Function ∷ Module ∷ []) i «Type») ≡ i + 1
kinds-in_order zero h = refl
kinds-in_order (suc zero) h = refl
kinds-in_order (suc (suc zero)) h = refl
kinds-in_order (suc (suc (suc i))) h = absurd (omega arith)
