-- LAWS for the code: texts that are told one after another. Assumes nothing.
use Rattle.std.specs.Prelude.{ℕ, ◌≡◌, List}
use Rattle.std.proofs.Common.{subst}

-- the same text, said another way
pub tells_as : {S : Type 0} (P : S → List ℕ → S → Type 0) {s t : S} {a b : List ℕ} → P s a t → a ≡ b → P s b t
tells_as P {s} {t} p e = subst (λ w. P s w t) e p
