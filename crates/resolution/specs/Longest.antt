-- Tried longest first. Assumes nothing.
use Rattle.std.specs.Prelude.{ℕ, Bool, cond, List, [], ◌∷◌, leb, Option, None, Some}

-- before the first that is not longer; equally long ones stay in the order of the list
unfoldable pub insert : {A : Type 0} → (A → ℕ) → A → List A → List A
insert size a [] = a ∷ []
insert size a (x ∷ l) = cond (leb (size x) (size a)) (a ∷ x ∷ l) (x ∷ insert size a l)

unfoldable pub longest_first : {A : Type 0} → (A → ℕ) → List A → List A
longest_first size [] = []
longest_first size (a ∷ l) = insert size a (longest_first size l)

-- the first of which a test holds
unfoldable pub first_of : {A : Type 0} → (A → Bool) → List A → Option A
first_of f [] = None
first_of f (a ∷ l) = cond (f a) (Some a) (first_of f l)

-- tried longest first
abbrev pub tried : {A : Type 0} → (A → ℕ) → (A → Bool) → List A → Option A
tried size f l = first_of f (longest_first size l)

-- THE SAME, SEARCHED FOR: the longest of which the test holds, the first of equally long ones
abbrev pub only : {A : Type 0} → (A → Bool) → A → Option A
only f a = cond (f a) (Some a) None

abbrev pub longer : {A : Type 0} → (A → ℕ) → Option A → Option A → Option A
longer size None y = y
longer size (Some a) None = Some a
longer size (Some a) (Some b) = cond (leb (size b) (size a)) (Some a) (Some b)

unfoldable pub longest : {A : Type 0} → (A → ℕ) → (A → Bool) → List A → Option A
longest size f [] = None
longest size f (a ∷ l) = longer size (only f a) (longest size f l)
