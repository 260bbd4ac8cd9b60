-- The words of demand 3 on files: their linked order, and rings of them, said of imports and without ids or a walk's code. Assumes nothing.
use Rattle.std.specs.Prelude.{◌≡◌}
use mathlib.Core.List.{List, [], ◌∷◌, ◌++◌, Memᴰ}
use Rattle.bundle.specs.Bundle.{Text, Bundle}
use Rattle.discovery.specs.Discovery.{paths_of}
use Rattle.discovery.specs.Reached.{Imports, Reached, Once}

-- THE ORDER
pub record LinkedFiles (b : Bundle) (l : List Text) : Type 0 where
  -- "exactly the reached files"
  pub sound : (f : Text) → Memᴰ f l → Reached b f
  pub complete : (f : Text) → Reached b f → Memᴰ f l
  -- "each once"
  pub once : Once l
  -- "each after every other file it imports": of f and what it imports, the other stands before f
  pub after : (p q : List Text) (f g : Text) → l ≡ p ++ (f ∷ q) → Imports b f g → (g ≡ f → ⊥) → Memᴰ g p

-- RINGS
-- f imports the first of l, each of l the next, and the last of them g
pub data ImportChain (b : Bundle) : Text → List Text → Text → Type 0 where
  last : {f g : Text} → Imports b f g → ImportChain b f [] g
  link : {f g h : Text} {l : List Text} → Imports b f g → ImportChain b g l h → ImportChain b f (g ∷ l) h

-- "two or more different reached files import each other in one": each imports the next, and the last the first
pub record RingOfFiles (b : Bundle) (l : List Text) : Type 0 where
  pub first : Text
  pub second : Text
  pub rest : List Text
  pub is : l ≡ first ∷ (second ∷ rest)
  pub different : Once l
  pub round : ImportChain b first (second ∷ rest) first
  pub reached : (f : Text) → Memᴰ f l → Reached b f

-- imports lead from f to g, or g is f
pub data LeadsTo (b : Bundle) : Text → Text → Type 0 where
  here : {f : Text} → LeadsTo b f f
  step : {f g h : Text} → Imports b f g → LeadsTo b g h → LeadsTo b f h

-- two different reached files, to each of which imports lead from the other
pub record ImportEachOther (b : Bundle) : Type 0 where
  pub a : Text
  pub c : Text
  pub different : a ≡ c → ⊥
  pub reached : Reached b a
  pub there : LeadsTo b a c
  pub back : LeadsTo b c a

-- HOW A RING IS NAMED
-- each of l imports the next
pub data EachImports (b : Bundle) : List Text → Type 0 where
  one : {f : Text} → EachImports b (f ∷ [])
  next : {f g : Text} {l : List Text} → Imports b f g → EachImports b (g ∷ l) → EachImports b (f ∷ (g ∷ l))

-- the files on which a walk stands: the entry first, each imports the next, and no file is there twice
pub record WalkOfFiles (b : Bundle) (l : List Text) : Type 0 where
  pub entry : Text
  pub others : List Text
  pub is_entry : paths_of b ≡ entry ∷ others
  pub after_entry : List Text
  pub begins : l ≡ entry ∷ after_entry
  pub linked : EachImports b l
  pub once : Once l

-- "such a ring is named", and C8: it is the end of a walk, so it starts with the one of its files that the walk came to first
pub record NamedRing (b : Bundle) (l : List Text) : Type 0 where
  pub ring : RingOfFiles b l
  pub before : List Text
  pub walk : WalkOfFiles b (before ++ l)
