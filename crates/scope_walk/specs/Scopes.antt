-- Step 6, the scope walk: the tree calls of a program, and what they come to, one after another. Assumes nothing.
use Rattle.std.specs.Prelude.{ℕ, Bool, List, [], ◌∷◌, ◌++◌, eqb}
use Rattle.bundle.specs.Bundle.{Text, Element, Items, none, named, use_of, module_of, ignored}
use Rattle.bundle.specs.Encode.{string, counted, element}
use Rattle.scope_tree.specs.Form.{Request, enters, exits, resolves_use, call_of}
use Rattle.scopes.specs.Meets.{declares}
use Rattle.scope_tree.specs.Step.{Answer, ok, marked, refused, Model, step}
use Rattle.scope_tree.specs.Flat.{Flat, flat, first_flat}

-- THE CALLS
-- a tree call, and the place that it has if it is refused: its item's mark, 0 for a unit
pub record Asked : Type 0 where
  pub place : ℕ
  pub request : Request

abbrev pub asked : ℕ → Request → Asked
asked m q = record { place = m; request = q }

-- visibility 1 is public
abbrev pub is_public : ℕ → Bool
is_public v = eqb v 1

-- a use as it is handed over: the bundle's form
abbrev pub use_form : List Text → List Element → List ℕ
use_form segments elements = counted string segments ++ counted element elements

-- "per unit or module enter, items in order, exit"; kinds 1, 2 and 4 declare. A unit is a module with mark 0
unfoldable pub scope_calls : Items → List Asked
scope_calls none = []
scope_calls (named head rest) = asked head.mark (declares head.kind head.name (is_public head.visibility) head.mark) ∷ scope_calls rest
scope_calls (use_of m v segments elements rest) = asked m (resolves_use (use_form segments elements) (is_public v)) ∷ scope_calls rest
scope_calls (module_of m v name inner rest) =
    asked m (enters name (is_public v) m) ∷ (scope_calls inner ++ (asked m exits ∷ scope_calls rest))
scope_calls (ignored m v rest) = scope_calls rest

-- WHAT THEY COME TO
pub data Walked (X : Type 0) : Type 0 where
  -- all were accepted: the tree that they left
  done : X → Walked X
  -- the first that was refused: its number and its place
  stopped : ℕ → ℕ → Walked X

-- after a call that gave the tree y: on with it, or the end
abbrev pub onwards : {X : Type 0} → X → Answer → ℕ → (X → Walked X) → Walked X
onwards y ok p k = k y
onwards y (marked m) p k = k y
onwards y (refused n) p k = stopped n p

-- over any model of the tree: 01's register, or the list of entries
unfoldable pub walk_from : {X C : Type 0} → Model X C → X → List Asked → Walked X
walk_from M x [] = done x
walk_from M x (a ∷ l) = onwards (step M x (call_of a.request)).0 (step M x (call_of a.request)).1 a.place (λ y. walk_from M y l)

-- STEP 6, from the empty tree
unfoldable pub scope_walk : Items → Walked Flat
scope_walk p = walk_from flat first_flat (scope_calls p)
