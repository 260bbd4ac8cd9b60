-- The scope walk over the units of a linked order. Assumes nothing.
use Rattle.std.specs.Prelude.{ℕ, ◌+◌, ◌≤◌, ◌<◌, false, ◌≡◌, refl, List, [], ◌∷◌, ◌++◌, length, get_or, drop}
use Rattle.std.proofs.Common.{add-one, sym, ap, ◌∙◌, append_assoc, drop-cons, drop_of_length-le}
use Rattle.names.specs.Decimal.{unit_name}
use Rattle.bundle.specs.Bundle.{Items, Bundle}
use Rattle.bundle.specs.Bundle as bundle
use Rattle.bundle.specs.Limits.{depth_limit}
use Rattle.bundle.specs.Stand.{Bytes}
use Rattle.bundle.specs.Decode.{decode, items_at}
use Rattle.bundle.specs.Theorems.{sound, accepted}
use Rattle.scope_tree.specs.Form.{enters, exits}
use Rattle.scope_tree.specs.Flat.{flat}
use Rattle.scopes.specs.Runs.{first-is, first_good}
use Rattle.scope_tree.specs.Trees.{cleared, Good, flat_of}
use Rattle.scope_tree.specs.declared.Tree.{Tree}
use Rattle.discovery.specs.declared.known.Known.{Known}
use Rattle.assembly.specs.Assemble.{file_of, items_of, local_items, assembled}
use Rattle.assembly.specs.Given.{PlacedUnit}
use Rattle.assembly.specs.Targets.{file_uses}
use Rattle.scope_walk.specs.Scopes.{Asked, asked, scope_calls, walk_from, scope_walk}
use Rattle.scope_walk.specs.Steps.{Stop, Walks, reached, items_calls, Plain}
use Rattle.scope_walk.specs.Fit.{unit-plain}

-- the calls of a unit, and of units in an order
unfoldable pub unit_calls : Bundle → ℕ → List Asked
unit_calls b u = scope_calls (bundle.module_of 0 0 (unit_name u) (local_items b u) bundle.none)

unfoldable pub program_calls : Bundle → List ℕ → List Asked
program_calls b o = scope_calls (assembled b o)

pub program-none : (b : Bundle) → program_calls b [] ≡ []
unfolding program_calls assembled scope_calls
program-none b = refl

pub program-one : (b : Bundle) (u : ℕ) (o : List ℕ) → program_calls b (u ∷ o) ≡ unit_calls b u ++ program_calls b o
unfolding program_calls unit_calls assembled scope_calls
program-one b u o =
    ap (λ (l : List Asked). asked 0 (enters (unit_name u) false 0) ∷ l) (sym (append_assoc (scope_calls (local_items b u)) (asked 0 exits ∷ []) (scope_calls (assembled b o))))

-- A UNIT, by the items that the code reads
pub unit-form : (b : Bundle) (u : ℕ) → unit_calls b u ≡ asked 0 (enters (unit_name u) false 0) ∷ (scope_calls (local_items b u) ++ (asked 0 exits ∷ []))
unfolding unit_calls scope_calls
unit-form b u = refl

pub unit-inside : (s : List ℕ) (u end at : ℕ) → items_at depth_limit s end at ≡ items_of (decode s) u → items_calls s (file_of (decode s) u) depth_limit end at ≡ scope_calls (local_items (decode s) u)
unfolding items_calls local_items
unit-inside s u end at i = rw i refl

pub unit-ready : (s : List ℕ) → Bytes s → {k : Known} {u : ℕ} → PlacedUnit s k u → (end at : ℕ) → items_at depth_limit s end at ≡ items_of (decode s) u → Plain (file_uses s (file_of (decode s) u)) (items_at depth_limit s end at)
unit-ready s B {k} {u} x end at i = rw i (unit-plain (decode s) (sound s B (decode s) (accepted s x.of_unit.checked)).1 u)

-- UNITS ONE AFTER THE OTHER
pub order-step : (b : Bundle) (ids : List ℕ) (i : ℕ) → i < length ids → program_calls b (drop i ids) ≡ unit_calls b (get_or ids i 0) ++ program_calls b (drop (i + 1) ids)
order-step b ids i h = ap (program_calls b) (drop-cons ids i 0 h ∙ ap (λ (k : ℕ). get_or ids i 0 ∷ drop k ids) (sym (add-one i))) ∙ program-one b (get_or ids i 0) (drop (i + 1) ids)

pub order-end : (b : Bundle) (ids : List ℕ) (i : ℕ) → length ids ≤ i → program_calls b (drop i ids) ≡ []
order-end b ids i h = ap (program_calls b) (drop_of_length-le ids h) ∙ program-none b

-- FROM THE EMPTY TREE
-- step 6 of the program p came to x: 0 and the tree u, or a number and a place
pub record ScopedAs (p : Items) (x : Stop) (u : Tree) : Type 0 where
  pub good : Good u
  pub walked : scope_walk p ≡ reached x (flat_of u)

pub scoped_as : (b : Bundle) (o : List ℕ) (x : Stop) (u : Tree) → Walks cleared (program_calls b o) x u → ScopedAs (assembled b o) x u
unfolding scope_walk program_calls
scoped_as b o x u h =
    record {
      good = h.good first_good;
      walked = ap (λ y. walk_from flat y (scope_calls (assembled b o))) (sym first-is) ∙ h.walked first_good;
    }
