-- What rewriting items does, for any way to rewrite paths: nothing is lost or invented but paths and ignored items. Assumes nothing.
use Rattle.std.specs.Prelude.{ℕ, suc, ◌≡◌, List, [], ◌∷◌, ◌++◌, map}
use Rattle.std.proofs.Math.Path.{refl}
use Rattle.std.proofs.Common.{sym}
use Rattle.bundle.specs.Bundle.{Text, Element, Head, Items, none, named, use_of, module_of, ignored}
use Rattle.discovery.specs.Discovery.{Use, uses}
use Rattle.assembly.specs.Assemble.{rewrite_items, enum_declarations, has_main}

-- ITEMS AS A LIST
-- an item but for the path of a use and what is in a module: how deep it stands, its mark and visibility, and what its kind has
pub data Heading : Type 0 where
  declared : (depth : ℕ) (head : Head) → Heading
  imports : (depth mark visibility : ℕ) (elements : List Element) → Heading
  opens : (depth mark visibility : ℕ) (name : Text) → Heading
  skipped : (depth mark visibility : ℕ) → Heading

-- in item order, a module's items after it and one deeper
unfoldable pub headings : ℕ → Items → List Heading
headings d none = []
headings d (named head rest) = declared d head ∷ headings d rest
headings d (use_of m v segments elements rest) = imports d m v elements ∷ headings d rest
headings d (module_of m v name inner rest) = opens d m v name ∷ (headings (suc d) inner ++ headings d rest)
headings d (ignored m v rest) = skipped d m v ∷ headings d rest

-- without ignored items
unfoldable pub kept : List Heading → List Heading
kept [] = []
kept (declared d head ∷ l) = declared d head ∷ kept l
kept (imports d m v elements ∷ l) = imports d m v elements ∷ kept l
kept (opens d m v name ∷ l) = opens d m v name ∷ kept l
kept (skipped d m v ∷ l) = kept l

kept_append : (l k : List Heading) → kept (l ++ k) ≡ kept l ++ kept k
unfolding kept
kept_append [] k = refl
kept_append (declared d head ∷ l) k = rw (kept_append l k)
kept_append (imports d m v elements ∷ l) k = rw (kept_append l k)
kept_append (opens d m v name ∷ l) k = rw (kept_append l k)
kept_append (skipped d m v ∷ l) k = kept_append l k

pub map-append : {A B : Type 0} (f : A → B) (l k : List A) → map f (l ++ k) ≡ map f l ++ map f k
map-append f [] k = refl
map-append f (a ∷ l) k = rw (map-append f l k)

module _ (path : List Text → List Text) where
  -- NO ITEM IS LOST OR INVENTED
  pub headings-kept : (d : ℕ) (x : Items) → headings d (rewrite_items path x) ≡ kept (headings d x)
  unfolding headings kept rewrite_items
  headings-kept d none = refl
  headings-kept d (named head rest) = rw (headings-kept d rest)
  headings-kept d (use_of m v segments elements rest) = rw (headings-kept d rest)
  headings-kept d (module_of m v name inner rest) = rw (headings-kept d rest, headings-kept (suc d) inner, kept_append (headings (suc d) inner) (headings d rest))
  headings-kept d (ignored m v rest) = headings-kept d rest

  -- THE USES, in their order, each with its mark, and its path rewritten
  abbrev pub rewritten : Use → Use
  rewritten u = record { mark = u.mark; segments = path u.segments }

  pub uses-rewritten : (x : Items) → uses (rewrite_items path x) ≡ map rewritten (uses x)
  unfolding uses rewrite_items
  uses-rewritten none = refl
  uses-rewritten (named head rest) = uses-rewritten rest
  uses-rewritten (use_of m v segments elements rest) = rw (uses-rewritten rest)
  uses-rewritten (module_of m v name inner rest) = rw (uses-rewritten rest, uses-rewritten inner) (sym (map-append rewritten (uses inner) (uses rest)))
  uses-rewritten (ignored m v rest) = uses-rewritten rest

  -- ENUMS AND MAIN are those of the file
  pub enums_rewritten : (x : Items) → enum_declarations (rewrite_items path x) ≡ enum_declarations x
  unfolding enum_declarations rewrite_items
  enums_rewritten none = refl
  enums_rewritten (named head rest) = rw (enums_rewritten rest)
  enums_rewritten (use_of m v segments elements rest) = enums_rewritten rest
  enums_rewritten (module_of m v name inner rest) = rw (enums_rewritten rest, enums_rewritten inner)
  enums_rewritten (ignored m v rest) = enums_rewritten rest

  pub main-rewritten : (x : Items) → has_main (rewrite_items path x) ≡ has_main x
  unfolding has_main rewrite_items
  main-rewritten none = refl
  main-rewritten (named head rest) = rw (main-rewritten rest)
  main-rewritten (use_of m v segments elements rest) = main-rewritten rest
  main-rewritten (module_of m v name inner rest) = main-rewritten rest
  main-rewritten (ignored m v rest) = main-rewritten rest
