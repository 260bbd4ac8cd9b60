-- The remapping that a name takes, over a card: the contexts of one name above a file are compared by "lies below". Assumes nothing.
use Rattle.std.specs.Prelude.{ℕ, ◌+◌, ◌≤◌, ◌<◌, Bool, cond, ◌&&◌, ◌≡◌, leb, length, drop, Option, None, Some}
use Rattle.std.proofs.Math.Numerals.{add-one}
use Rattle.std.proofs.Common.{arith, ◌∙◌, drop_of_length-le, drop-cons}
use Rattle.std.proofs.Math.Bool.{true, false}
use Rattle.std.proofs.Math.Path.{refl, sym, ap}
use mathlib.Core.List.{List}
use Rattle.names.specs.Bytes.{same, and_left}
use Rattle.names.specs.Path.{is_path, component_limit}
use Rattle.names.specs.Prefix.{starts_with}
use Rattle.bundle.specs.Bundle.{Text, Remapping}
use Rattle.bundle.specs.Decode.{decode, remapping_at}
use Rattle.card.specs.declared.parts.Card.{Card}
use Rattle.card.specs.Layout.{node_limit, parent_at, map_at}
use Rattle.card.specs.Tree.{ascends, below-is}
use Rattle.card.specs.Card.{CardOf, nodes_in}
use Rattle.resolution.specs.Longest.{only, longer, longest}
use Rattle.resolution.specs.LongestLaws.{tried-longest, longer-none, longer_assoc}
use Rattle.resolution.specs.Resolution.{applies, remapping_for}
use Rattle.resolution.specs.CardLaws.{prefix-order, folder-listed, node-small}
use Rattle.resolution.specs.Indices.{lists_in, path_in, no_remapping, remapping_in, chosen, further, Within, CanTake}

abbrev context_size : Remapping → ℕ
context_size r = length r.context

module _ {s : List ℕ} {c : Card} (C : CardOf s c) where
  abbrev rs : List Remapping
  rs = (decode s).remappings

  context_listed : (j : ℕ) → j < length rs → (map_at c j).context < length (nodes_in s)
  context_listed j h = folder-listed C (map_at c j).context (C.contexts j no_remapping h).folder

  context_path : (j : ℕ) → j < length rs → path_in s (map_at c j).context ≡ (remapping_in s j).context
  context_path j h = (C.contexts j no_remapping h).path

  pub context-small : (j : ℕ) → j < length rs → (map_at c j).context < node_limit
  context-small j h = node-small C (map_at c j).context (context_listed j h)

  context-form : (j : ℕ) → j < length rs → is_path (remapping_in s j).context ≡ true
  context-form j h = sym (ap is_path (context_path j h)) ∙ C.tree.formed (map_at c j).context (context_listed j h)

  -- one context lies below another
  context-below : (i j : ℕ) → i < length rs → j < length rs → ascends component_limit (parent_at c) (map_at c i).context (map_at c j).context ≡ starts_with (remapping_in s i).context (remapping_in s j).context
  context-below i j h k = sym (below-is C.tree (map_at c i).context (map_at c j).context (context_listed i h) (context_listed j k)) ∙ rw (context_path i h, context_path j k)

  module _ (f : ℕ) (listed : f < length (nodes_in s)) (name : Text) where
    abbrev test : Remapping → Bool
    test r = applies (path_in s f) name r

    -- WHETHER ONE APPLIES, as the code has it
    pub applies-is : (j : ℕ) → j < length rs → same (remapping_at s (map_at c j).place).name name && ascends component_limit (parent_at c) f (map_at c j).context ≡ test (remapping_in s j)
    unfolding applies
    applies-is j h =
        rw (C.names j no_remapping h, sym (below-is C.tree f (map_at c j).context listed (context_listed j h)), context_path j h)
        (and-swap (same (remapping_in s j).name name) (starts_with (path_in s f) (remapping_in s j).context))
      where
        and-swap : (x y : Bool) → (x && y) ≡ (y && x)
        and-swap true true = refl
        and-swap true false = refl
        and-swap false true = refl
        and-swap false false = refl

    -- THE LONGER OF TWO
    above : (j : ℕ) → test (remapping_in s j) ≡ true → starts_with (path_in s f) (remapping_in s j).context ≡ true
    unfolding applies
    above j e = and_left (starts_with (path_in s f) (remapping_in s j).context) (same (remapping_in s j).name name) e

    further-is : (best : Option ℕ) (j : ℕ) → CanTake s (path_in s f) name best → j < length rs → test (remapping_in s j) ≡ true
        → chosen s (Some (further c best j)) ≡ longer context_size (chosen s best) (Some (remapping_in s j))
    further-is None j t h e = refl
    further-is (Some a) j t h e =
        rw (context-below a j t.0 h ∙ prefix-order (path_in s f) (remapping_in s a).context (remapping_in s j).context (context-form a t.0) (context-form j h) (above a t.1) (above j e))
        (go (leb (context_size (remapping_in s j)) (context_size (remapping_in s a))))
      where
        go : (u : Bool) → chosen s (Some (cond u a j)) ≡ cond u (Some (remapping_in s a)) (Some (remapping_in s j))
        go true = refl
        go false = refl

    further-can : (best : Option ℕ) (j : ℕ) → CanTake s (path_in s f) name best → j < length rs → test (remapping_in s j) ≡ true → CanTake s (path_in s f) name (Some (further c best j))
    further-can None j t h e = (h, e)
    further-can (Some a) j t h e = go (ascends component_limit (parent_at c) (map_at c a).context (map_at c j).context)
      where
        go : (u : Bool) → CanTake s (path_in s f) name (Some (cond u a j))
        go true = t
        go false = (h, e)

    pub can-within : (best : Option ℕ) → CanTake s (path_in s f) name best → Within c best
    can-within None t = tt
    can-within (Some a) t = (let f = C.few in omega (arith, t.0), context-small a t.0)

-- THE LOOP: the first j were looked at
pub record Taking (s : List ℕ) (file name : Text) (best : Option ℕ) (j : ℕ) : Type 0 where
  pub rest : longer context_size (chosen s best) (longest context_size (applies file name) (drop j (decode s).remappings)) ≡ remapping_for (lists_in s) file name
  pub can : CanTake s file name best

pub taking_none : (s : List ℕ) (file name : Text) → Taking s file name None 0
unfolding remapping_for
taking_none s file name = record { rest = sym (tried-longest context_size (applies file name) (decode s).remappings); can = tt }

module _ {s : List ℕ} {c : Card} (C : CardOf s c) {f : ℕ} (listed : f < length (nodes_in s)) {name : Text} {best : Option ℕ} {j : ℕ} (T : Taking s (path_in s f) name best j) where
  longest-cut : j < length (decode s).remappings → longest context_size (applies (path_in s f) name) (drop j (decode s).remappings)
      ≡ longer context_size (only (applies (path_in s f) name) (remapping_in s j)) (longest context_size (applies (path_in s f) name) (drop (j + 1) (decode s).remappings))
  unfolding longest
  longest-cut h = rw (drop-cons (decode s).remappings j no_remapping h, add-one j)

  pub taking-other : j < length (decode s).remappings → applies (path_in s f) name (remapping_in s j) ≡ false → Taking s (path_in s f) name best (j + 1)
  taking-other h e = record { rest = ap (longer context_size (chosen s best)) (sym (longest-cut h ∙ rw e)) ∙ T.rest; can = T.can }

  pub taking-new : j < length (decode s).remappings → applies (path_in s f) name (remapping_in s j) ≡ true → Taking s (path_in s f) name (Some (further c best j)) (j + 1)
  taking-new h t = record {
    rest = rw (further-is C f listed name best j T.can h t)
        (sym (longer_assoc context_size (chosen s best) (Some (remapping_in s j)) (longest context_size (applies (path_in s f) name) (drop (j + 1) (decode s).remappings)))
        ∙ (ap (longer context_size (chosen s best)) (sym (longest-cut h ∙ rw t)) ∙ T.rest));
    can = further-can C f listed name best j T.can h t;
  }

  pub taking_all : length (decode s).remappings ≤ j → (chosen s best ≡ remapping_for (lists_in s) (path_in s f) name) × CanTake s (path_in s f) name best
  unfolding longest
  taking_all h = (sym (longer-none context_size (chosen s best)) ∙ (ap (λ (l : List Remapping). longer context_size (chosen s best) (longest context_size (applies (path_in s f) name) l)) (sym (drop_of_length-le (decode s).remappings h)) ∙ T.rest), T.can)
