-- The lookup below a folder, segment by segment, over a card. Assumes nothing.
use Prim.Native.Nat.{ℕ, ◌≤◌, ◌<◌}
use native.Mathlib.Omega.{arith}
use Rattle.std.proofs.Math.Decide.{dec_lt}
use Rattle.std.specs.Prelude.{Option, None, Some, Bool, ◌||◌, ◌≡◌, List, [], ◌∷◌, ◌++◌, length}
use Rattle.std.proofs.Math.Bool.{true, false}
use Rattle.std.proofs.Math.Path.{refl, subst}
use Rattle.std.proofs.Common.{sym, ap, ◌∙◌}
use Rattle.names.specs.Bytes.{ascii, same, same-eq, same_refl, member}
use Rattle.names.specs.Prefix.{child, child_file}
use Rattle.names.specs.FolderTheorems.{Plain}
use Rattle.bundle.specs.Bundle.{Text}
use Rattle.bundle.specs.Form.{IsName}
use Rattle.card.specs.declared.parts.Card.{Card}
use Rattle.card.specs.Index.{Hit, Looked}
use Rattle.card.specs.Card.{CardOf, nodes_in, sought}
use Rattle.card.specs.Laws.{in_none, in_folders, in_files}
use Rattle.resolution.specs.Lists.{Lists}
use Rattle.resolution.specs.Resolution.{is_folder, build_and_verify_path}
use Rattle.resolution.specs.Theorems.{segment-plain, file-plain, is_listed, folder-below, exists_below}
use Rattle.resolution.specs.Indices.{lists_in, path_in, IsFolder, Enters, located, Tells}
use Rattle.resolution.specs.declared.listing.Spot.{Spot}

pub nothing-after : (t : Text) → t ++ [] ≡ t
nothing-after [] = refl
nothing-after (x ∷ t) = ap (λ (l : Text). x ∷ l) (nothing-after t)

pub segment-named : (n : Text) → IsName n → Plain (n ++ [])
segment-named n h = subst Plain (sym (nothing-after n)) (segment-plain n h)

pub named-byte : (n : Text) → IsName n → 1 ≤ length n
named-byte n h = (segment-plain n h).some_byte

-- the ending of a file's name
abbrev pub simf : Text
simf = 46 ∷ 115 ∷ 105 ∷ 109 ∷ 102 ∷ []

simf-is : simf ≡ ascii ".simf"
unfolding ascii
simf-is = refl

pub file-named : (n : Text) → IsName n → Plain (n ++ simf)
file-named n h = rw simf-is (file-plain n h)

module _ {s : List ℕ} {c : Card} (C : CardOf s c) (d : ℕ) where
  abbrev b : Lists
  b = lists_in s

  -- whether an index is that of a path
  abbrev is_of : Text → ℕ → Bool
  is_of t i = same (path_in s i) t

  -- a segment that is a folder's name
  module _ (part : Text) (some_byte : 1 ≤ length part) where
    asked : is_folder b (child (path_in s d) part) ≡ member (child (path_in s d) part) b.folders
    asked = folder-below b (path_in s d) part some_byte

    found-child : (r : Option ℕ) → Looked (sought (nodes_in s) d (part ++ [])) (length (nodes_in s)) r → Looked (is_of (child (path_in s d) part)) (length (nodes_in s)) r
    found-child r w = subst (λ (x : Text). Looked (is_of (child (path_in s d) x)) (length (nodes_in s)) r) (nothing-after part) w

    pub entered : (r : ℕ) → Looked (sought (nodes_in s) d (part ++ [])) (length (nodes_in s)) (Some r) → r ≤ length b.folders → Enters s d part (Some r)
    entered r w h =
        let f = found-child (Some r) w in
        (h, (asked ∙ (in_folders b.folders b.files (child (path_in s d) part) C.tree.once r f h).listed, same-eq _ _ f.holds))

    pub entered-none : Looked (sought (nodes_in s) d (part ++ [])) (length (nodes_in s)) None → Enters s d part None
    entered-none w = asked ∙ (in_none b.folders b.files (child (path_in s d) part) C.tree.once (found-child None w)).0

    pub entered_file : (r : ℕ) → Looked (sought (nodes_in s) d (part ++ [])) (length (nodes_in s)) (Some r) → length b.folders < r → Enters s d part None
    entered_file r w h = asked ∙ (in_files b.folders b.files (child (path_in s d) part) C.tree.once r (found-child (Some r) w) h).no_folder

  -- one that is a file's
  module _ (part : Text) where
    found_file : (r : Option ℕ) → Looked (sought (nodes_in s) d (part ++ simf)) (length (nodes_in s)) r → Looked (is_of (child_file (path_in s d) part)) (length (nodes_in s)) r
    unfolding child_file
    found_file r w = subst (λ (x : Text). Looked (is_of (child (path_in s d) (part ++ x))) (length (nodes_in s)) r) simf-is w

    pub located-none : Looked (sought (nodes_in s) d (part ++ simf)) (length (nodes_in s)) None → (left : ℕ) → located s (child_file (path_in s d) part) left None
    located-none w left = let n = in_none b.folders b.files (child_file (path_in s d) part) C.tree.once (found_file None w) in exists_below b (path_in s d) part ∙ rw (n.0, n.1)

    pub located-at : (r : ℕ) → Looked (sought (nodes_in s) d (part ++ simf)) (length (nodes_in s)) (Some r) → (left : ℕ) → located s (child_file (path_in s d) part) left (Some (record { index = r; left = left }))
    located-at r w left = let f = found_file (Some r) w in (record { some = f.some; listed = f.within; path = same-eq _ _ f.holds }, refl)

  located-tells : (part : Text) (rest : List Text) (r : Option Spot) → is_folder b (child (path_in s d) part) ≡ false → located s (child_file (path_in s d) part) (length rest) r
      → Tells s r (build_and_verify_path b (path_in s d) (part ∷ rest))
  unfolding build_and_verify_path
  located-tells part rest (Some i) e h = rw (e, exists_below b (path_in s d) part ∙ is-listed (dec_lt (length b.folders) i.index)) h
    where
      or_right : (a : Bool) → (a || true) ≡ true
      or_right true = refl
      or_right false = refl

      at : Hit (is_of (child_file (path_in s d) part)) (length (nodes_in s)) i.index
      at = record { some = h.0.some; within = h.0.listed; holds = rw h.0.path (same_refl (child_file (path_in s d) part)) }

      is-listed : Dec (length b.folders < i.index) → is_listed b (child_file (path_in s d) part) ≡ true
      is-listed (yes k) = rw (in_files b.folders b.files (child_file (path_in s d) part) C.tree.once i.index at k).listed
      is-listed (no k) =
          rw (in_folders b.folders b.files (child_file (path_in s d) part) C.tree.once i.index at (omega arith)).listed
          (or_right (member (child_file (path_in s d) part) b.files))
  located-tells part rest None e h = rw (e, h) tt

-- THE LOOP: the folder of index dir was entered, and these segments are left
pub record Down (s : List ℕ) (base dir : ℕ) (all left : List Text) : Type 0 where
  pub folder : IsFolder s dir
  pub same : build_and_verify_path (lists_in s) (path_in s dir) left ≡ build_and_verify_path (lists_in s) (path_in s base) all

module _ {s : List ℕ} {base dir : ℕ} {all left : List Text} (D : Down s base dir all left) where
  pub down_enters : (name : Text) (rest : List Text) → left ≡ name ∷ rest → (d : ℕ) → Enters s dir name (Some d) → Down s base d all rest
  unfolding build_and_verify_path
  down_enters name rest q d e = record { folder = e.0; same = rw e.1.1 (step ∙ (ap (build_and_verify_path (lists_in s) (path_in s dir)) (sym q) ∙ D.same)) }
    where
      step : build_and_verify_path (lists_in s) (child (path_in s dir) name) rest ≡ build_and_verify_path (lists_in s) (path_in s dir) (name ∷ rest)
      step = rw e.1.0

  pub down_names : {c : Card} → CardOf s c → (name : Text) (rest : List Text) → left ≡ name ∷ rest → Enters s dir name None → (x : Option Spot) → located s (child_file (path_in s dir) name) (length rest) x
      → Tells s x (build_and_verify_path (lists_in s) (path_in s base) all)
  down_names C name rest q e x l =
      subst (Tells s x) (ap (build_and_verify_path (lists_in s) (path_in s dir)) (sym q) ∙ D.same) (located-tells C dir name rest x e l)

  pub down_ends : left ≡ [] → Tells s None (build_and_verify_path (lists_in s) (path_in s base) all)
  unfolding build_and_verify_path
  down_ends q = subst (Tells s None) (ap (build_and_verify_path (lists_in s) (path_in s dir)) (sym q) ∙ D.same) tt
