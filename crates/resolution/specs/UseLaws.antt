-- Each way through the code that resolves a use. Assumes nothing.
use Prim.Native.Nat.{ℕ, ◌≤◌, ◌<◌}
use Rattle.std.proofs.Common.{arith}
use Rattle.std.specs.Prelude.{Bool, cond, List, [], ◌∷◌, ◌≡◌, refl, length, None, Some}
use Rattle.std.proofs.Math.Bool.{true, false}
use Rattle.std.proofs.Math.Dec.{eqb}
use Rattle.names.specs.Bytes.{same-eq, same_refl, member}
use Rattle.names.specs.Prefix.{directly_in}
use Rattle.names.specs.Keywords.{is_crate}
use Rattle.bundle.specs.Bundle.{Text, Remapping}
use Rattle.card.specs.declared.parts.Card.{Card}
use Rattle.card.specs.Layout.{parent_at, map_at}
use Rattle.card.specs.Index.{Looked}
use Rattle.card.specs.Card.{CardOf, nodes_in, is_at}
use Rattle.card.specs.Laws.{in_none, in_folders, in_files}
use Rattle.resolution.specs.Lists.{Lists}
use Rattle.resolution.specs.Resolution.{get_package_root, remapping_for, Missing, Lookup, found, missing, build_and_verify_path, no_file_fault, to, fails, or_itself, resolve_crate_path, check_local_file_imported_as_external, external, resolve_path_internal}
use Rattle.resolution.specs.Call.{answer, resolve_in}
use Rattle.resolution.specs.CardLaws.{resolved-is}
use Rattle.resolution.specs.Indices.{lists_in, path_in, Importer, ImporterIs, IsFolder, resolved_at, Tells, remapping_in, no_remapping, itself_in}
use Rattle.resolution.specs.declared.listing.Spot.{Spot}
use Rattle.resolution.specs.Results.{Refused}

module _ {s : List ℕ} {c : Card} (C : CardOf s c) where
  abbrev b : Lists
  b = lists_in s

  -- what a lookup found
  pub spot-listed : (h : Spot) (d : Lookup) → Tells s (Some h) d → (h.index < length (nodes_in s)) × (0 < h.index)
  spot-listed h (found p rest) t = (t.0.listed, (let z = t.0.some in positive h.index z))
    where
      positive : (t : ℕ) → (t ≡ 0 → ⊥) → 0 < t
      positive t z = omega arith
  spot-listed h (missing m) t = absurd t

  -- EXTERNAL
  module _ (file : Text) where
    pub external-none : (d : Lookup) → Tells s None d → Refused 22 0 ≡ answer b (external b file d)
    external-none (found p rest) t = absurd t
    external-none (missing m) t = refl

    pub external-own : (h : Spot) (d : Lookup) → Tells s (Some h) d → check_local_file_imported_as_external b file (path_in s h.index) ≡ true → Refused 24 0 ≡ answer b (external b file d)
    external-own h (missing m) t e = absurd t
    external-own h (found p rest) t e = rw (rw t.0.path at e)

    pub external-found : (h : Spot) (d : Lookup) → Tells s (Some h) d → check_local_file_imported_as_external b file (path_in s h.index) ≡ false → resolved_at c.folders h.index h.left ≡ answer b (external b file d)
    external-found h (missing m) t e = absurd t
    external-found h (found p rest) t e = rw (rw t.0.path at e) (resolved-is C p h.index h.left rest t.0 t.1)

  -- CRATE
  module _ (file : Text) (parts : List Text) where
    pub no_root : get_package_root b file ≡ None → Refused 25 0 ≡ answer b (resolve_crate_path b file parts)
    unfolding resolve_crate_path
    no_root e = rw e

    module _ (root : Text) (e : get_package_root b file ≡ Some root) where
      below : resolve_crate_path b file parts ≡ or_itself root file parts (build_and_verify_path b root parts)
      unfolding resolve_crate_path
      below = rw e

      pub crate_found : (h : Spot) → Tells s (Some h) (build_and_verify_path b root parts) → resolved_at c.folders h.index h.left ≡ answer b (resolve_crate_path b file parts)
      crate_found h t = rw below (go (build_and_verify_path b root parts) t)
        where
          go : (d : Lookup) → Tells s (Some h) d → resolved_at c.folders h.index h.left ≡ answer b (or_itself root file parts d)
          go (missing m) t = absurd t
          go (found p rest) t = resolved-is C p h.index h.left rest t.0 t.1

  -- the file of index f itself, where it lies directly in the root of index a
  pub crate_itself : (f a : ℕ) (parts : List Text) → Importer s f → get_package_root b (path_in s f) ≡ Some (path_in s a) → directly_in (path_in s f) (path_in s a) ≡ eqb (parent_at c f) a
      → Tells s None (build_and_verify_path b (path_in s a) parts) → itself_in c f a (length parts) ≡ answer b (resolve_crate_path b (path_in s f) parts)
  crate_itself f a parts i e k t = rw (below (path_in s f) parts (path_in s a) e) (go (build_and_verify_path b (path_in s a) parts) t)
    where
      self : (m : Missing) (u : Bool) → cond u (resolved_at c.folders f (length parts)) (Refused 23 0) ≡ answer b (cond u (to (path_in s f) parts) (fails (no_file_fault m)))
      self m true = resolved-is C (path_in s f) f (length parts) parts (record { some = λ z. omega (arith, i.file); listed = i.listed; path = refl }) refl
      self m false = refl

      go : (d : Lookup) → Tells s None d → itself_in c f a (length parts) ≡ answer b (or_itself (path_in s a) (path_in s f) parts d)
      go (found p rest) t = absurd t
      go (missing m) t = rw k (self m (eqb (parent_at c f) a))

  -- the target of the remapping taken
  pub target_path : (j : ℕ) → j < length b.remappings → IsFolder s (map_at c j).target × (path_in s (map_at c j).target ≡ (remapping_in s j).target)
  target_path j h = let k = C.targets j no_remapping h in (k.folder, k.path)

  -- WHICH FILE THE IMPORTER IS
  module _ (file : Text) where
    pub importer-none : Looked (is_at (nodes_in s) file) (length (nodes_in s)) None → ImporterIs s file None
    importer-none w = (in_none b.folders b.files file C.tree.once w).1

    module _ (f : ℕ) (w : Looked (is_at (nodes_in s) file) (length (nodes_in s)) (Some f)) where
      pub importer-folder : f ≤ length b.folders → ImporterIs s file None
      importer-folder h = (in_folders b.folders b.files file C.tree.once f w h).no_file

      pub importer-is : length b.folders < f → ImporterIs s file (Some f)
      importer-is h = (record { file = h; listed = w.within }, same-eq _ _ w.holds)

  -- 29, or what the use resolves to
  module _ (file : Text) (parts : List Text) where
    pub unlisted : ImporterIs s file None → Refused 29 0 ≡ resolve_in b file parts
    unfolding resolve_in
    unlisted h = rw h

    pub is-listed : (f : ℕ) → ImporterIs s file (Some f) → answer b (resolve_path_internal b (path_in s f) parts) ≡ resolve_in b file parts
    unfolding resolve_in
    is-listed f h = rw (← h.1, file-listed f h.0)
      where
        file-listed : (f : ℕ) → Importer s f → member (path_in s f) b.files ≡ true
        file-listed f i = (in_files b.folders b.files (path_in s f) C.tree.once f (record { some = λ z. omega (arith, i.file); within = i.listed; holds = same_refl (path_in s f) }) i.file).listed

-- A USE, by its first segment
pub use_empty : (b : Lists) (file : Text) → Refused 20 0 ≡ answer b (resolve_path_internal b file [])
unfolding resolve_path_internal
use_empty b file = refl

module _ (b : Lists) (file name : Text) (parts : List Text) where
  pub use_crate : is_crate name ≡ true → answer b (resolve_crate_path b file parts) ≡ answer b (resolve_path_internal b file (name ∷ parts))
  unfolding resolve_path_internal
  use_crate c = rw c

  pub use_unknown : is_crate name ≡ false → remapping_for b file name ≡ None → Refused 21 0 ≡ answer b (resolve_path_internal b file (name ∷ parts))
  unfolding resolve_path_internal
  use_unknown c e = rw (c, e)

  pub use_external : is_crate name ≡ false → (r : Remapping) → remapping_for b file name ≡ Some r
      → answer b (external b file (build_and_verify_path b r.target parts)) ≡ answer b (resolve_path_internal b file (name ∷ parts))
  unfolding resolve_path_internal
  use_external c r e = rw (c, e)
