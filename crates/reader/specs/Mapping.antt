-- 9 to 13, and what the card has of the remappings. Assumes nothing.
use Prim.Native.Nat.{ℕ, suc, ◌+◌, ◌-◌, ◌*◌, ◌≤◌, ◌<◌}
use native.Mathlib.Omega.{arith}
use Rattle.std.specs.Prelude.{Bool, true, cond, ◌≡◌, refl, set, Some, None}
use Rattle.std.proofs.Math.Bool.{false}
use Rattle.std.proofs.Math.Path.{sym, ap}
use Rattle.std.proofs.Common.{◌∙◌, length-set, get_or-set_same, get_or-set_other}
use mathlib.Core.List.{List, [], map}
use Rattle.std.proofs.Math.ListN.{length, get_or, length-append, get_or-append}
use Rattle.std.proofs.Math.Decide.{dec_lt}
use Rattle.names.specs.Bytes.{same-eq, equal-same, different, member, member-found, member-none, false_true}
use Rattle.bundle.specs.Bundle.{Text, File, with_slash}
use Rattle.bundle.specs.Limits.{remapping_limit}
use Rattle.bundle.specs.Scan.{text}
use Rattle.bundle.specs.Decode.{each, far, after, after_remapping, remapping_count, remapping_first, decode}
use Rattle.bundle.specs.Conflicts.{placed_at, placed_remapping_at, or_else, any, located, named, same_remapping, remapped}
use Rattle.bundle.specs.ListLaws.{each_more, far-more}
use Rattle.bundle.specs.Answers.{refused-ok}
use Rattle.bundle.specs.Results.{Checked}
use Rattle.bundle.specs.Results.{Ok, Refused}
use Rattle.card.specs.declared.parts.Node.{Node}
use Rattle.card.specs.declared.parts.Map.{Map}
use Rattle.card.specs.declared.parts.Card.{Card}
use Rattle.card.specs.Layout.{node_limit, no_node, no_map, node_at, parent_at, root_at, map_at}
use Rattle.card.specs.Index.{dec_eq, Looked}
use Rattle.card.specs.Card.{nodes_in, IndexOf, FolderAt, InFolder, is_at}
use Rattle.card.specs.Laws.{node-file}
use Rattle.reader.specs.Linking.{SameIndex, same-on, field_kept, index_agree}

-- `/` and the folders; the files
abbrev pub folders_in : List ℕ → List Text
folders_in s = with_slash (decode s).folders

abbrev pub files_in : List ℕ → List Text
files_in s = map (λ (f : File). f.path) (decode s).files

-- A SEARCH through n values, i of which are done
module _ {A : Type 0} (f : A → Bool) (next : ℕ → ℕ) (get : ℕ → A) (n i a : ℕ) where
  pub search_more : i < n → f (get a) ≡ false → any f (each next get (n - i) a) ≡ any f (each next get (n - (i + 1)) (next a))
  unfolding any each
  search_more h e = let z : n - i ≡ suc (n - (i + 1)) = omega arith in rw (z, e)

  pub search_found : i < n → f (get a) ≡ true → any f (each next get (n - i) a) ≡ true
  unfolding any each
  search_found h e = let z : n - i ≡ suc (n - (i + 1)) = omega arith in rw (z, e)

  pub search_done : n ≤ i → any f (each next get (n - i) a) ≡ false
  unfolding any each
  search_done h = let z : n - i ≡ 0 = omega arith in rw z

-- WHERE A PATH IS: a folder's index, or 9 or 10
module _ (s : List ℕ) (at : ℕ) where
  pub is-located : (i : ℕ) → FolderAt (decode s) (text s at) i → Ok ≡ located (folders_in s) (files_in s) (placed_at s at)
  unfolding located placed_at
  is-located i w =
      let l : i < length (folders_in s) = omega (arith, w.folder) in
      let x : get_or (folders_in s) i [] ≡ text s at = sym (get_or-append (folders_in s) (files_in s) [] i l) ∙ w.path in
      rw (member-found (text s at) (folders_in s) i l (equal-same _ _ (sym x)))

  module _ (N : InFolder (decode s) (text s at) None) where
    pub nowhere : Looked (is_at (nodes_in s) (text s at)) (length (nodes_in s)) None → Refused 9 at ≡ located (folders_in s) (files_in s) (placed_at s at)
    unfolding located placed_at
    nowhere L = rw (N, none)
      where
        clash : (j : ℕ) → j < length (files_in s) → text s at ≡ get_or (files_in s) j [] → ⊥
        clash j h x =
            let m = L (suc (length (decode s).folders + j)) (λ y. omega arith) (omega (arith, length-append (decode s).folders (files_in s))) in
            false_true (sym m ∙ equal-same _ _ (node-file (decode s).folders (files_in s) j ∙ sym x))

        none : member (text s at) (files_in s) ≡ false
        none = member-none (text s at) (files_in s) (λ j h. different (text s at) (get_or (files_in s) j []) (λ x. absurd (clash j h x)))

    pub no_folder : (r : ℕ) → Looked (is_at (nodes_in s) (text s at)) (length (nodes_in s)) (Some r) → Refused 10 at ≡ located (folders_in s) (files_in s) (placed_at s at)
    unfolding located placed_at
    no_folder r L = rw (N, there (dec_lt (length (decode s).folders) r))
      where
        is-there : get_or (nodes_in s) r [] ≡ text s at
        is-there = same-eq _ _ L.holds

        there : Dec (length (decode s).folders < r) → member (text s at) (files_in s) ≡ true
        there (yes h) =
            let x : suc (length (decode s).folders + (r - 1 - length (decode s).folders)) ≡ r = omega arith in
            let y : get_or (files_in s) (r - 1 - length (decode s).folders) [] ≡ text s at = sym (node-file (decode s).folders (files_in s) (r - 1 - length (decode s).folders)) ∙ rw x is-there in
            member-found (text s at) (files_in s) (r - 1 - length (decode s).folders) (omega (arith, L.within, length-append (decode s).folders (files_in s))) (equal-same _ _ (sym y))
        there (no h) =
            let l : r < length (folders_in s) = omega arith in
            let y : get_or (folders_in s) r [] ≡ text s at = sym (get_or-append (folders_in s) (files_in s) [] r l) ∙ is-there in
            absurd (false_true (sym N ∙ member-found (text s at) (folders_in s) r l (equal-same _ _ (sym y))))

-- ONE REMAPPING
-- what is told of the one at a, before which there are j from first on
abbrev pub one_told : List ℕ → ℕ → ℕ → ℕ → Checked
one_told s first j a =
    or_else (located (folders_in s) (files_in s) (placed_at s a))
    (or_else (located (folders_in s) (files_in s) (placed_at s (after s (after s a))))
    (or_else (named (placed_at s (after s a)))
    (cond (any (same_remapping (placed_remapping_at s a)) (each (after_remapping s) (placed_remapping_at s) j first)) (Refused 13 a) Ok)))

-- what it maps, if nothing is told
pub record MapsTo (s : List ℕ) (a : ℕ) (m : Map) : Type 0 where
  pub place : m.place ≡ a
  pub context : FolderAt (decode s) (text s a) m.context
  pub target : FolderAt (decode s) (text s (after s (after s a))) m.target

in_parts : (a b c : Checked) (u : Bool) (p : ℕ) (d : Checked) → or_else a (or_else b (or_else c (cond u (Refused 13 p) d))) ≡ or_else (or_else a (or_else b (or_else c (cond u (Refused 13 p) Ok)))) d
in_parts (Refused n m) b c u p d = refl
in_parts Ok (Refused n m) c u p d = refl
in_parts Ok Ok (Refused n m) u p d = refl
in_parts Ok Ok Ok true p d = refl
in_parts Ok Ok Ok false p d = refl

-- 9 TO 13 of n remappings, i of which are done
module _ (s : List ℕ) (n i first a : ℕ) where
  pub remapping-on : a ≡ far (after_remapping s) i first → i < n
      → remapped (folders_in s) (files_in s) (each (after_remapping s) (placed_remapping_at s) i first) (each (after_remapping s) (placed_remapping_at s) (n - i) a)
      ≡ or_else (one_told s first i a) (remapped (folders_in s) (files_in s) (each (after_remapping s) (placed_remapping_at s) (i + 1) first) (each (after_remapping s) (placed_remapping_at s) (n - (i + 1)) (after_remapping s a)))
  unfolding remapped each placed_remapping_at placed_at
  remapping-on e h =
      let z : n - i ≡ suc (n - (i + 1)) = omega arith in
      rw (z, each_more (after_remapping s) (placed_remapping_at s) i first, ← e)
      (in_parts (located (folders_in s) (files_in s) (placed_at s a)) (located (folders_in s) (files_in s) (placed_at s (after s (after s a)))) (named (placed_at s (after s a))) _ a _)

  pub remapping-done : n ≤ i → remapped (folders_in s) (files_in s) (each (after_remapping s) (placed_remapping_at s) i first) (each (after_remapping s) (placed_remapping_at s) (n - i) a) ≡ Ok
  unfolding remapped each
  remapping-done h = let z : n - i ≡ 0 = omega arith in rw z

-- INDEX i IS A PACKAGE ROOT
abbrev pub marked : Card → ℕ → Card
marked c i = record c { nodes = set c.nodes i (record (node_at c i) { is_root = true }) }

module _ (c : Card) (i : ℕ) (l : i < length c.nodes) where
  abbrev x : Node
  x = record (node_at c i) { is_root = true }

  pub marked-same : SameIndex c (marked c i)
  marked-same = record {
    size = λ z. record { nodes = rw length-set z.nodes; links = z.links; heads = z.heads; maps = z.maps };
    starts = field_kept (λ n. n.start) c.nodes i x l refl;
    links = refl;
    heads = refl;
    key = refl;
    folders = refl;
    files = refl;
  }

  pub marked-parents : (j : ℕ) → parent_at (marked c i) j ≡ parent_at c j
  marked-parents = field_kept (λ n. n.parent) c.nodes i x l refl

  pub marked-here : root_at (marked c i) i ≡ true
  marked-here = ap (λ (n : Node). n.is_root) (get_or-set_same c.nodes i x no_node l)

  pub marked-other : (j : ℕ) → (j ≡ i → ⊥) → root_at (marked c i) j ≡ root_at c j
  marked-other j n = ap (λ (m : Node). m.is_root) (get_or-set_other c.nodes i j x no_node n)

  pub marked-stays : (j : ℕ) → root_at c j ≡ true → root_at (marked c i) j ≡ true
  marked-stays j e = at (dec_eq j i)
    where
      at : Dec (j ≡ i) → root_at (marked c i) j ≡ true
      at (yes z) = rw z marked-here
      at (no z) = marked-other j z ∙ e

-- REMAPPING j, whose target is a package root
abbrev pub put : Card → ℕ → Map → Card
put c j m = marked (record c { maps = set c.maps j m }) m.target

-- what a card has of the first n remappings
pub record MappedAll (s : List ℕ) (c : Card) (first n : ℕ) : Type 0 where
  pub places : (k : ℕ) → k < n → (map_at c k).place ≡ far (after_remapping s) k first
  pub low : (k : ℕ) → k < n → (map_at c k).place < 67108864
  pub contexts : (k : ℕ) → k < n → FolderAt (decode s) (text s (map_at c k).place) (map_at c k).context
  pub targets : (k : ℕ) → k < n → FolderAt (decode s) (text s (after s (after s (map_at c k).place))) (map_at c k).target
  pub marked : (k : ℕ) → k < n → root_at c (map_at c k).target ≡ true
  pub only : (i : ℕ) → root_at c i ≡ true → (k : ℕ) × ((k < n) × ((map_at c k).target ≡ i))

-- 9 to 13 leave of the card c₀
pub record MapsOf (s : List ℕ) (c₀ c : Card) (r : Checked) : Type 0 where
  pub kept : SameIndex c₀ c
  pub parents : (k : ℕ) → parent_at c k ≡ parent_at c₀ k
  pub count : c.remappings ≡ remapping_count s
  pub tells : r ≡ remapped (folders_in s) (files_in s) [] (each (after_remapping s) (placed_remapping_at s) (remapping_count s) (remapping_first s))
  pub maps : r ≡ Ok → MappedAll s c (remapping_first s) (remapping_count s)

-- before: the index is there, and no mark
pub record Unmapped (s : List ℕ) (c : Card) : Type 0 where
  pub index : IndexOf s (nodes_in s) c
  pub folders : c.folders ≡ length (decode s).folders
  pub few : remapping_count s ≤ remapping_limit
  pub unmarked : (i : ℕ) → root_at c i ≡ false

-- of n remappings from first on, as they are listed, j are done, and a is the next
pub record Mapping (s : List ℕ) (c₀ c : Card) (first n a j : ℕ) : Type 0 where
  pub before : Unmapped s c₀
  pub list : (first ≡ remapping_first s) × (n ≡ remapping_count s)
  pub kept : SameIndex c₀ c
  pub parents : (k : ℕ) → parent_at c k ≡ parent_at c₀ k
  pub count : c.remappings ≡ remapping_count s
  pub done : j ≤ n
  pub place : a ≡ far (after_remapping s) j first
  pub low : (first < 1048576) × (a ≤ first + j * 768)
  pub maps : MappedAll s c first j
  pub tells : remapped (folders_in s) (files_in s) [] (each (after_remapping s) (placed_remapping_at s) n first)
      ≡ remapped (folders_in s) (files_in s) (each (after_remapping s) (placed_remapping_at s) j first) (each (after_remapping s) (placed_remapping_at s) (n - j) a)

pub mapping_start : (s : List ℕ) (c : Card) → Unmapped s c → (first n : ℕ) → (first ≡ remapping_first s) × (n ≡ remapping_count s) → first < 1048576 → Mapping s c (record c { remappings = n }) first n first 0
unfolding each far
mapping_start s c U first n e l = record {
  before = U;
  list = e;
  kept = record { size = λ z. record { nodes = z.nodes; links = z.links; heads = z.heads; maps = z.maps }; starts = λ i. refl; links = refl; heads = refl; key = refl; folders = refl; files = refl };
  parents = λ k. refl;
  count = e.1;
  done = omega arith;
  place = refl;
  low = (l, omega arith);
  maps = record {
    places = λ k o. absurd (omega arith);
    low = λ k o. absurd (omega arith);
    contexts = λ k o. absurd (omega arith);
    targets = λ k o. absurd (omega arith);
    marked = λ k o. absurd (omega arith);
    only = λ i m. absurd (false_true (sym (U.unmarked i) ∙ m));
  };
  tells = let z : n - 0 ≡ n = omega arith in rw z;
}

module _ (s : List ℕ) (c₀ c : Card) (first n a j : ℕ) (w : Mapping s c₀ c first n a j) where
  pub mapping_index : IndexOf s (nodes_in s) c
  mapping_index = index_agree w.before.index c w.kept

  pub mapping_folders : c.folders ≡ length (decode s).folders
  mapping_folders = w.kept.folders ∙ w.before.folders

  pub mapping_end : n ≤ j → MapsOf s c₀ c Ok
  mapping_end h =
      let z : j ≡ n = omega (arith, w.done) in
      record {
        kept = w.kept;
        parents = w.parents;
        count = w.count;
        tells = rw (← w.list.0, ← w.list.1) (sym (w.tells ∙ remapping-done s n j first a h));
        maps = λ e. rw (z, w.list.0, w.list.1) at w.maps;
      }

  module _ (o : j < n) where
    pub mapping_low : a < 67108864
    mapping_low = omega (arith, w.low, w.list, w.before.few)

    pub mapping_room : j < remapping_limit
    mapping_room = omega (arith, w.list, w.before.few)

    pub mapping_refused : (k p : ℕ) → Refused k p ≡ one_told s first j a → MapsOf s c₀ c (Refused k p)
    mapping_refused k p e = record {
      kept = w.kept;
      parents = w.parents;
      count = w.count;
      tells = rw (← w.list.0, ← w.list.1) (sym (w.tells ∙ remapping-on s n j first a w.place o ∙ rw (← e)));
      maps = λ q. absurd (refused-ok q);
    }

    module _ (m : Map) (M : MapsTo s a m) where
      pub mapping_target : m.target < node_limit
      mapping_target = omega (arith, M.target.folder, length-append (folders_in s) (files_in s), mapping_index.count)

      inside : m.target < length c.nodes
      inside = omega (arith, mapping_target, mapping_index.size.nodes)

      abbrev c' : Card
      c' = record c { maps = set c.maps j m }

      here : map_at (record c { maps = set c.maps j m }) j ≡ m
      here = get_or-set_same c.maps j m no_map (omega (arith, mapping_room, mapping_index.size.maps))

      there : (k : ℕ) → (k ≡ j → ⊥) → map_at (record c { maps = set c.maps j m }) k ≡ map_at c k
      there k z = get_or-set_other c.maps j k m no_map z

      pub mapping_more : Ok ≡ one_told s first j a → (b : ℕ) → (b ≡ after_remapping s a) × (b ≤ a + 768) → Mapping s c₀ (put c j m) first n b (j + 1)
      mapping_more e b bq = record {
        before = w.before;
        list = w.list;
        kept = same-on c₀ c _ w.kept (same-on c c' _ (record { size = λ z. record { nodes = z.nodes; links = z.links; heads = z.heads; maps = rw length-set z.maps }; starts = λ i. refl; links = refl; heads = refl; key = refl; folders = refl; files = refl }) (marked-same c' m.target inside));
        parents = λ k. marked-parents c' m.target inside k ∙ w.parents k;
        count = w.count;
        done = omega arith;
        place = bq.0 ∙ ap (after_remapping s) w.place ∙ sym (far-more (after_remapping s) j first);
        low = (w.low.0, omega (arith, w.low.1, bq.1));
        maps = record {
          places = λ k l. at_place k l (dec_eq k j);
          low = λ k l. at_low k l (dec_eq k j);
          contexts = λ k l. at-context k l (dec_eq k j);
          targets = λ k l. at_target k l (dec_eq k j);
          marked = λ k l. at_mark k l (dec_eq k j);
          only = λ i l. just i l (dec_eq i m.target);
        };
        tells = w.tells ∙ remapping-on s n j first a w.place o ∙ rw (← e, bq.0);
      }
        where
          at_place : (k : ℕ) → k < j + 1 → Dec (k ≡ j) → (map_at (put c j m) k).place ≡ far (after_remapping s) k first
          at_place k l (yes z) = rw (z, here, M.place) w.place
          at_place k l (no z) = rw (there k z) (w.maps.places k (omega arith))

          at_low : (k : ℕ) → k < j + 1 → Dec (k ≡ j) → (map_at (put c j m) k).place < 67108864
          at_low k l (yes z) = rw (z, here, M.place) mapping_low
          at_low k l (no z) = rw (there k z) (w.maps.low k (omega arith))

          at-context : (k : ℕ) → k < j + 1 → Dec (k ≡ j) → FolderAt (decode s) (text s (map_at (put c j m) k).place) (map_at (put c j m) k).context
          at-context k l (yes z) = rw (z, here, M.place) M.context
          at-context k l (no z) = rw (there k z) (w.maps.contexts k (omega arith))

          at_target : (k : ℕ) → k < j + 1 → Dec (k ≡ j) → FolderAt (decode s) (text s (after s (after s (map_at (put c j m) k).place))) (map_at (put c j m) k).target
          at_target k l (yes z) = rw (z, here, M.place) M.target
          at_target k l (no z) = rw (there k z) (w.maps.targets k (omega arith))

          at_mark : (k : ℕ) → k < j + 1 → Dec (k ≡ j) → root_at (put c j m) (map_at (put c j m) k).target ≡ true
          at_mark k l (yes z) = rw (z, here) (marked-here c' m.target inside)
          at_mark k l (no z) = rw (there k z) (marked-stays c' m.target inside _ (w.maps.marked k (omega arith)))

          just : (i : ℕ) → root_at (put c j m) i ≡ true → Dec (i ≡ m.target) → (k : ℕ) × ((k < j + 1) × ((map_at (put c j m) k).target ≡ i))
          just i l (yes z) = (j, (omega arith, rw (here, z)))
          just i l (no z) =
              let y = w.maps.only i (sym (marked-other c' m.target inside i z) ∙ l) in
              let v = y.1.0 in
              (y.0, (omega arith, rw (there y.0 (λ q. omega arith)) y.1.1))
