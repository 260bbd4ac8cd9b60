-- The pass over the listed paths and the remappings is `conflicts`, and leaves the card. Assumes nothing.
use Prim.Native.Nat.{ℕ, zero, suc, ◌+◌, ◌≤◌, ◌<◌}
use Rattle.std.proofs.Math.Nat.{not-suc-le-zero}
use Rattle.std.proofs.Common.{le_of_suc-le-suc, ◌∙◌, get_or-append-add}
use native.Mathlib.Omega.{arith}
use Rattle.std.proofs.Math.Decide.{dec_lt}
use Rattle.std.proofs.lemmas.Bool.{not-true}
use Rattle.std.specs.Prelude.{Bool, ◌||◌, not, ◌≡◌}
use Rattle.std.proofs.Math.Bool.{true, false}
use Rattle.std.proofs.Math.Path.{refl, sym, ap}
use mathlib.Core.List.{List, [], ◌∷◌, ◌++◌, map, Memᴰ}
use Rattle.std.proofs.Math.ListN.{length, get_or, length-append, length-map, get_or-map}
use Rattle.names.specs.Bytes.{same, same_refl, member, and_left, and_right, false_true, both_ways}
use Rattle.names.specs.Path.{root, is_path}
use Rattle.names.specs.PathSteps.{root_path}
use Rattle.names.specs.Prefix.{directly_in}
use Rattle.bundle.specs.Bundle.{Text, Bundle, File, Remapping, with_slash}
use Rattle.bundle.specs.Limits.{header, count_limit, string_size, file_size}
use Rattle.bundle.specs.Scan.{text}
use Rattle.bundle.specs.Decode.{each, far, after, after_file, after_remapping, file_at, remapping_at, folder_count, folder_first, file_count, file_first, remapping_count, remapping_first, decode}
use Rattle.bundle.specs.Conflicts.{placed_at, placed_remapping_at, or_else, any, located, remapped, conflicts}
use Rattle.bundle.specs.ListLaws.{texts-each, member-append, each-length, each_at}
use Rattle.bundle.specs.Free.{paths-each, conflicts-free}
use Rattle.bundle.specs.Form.{Every, IsPath, FormedFile, InForm, Unconflicted, fresh}
use Rattle.bundle.specs.Members.{member_true, mem_member, get_d_mem, mem_get_d, mem_map}
use Rattle.bundle.specs.Read.{form}
use Rattle.bundle.specs.Stand.{Bytes}
use Rattle.bundle.specs.SoundBundle.{form-sound}
use Rattle.bundle.specs.Results.{Checked}
use Rattle.bundle.specs.Results.{Ok, Refused}
use Rattle.card.specs.declared.parts.Card.{Card}
use Rattle.card.specs.Layout.{node_limit, key_limit, empty, parent_at, start_at, root_at, map_at}
use Rattle.card.specs.Tree.{Tree}
use Rattle.card.specs.Index.{dec_eq}
use Rattle.card.specs.Card.{nodes_of, nodes_in, roots_of, IndexOf, FolderAt, Maps, CardIs}
use Rattle.reader.specs.Build.{itself, Holds, Filled, Fills, begun, begun-sized, begun-bare, begun-holds}
use Rattle.reader.specs.Linking.{spots, nodes_at_lem, placed-spots, SameIndex, index_agree, listed_in, Indexed, Parents, Linked, all_told}
use Rattle.reader.specs.Mapping.{folders_in, files_in, marked, marked-same, marked-parents, marked-here, marked-other, marked-stays, MappedAll, MapsOf, Unmapped}

-- IN FORM
every-at : {A : Type 0} (P : A → Type 0) (l : List A) (d : A) → Every P l → (i : ℕ) → i < length l → P (get_or l i d)
unfolding Every
every-at P [] d w i h = absurd (not-suc-le-zero h)
every-at P (a ∷ l) d w zero h = w.0
every-at P (a ∷ l) d w (suc i) h = every-at P l d w.1 i (le_of_suc-le-suc h)

every_append : (P : Text → Type 0) (l k : List Text) → Every P l → Every P k → Every P (l ++ k)
unfolding Every
every_append P [] k u v = v
every_append P (a ∷ l) k u v = (u.0, every_append P l k u.1 v)

every-path : (l : List File) → Every FormedFile l → Every IsPath (map (λ (f : File). f.path) l)
unfolding Every
every-path [] w = w
every-path (f ∷ l) w = (w.0.0, every-path l w.1)

abbrev below_root : Bundle → List Text
below_root b = b.folders ++ map (λ (f : File). f.path) b.files

all_paths : (b : Bundle) → InForm b → (i : ℕ) → i < length (nodes_of b) → is_path (get_or (nodes_of b) i []) ≡ true
all_paths b w zero h = root_path root refl refl
all_paths b w (suc i) h =
    every-at IsPath (below_root b) [] (every_append IsPath b.folders (map (λ (f : File). f.path) b.files) w.folders (every-path b.files w.files)) i (le_of_suc-le-suc h)

-- PATHS LISTED ONCE
or_left : (a b : Bool) → (a || b) ≡ false → a ≡ false
or_left true b h = h
or_left false b h = refl

module _ (F : List Text) where
  new-seen : (seen l : List Text) → fresh seen F l ≡ true → (i : ℕ) → i < length l → member (get_or l i []) seen ≡ false
  unfolding fresh
  new-seen seen [] h i o = absurd (not-suc-le-zero o)
  new-seen seen (p ∷ l) h zero o = not-true (member p seen) (and_left (not (member p seen)) _ h)
  new-seen seen (p ∷ l) h (suc i) o =
      let r = and_right (any (directly_in p) F) (fresh (seen ++ (p ∷ [])) F l) (and_right (not (member p seen)) _ h) in
      let m = new-seen (seen ++ (p ∷ [])) l r i (le_of_suc-le-suc o) in
      or_left (member (get_or l i []) seen) (member (get_or l i []) (p ∷ [])) (sym (member-append (get_or l i []) seen (p ∷ [])) ∙ m)

  not_again : (seen l : List Text) → fresh seen F l ≡ true → (i j : ℕ) → i < j → j < length l → get_or l i [] ≡ get_or l j [] → ⊥
  unfolding fresh member
  not_again seen [] h i j o k e = not-suc-le-zero k
  not_again seen (p ∷ l) h i zero o k e = not-suc-le-zero o
  not_again seen (p ∷ l) h zero (suc j) o k e =
      let r = and_right (any (directly_in p) F) (fresh (seen ++ (p ∷ [])) F l) (and_right (not (member p seen)) _ h) in
      let m = new-seen (seen ++ (p ∷ [])) l r j (le_of_suc-le-suc k) in
      false_true (sym m ∙ member-append (get_or l j []) seen (p ∷ []) ∙ ap (λ (x : Text). member x seen || member x (p ∷ [])) (sym e) ∙ last (member p seen))
    where
      last : (b : Bool) → (b || (same p p || false)) ≡ true
      last true = refl
      last false = rw (same_refl p)
  not_again seen (p ∷ l) h (suc i) (suc j) o k e =
      not_again (seen ++ (p ∷ [])) l (and_right (any (directly_in p) F) (fresh (seen ++ (p ∷ [])) F l) (and_right (not (member p seen)) _ h)) i j (le_of_suc-le-suc o) (le_of_suc-le-suc k) e

module _ (b : Bundle) (u : Unconflicted b) where
  once-listed : (i j : ℕ) → i < length (nodes_of b) → j < length (nodes_of b) → get_or (nodes_of b) i [] ≡ get_or (nodes_of b) j [] → i ≡ j
  unfolding member
  once-listed zero zero h l e = refl
  once-listed zero (suc j) h l e =
      absurd (false_true (sym (new-seen (with_slash b.folders) (root ∷ []) (below_root b) u.paths j (le_of_suc-le-suc l)) ∙ rw (← e, same_refl root)))
  once-listed (suc i) zero h l e =
      absurd (false_true (sym (new-seen (with_slash b.folders) (root ∷ []) (below_root b) u.paths i (le_of_suc-le-suc h)) ∙ rw (e, same_refl root)))
  once-listed (suc i) (suc j) h l e = go (dec_lt i j) (dec_lt j i)
    where
      go : Dec (i < j) → Dec (j < i) → suc i ≡ suc j
      go (yes x) y = absurd (not_again (with_slash b.folders) (root ∷ []) (below_root b) u.paths i j x (le_of_suc-le-suc l) e)
      go (no x) (yes y) = absurd (not_again (with_slash b.folders) (root ∷ []) (below_root b) u.paths j i y (le_of_suc-le-suc h) (sym e))
      go (no x) (no y) = omega arith

-- CONFLICTS in three parts
abbrev pub remaps_told : List ℕ → Checked
remaps_told s = remapped (folders_in s) (files_in s) [] (each (after_remapping s) (placed_remapping_at s) (remapping_count s) (remapping_first s))

abbrev pub root_told : List ℕ → Checked
root_told s = located (folders_in s) (files_in s) (placed_at s header)

conflicts-is : (s : List ℕ) → conflicts s ≡ or_else (all_told s) (or_else (remaps_told s) (root_told s))
unfolding conflicts decode
conflicts-is s =
    let F = texts-each s (after s) (folder_count s) (folder_first s) in
    let G = paths-each s (file_count s) (file_first s) in
    rw (placed-spots s, F, G)

-- what is told where all before says nothing
pub told-paths : (s : List ℕ) (k p : ℕ) → Refused k p ≡ all_told s → Refused k p ≡ conflicts s
told-paths s k p e = sym (conflicts-is s ∙ rw (← e))

pub told-maps : (s : List ℕ) (k p : ℕ) → Ok ≡ all_told s → Refused k p ≡ remaps_told s → Refused k p ≡ conflicts s
told-maps s k p f e = sym (conflicts-is s ∙ rw (← f, ← e))

pub told-root : (s : List ℕ) (r : Checked) → Ok ≡ all_told s → Ok ≡ remaps_told s → r ≡ root_told s → r ≡ conflicts s
told-root s r f g e = sym (conflicts-is s ∙ rw (← f, ← g, ← e))

abbrev no_remapping : Remapping
no_remapping = record { context = []; name = []; target = [] }

-- where the lists stand, m folders and n files
pub record Listing (s : List ℕ) (f m g n : ℕ) : Type 0 where
  pub folders : (f ≡ folder_first s) × (m ≡ folder_count s)
  pub files : (g ≡ file_first s) × (n ≡ file_count s)
  pub low : ((f < 1048576) × (g < 1048576)) × ((m < count_limit) × (n < count_limit))

-- THE WHOLE PASS over a bundle in form
module _ (s : List ℕ) (B : Bytes s) (formed : form s ≡ Ok) where
  inform : InForm (decode s)
  inform = (form-sound s B formed).formed

  folders-long : length (decode s).folders ≡ folder_count s
  unfolding decode
  folders-long = each-length (after s) (text s) (folder_count s) (folder_first s)

  files-long : length (decode s).files ≡ file_count s
  unfolding decode
  files-long = each-length (after_file s) (file_at s) (file_count s) (file_first s)

  remappings-long : length (decode s).remappings ≡ remapping_count s
  unfolding decode
  remappings-long = each-length (after_remapping s) (remapping_at s) (remapping_count s) (remapping_first s)

  -- the index: first the folders, then the files
  module _ (f m g n : ℕ) (L : Listing s f m g n) (e : Card) (q : e ≡ empty) (key : ℕ) (kl : key < key_limit) where
    room : 1 + m + n ≤ node_limit
    room = omega (arith, L.folders, L.files, folders-long, files-long, inform.folder_count_within, inform.file_count_within)

    pub first_fill : Fills string_size f m 1 (begun e key m n)
    first_fill = record { low = L.low.0.0; few = L.low.1.0; room = omega (arith, room); fits = omega arith; keyed = kl; sized = begun-sized e q key m n }

    module _ (c1 : Card) (F : Filled s (begun e key m n) c1 (after s) f m 1) where
      pub second_fill : Fills file_size g n (m + 1) c1
      second_fill = record { low = L.low.0.1; few = L.low.1.1; room = omega (arith, room); fits = omega arith; keyed = rw F.kept.key kl; sized = F.kept.size (begun-sized e q key m n) }

      pub indexes : (c2 : Card) → Filled s c1 c2 (after_file s) g n (m + 1) → Indexed s c2
      indexes c2 G = record {
        holds = rw (same-spots, counted) (record { index = H.index; starts = H.starts; full = omega (arith, H.full) });
        paths = all_paths (decode s) inform;
        folders = G.kept.folders ∙ F.kept.folders ∙ L.folders.1 ∙ sym folders-long;
        bare = G.kept.bare (F.kept.bare (begun-bare e q key m n));
      }
        where
          first : Holds s ([] ++ each (after s) itself m f) c1 (m + 1)
          first = let x = F.holds [] (begun-holds e q key m n kl s) in record { index = x.index; starts = x.starts; full = omega (arith, x.full) }

          H : Holds s (([] ++ each (after s) itself m f) ++ each (after_file s) itself n g) c2 (m + 1 + n)
          H = G.holds ([] ++ each (after s) itself m f) first

          same-spots : spots s ≡ each (after s) itself m f ++ each (after_file s) itself n g
          same-spots = rw (L.folders.0, L.folders.1, L.files.0, L.files.1)

          counted : listed_in c2 ≡ m + n + 1
          counted = rw (G.kept.folders, F.kept.folders, G.kept.files, F.kept.files)

  -- then the parents, the remappings and the root
  module _ (c1 c2 : Card) (X : Indexed s c1) (L : Linked s c1 c2 Ok) where
    pub to_map : Unmapped s c2
    to_map = record {
      index = rw (nodes_at_lem s) at (index_agree X.holds.index c2 L.kept);
      folders = L.kept.folders ∙ X.folders;
      few = omega (arith, remappings-long, inform.remapping_count_within);
      unmarked = λ i. L.roots i ∙ (X.bare i).is_root;
    }

    module _ (c3 : Card) (M : MapsOf s c2 c3 Ok) where
      pub to_end : IndexOf s (nodes_in s) c3
      to_end = index_agree to_map.index c3 M.kept

      pub end-folders : c3.folders ≡ length (decode s).folders
      end-folders = M.kept.folders ∙ to_map.folders

      module _ (i : ℕ) (P : FolderAt (decode s) (text s header) i) where
        few : length (folders_in s) ≤ node_limit
        few = omega (arith, length-append (folders_in s) (files_in s), to_end.count)

        pub root-small : i < node_limit
        root-small = omega (arith, P.folder, few)

        module _ (told : Ok ≡ root_told s) where
          no_conflict : Ok ≡ conflicts s
          no_conflict = told-root s Ok L.told M.tells told

          once : (i j : ℕ) → i < length (nodes_in s) → j < length (nodes_in s) → get_or (nodes_in s) i [] ≡ get_or (nodes_in s) j [] → i ≡ j
          once = once-listed (decode s) (conflicts-free s (sym no_conflict))

          entry : FolderAt (decode s) (decode s).root i
          unfolding decode
          entry = P

          listed-node : (j : ℕ) (p : Text) → FolderAt (decode s) p j → j < length (nodes_in s)
          listed-node j p w = omega (arith, w.folder, length-append (folders_in s) (files_in s))

          abbrev c : Card
          c = record c3 { root = i }

          inside : i < length c3.nodes
          inside = omega (arith, root-small, to_end.size.nodes)

          parent-same : (j : ℕ) → parent_at (marked (record c3 { root = i }) i) j ≡ parent_at c2 j
          parent-same j = marked-parents c i inside j ∙ M.parents j

          parents : Parents s c2 (length (nodes_in s))
          parents = L.parents refl

          tree : Tree (nodes_in s) (parent_at (marked (record c3 { root = i }) i))
          tree = record {
            rooted = refl;
            formed = all_paths (decode s) inform;
            once = once;
            inside = λ j h. within j h (dec_eq j 0);
            above = λ j h z. rw (parent-same j) (parents.each_one j h z).path;
          }
            where
              within : (j : ℕ) → j < length (nodes_in s) → Dec (j ≡ 0) → parent_at (marked (record c3 { root = i }) i) j < length (nodes_in s)
              within j h (yes z) = rw (z, parent-same 0, parents.top) (omega arith)
              within j h (no z) = rw (parent-same j) (listed-node (parent_at c2 j) _ (parents.each_one j h z))

          alike : SameIndex c3 (marked (record c3 { root = i }) i)
          alike = let S = marked-same c i inside in record { size = λ z. S.size (record { nodes = z.nodes; links = z.links; heads = z.heads; maps = z.maps }); starts = S.starts; links = S.links; heads = refl; key = refl; folders = refl; files = refl }

          start-same : (j : ℕ) → start_at (marked (record c3 { root = i }) i) j ≡ start_at c1 j
          start-same j = alike.starts j ∙ M.kept.starts j ∙ L.kept.starts j

          spots-long : length (spots s) ≡ folder_count s + file_count s
          spots-long =
              length-append (each (after s) itself (folder_count s) (folder_first s)) (each (after_file s) itself (file_count s) (file_first s))
              ∙ rw (each-length (after s) itself (folder_count s) (folder_first s), each-length (after_file s) itself (file_count s) (file_first s))

          file-start : (j : ℕ) → j < length (decode s).files → start_at (marked (record c3 { root = i }) i) (suc (length (decode s).folders + j)) ≡ far (after_file s) j (file_first s)
          file-start j h =
              let o : j < file_count s = omega (arith, files-long) in
              let A = each (after s) itself (folder_count s) (folder_first s) in
              let z : length (decode s).folders ≡ length A = folders-long ∙ sym (each-length (after s) itself (folder_count s) (folder_first s)) in
              start-same (suc (length (decode s).folders + j))
              ∙ X.holds.starts (length (decode s).folders + j) (omega (arith, spots-long, folders-long))
              ∙ rw z (get_or-append-add A (each (after_file s) itself (file_count s) (file_first s)) j 0)
              ∙ each_at (after_file s) itself (file_count s) j (file_first s) 0 o

          maps3 : MappedAll s c3 (remapping_first s) (remapping_count s)
          maps3 = M.maps refl

          remapping-is : (j : ℕ) (d : Remapping) → j < remapping_count s → get_or (decode s).remappings j d ≡ remapping_at s (map_at c3 j).place
          unfolding decode
          remapping-is j d o =
              each_at (after_remapping s) (remapping_at s) (remapping_count s) j (remapping_first s) d o ∙ ap (remapping_at s) (sym (maps3.places j o))

          context-is : (j : ℕ) (d : Remapping) → j < remapping_count s → (get_or (decode s).remappings j d).context ≡ text s (map_at c3 j).place
          unfolding remapping_at
          context-is j d o = ap (λ (r : Remapping). r.context) (remapping-is j d o)

          target_is : (j : ℕ) (d : Remapping) → j < remapping_count s → (get_or (decode s).remappings j d).target ≡ text s (after s (after s (map_at c3 j).place))
          unfolding remapping_at
          target_is j d o = ap (λ (r : Remapping). r.target) (remapping-is j d o)

          maps : Maps s (marked (record c3 { root = i }) i)
          maps = record {
            places = λ j o. maps3.places j (omega (arith, remappings-long));
            low = λ j o. maps3.low j (omega (arith, remappings-long));
            contexts = λ j d o. let l : j < remapping_count s = omega (arith, remappings-long) in rw (context-is j d l) (maps3.contexts j l);
            targets = λ j d o. let l : j < remapping_count s = omega (arith, remappings-long) in rw (target_is j d l) (maps3.targets j l);
          }

          -- a marked one is a package root
          is-root : (j : ℕ) → root_at (marked (record c3 { root = i }) i) j ≡ true → Dec (j ≡ i) → Memᴰ (get_or (nodes_in s) j []) (roots_of (decode s))
          is-root j e (yes z) = Memᴰ.head (ap (λ (x : ℕ). get_or (nodes_in s) x []) z ∙ entry.path)
          is-root j e (no z) =
              let w = maps3.only j (sym (marked-other c i inside j z) ∙ e) in
              let p : get_or (nodes_in s) j [] ≡ (get_or (decode s).remappings w.0 no_remapping).target =
              ap (λ (x : ℕ). get_or (nodes_in s) x []) (sym w.1.1) ∙ (maps3.targets w.0 w.1.0).path ∙ sym (target_is w.0 no_remapping w.1.0) in
              let q : Memᴰ (get_or (nodes_in s) j []) (map (λ (r : Remapping). r.target) (decode s).remappings) =
              rw p (mem_map (λ (r : Remapping). r.target) (mem_get_d (decode s).remappings w.0 no_remapping (omega (arith, w.1.0, remappings-long)))) in
              Memᴰ.tail q

          -- and a package root is marked
          has-mark : (j : ℕ) → j < length (nodes_in s) → (q : ℕ) × ((q < length (roots_of (decode s))) × (get_or (roots_of (decode s)) q [] ≡ get_or (nodes_in s) j [])) → root_at (marked (record c3 { root = i }) i) j ≡ true
          has-mark j o (zero, w) =
              let z : j ≡ i = once j i o (listed-node i (decode s).root entry) (sym w.1 ∙ sym entry.path) in
              rw z (marked-here c i inside)
          has-mark j o (suc q, w) =
              let l : q < remapping_count s = omega (arith, w.0, remappings-long, length-map (decode s).remappings (λ (r : Remapping). r.target)) in
              let t = maps3.targets q l in
              let e : get_or (nodes_in s) (map_at c3 q).target [] ≡ get_or (nodes_in s) j [] =
              t.path ∙ sym (target_is q no_remapping l) ∙ sym (get_or-map (λ (r : Remapping). r.target) (decode s).remappings q no_remapping) ∙ w.1 in
              let z : j ≡ (map_at c3 q).target = once j (map_at c3 q).target o (listed-node (map_at c3 q).target _ t) (sym e) in
              rw z (marked-stays c i inside (map_at c3 q).target (maps3.marked q l))

          marks : (j : ℕ) → j < length (nodes_in s) → root_at (marked (record c3 { root = i }) i) j ≡ member (get_or (nodes_in s) j []) (roots_of (decode s))
          marks j o =
              both_ways (root_at (marked (record c3 { root = i }) i) j) (member (get_or (nodes_in s) j []) (roots_of (decode s)))
              (λ e. mem_member (is-root j e (dec_eq j i)))
              (λ e. has-mark j o (get_d_mem [] (member_true (get_or (nodes_in s) j []) (roots_of (decode s)) e)))

          files1 : c1.files ≡ length (decode s).files
          files1 = omega (arith, X.holds.full, X.folders, spots-long, folders-long, files-long)

          pub made : CardIs s (marked (record c3 { root = i }) i)
          made = record {
            index = index_agree to_end _ alike;
            above = λ j. rw (parent-same j) (parents.small j);
            tree = tree;
            folders = end-folders;
            remappings = M.count ∙ sym remappings-long;
            few = inform.remapping_count_within;
            files = M.kept.files ∙ L.kept.files ∙ files1;
            starts = file-start;
            marks = marks;
            maps = maps;
            entry = entry;
          }
