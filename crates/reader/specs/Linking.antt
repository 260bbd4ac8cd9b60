-- 7 and 8, index by index, and the parents. Assumes nothing.
use Rattle.std.specs.Prelude.{ℕ, zero, suc, ◌+◌, ◌-◌, ◌≤◌, ◌<◌, Bool, true, false, ◌≡◌, refl, Option, Some, None, is_some, leb, length, get_or, set, drop}
use native.Mathlib.Omega.{arith}
use Rattle.std.proofs.Common.{add-one, sym, ap, ◌∙◌, length-append, length-set, length-take, drop_of_length-le, get_or-set_same, get_or-set_other, drop-cons, take-suc, get_or-take, le-leb}
use Rattle.std.proofs.Math.Decide.{dec_lt}
use Rattle.std.proofs.lemmas.List.{map-append}
use mathlib.Core.List.{List, [], ◌∷◌, ◌++◌, map, Memᴰ}
use Rattle.std.proofs.Math.ListN.{take, length-map, get_or-append}
use Rattle.names.specs.Bytes.{same, same-eq, equal-same, different, member, member-found, member-none, and_right, false_true, not_true}
use Rattle.names.specs.Path.{root, is_path}
use Rattle.names.specs.Prefix.{directly_in, parent}
use Rattle.names.specs.FolderTheorems.{directly_in_parent, parent_directly_in, parent-prefix}
use Rattle.bundle.specs.Bundle.{Text, File, with_slash}
use Rattle.bundle.specs.Scan.{text}
use Rattle.bundle.specs.Decode.{each, after, after_file, file_at, folder_count, folder_first, file_count, file_first, decode}
use Rattle.bundle.specs.Conflicts.{placed_at, any, listed, folders, files}
use Rattle.bundle.specs.Members.{mem_get_d, any_true, mem_any, mem_member, get_d_mem}
use Rattle.bundle.specs.Answers.{refused-ok}
use Rattle.bundle.specs.Results.{Checked}
use Rattle.bundle.specs.Results.{Ok, Refused}
use Rattle.card.specs.declared.parts.Node.{Node}
use Rattle.card.specs.declared.parts.Link.{Link}
use Rattle.card.specs.declared.parts.Card.{Card}
use Rattle.card.specs.Layout.{node_limit, bucket_of, no_node, no_link, node_at, parent_at, start_at, hash_at, next_at, root_at}
use Rattle.card.specs.Index.{dec_eq, last_in, last_agree, last-below, last_key, last-above, Looked}
use Rattle.card.specs.Card.{nodes_in, hash_of, bucket_at, Sized, IndexOf, FolderAt, InFolder, is_at, is_up_to, Chain}
use Rattle.reader.specs.Build.{nodes_at, itself, Bare, Holds}

-- THE POSITIONS of the listed paths
abbrev pub spots : List ℕ → List ℕ
spots s = each (after s) itself (folder_count s) (folder_first s) ++ each (after_file s) itself (file_count s) (file_first s)

pub each_map : {A : Type 0} (next : ℕ → ℕ) (get : ℕ → A) (n at : ℕ) → map get (each next itself n at) ≡ each next get n at
unfolding each
each_map next get zero at = refl
each_map {A} next get (suc n) at = ap (λ (l : List A). get at ∷ l) (each_map next get n (next at))

file-paths : (s : List ℕ) (n at : ℕ) → each (after_file s) (text s) n at ≡ map (λ (f : File). f.path) (each (after_file s) (file_at s) n at)
unfolding each file_at
file-paths s zero at = refl
file-paths s (suc n) at = ap (λ (l : List Text). text s at ∷ l) (file-paths s n (after_file s at))

pub nodes_at_lem : (s : List ℕ) → nodes_at s (spots s) ≡ nodes_in s
unfolding decode
nodes_at_lem s =
    ap (λ (l : List Text). root ∷ l)
    (map-append (text s) (each (after s) itself (folder_count s) (folder_first s)) (each (after_file s) itself (file_count s) (file_first s))
    ∙ rw (each_map (after s) (text s) (folder_count s) (folder_first s), each_map (after_file s) (text s) (file_count s) (file_first s), file-paths s (file_count s) (file_first s)))

pub placed-spots : (s : List ℕ) → map (placed_at s) (spots s) ≡ folders s ++ files s
placed-spots s =
    map-append (placed_at s) (each (after s) itself (folder_count s) (folder_first s)) (each (after_file s) itself (file_count s) (file_first s))
    ∙ rw (each_map (after s) (placed_at s) (folder_count s) (folder_first s), each_map (after_file s) (placed_at s) (file_count s) (file_first s))

-- THE SAME INDEX in a card that differs elsewhere
pub record SameIndex (c d : Card) : Type 0 where
  pub size : Sized c → Sized d
  pub starts : (i : ℕ) → start_at d i ≡ start_at c i
  pub links : d.links ≡ c.links
  pub heads : d.heads ≡ c.heads
  pub key : d.key ≡ c.key
  pub folders : d.folders ≡ c.folders
  pub files : d.files ≡ c.files

pub same-refl : (c : Card) → SameIndex c c
same-refl c = record { size = λ z. z; starts = λ i. refl; links = refl; heads = refl; key = refl; folders = refl; files = refl }

pub same-on : (c d e : Card) → SameIndex c d → SameIndex d e → SameIndex c e
same-on c d e p q = record {
  size = λ z. q.size (p.size z);
  starts = λ i. q.starts i ∙ p.starts i;
  links = q.links ∙ p.links;
  heads = q.heads ∙ p.heads;
  key = q.key ∙ p.key;
  folders = q.folders ∙ p.folders;
  files = q.files ∙ p.files;
}

-- a field that a node keeps where it is written anew
pub field_kept : {A : Type 0} (p : Node → A) (ns : List Node) (k : ℕ) (x : Node) → k < length ns → p x ≡ p (get_or ns k no_node) → (i : ℕ) → p (get_or (set ns k x) i no_node) ≡ p (get_or ns i no_node)
field_kept {A} p ns k x l e i = at (dec_eq i k)
  where
    at : Dec (i ≡ k) → p (get_or (set ns k x) i no_node) ≡ p (get_or ns i no_node)
    at (yes z) = rw (z, get_or-set_same ns k x no_node l) e
    at (no z) = rw (get_or-set_other ns k i x no_node z)

pub index_agree : {s : List ℕ} {ps : List Text} {c : Card} → IndexOf s ps c → (d : Card) → SameIndex c d → IndexOf s ps d
index_agree {s} {ps} {c} I d S = record {
  size = S.size I.size;
  some = I.some;
  count = I.count;
  multiplier = rw S.key I.multiplier;
  texts = λ i o n. rw (S.starts i) (I.texts i o n);
  low = λ i o. rw (S.starts i) (I.low i o);
  hash = λ i o. rw (hashes i, S.key) (I.hash i o);
  chains = record {
    heads = λ b o. ap (λ (l : List ℕ). get_or l b 0) S.heads ∙ I.chains.heads b o ∙ last_agree (bucket_at c) (bucket_at d) b (length ps) keys;
    links = λ i o. ap (λ (l : List Link). (get_or l i no_link).next) S.links ∙ I.chains.links i o ∙ last_agree (bucket_at c) (bucket_at d) (bucket_at c i) i (λ j k. keys j (omega arith)) ∙ ap (λ (x : ℕ). last_in (bucket_at d) x i) (keys i o);
  };
}
  where
    hashes : (i : ℕ) → hash_at d i ≡ hash_at c i
    hashes i = ap (λ (l : List Link). (get_or l i no_link).hash) S.links

    keys : (i : ℕ) → i < length ps → bucket_at c i ≡ bucket_at d i
    keys i o = ap bucket_of (sym (hashes i))

-- 7: WHETHER A PATH IS LISTED BEFORE
module _ {s : List ℕ} {ps : List Text} {c : Card} (I : IndexOf s ps c) (i : ℕ) (o : i < length ps) (n : i ≡ 0 → ⊥) (p : Text) (pq : p ≡ get_or ps i []) (rooted : get_or ps 0 [] ≡ root) where
  before-long : length (take i ps) ≡ i
  before-long = omega (arith, length-take i ps)

  before_at : (j : ℕ) → j < i → get_or (take i ps) j [] ≡ get_or ps j []
  before_at j l = get_or-take i ps j [] l

  pub again_root : (u : Bool) → u ≡ same p root → u ≡ true → true ≡ member p (take i ps)
  again_root u q e =
      sym (member-found p (take i ps) 0 (omega (arith, before-long)) (rw (before_at 0 (omega arith), rooted) (sym q ∙ e)))

  module _ (h from : ℕ) (hq : h ≡ hash_at c i) (fq : from ≡ next_at c i) where
    is_last : from ≡ last_in (bucket_at c) (bucket_at c i) i
    is_last = fq ∙ I.chains.links i o

    from-below : from < i
    from-below = rw is_last (last-below (bucket_at c) (bucket_at c i) i n)

    pub from_next : Chain ps c h p from
    from_next = record {
      hashes = hq ∙ I.hash i o ∙ ap (hash_of c.key) (sym pq);
      within = omega (arith, from-below);
      keyed = λ z. rw hq (rw is_last (last_key (bucket_at c) (bucket_at c i) i (λ x. z (is_last ∙ x))));
    }

    pub again-told : same p root ≡ false → (r : Option ℕ) → Looked (is_up_to ps p i) (suc from) r → is_some r ≡ member p (take i ps)
    again-told f (Some r) L =
        let l : r < i = omega (arith, L.within, from-below) in
        let e : get_or ps r [] ≡ p = same-eq _ _ (and_right (leb r i) (is_at ps p r) L.holds) in
        sym (member-found p (take i ps) r (omega (arith, before-long)) (equal-same _ _ (sym e ∙ sym (before_at r l))))
    again-told f None L = sym (member-none p (take i ps) (λ j k. let l : j < i = omega (arith, before-long) in rw (before_at j l) (not_same j l (dec_eq j 0) (dec_lt from j))))
      where
        not_same : (j : ℕ) → j < i → Dec (j ≡ 0) → Dec (from < j) → same p (get_or ps j []) ≡ false
        not_same j l (yes y) d = rw (y, rooted) f
        not_same j l (no y) (yes k) =
            different p (get_or ps j []) (λ e. last-above (bucket_at c) (bucket_at c i) i j (rw is_last at k) l
            (ap bucket_of (I.hash j (omega arith) ∙ ap (hash_of c.key) (sym e ∙ pq) ∙ sym (I.hash i o))))
        not_same j l (no y) (no k) =
            let m = L j y (omega arith) in
            different p (get_or ps j []) (λ e. false_true (sym m ∙ rw (le-leb j i (omega arith)) (equal-same _ _ (sym e))))

-- 8: THE FOLDER THAT A PATH LIES IN
module _ (s : List ℕ) (paths : (i : ℕ) → i < length (nodes_in s) → is_path (get_or (nodes_in s) i []) ≡ true) (p : Text) (hp : is_path p ≡ true) (np : p ≡ root → ⊥) where
  abbrev F : List Text
  F = with_slash (decode s).folders

  abbrev G : List Text
  G = map (λ (f : File). f.path) (decode s).files

  folder-node : (j : ℕ) → j < length F → get_or F j [] ≡ get_or (nodes_in s) j []
  folder-node j h = sym (get_or-append F G [] j h)

  pub has-folder : (d : ℕ) → InFolder (decode s) (parent p) (Some d) → any (directly_in p) F ≡ true
  has-folder d w =
      let l : d < length F = omega (arith, w.folder) in
      let e : get_or F d [] ≡ parent p = folder-node d l ∙ w.path in
      mem_any (directly_in p) (mem_get_d F d [] l) (parent_directly_in p (get_or F d []) hp np (sym e))

  pub no_folder : InFolder (decode s) (parent p) None → any (directly_in p) F ≡ false
  no_folder w = not_true (any (directly_in p) F) (λ e. none (any_true (directly_in p) F e))
    where
      none : (f : Text) × (Memᴰ f F × (directly_in p f ≡ true)) → ⊥
      none q =
          let g = get_d_mem [] q.1.0 in
          let l : g.0 < length (nodes_in s) = omega (arith, g.1.0, length-append F G) in
          let hf : is_path q.0 ≡ true = sym (ap is_path (sym (folder-node g.0 g.1.0) ∙ g.1.1)) ∙ paths g.0 l in
          let x : parent p ≡ q.0 = directly_in_parent p q.0 hf q.1.1 in
          false_true (sym w ∙ ap (λ (t : Text). member t F) x ∙ mem_member q.1.0)

pub parent-fits : (p : Text) → is_path p ≡ true → length (parent p) ≤ length p
parent-fits p h = omega (arith, ap length (parent-prefix p h), length-take (length (parent p)) p)

-- ONE PATH MORE IS TOLD
module _ (s sp : List ℕ) (F : List Text) where
  -- what is told of the paths from index i on
  abbrev pub on_from : ℕ → Checked
  on_from i = listed (take i (nodes_at s sp)) F (map (placed_at s) (drop (i - 1) sp))

  module _ (i : ℕ) (o : i < length (nodes_at s sp)) (n : i ≡ 0 → ⊥) (a : ℕ) (aq : a ≡ get_or sp (i - 1) 0) where
    long : i - 1 < length sp
    long = omega (arith, length-map sp (text s))

    next-node : get_or (nodes_at s sp) i [] ≡ text s a
    next-node = go i n aq long
      where
        go : (i : ℕ) → (i ≡ 0 → ⊥) → a ≡ get_or sp (i - 1) 0 → i - 1 < length sp → get_or (nodes_at s sp) i [] ≡ text s a
        go zero z e h = absurd (z refl)
        go (suc j) z e h = let y : suc j - 1 ≡ j = omega arith in at sp j (rw y at (sym e)) (omega arith)
          where
            at : (l : List ℕ) (j : ℕ) → get_or l j 0 ≡ a → j < length l → get_or (map (text s) l) j [] ≡ text s a
            at [] j e h = absurd (omega arith)
            at (b ∷ l) zero e h = ap (text s) e
            at (b ∷ l) (suc j) e h = at l j e (omega arith)

    rest : drop (i - 1) sp ≡ a ∷ drop i sp
    rest =
        let z : suc (i - 1) ≡ i = omega arith in
        drop-cons sp (i - 1) 0 long ∙ rw (z, ← aq)

    pub told-twice : member (text s a) (take i (nodes_at s sp)) ≡ true → on_from i ≡ Refused 7 a
    unfolding listed placed_at
    told-twice e = rw (rest, e)

    pub told-orphan : member (text s a) (take i (nodes_at s sp)) ≡ false → any (directly_in (text s a)) F ≡ false → on_from i ≡ Refused 8 a
    unfolding listed placed_at
    told-orphan e f = rw (rest, e, f)

    pub told-on : member (text s a) (take i (nodes_at s sp)) ≡ false → any (directly_in (text s a)) F ≡ true → on_from i ≡ on_from (i + 1)
    unfolding listed placed_at
    told-on e f =
        let z : i + 1 - 1 ≡ i = omega arith in
        let t : take (i + 1) (nodes_at s sp) ≡ take i (nodes_at s sp) ++ (text s a ∷ []) = rw (add-one i) (take-suc (nodes_at s sp) i [] o ∙ rw next-node) in
        rw (rest, e, f, z, t)

  pub told-all : (i : ℕ) → length (nodes_at s sp) ≤ i → on_from i ≡ Ok
  unfolding listed
  told-all i h = rw (drop_of_length-le sp {i = i - 1} (omega (arith, length-map sp (text s))))

-- THE LOOP
-- how many paths are listed, `/` among them, as a card counts them
abbrev pub listed_in : Card → ℕ
listed_in c = c.folders + c.files + 1

-- a card that indexes the listed paths of a bundle in form, with no parents and no package roots
pub record Indexed (s : List ℕ) (c : Card) : Type 0 where
  pub holds : Holds s (spots s) c (listed_in c)
  pub paths : (i : ℕ) → i < length (nodes_in s) → is_path (get_or (nodes_in s) i []) ≡ true
  pub folders : c.folders ≡ length (decode s).folders
  pub bare : (i : ℕ) → Bare (node_at c i)

-- each path's parent
pub record Parents (s : List ℕ) (c : Card) (n : ℕ) : Type 0 where
  pub each_one : (j : ℕ) → j < n → (j ≡ 0 → ⊥) → FolderAt (decode s) (parent (get_or (nodes_in s) j [])) (parent_at c j)
  pub top : parent_at c 0 ≡ 0
  pub small : (j : ℕ) → parent_at c j < node_limit

abbrev pub all_told : List ℕ → Checked
all_told s = listed (root ∷ []) (with_slash (decode s).folders) (map (placed_at s) (spots s))

-- what 7 and 8 leave of the card c₀
pub record Linked (s : List ℕ) (c₀ c : Card) (r : Checked) : Type 0 where
  pub kept : SameIndex c₀ c
  pub roots : (j : ℕ) → root_at c j ≡ root_at c₀ j
  pub told : r ≡ all_told s
  pub parents : r ≡ Ok → Parents s c (length (nodes_in s))

-- the indices below i are done
pub record Linking (s : List ℕ) (c₀ c : Card) (i : ℕ) : Type 0 where
  pub indexed : Indexed s c₀
  pub kept : SameIndex c₀ c
  pub roots : (j : ℕ) → root_at c j ≡ root_at c₀ j
  pub to : (1 ≤ i) × (i ≤ listed_in c₀)
  pub parents : Parents s c i
  pub told : all_told s ≡ on_from s (spots s) (with_slash (decode s).folders) i

pub linking-start : (s : List ℕ) (c : Card) → Indexed s c → Linking s c c 1
linking-start s c R = record {
  indexed = R;
  kept = same-refl c;
  roots = λ j. refl;
  to = (omega arith, omega arith);
  parents = record { each_one = λ j o z. absurd (z (omega arith)); top = (R.bare 0).parent; small = λ j. rw (R.bare j).parent (omega arith) };
  told = refl;
}

module _ (s : List ℕ) (c₀ c : Card) (i : ℕ) (w : Linking s c₀ c i) where
  whole : length (nodes_in s) ≡ listed_in c₀
  whole = sym (ap length (nodes_at_lem s)) ∙ ap suc (length-map (spots s) (text s)) ∙ sym w.indexed.holds.full

  pub link-end : listed_in c₀ ≤ i → Linked s c₀ c Ok
  link-end h =
      let z : i ≡ length (nodes_in s) = omega (arith, w.to, whole) in
      record {
        kept = w.kept;
        roots = w.roots;
        told = sym (w.told ∙ told-all s (spots s) (with_slash (decode s).folders) i (omega (arith, ap length (nodes_at_lem s))));
        parents = λ e. rw z at w.parents;
      }

  pub link-index : IndexOf s (nodes_in s) c
  link-index = rw (nodes_at_lem s) at (index_agree w.indexed.holds.index c w.kept)

  pub link-folders : c.folders ≡ length (decode s).folders
  link-folders = w.kept.folders ∙ w.indexed.folders

  module _ (o : i < listed_in c₀) where
    pub link-within : i < length (nodes_in s)
    link-within = omega (arith, whole)

    pub link-first : i ≡ 0 → ⊥
    link-first z = omega (arith, w.to)

    pub link-room : i < node_limit
    link-room = omega (arith, whole, link-index.count)

    pub link-low : start_at c i < 67108864
    link-low = link-index.low i link-within

    module _ (p : Text) (pq : p ≡ text s (start_at c i)) where
      pub link-node : p ≡ get_or (nodes_in s) i []
      link-node = pq ∙ link-index.texts i link-within link-first

      pub link-path : is_path p ≡ true
      link-path = rw link-node (w.indexed.paths i link-within)

      link_spot : start_at c i ≡ get_or (spots s) (i - 1) 0
      link_spot =
          let z : suc (i - 1) ≡ i = omega (arith, w.to) in
          w.kept.starts i ∙ rw z at (w.indexed.holds.starts (i - 1) (omega (arith, w.indexed.holds.full)))

      in_list : i < length (nodes_at s (spots s))
      in_list = omega (arith, link-within, ap length (nodes_at_lem s))

      seen : {b : Bool} → member p (take i (nodes_in s)) ≡ b → member (text s (start_at c i)) (take i (nodes_at s (spots s))) ≡ b
      seen e = rw (nodes_at_lem s, ← pq) e

      pub link-twice : true ≡ member p (take i (nodes_in s)) → Linked s c₀ c (Refused 7 (start_at c i))
      link-twice e = record {
        kept = w.kept;
        roots = w.roots;
        told = sym (w.told ∙ told-twice s (spots s) (with_slash (decode s).folders) i in_list link-first (start_at c i) link_spot (seen (sym e)));
        parents = λ q. absurd (refused-ok q);
      }

      module _ (f : false ≡ member p (take i (nodes_in s))) where
        not_root : p ≡ root → ⊥
        not_root e =
            false_true (f ∙ member-found p (take i (nodes_in s)) 0 (omega (arith, length-take i (nodes_in s), link-within, w.to))
            (rw (get_or-take i (nodes_in s) 0 [] w.to.0) (equal-same p root e)))

        pub link-orphan : InFolder (decode s) (parent p) None → Linked s c₀ c (Refused 8 (start_at c i))
        link-orphan R = record {
          kept = w.kept;
          roots = w.roots;
          told =
              sym (w.told ∙ told-orphan s (spots s) (with_slash (decode s).folders) i in_list link-first (start_at c i) link_spot (seen (sym f))
              (rw (← pq) (no_folder s w.indexed.paths p link-path not_root R)));
          parents = λ q. absurd (refused-ok q);
        }

        module _ (d : ℕ) (found : FolderAt (decode s) (parent p) d) where
          abbrev x : Node
          x = record (node_at c i) { parent = d }

          small : d < node_limit
          small = omega (arith, found.folder, length-append (with_slash (decode s).folders) (map (λ (g : File). g.path) (decode s).files), link-index.count)

          inside : i < length c.nodes
          inside = omega (arith, link-room, link-index.size.nodes)

          pub link-more : Linking s c₀ (record c { nodes = set c.nodes i (record (node_at c i) { parent = d }) }) (i + 1)
          link-more = record {
            indexed = w.indexed;
            kept = same-on c₀ c _ w.kept (record {
              size = λ z. record { nodes = rw length-set z.nodes; links = z.links; heads = z.heads; maps = z.maps };
              starts = field_kept (λ n. n.start) c.nodes i x inside refl;
              links = refl;
              heads = refl;
              key = refl;
              folders = refl;
              files = refl;
            });
            roots = λ j. field_kept (λ n. n.is_root) c.nodes i x inside refl j ∙ w.roots j;
            to = (omega arith, omega arith);
            parents = record {
              each_one = λ j k z. one j k z (dec_eq j i);
              top = ap (λ (n : Node). n.parent) (get_or-set_other c.nodes i 0 x no_node (λ z. omega (arith, w.to))) ∙ w.parents.top;
              small = λ j. less j (dec_eq j i);
            };
            told =
                w.told ∙ told-on s (spots s) (with_slash (decode s).folders) i in_list link-first (start_at c i) link_spot (seen (sym f))
                (rw (← pq) (has-folder s w.indexed.paths p link-path not_root d found));
          }
            where
              one : (j : ℕ) → j < i + 1 → (j ≡ 0 → ⊥) → Dec (j ≡ i) → FolderAt (decode s) (parent (get_or (nodes_in s) j [])) (get_or (set c.nodes i (record (node_at c i) { parent = d })) j no_node).parent
              one j k z (yes y) = rw (y, get_or-set_same c.nodes i x no_node inside, ← link-node) found
              one j k z (no y) = rw (get_or-set_other c.nodes i j x no_node y) (w.parents.each_one j (omega arith) z)

              less : (j : ℕ) → Dec (j ≡ i) → (get_or (set c.nodes i (record (node_at c i) { parent = d })) j no_node).parent < node_limit
              less j (yes y) = rw (y, get_or-set_same c.nodes i x no_node inside) small
              less j (no y) = rw (get_or-set_other c.nodes i j x no_node y) (w.parents.small j)

-- a path's parent is its first bytes
pub at-parent : (s : List ℕ) (p : Text) → is_path p ≡ true → (k : ℕ) → k ≡ length (parent p) → (r : Option ℕ) → InFolder (decode s) (take k p) r → InFolder (decode s) (parent p) r
at-parent s p h k e r w = let z : take k p ≡ parent p = rw e (parent-prefix p h) in rw z at w
