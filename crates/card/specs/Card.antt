-- What a card means: numbers by which the listed paths of a bundle are a tree with an index. Assumes nothing.
use Rattle.std.specs.Prelude.{ℕ, suc, ◌+◌, ◌≤◌, ◌<◌, ◌^◌, Bool, ◌&&◌, ◌≡◌, Option, Some, None, get_or, drop}
use Rattle.std.proofs.Common.{arith, ap, ◌∙◌, length-append}
use Rattle.std.proofs.Math.Decide.{dec_lt}
use Rattle.std.proofs.Math.Bool.{true, false, cond, and-false}
use Rattle.std.proofs.Math.Path.{refl, sym}
use mathlib.Core.List.{List, [], ◌∷◌, ◌++◌, map}
use Rattle.std.proofs.Math.Dec.{eqb, leb}
use Rattle.std.proofs.Math.ListN.{length}
use borrow.Author.Tests.{eq-eqb, ne_eqb, eqb-true, eqb-false, le-leb}
use Rattle.names.specs.Bytes.{slash, same, same-eq, equal-same, different, member, and_right, not_true}
use Rattle.names.specs.Path.{root, is_path, component_limit}
use Rattle.names.specs.Prefix.{starts_with, stem_of, child}
use Rattle.names.specs.PathTheorems.{form}
use Rattle.names.specs.FolderTheorems.{Plain}
use Rattle.bundle.specs.Bundle.{Text, Bundle, File, Remapping, with_slash}
use Rattle.bundle.specs.Limits.{remapping_limit}
use Rattle.bundle.specs.Scan.{text}
use Rattle.bundle.specs.Decode.{far, after_remapping, after_file, decode, file_at, file_count, file_first, remapping_at, remapping_count, remapping_first}
use Rattle.bundle.specs.ListLaws.{each-length, each_at}
use Rattle.card.specs.declared.parts.Card.{Card}
use Rattle.card.specs.Layout.{node_limit, bucket_limit, bucket_of, key_limit, parent_at, start_at, hash_at, next_at, root_at, head_at, map_at}
use Rattle.card.specs.Tree.{Tree, ascends, below-is, hit-is}
use Rattle.card.specs.Index.{last_in, last-below, last_key, last-above, Chained, Looked, Walking, walking_start, walking_on, walking_found, walking_end, hashed, hashed-append}

-- `/`, the folders and the files, in the bundle's order: an index is a place in this list
abbrev pub nodes_of : Bundle → List Text
nodes_of b = root ∷ (b.folders ++ map (λ (f : File). f.path) b.files)

abbrev pub nodes_in : List ℕ → List Text
nodes_in s = nodes_of (decode s)

-- the package roots: the entry's root and all targets
abbrev pub roots_of : Bundle → List Text
roots_of b = b.root ∷ map (λ (r : Remapping). r.target) b.remappings

abbrev pub seed : ℕ
seed = 5381

-- a path's hash goes on with what it holds: that of `/` is the seed
unfoldable pub hash_of : ℕ → Text → ℕ
hash_of m p = cond (eqb (length p) 1) seed (hashed m seed p)

-- the chain that an index is in
abbrev pub bucket_at : Card → ℕ → ℕ
bucket_at c i = bucket_of (hash_at c i)

-- how many of all there is room for
pub record Sized (c : Card) : Type 0 where
  pub nodes : length c.nodes ≡ node_limit
  pub links : length c.links ≡ node_limit
  pub heads : length c.heads ≡ bucket_limit
  pub maps : length c.maps ≡ remapping_limit

-- THE INDEX over a list of paths that stand in s, the first of which is `/`
pub record IndexOf (s : List ℕ) (ps : List Text) (c : Card) : Type 0 where
  pub size : Sized c
  pub some : 0 < length ps
  pub count : length ps ≤ node_limit
  pub multiplier : c.key < key_limit
  pub texts : (i : ℕ) → i < length ps → (i ≡ 0 → ⊥) → text s (start_at c i) ≡ get_or ps i []
  pub low : (i : ℕ) → i < length ps → start_at c i < 2 ^ 26
  pub hash : (i : ℕ) → i < length ps → hash_at c i ≡ hash_of c.key (get_or ps i [])
  pub chains : Chained (bucket_at c) (head_at c) (next_at c) (length ps)

-- parents that stay inside
abbrev pub Above : Card → Type 0
Above c = (i : ℕ) → parent_at c i < node_limit

-- index i is that of a folder, `/` among them, and its path is p
pub record FolderAt (b : Bundle) (p : Text) (i : ℕ) : Type 0 where
  pub folder : i ≤ length b.folders
  pub path : get_or (nodes_of b) i [] ≡ p

-- what is found of a folder's path
abbrev pub InFolder : Bundle → Text → Option ℕ → Type 0
InFolder b t (Some i) = FolderAt b t i
InFolder b t None = member t (with_slash b.folders) ≡ false

-- of each remapping its position and the folders of its context and its target
pub record Maps (s : List ℕ) (c : Card) : Type 0 where
  pub places : (j : ℕ) → j < length (decode s).remappings → (map_at c j).place ≡ far (after_remapping s) j (remapping_first s)
  pub low : (j : ℕ) → j < length (decode s).remappings → (map_at c j).place < 2 ^ 26
  pub contexts : (j : ℕ) (d : Remapping) → j < length (decode s).remappings → FolderAt (decode s) (get_or (decode s).remappings j d).context (map_at c j).context
  pub targets : (j : ℕ) (d : Remapping) → j < length (decode s).remappings → FolderAt (decode s) (get_or (decode s).remappings j d).target (map_at c j).target

-- THE MEANING OF A CARD: it is the lists of the bundle s
pub record CardIs (s : List ℕ) (c : Card) : Type 0 where
  pub index : IndexOf s (nodes_in s) c
  pub above : Above c
  pub tree : Tree (nodes_in s) (parent_at c)
  pub folders : c.folders ≡ length (decode s).folders
  pub remappings : c.remappings ≡ length (decode s).remappings
  pub few : length (decode s).remappings ≤ remapping_limit
  pub files : c.files ≡ length (decode s).files
  -- a file's start is the file's
  pub starts : (i : ℕ) → i < length (decode s).files → start_at c (suc (length (decode s).folders + i)) ≡ far (after_file s) i (file_first s)
  pub marks : (i : ℕ) → i < length (nodes_in s) → root_at c i ≡ member (get_or (nodes_in s) i []) (roots_of (decode s))
  pub maps : Maps s c
  pub entry : FolderAt (decode s) (decode s).root c.root

-- the file at a file's start, and the remapping at its place
module _ {s : List ℕ} {c : Card} (C : CardIs s c) where
  pub file-starts : (i : ℕ) (d : File) → i < length (decode s).files → file_at s (start_at c (suc (length (decode s).folders + i))) ≡ get_or (decode s).files i d
  unfolding decode
  file-starts i d h =
      let o : i < file_count s = omega (arith, each-length (after_file s) (file_at s) (file_count s) (file_first s)) in
      ap (file_at s) (C.starts i h) ∙ sym (each_at (after_file s) (file_at s) (file_count s) i (file_first s) d o)

  pub map-places : (j : ℕ) (d : Remapping) → j < length (decode s).remappings → remapping_at s (map_at c j).place ≡ get_or (decode s).remappings j d
  unfolding decode
  map-places j d h =
      let o : j < remapping_count s = omega (arith, each-length (after_remapping s) (remapping_at s) (remapping_count s) (remapping_first s)) in
      ap (remapping_at s) (C.maps.places j h) ∙ sym (each_at (after_remapping s) (remapping_at s) (remapping_count s) j (remapping_first s) d o)

-- a card by which the uses of s resolve: the tree of its listed paths with their index, its package roots, and of each remapping the
-- name at its place and the folders of its context and its target
pub record CardOf (s : List ℕ) (c : Card) : Type 0 where
  pub index : IndexOf s (nodes_in s) c
  pub above : Above c
  pub tree : Tree (nodes_in s) (parent_at c)
  pub folders : c.folders ≡ length (decode s).folders
  pub remappings : c.remappings ≡ length (decode s).remappings
  pub few : length (decode s).remappings ≤ remapping_limit
  pub marks : (i : ℕ) → i < length (nodes_in s) → root_at c i ≡ member (get_or (nodes_in s) i []) (roots_of (decode s))
  pub names : (j : ℕ) (d : Remapping) → j < length (decode s).remappings → (remapping_at s (map_at c j).place).name ≡ (get_or (decode s).remappings j d).name
  pub contexts : (j : ℕ) (d : Remapping) → j < length (decode s).remappings → FolderAt (decode s) (get_or (decode s).remappings j d).context (map_at c j).context
  pub targets : (j : ℕ) (d : Remapping) → j < length (decode s).remappings → FolderAt (decode s) (get_or (decode s).remappings j d).target (map_at c j).target
  pub entry : FolderAt (decode s) (decode s).root c.root

-- which the lists of a bundle are
pub CardIs-CardOf : {s : List ℕ} {c : Card} → CardIs s c → CardOf s c
CardIs-CardOf C = record {
  index = C.index;
  above = C.above;
  tree = C.tree;
  folders = C.folders;
  remappings = C.remappings;
  few = C.few;
  marks = C.marks;
  names = λ j d h. ap (λ (r : Remapping). r.name) (map-places C j d h);
  contexts = C.maps.contexts;
  targets = C.maps.targets;
  entry = C.entry;
}

-- THE HASH OF A NAME IN A FOLDER
pub child-long : (d n : Text) → 1 ≤ length n → length (child d n) ≡ 1 → ⊥
unfolding child
child-long d n l e = omega (arith, simp length-append at e)

-- one byte that leads a path is `/`
pub one_byte : (p : Text) → get_or p 0 0 ≡ slash → length p ≡ 1 → p ≡ root
one_byte [] e h = absurd (omega arith)
one_byte (b ∷ []) e h = ap (λ (x : ℕ). x ∷ []) e
one_byte (b ∷ (c ∷ p)) e h = absurd (omega arith)

module _ (m : ℕ) where
  pub hash-long : (q : Text) → (length q ≡ 1 → ⊥) → hash_of m q ≡ hashed m seed q
  unfolding hash_of
  hash-long q k = rw (ne_eqb (length q) 1 k)

  pub hash-one : (q : Text) → length q ≡ 1 → hash_of m q ≡ seed
  unfolding hash_of
  hash-one q k = rw (eq-eqb (length q) 1 k)

  hash-whole : (d n : Text) → hashed m seed (child d n) ≡ hashed m (hashed m seed (stem_of d)) (slash ∷ n)
  unfolding child
  hash-whole d n = hashed-append m seed (stem_of d) (slash ∷ n)

  hash_stem : (p : Text) → is_path p ≡ true → hash_of m p ≡ hashed m seed (stem_of p)
  unfolding hash_of stem_of hashed
  hash_stem p h = go (eqb (length p) 1) refl
    where
      go : (u : Bool) → eqb (length p) 1 ≡ u → cond u seed (hashed m seed p) ≡ hashed m seed (cond (same p root) [] p)
      go true e = rw (equal-same p root (one_byte p (form p h).led_by (eqb-true _ _ e)))
      go false e = rw (different p root (λ q. eqb-false _ _ e (ap length q)))

  pub hash-child : (d n : Text) → is_path d ≡ true → Plain n → hash_of m (child d n) ≡ hashed m (hash_of m d) (slash ∷ n)
  hash-child d n h p = hash-long (child d n) (child-long d n p.some_byte) ∙ hash-whole d n ∙ ap (λ (x : ℕ). hashed m x (slash ∷ n)) (sym (hash_stem d h))

-- ONE LOOKUP
-- the code's test of a path by its hash, its parent and its bytes
unfoldable pub hit : List ℕ → Card → ℕ → ℕ → ℕ → ℕ → Text → Bool
hit s c i h d cut n = eqb (hash_at c i) h && (eqb (parent_at c i) d && same (drop cut (text s (start_at c i))) n)

-- where the last component of what lies in a folder stands
unfoldable pub cut_of : List ℕ → Card → ℕ → ℕ
cut_of s c d = cond (eqb d 0) 1 (length (text s (start_at c d)) + 1)

-- the test of the definition: the path of index i is that of the name in the folder
abbrev pub sought : List Text → ℕ → Text → ℕ → Bool
sought ps d n i = same (get_or ps i []) (child (get_or ps d []) n)

stem_root : stem_of root ≡ []
unfolding stem_of same
stem_root = refl

stem_other : (p : Text) → (p ≡ root → ⊥) → stem_of p ≡ p
unfolding stem_of
stem_other p h = rw (different p root h)

module _ {s : List ℕ} {ps : List Text} {c : Card} (I : IndexOf s ps c) (T : Tree ps (parent_at c)) (d : ℕ) (l : d < length ps) where
  pub cut-is : cut_of s c d ≡ length (stem_of (get_or ps d [])) + 1
  unfolding cut_of
  cut-is = go (eqb d 0) refl
    where
      go : (u : Bool) → eqb d 0 ≡ u → cond u 1 (length (text s (start_at c d)) + 1) ≡ length (stem_of (get_or ps d [])) + 1
      go true e = rw (eqb-true d 0 e, T.rooted, stem_root)
      go false e =
          let z : d ≡ 0 → ⊥ = eqb-false d 0 e in
          rw (I.texts d l z, stem_other (get_or ps d []) (λ q. z (T.once d 0 l (omega (arith, I.some)) (q ∙ sym T.rooted))))

  module _ (n : Text) (p : Plain n) (h : ℕ) (hq : h ≡ hashed c.key (hash_at c d) (slash ∷ n)) where
    hash-sought : (i : ℕ) → i < length ps → sought ps d n i ≡ true → hash_at c i ≡ h
    hash-sought i o q =
        I.hash i o ∙ ap (hash_of c.key) (same-eq _ _ q) ∙ hash-child c.key (get_or ps d []) n (T.formed d l) p
        ∙ ap (λ (x : ℕ). hashed c.key x (slash ∷ n)) (sym (I.hash d l)) ∙ sym hq

    hit-sought : (i : ℕ) → i < length ps → (i ≡ 0 → ⊥) → hit s c i h d (cut_of s c d) n ≡ sought ps d n i
    unfolding hit
    hit-sought i o z = rw (cut-is, I.texts i o z) (go (eqb (hash_at c i) h) refl)
      where
        go : (u : Bool) → eqb (hash_at c i) h ≡ u → (u && (eqb (parent_at c i) d && same (drop (length (stem_of (get_or ps d [])) + 1) (get_or ps i [])) n)) ≡ sought ps d n i
        go true e = sym (hit-is T i d n o l z p)
        go false e = sym (not_true (sought ps d n i) (λ q. eqb-false (hash_at c i) h e (hash-sought i o q)))

    bucket-sought : (i : ℕ) → i < length ps → sought ps d n i ≡ true → bucket_at c i ≡ bucket_of h
    bucket-sought i o q = ap bucket_of (hash-sought i o q)

    -- AS THE CODE HAS IT
    abbrev pub Child : ℕ → Type 0
    Child i = Walking (sought ps d n) (bucket_at c) (bucket_of h) (length ps) i

    pub find-start : (i : ℕ) → i ≡ head_at c (bucket_of h) → Child i
    find-start i e =
        walking_start I.chains.links bucket-sought (λ z. omega (arith, I.some)) i (e ∙ I.chains.heads (bucket_of h) (omega arith))

    module _ (cut : ℕ) (cq : cut ≡ cut_of s c d) (i : ℕ) (w : Child i) where
      pub find-end : i ≡ 0 → Looked (sought ps d n) (length ps) None
      find-end z = walking_end I.chains.links bucket-sought i w z

      module _ (z : i ≡ 0 → ⊥) (u : Bool) (uq : u ≡ hit s c i h d cut n) where
        told : sought ps d n i ≡ u
        told = sym (uq ∙ rw cq (hit-sought i w.within z))

        pub find-found : u ≡ true → Looked (sought ps d n) (length ps) (Some i)
        find-found e = walking_found I.chains.links bucket-sought i w z (told ∙ e)

        pub find-on : u ≡ false → (m : ℕ) → m ≡ next_at c i → Child m × (m < i)
        find-on e m mq = walking_on I.chains.links bucket-sought i w z (told ∙ e) m mq

-- the hash of a name with its ending, in steps
pub hash_steps : (k h : ℕ) (n e : Text) (a : ℕ) → a ≡ hashed k h (slash ∷ []) → (b : ℕ) → b ≡ hashed k a n → (c : ℕ) → c ≡ hashed k b e → c ≡ hashed k h (slash ∷ (n ++ e))
hash_steps k h n e a p b q c r =
    r ∙ rw (q, p) (sym (hashed-append k (hashed k h (slash ∷ [])) n e) ∙ sym (hashed-append k h (slash ∷ []) (n ++ e)))

-- A PATH SEARCHED FOR
abbrev pub is_at : List Text → Text → ℕ → Bool
is_at ps t i = same (get_or ps i []) t

-- up to the index last
abbrev pub is_up_to : List Text → Text → ℕ → ℕ → Bool
is_up_to ps t last i = leb i last && is_at ps t i

-- the code's test
unfoldable pub met : List ℕ → Card → ℕ → ℕ → ℕ → Text → Bool
met s c i last h t = eqb (hash_at c i) h && (leb i last && same (text s (start_at c i)) t)

-- a chain is gone down from `from` for the path t of hash h
pub record Chain (ps : List Text) (c : Card) (h : ℕ) (t : Text) (from : ℕ) : Type 0 where
  pub hashes : h ≡ hash_of c.key t
  pub within : from < length ps
  pub keyed : (from ≡ 0 → ⊥) → bucket_at c from ≡ bucket_of h

module _ {s : List ℕ} {ps : List Text} {c : Card} (I : IndexOf s ps c) (t : Text) (h from : ℕ) (W : Chain ps c h t from) (last : ℕ) where
  hash_at_lem : (i : ℕ) → i < length ps → is_at ps t i ≡ true → hash_at c i ≡ h
  hash_at_lem i o q = I.hash i o ∙ ap (hash_of c.key) (same-eq _ _ q) ∙ sym W.hashes

  met_at : (i : ℕ) → i < length ps → (i ≡ 0 → ⊥) → met s c i last h t ≡ is_up_to ps t last i
  unfolding met
  met_at i o z = rw (I.texts i o z) (go (eqb (hash_at c i) h) refl)
    where
      go : (u : Bool) → eqb (hash_at c i) h ≡ u → (u && is_up_to ps t last i) ≡ is_up_to ps t last i
      go true e = refl
      go false e = sym (not_true (is_up_to ps t last i) (λ q. eqb-false (hash_at c i) h e (hash_at_lem i o (and_right (leb i last) (is_at ps t i) q))))

  bucket-at : (i : ℕ) → i < suc from → is_up_to ps t last i ≡ true → bucket_at c i ≡ bucket_of h
  bucket-at i o q = ap bucket_of (hash_at_lem i (omega (arith, W.within)) (and_right (leb i last) (is_at ps t i) q))

  links : (i : ℕ) → i < suc from → next_at c i ≡ last_in (bucket_at c) (bucket_at c i) i
  links i o = I.chains.links i (omega (arith, W.within))

  abbrev pub Searching : ℕ → Type 0
  Searching i = Walking (is_up_to ps t last) (bucket_at c) (bucket_of h) (suc from) i

  pub path-start : Searching from
  path-start = record { within = omega arith; keyed = W.keyed; passed = λ j a b. absurd (omega arith) }

  module _ (i : ℕ) (w : Searching i) where
    pub path-within : i < length ps
    path-within = omega (arith, w.within, W.within)

    pub path-end : i ≡ 0 → Looked (is_up_to ps t last) (suc from) None
    path-end z = walking_end links bucket-at i w z

    module _ (z : i ≡ 0 → ⊥) (u : Bool) (uq : u ≡ met s c i last h t) where
      told-path : is_up_to ps t last i ≡ u
      told-path = sym (uq ∙ met_at i path-within z)

      pub path-found : u ≡ true → Looked (is_up_to ps t last) (suc from) (Some i)
      path-found e = walking_found links bucket-at i w z (told-path ∙ e)

      pub path-on : u ≡ false → (m : ℕ) → m ≡ next_at c i → Searching m × (m < i)
      path-on e m mq = walking_on links bucket-at i w z (told-path ∙ e) m mq

-- from the head of its chain, and from the index before one of its paths
module _ {s : List ℕ} {ps : List Text} {c : Card} (I : IndexOf s ps c) (t : Text) (h : ℕ) (hq : h ≡ hash_of c.key t) where
  module _ (from : ℕ) (e : from ≡ head_at c (bucket_of h)) where
    is_last : from ≡ last_in (bucket_at c) (bucket_of h) (length ps)
    is_last = e ∙ I.chains.heads (bucket_of h) (omega arith)

    pub from-head : Chain ps c h t from
    from-head = record {
      hashes = hq;
      within = rw is_last (last-below (bucket_at c) (bucket_of h) (length ps) (λ z. omega (arith, I.some)));
      keyed = λ z. rw is_last (last_key (bucket_at c) (bucket_of h) (length ps) (λ x. z (is_last ∙ x)));
    }

    -- nothing after the head
    pub past_head : (j : ℕ) → from < j → j < length ps → is_at ps t j ≡ false
    past_head j l o =
        not_true (is_at ps t j) (λ q. last-above (bucket_at c) (bucket_of h) (length ps) j (rw is_last at l) o
        (ap bucket_of (I.hash j o ∙ ap (hash_of c.key) (same-eq _ _ q) ∙ sym hq)))

    -- what a walk from the head finds
    pub whole-chain : (last : ℕ) (r : Option ℕ) → Looked (is_up_to ps t last) (suc from) r → Looked (is_up_to ps t last) (length ps) r
    whole-chain last (Some r) L = record { some = L.some; within = omega (arith, L.within, from-head.within); holds = L.holds }
    whole-chain last None L = λ j z o. at j z o (dec_lt from j)
      where
        at : (j : ℕ) → (j ≡ 0 → ⊥) → j < length ps → Dec (from < j) → is_up_to ps t last j ≡ false
        at j z o (yes l) = rw (past_head j l o) (and-false (leb j last))
        at j z o (no l) = L j z (omega arith)

  -- all indices are below the limit
  pub up_to-all : (last : ℕ) (r : Option ℕ) → node_limit ≤ last → Looked (is_up_to ps t last) (length ps) r → Looked (is_at ps t) (length ps) r
  up_to-all last (Some r) l L = record { some = L.some; within = L.within; holds = and_right (leb r last) (is_at ps t r) L.holds }
  up_to-all last None l L = λ j z o. rw (le-leb j last (omega (arith, I.count))) at (L j z o)

-- BELOW: what `is_below` answers is whether the path lies at or below the other, by whole components
pub below-card : {s : List ℕ} {c : Card} → CardIs s c → (i d : ℕ) → i < length (nodes_in s) → d < length (nodes_in s)
    → starts_with (get_or (nodes_in s) i []) (get_or (nodes_in s) d []) ≡ ascends component_limit (parent_at c) i d
below-card C i d h l = below-is C.tree i d h l
