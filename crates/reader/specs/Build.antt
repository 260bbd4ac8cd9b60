-- The index is made: one path more. Assumes nothing.
use Rattle.std.specs.Prelude.{ℕ, suc, ◌+◌, ◌*◌, ◌≤◌, ◌<◌, Bool, cond, List, [], ◌∷◌, ◌++◌, map, eqb, length, get_or, set, replicate}
use native.Mathlib.Omega.{arith}
use Rattle.std.proofs.Common.{add-one, ap, ◌∙◌, append_assoc, append-nil, length-append, length-set, get_or-set_same, get_or-set_other, get_or-append-add}
use Rattle.std.proofs.Math.Nat.{mul-le-mul_left}
use Rattle.std.proofs.Math.Decide.{dec_lt}
use Rattle.std.proofs.Math.Bool.{true, false}
use Rattle.std.proofs.Math.Path.{◌≡◌, refl, sym}
use Rattle.std.proofs.lemmas.List.{length-map, map-append, get_or-replicate}
use Rattle.std.proofs.Math.ListN.{get_or-append, get_or-eq_default, length-replicate}
use Rattle.names.specs.Path.{root}
use Rattle.bundle.specs.Bundle.{Text}
use Rattle.bundle.specs.Limits.{count_limit, file_size, remapping_limit}
use Rattle.bundle.specs.Scan.{text}
use Rattle.bundle.specs.Decode.{each, far}
use Rattle.bundle.specs.ListLaws.{each_more, far-more}
use Rattle.card.specs.declared.parts.Node.{Node}
use Rattle.card.specs.declared.parts.Link.{Link}
use Rattle.card.specs.declared.parts.Card.{Card}
use Rattle.card.specs.Layout.{node_limit, bucket_limit, bucket_of, key_limit, no_node, no_link, no_map, empty, node_at, link_at, start_at, hash_at, next_at, head_at}
use Rattle.card.specs.Index.{dec_eq, last_in, last_agree, Chained, chained_more}
use Rattle.card.specs.Card.{seed, hash_of, bucket_at, Sized, IndexOf}

-- INDEX k has its path at a, of hash h, and is the last of its chain
abbrev pub path_node : ℕ → Node
path_node a = record { start = a; parent = 0; is_root = false }

abbrev pub path_link : Card → ℕ → Link
path_link c h = record { hash = h; next = head_at c (bucket_of h) }

abbrev pub filed : Card → ℕ → ℕ → ℕ → Card
filed c k a h = record c { nodes = set c.nodes k (path_node a); links = set c.links k (path_link c h); heads = set c.heads (bucket_of h) k }

module _ (c : Card) (k a h : ℕ) (z : Sized c) (l : k < node_limit) where
  pub filed-size : Sized (filed c k a h)
  filed-size = record { nodes = rw length-set z.nodes; links = rw length-set z.links; heads = rw length-set z.heads; maps = z.maps }

  pub filed-node : node_at (filed c k a h) k ≡ path_node a
  filed-node = get_or-set_same c.nodes k (path_node a) no_node (omega (arith, z.nodes))

  pub filed-nodes : (i : ℕ) → (i ≡ k → ⊥) → node_at (filed c k a h) i ≡ node_at c i
  filed-nodes i n = get_or-set_other c.nodes k i (path_node a) no_node n

  pub filed-start : start_at (filed c k a h) k ≡ a
  filed-start = ap (λ (n : Node). n.start) filed-node

  pub filed-starts : (i : ℕ) → (i ≡ k → ⊥) → start_at (filed c k a h) i ≡ start_at c i
  filed-starts i n = ap (λ (m : Node). m.start) (filed-nodes i n)

  pub filed-link : link_at (filed c k a h) k ≡ path_link c h
  filed-link = get_or-set_same c.links k (path_link c h) no_link (omega (arith, z.links))

  pub filed-links : (i : ℕ) → (i ≡ k → ⊥) → link_at (filed c k a h) i ≡ link_at c i
  filed-links i n = get_or-set_other c.links k i (path_link c h) no_link n

  pub filed-hash : hash_at (filed c k a h) k ≡ h
  filed-hash = ap (λ (m : Link). m.hash) filed-link

  pub filed-hashes : (i : ℕ) → (i ≡ k → ⊥) → hash_at (filed c k a h) i ≡ hash_at c i
  filed-hashes i n = ap (λ (m : Link). m.hash) (filed-links i n)

  pub filed-head : head_at (filed c k a h) (bucket_of h) ≡ k
  filed-head = get_or-set_same c.heads (bucket_of h) k 0 (omega (arith, z.heads))

  pub filed-heads : (b : ℕ) → (b ≡ bucket_of h → ⊥) → head_at (filed c k a h) b ≡ head_at c b
  filed-heads b n = get_or-set_other c.heads (bucket_of h) b k 0 n

-- the same keys, the same chains
chained_agree : (f g hs ls : ℕ → ℕ) (n : ℕ) → ((i : ℕ) → i < n → f i ≡ g i) → Chained f hs ls n → Chained g hs ls n
chained_agree f g hs ls n h C = record {
  heads = λ b l. C.heads b l ∙ last_agree f g b n h;
  links = λ i l. C.links i l ∙ last_agree f g (f i) i (λ j k. h j (omega arith)) ∙ ap (λ (x : ℕ). last_in g x i) (h i l);
}

get_d_end : (ps : List Text) (t : Text) (i : ℕ) → i ≡ length ps → get_or (ps ++ (t ∷ [])) i [] ≡ t
get_d_end ps t i h = let z : i ≡ length ps + 0 = omega arith in rw z (get_or-append-add ps (t ∷ []) 0 [])

-- ONE PATH MORE
module _ {s : List ℕ} {ps : List Text} {c : Card} (I : IndexOf s ps c) (k : ℕ) (q : k ≡ length ps) (l : k < node_limit) (a : ℕ) (al : a < 67108864) (h : ℕ) (e : h ≡ hash_of c.key (text s a)) where
  more : length (ps ++ (text s a ∷ [])) ≡ suc (length ps)
  more = length-append ps (text s a ∷ []) ∙ add-one (length ps)

  stands : (i : ℕ) → i < suc (length ps) → (i ≡ 0 → ⊥) → Dec (i ≡ k) → text s (start_at (filed c k a h) i) ≡ get_or (ps ++ (text s a ∷ [])) i []
  stands i o z (yes g) = rw (g, filed-start c k a h I.size l) (sym (get_d_end ps (text s a) k q))
  stands i o z (no g) =
      let m : i < length ps = omega arith in
      rw (filed-starts c k a h I.size l i g, get_or-append ps (text s a ∷ []) [] i m) (I.texts i m z)

  lies_low : (i : ℕ) → i < suc (length ps) → Dec (i ≡ k) → start_at (filed c k a h) i < 67108864
  lies_low i o (yes g) = rw (g, filed-start c k a h I.size l) al
  lies_low i o (no g) = rw (filed-starts c k a h I.size l i g) (I.low i (omega arith))

  hashes-to : (i : ℕ) → i < suc (length ps) → Dec (i ≡ k) → hash_at (filed c k a h) i ≡ hash_of c.key (get_or (ps ++ (text s a ∷ [])) i [])
  hashes-to i o (yes g) = rw (g, filed-hash c k a h I.size l, get_d_end ps (text s a) k q) e
  hashes-to i o (no g) =
      let m : i < length ps = omega arith in
      rw (filed-hashes c k a h I.size l i g, get_or-append ps (text s a ∷ []) [] i m) (I.hash i m)

  new : bucket_at (filed c k a h) k ≡ bucket_of h
  new = ap bucket_of (filed-hash c k a h I.size l)

  old : Chained (bucket_at (filed c k a h)) (head_at c) (next_at c) k
  old =
      chained_agree (bucket_at c) (bucket_at (filed c k a h)) (head_at c) (next_at c) k
      (λ i o. ap bucket_of (sym (filed-hashes c k a h I.size l i (λ z. omega arith)))) (rw (← q) at I.chains)

  chains : Chained (bucket_at (filed c k a h)) (head_at (filed c k a h)) (next_at (filed c k a h)) (suc k)
  chains =
      chained_more (bucket_at (filed c k a h)) (head_at c) (next_at c) (head_at (filed c k a h)) (next_at (filed c k a h)) k old
      (rw new (omega arith)) (rw new (filed-head c k a h I.size l)) (λ b o n. filed-heads c k a h I.size l b (rw new at n))
      (rw new (ap (λ (m : Link). m.next) (filed-link c k a h I.size l))) (λ i o. ap (λ (m : Link). m.next) (filed-links c k a h I.size l i (λ z. omega arith)))

  pub index-more : IndexOf s (ps ++ (text s a ∷ [])) (filed c k a h)
  index-more = record {
    size = filed-size c k a h I.size l;
    some = omega (arith, more);
    count = omega (arith, more);
    multiplier = I.multiplier;
    texts = λ i o z. stands i (rw more at o) z (dec_eq i k);
    low = λ i o. lies_low i (rw more at o) (dec_eq i k);
    hash = λ i o. hashes-to i (rw more at o) (dec_eq i k);
    chains = rw (more, ← q) chains;
  }

-- PATHS ONE AFTER THE OTHER, by their positions
abbrev pub nodes_at : List ℕ → List ℕ → List Text
nodes_at s sp = root ∷ map (text s) sp

-- the card indexes the paths at these positions
pub record Holds (s : List ℕ) (sp : List ℕ) (c : Card) (k : ℕ) : Type 0 where
  pub index : IndexOf s (nodes_at s sp) c
  pub starts : (j : ℕ) → j < length sp → start_at c (suc j) ≡ get_or sp j 0
  pub full : k ≡ suc (length sp)

holds_more : (s : List ℕ) (sp : List ℕ) (c : Card) (k a h : ℕ) → Holds s sp c k → k < node_limit → a < 67108864 → h ≡ hash_of c.key (text s a) → Holds s (sp ++ (a ∷ [])) (filed c k a h) (k + 1)
holds_more s sp c k a h H l al e = record {
  index = rw (map-append (text s) sp (a ∷ [])) (index-more H.index k (H.full ∙ ap suc (sym (length-map sp (text s)))) l a al h e);
  starts = λ j o. at j (rw (length-append sp (a ∷ [])) at o) (dec_eq (suc j) k);
  full = omega (arith, H.full, length-append sp (a ∷ []));
}
  where
    at : (j : ℕ) → j < length sp + 1 → Dec (suc j ≡ k) → start_at (filed c k a h) (suc j) ≡ get_or (sp ++ (a ∷ [])) j 0
    at j o (yes g) =
        let z : j ≡ length sp + 0 = omega (arith, H.full) in
        rw (g, filed-start c k a h H.index.size l, z) (sym (get_or-append-add sp (a ∷ []) 0 0))
    at j o (no g) =
        let m : j < length sp = omega (arith, H.full) in
        rw (filed-starts c k a h H.index.size l (suc j) g, get_or-append sp (a ∷ []) 0 j m) (H.starts j m)

-- no parent, and no package root
pub record Bare (n : Node) : Type 0 where
  pub parent : n.parent ≡ 0
  pub is_root : n.is_root ≡ false

-- what filling leaves as it was
pub record Kept (c c' : Card) : Type 0 where
  pub size : Sized c → Sized c'
  pub bare : ((i : ℕ) → Bare (node_at c i)) → (i : ℕ) → Bare (node_at c' i)
  pub key : c'.key ≡ c.key
  pub folders : c'.folders ≡ c.folders
  pub files : c'.files ≡ c.files

-- positions
abbrev pub itself : ℕ → ℕ
itself a = a

-- THE INDEX WITH n PATHS MORE, those from first on
pub record Filled (s : List ℕ) (c c' : Card) (next : ℕ → ℕ) (first n k : ℕ) : Type 0 where
  pub kept : Kept c c'
  pub holds : (sp : List ℕ) → Holds s sp c k → Holds s (sp ++ each next itself n first) c' (k + n)

-- what a list to fill with is: its values lie low, and there is room
pub record Fills (size first n k : ℕ) (c : Card) : Type 0 where
  pub low : first < 1048576
  pub few : n < count_limit
  pub room : k + n ≤ node_limit
  pub fits : size ≤ file_size
  pub keyed : c.key < key_limit
  pub sized : Sized c

-- as the loop has it: i of n paths are done
pub record Filling (s : List ℕ) (c₀ c : Card) (next : ℕ → ℕ) (size first n k a i : ℕ) : Type 0 where
  pub done : i ≤ n
  pub before : Fills size first n k c₀
  pub place : a ≡ far next i first
  pub low : a ≤ first + i * size
  pub filled : Filled s c₀ c next first i k

module _ (s : List ℕ) (c₀ : Card) (next : ℕ → ℕ) (size first n k : ℕ) where
  pub filling_start : Fills size first n k c₀ → Filling s c₀ c₀ next size first n k first 0
  unfolding far each
  filling_start F = record {
    done = omega arith;
    before = F;
    place = refl;
    low = omega arith;
    filled = record {
      kept = record { size = λ z. z; bare = λ b. b; key = refl; folders = refl; files = refl };
      holds = λ sp H. rw (append-nil sp) (record { index = H.index; starts = H.starts; full = omega (arith, H.full) });
    };
  }

  module _ (c : Card) (a i : ℕ) (w : Filling s c₀ c next size first n k a i) where
    pub filling_keyed : c.key < key_limit
    filling_keyed = rw w.filled.kept.key w.before.keyed

    pub filling_end : n ≤ i → Filled s c₀ c next first n k
    filling_end h = let z : i ≡ n = omega (arith, w.done) in rw z at w.filled

    module _ (o : i < n) where
      pub filling_low : a < 67108864
      filling_low = omega (arith, w.low, mul-le-mul_left i w.before.fits, w.before.low, w.before.few)

      pub filling_room : k + i < node_limit
      filling_room = omega (arith, w.before.room)

      pub filling_more : (t : Text) → t ≡ text s a → (h : ℕ) → h ≡ hash_of c₀.key t → (b : ℕ) → (b ≡ next a) × (b ≤ a + size) → Filling s c₀ (filed c (k + i) a h) next size first n k b (i + 1)
      filling_more t tq h hq b bq = record {
        done = omega arith;
        before = w.before;
        place = bq.0 ∙ ap next w.place ∙ sym (far-more next i first);
        low = omega (arith, w.low, bq.1);
        filled = record {
          kept = record {
            size = λ z. filed-size c (k + i) a h (K.size z) filling_room;
            bare = λ f j. bare f j (dec_eq j (k + i));
            key = K.key;
            folders = K.folders;
            files = K.files;
          };
          holds = λ sp H. rw (← longer sp) (more sp H);
        };
      }
        where
          K : Kept c₀ c
          K = w.filled.kept

          Z : Sized c
          Z = K.size w.before.sized

          bare : ((i : ℕ) → Bare (node_at c₀ i)) → (j : ℕ) → Dec (j ≡ k + i) → Bare (node_at (filed c (k + i) a h) j)
          bare f j (yes e) = rw (e, filed-node c (k + i) a h Z filling_room) (record { parent = refl; is_root = refl })
          bare f j (no e) = rw (filed-nodes c (k + i) a h Z filling_room j e) (K.bare f j)

          longer : (sp : List ℕ) → (sp ++ each next itself i first) ++ (a ∷ []) ≡ sp ++ each next itself (i + 1) first
          longer sp = append_assoc sp (each next itself i first) (a ∷ []) ∙ ap (λ (x : List ℕ). sp ++ x) (rw w.place (sym (each_more next itself i first)))

          more : (sp : List ℕ) → Holds s sp c₀ k → Holds s ((sp ++ each next itself i first) ++ (a ∷ [])) (filed c (k + i) a h) (k + (i + 1))
          more sp H =
              let x = holds_more s (sp ++ each next itself i first) c (k + i) a h (w.filled.holds sp H) filling_room filling_low (hq ∙ rw (tq, K.key)) in
              record { index = x.index; starts = x.starts; full = omega (arith, x.full) }

-- THE FIRST: `/` alone, in an empty card with its key
abbrev pub begun : Card → ℕ → ℕ → ℕ → Card
begun e key m n = record e { key = key; links = set e.links 0 (record (link_at e 0) { hash = seed }); folders = m; files = n }

all_alike : {A : Type 0} (l : ℕ) (x : A) (i : ℕ) → get_or (replicate l x) i x ≡ x
all_alike l x i = at (dec_lt i l)
  where
    at : Dec (i < l) → get_or (replicate l x) i x ≡ x
    at (yes o) = get_or-replicate l i x x o
    at (no o) = get_or-eq_default (replicate l x) x (omega (arith, length-replicate l x))

module _ (e : Card) (q : e ≡ empty) (key m n : ℕ) where
  sized : Sized e
  sized = rw q (record { nodes = length-replicate node_limit no_node; links = length-replicate node_limit no_link; heads = length-replicate {A = ℕ} bucket_limit 0; maps = length-replicate remapping_limit no_map })

  none_there : (i : ℕ) → node_at e i ≡ no_node
  none_there i = rw q (all_alike node_limit no_node i)

  no_head : (b : ℕ) → head_at e b ≡ 0
  no_head b = rw q (all_alike bucket_limit 0 b)

  first_link : link_at (begun e key m n) 0 ≡ record (link_at e 0) { hash = seed }
  first_link = get_or-set_same e.links 0 (record (link_at e 0) { hash = seed }) no_link (omega (arith, sized.links))

  unlinked : (i : ℕ) → link_at e i ≡ no_link
  unlinked i = rw q (all_alike node_limit no_link i)

  pub begun-sized : Sized (begun e key m n)
  begun-sized = record { nodes = sized.nodes; links = rw length-set sized.links; heads = sized.heads; maps = sized.maps }

  pub begun-bare : (i : ℕ) → Bare (node_at (begun e key m n) i)
  begun-bare i = rw (none_there i) (record { parent = refl; is_root = refl })

  pub begun-holds : key < key_limit → (s : List ℕ) → Holds s [] (begun e key m n) 1
  unfolding last_in hash_of
  begun-holds l s = record {
    index = record {
      size = begun-sized;
      some = omega arith;
      count = omega arith;
      multiplier = l;
      texts = λ i h z. absurd (z (omega arith));
      low = λ i h. let z : i ≡ 0 = omega arith in let y : start_at (begun e key m n) 0 ≡ 0 = ap (λ (x : Node). x.start) (none_there 0) in rw (z, y) (omega arith);
      hash = λ i h. let z : i ≡ 0 = omega arith in rw z (ap (λ (x : Link). x.hash) first_link);
      chains = record {
        heads = λ x h. no_head x ∙ sym (alone (eqb (bucket_at (begun e key m n) 0) x));
        links = λ i h. let z : i ≡ 0 = omega arith in rw z (ap (λ (x : Link). x.next) first_link ∙ ap (λ (x : Link). x.next) (unlinked 0));
      };
    };
    starts = λ j o. absurd (omega arith);
    full = refl;
  }
    where
      alone : (u : Bool) → ◌≡◌ {A = ℕ} (cond u 0 0) 0
      alone true = refl
      alone false = refl
