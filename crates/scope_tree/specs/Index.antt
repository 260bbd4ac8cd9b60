-- The index of the arrays: a walk from the slot of a hash, at each entry to one of the two slots below it, by a bit of what is looked for,
-- finds what a search through all entries finds. Assumes nothing.
use Prim.Native.Nat.{ℕ, zero, suc, ◌+◌, ◌-◌, ◌*◌, ◌/◌, ◌%◌, ◌^◌, ◌≤◌, ◌<◌}
use native.Mathlib.Omega.{arith}
use Rattle.std.proofs.Common.{add-one, zero-add, le_of_lt, mul-le-mul_right, ◌∙◌, get_or-set_same, get_or-set_other}
use Rattle.std.proofs.Math.Decide.{dec_lt}
use Rattle.std.specs.Prelude.{◌≡◌, Bool, ◌&&◌, List, eqb, ltb, set, length, Option, Some, None}
use Rattle.std.proofs.Math.Path.{refl, ap, sym}
use Rattle.std.proofs.Math.Bool.{true, false, cond}
use Rattle.std.proofs.Math.ListN.{get_or}
use borrow.Author.Tests.{eq-eqb, eqb-true, eqb-false, lt-ltb, le-ltb, ltb-true}
use Rattle.names.specs.declared.Name.{Name}
use Rattle.names.specs.Packed.{same_name, names_same}
use Rattle.scope_tree.specs.Rows.{Arrays, name_at, is_row, first_from, first_in, looked, first-end, Found_at}

-- THE ROUTE of a scope, a kind and a name

-- 36 bits
unfoldable pub mix : ℕ → ℕ → Name → ℕ
mix s k n =
    ((n.w0 / 4294967296 % 4294967296 * 165902239 + n.w0 % 4294967296 * 189812533)
    + (n.w1 / 4294967296 % 4294967296 * 232471937 + n.w1 % 4294967296 * 220889051)
    + (n.w2 / 4294967296 % 4294967296 * 176714393 + n.w2 % 4294967296 * 215493451)
    + (n.w3 / 4294967296 % 4294967296 * 150740719 + n.w3 % 4294967296 * 182388329)
    + (s * 7000208109065 + k * 3387945472435))
    / 268435456

-- 36 more
unfoldable pub mix_again : ℕ → ℕ → Name → ℕ
mix_again s k n =
    ((n.w0 / 4294967296 % 4294967296 * 220889051 + n.w0 % 4294967296 * 150740719)
    + (n.w1 / 4294967296 % 4294967296 * 182388329 + n.w1 % 4294967296 * 176714393)
    + (n.w2 / 4294967296 % 4294967296 * 189812533 + n.w2 % 4294967296 * 232471937)
    + (n.w3 / 4294967296 % 4294967296 * 215493451 + n.w3 % 4294967296 * 165902239)
    + (s * 3387945472435 + k * 7000208109065))
    / 268435456

-- A MIX BY A TABLE: the multipliers for the halves of each word of a name, then those for scope and kind
abbrev pub by_at : List (ℕ × ℕ) → ℕ → ℕ × ℕ
by_at m i = get_or m i (0, 0)

abbrev pub half_mix : ℕ → ℕ × ℕ → ℕ
half_mix x m = x / 4294967296 % 4294967296 * m.0 + x % 4294967296 * m.1

unfoldable pub mix_by : List (ℕ × ℕ) → ℕ → ℕ → Name → ℕ
mix_by m s k n =
    (half_mix n.w0 (by_at m 0) + half_mix n.w1 (by_at m 1) + half_mix n.w2 (by_at m 2) + half_mix n.w3 (by_at m 3)
    + (s * (by_at m 4).0 + k * (by_at m 4).1))
    / 268435456

-- the multipliers of a name's words have 28 bits, those of scope and kind 43, so that no sum is too long
abbrev pub Small : List (ℕ × ℕ) → Type 0
Small m =
    ((i : ℕ) → i < 4 → ((by_at m i).0 < 268435456) × ((by_at m i).1 < 268435456))
    × (((by_at m 4).0 < 8796093022208) × ((by_at m 4).1 < 8796093022208))

-- half a word times a multiplier of 28 bits
pub half_small : (x m : ℕ) → x < 4294967296 → m < 268435456 → x * m < 1152921504606846976
half_small x m h l = let a : x * m ≤ 4294967296 * m = mul-le-mul_right m (le_of_lt h) in omega arith

-- of 16 bits, times one of 43
pub part_small : (x m : ℕ) → x < 65536 → m < 8796093022208 → x * m < 576460752303423488
part_small x m h l = let a : x * m ≤ 65536 * m = mul-le-mul_right m (le_of_lt h) in omega arith

-- the four words of the name, then scope and kind
unfoldable pub word_at : ℕ → ℕ → Name → ℕ → ℕ
word_at s k n i = cond (eqb i 0) n.w0 (cond (eqb i 1) n.w1 (cond (eqb i 2) n.w2 (cond (eqb i 3) n.w3 (s + k * 65536))))

-- the bit at a depth: 26 of the mix m, 36 of the other mix, then those of the words
unfoldable pub turn_of : ℕ → ℕ → ℕ → Name → ℕ → ℕ
turn_of m s k n d =
    cond (ltb d 26) (m / 2 ^ (d + 10) % 2)
    (cond (ltb d 62) (mix_again s k n / 2 ^ (d - 26) % 2) (word_at s k n ((d - 62) / 64) / 2 ^ ((d - 62) % 64) % 2))

abbrev pub turn : ℕ → ℕ → Name → ℕ → ℕ
turn s k n = turn_of (mix s k n) s k n

pub turn_below : (m s k : ℕ) (n : Name) (d : ℕ) → turn_of m s k n d < 2
unfolding turn_of
turn_below m s k n d = go (ltb d 26) (ltb d 62)
  where
    go : (b c : Bool) → cond b (m / 2 ^ (d + 10) % 2) (cond c (mix_again s k n / 2 ^ (d - 26) % 2) (word_at s k n ((d - 62) / 64) / 2 ^ ((d - 62) % 64) % 2)) < 2
    go true c = omega arith
    go false true = omega arith
    go false false = omega arith

-- the hash
unfoldable pub bucket : ℕ → ℕ → Name → ℕ
bucket s k n = mix s k n % 1024

pub bucket-below : (s k : ℕ) (n : Name) → bucket s k n < 1024
unfolding bucket
bucket-below s k n = omega arith

-- SLOTS: one for each hash, then two below each entry

-- the slot below entry i where a walk whose bits are f goes on from a depth
unfoldable pub below : (ℕ → ℕ) → ℕ → ℕ → ℕ
below f d i = 1024 + 2 * i + f d

-- a place, an entry's number plus one, that is not past the limit; 0 for none
unfoldable pub place_in : ℕ → ℕ → ℕ
place_in p limit = cond (ltb limit p) 0 p

-- from s on, below t
unfoldable pub within : ℕ → ℕ → ℕ → Bool
within s t i = cond (ltb i s) false (ltb i t)

-- the entry of a place
abbrev pub entry_of : ℕ → Option ℕ
entry_of zero = None
entry_of (suc i) = Some i

-- the entry in a slot of the index xs
unfoldable pub held_in : List ℕ → ℕ → Option ℕ
held_in xs σ = entry_of (place_in (get_or xs σ 0) 1024)

entry-none : (p : ℕ) → entry_of p ≡ None → p ≡ 0
entry-none zero e = refl
entry-none (suc i) e = let z : ◌≡◌ {A = ℕ} 0 1 = cc in absurd (omega arith)

entry-some : (p i : ℕ) → entry_of p ≡ Some i → p ≡ suc i
entry-some zero i e = let z : ◌≡◌ {A = ℕ} 0 1 = cc in absurd (omega arith)
entry-some (suc j) i e = let z : j ≡ i = cc in ap suc z

-- THE WALK from a depth and a slot

-- at a place: nothing, the entry, or on
abbrev pub met : (ℕ → Bool) → (ℕ → Option ℕ) → ℕ → Option ℕ
met q go zero = None
met q go (suc i) = cond (q i) (Some i) (go i)

-- the first entry of at most m of which q holds
unfoldable pub seek : (ℕ → Bool) → List ℕ → (ℕ → ℕ) → ℕ → ℕ → ℕ → Option ℕ
seek q xs f zero d σ = None
seek q xs f (suc m) d σ = met q (λ i. seek q xs f m (suc d) (below f d i)) (place_in (get_or xs σ 0) 1024)

abbrev pub past : ℕ → (ℕ → ℕ) → ℕ → ℕ
past σ go zero = σ
past σ go (suc i) = go i

-- the slot after at most m entries
unfoldable pub reach : List ℕ → (ℕ → ℕ) → ℕ → ℕ → ℕ → ℕ
reach xs f zero d σ = σ
reach xs f (suc m) d σ = past σ (λ i. reach xs f m (suc d) (below f d i)) (place_in (get_or xs σ 0) 1024)

-- the slot for one more entry
unfoldable pub free_slot : List ℕ → ℕ → ℕ → Name → ℕ
free_slot xs s k n = reach xs (turn s k n) 1024 0 (bucket s k n)

-- the test of entry i in a lookup among the first t
abbrev pub sought_at : List ℕ → List ℕ → List ℕ → List ℕ → List ℕ → List ℕ → ℕ → ℕ → ℕ → Name → ℕ → Bool
sought_at ss ks a b c d s t k n i = within s t i && looked ss ks a b c d s k n i

-- the lookup: index, scopes, kinds and words of the names; in the scope s among the first t entries, of a kind and a name
unfoldable pub spot_in : List ℕ → List ℕ → List ℕ → List ℕ → List ℕ → List ℕ → List ℕ → ℕ → ℕ → ℕ → Name → Option ℕ
spot_in xs ss ks a b c d s t k n = seek (sought_at ss ks a b c d s t k n) xs (turn s k n) 1024 0 (bucket s k n)

abbrev pub look_up : Arrays → ℕ → ℕ → ℕ → Name → Option ℕ
look_up A s t k n = spot_in A.index A.scopes A.kinds A.n0 A.n1 A.n2 A.n3 s t k n

-- places
pub place-past : (p limit : ℕ) → limit < p → (0 ≡ place_in p limit) × (0 ≤ limit)
unfolding place_in
place-past p limit h = (rw (lt-ltb limit p h), omega arith)

pub place-within : (p limit : ℕ) → p ≤ limit → (p ≡ place_in p limit) × (p ≤ limit)
unfolding place_in
place-within p limit h = (rw (le-ltb limit p h), h)

place-most : (p limit : ℕ) → place_in p limit ≤ limit
unfolding place_in
place-most p limit = go (dec_lt limit p)
  where
    go : Dec (limit < p) → cond (ltb limit p) 0 p ≤ limit
    go (yes l) = rw (lt-ltb limit p l) (omega arith)
    go (no l) = rw (le-ltb limit p (omega arith)) (omega arith)

-- ONE TURN
module _ (xs : List ℕ) (f : ℕ → ℕ) (m d σ : ℕ) where
  seek-none : (q : ℕ → Bool) → place_in (get_or xs σ 0) 1024 ≡ 0 → seek q xs f m d σ ≡ None
  unfolding seek
  seek-none q e = go m
    where
      go : (k : ℕ) → seek q xs f k d σ ≡ None
      go zero = refl
      go (suc k) = rw e

  reach-none : place_in (get_or xs σ 0) 1024 ≡ 0 → reach xs f m d σ ≡ σ
  unfolding reach
  reach-none e = go m
    where
      go : (k : ℕ) → reach xs f k d σ ≡ σ
      go zero = refl
      go (suc k) = rw e

  seek-turn : (q : ℕ → Bool) (i : ℕ) → place_in (get_or xs σ 0) 1024 ≡ suc i → seek q xs f (suc m) d σ ≡ cond (q i) (Some i) (seek q xs f m (suc d) (below f d i))
  unfolding seek
  seek-turn q i e = rw e

  reach-turn : (i : ℕ) → place_in (get_or xs σ 0) 1024 ≡ suc i → reach xs f (suc m) d σ ≡ reach xs f m (suc d) (below f d i)
  unfolding reach
  reach-turn i e = rw e

-- WHAT A LOOKUP FINDS, whatever the arrays hold
seek-holds : (q : ℕ → Bool) (xs : List ℕ) (f : ℕ → ℕ) (m d σ i : ℕ) → seek q xs f m d σ ≡ Some i → q i ≡ true
unfolding seek
seek-holds q xs f zero d σ i h = let o : ◌≡◌ {A = ℕ} 0 1 = cc in absurd (omega arith)
seek-holds q xs f (suc m) d σ i h = go (place_in (get_or xs σ 0) 1024) h (λ j. seek-holds q xs f m (suc d) (below f d j) i)
  where
    at : (j : ℕ) (b : Bool) → q j ≡ b → cond b (Some j) (seek q xs f m (suc d) (below f d j)) ≡ Some i → (seek q xs f m (suc d) (below f d j) ≡ Some i → q i ≡ true) → q i ≡ true
    at j true e h ih = let z : j ≡ i = cc in rw (← z) e
    at j false e h ih = ih h

    go : (p : ℕ) → met q (λ j. seek q xs f m (suc d) (below f d j)) p ≡ Some i → ((j : ℕ) → seek q xs f m (suc d) (below f d j) ≡ Some i → q i ≡ true) → q i ≡ true
    go zero h ih = let o : ◌≡◌ {A = ℕ} 0 1 = cc in absurd (omega arith)
    go (suc j) h ih = at j (q j) refl h (ih j)

pub spot_found : (xs ss ks a b c d : List ℕ) (s t k : ℕ) (n : Name) (i : ℕ) → spot_in xs ss ks a b c d s t k n ≡ Some i → Found_at (looked ss ks a b c d s k n) t i
unfolding spot_in within
spot_found xs ss ks a b c d s t k n i h =
    fine (ltb i s) (ltb i t) (looked ss ks a b c d s k n i) refl refl refl (seek-holds (sought_at ss ks a b c d s t k n) xs (turn s k n) 1024 0 (bucket s k n) i h)
  where
    fine : (u v w : Bool) → ltb i s ≡ u → ltb i t ≡ v → looked ss ks a b c d s k n i ≡ w → cond u false v && w ≡ true → Found_at (looked ss ks a b c d s k n) t i
    fine true v w x y z e = let o : ◌≡◌ {A = ℕ} 0 1 = cc in absurd (omega arith)
    fine false true true x y z e = record { below = ltb-true i t y; holds = z }
    fine false true false x y z e = let o : ◌≡◌ {A = ℕ} 0 1 = cc in absurd (omega arith)
    fine false false w x y z e = let o : ◌≡◌ {A = ℕ} 0 1 = cc in absurd (omega arith)

-- AS THE CODE HAS IT: before each turn a depth and the slot to look at
module _ (xs ss ks a b c d : List ℕ) (s t k : ℕ) (n : Name) where
  pub record Seeking (depth slot : ℕ) : Type 0 where
    pub inside : slot < 3072
    pub same : spot_in xs ss ks a b c d s t k n ≡ seek (sought_at ss ks a b c d s t k n) xs (turn s k n) (1024 - depth) depth slot

  pub seeking_start : (σ : ℕ) → (σ ≡ bucket s k n) × (σ < 3072) → Seeking 0 σ
  unfolding spot_in
  seeking_start σ w = record { inside = w.1; same = ap (λ (x : ℕ). seek (sought_at ss ks a b c d s t k n) xs (turn s k n) 1024 0 x) (sym w.0) }

  module _ {depth slot : ℕ} (w : Seeking depth slot) (h : depth < 1024) where
    pub seeking_none : {o : Option ℕ} → o ≡ held_in xs slot → o ≡ None → None ≡ spot_in xs ss ks a b c d s t k n
    unfolding held_in
    seeking_none q z = sym (w.same ∙ seek-none xs (turn s k n) (1024 - depth) depth slot (sought_at ss ks a b c d s t k n) (entry-none _ (sym q ∙ z)))

    module _ {o : Option ℕ} (q : o ≡ held_in xs slot) {i : ℕ} (z : o ≡ Some i) {f : Bool} (fq : f ≡ sought_at ss ks a b c d s t k n i) where
      turned : spot_in xs ss ks a b c d s t k n ≡ cond f (Some i) (seek (sought_at ss ks a b c d s t k n) xs (turn s k n) (1024 - (depth + 1)) (depth + 1) (below (turn s k n) depth i))
      unfolding held_in
      turned =
          let step : 1024 - depth ≡ suc (1024 - (depth + 1)) = omega arith in
          w.same
          ∙ ap (λ (m : ℕ). seek (sought_at ss ks a b c d s t k n) xs (turn s k n) m depth slot) step
          ∙ seek-turn xs (turn s k n) (1024 - (depth + 1)) depth slot (sought_at ss ks a b c d s t k n) i (entry-some _ i (sym q ∙ z))
          ∙ rw (← fq, add-one)

      pub seeking_found : f ≡ true → Some i ≡ spot_in xs ss ks a b c d s t k n
      seeking_found y = sym (turned ∙ rw y)

      pub seeking_on : f ≡ false → {to : ℕ} → (to ≡ below (turn s k n) depth i) × (to < 3072) → Seeking (depth + 1) to
      seeking_on y r =
          record {
            inside = r.1;
            same = turned ∙ rw y (ap (λ (x : ℕ). seek (sought_at ss ks a b c d s t k n) xs (turn s k n) (1024 - (depth + 1)) (depth + 1) x) (sym r.0));
          }

  pub seeking_end : {depth slot : ℕ} → Seeking depth slot → 1024 ≤ depth → None ≡ spot_in xs ss ks a b c d s t k n
  unfolding seek
  seeking_end {depth} w h = let z : 1024 - depth ≡ 0 = omega arith in sym (w.same ∙ rw z)

-- the same of the walk to an empty slot
module _ (xs : List ℕ) (s k : ℕ) (n : Name) where
  pub record Reaching (depth slot : ℕ) : Type 0 where
    pub inside : slot < 3072
    pub same : free_slot xs s k n ≡ reach xs (turn s k n) (1024 - depth) depth slot

  pub reaching_start : (σ : ℕ) → (σ ≡ bucket s k n) × (σ < 3072) → Reaching 0 σ
  unfolding free_slot
  reaching_start σ w = record { inside = w.1; same = ap (λ (x : ℕ). reach xs (turn s k n) 1024 0 x) (sym w.0) }

  module _ {depth slot : ℕ} (w : Reaching depth slot) (h : depth < 1024) {o : Option ℕ} (q : o ≡ held_in xs slot) where
    pub reaching_free : o ≡ None → (slot ≡ free_slot xs s k n) × (slot < 3072)
    unfolding held_in
    reaching_free z = (sym (w.same ∙ reach-none xs (turn s k n) (1024 - depth) depth slot (entry-none _ (sym q ∙ z))), w.inside)

    pub reaching_on : {i : ℕ} → o ≡ Some i → {to : ℕ} → (to ≡ below (turn s k n) depth i) × (to < 3072) → Reaching (depth + 1) to
    unfolding held_in
    reaching_on {i} z {to} r =
        let g : 1024 - depth ≡ suc (1024 - (depth + 1)) = omega arith in
        record {
          inside = r.1;
          same =
              w.same
              ∙ ap (λ (x : ℕ). reach xs (turn s k n) x depth slot) g
              ∙ reach-turn xs (turn s k n) (1024 - (depth + 1)) depth slot i (entry-some _ i (sym q ∙ z))
              ∙ ap (λ (x : ℕ). reach xs (turn s k n) (1024 - (depth + 1)) (suc depth) x) (sym r.0)
              ∙ ap (λ (x : ℕ). reach xs (turn s k n) (1024 - (depth + 1)) x to) (sym (add-one depth));
        }

  pub reaching_end : {depth slot : ℕ} → Reaching depth slot → 1024 ≤ depth → (slot ≡ free_slot xs s k n) × (slot < 3072)
  unfolding reach
  reaching_end {depth} w h = let z : 1024 - depth ≡ 0 = omega arith in (sym (w.same ∙ rw z), w.inside)

-- the bits
module _ (s k : ℕ) (n : Name) (d : ℕ) where
  pub turn-mix : {m : ℕ} → m ≡ mix s k n → d < 26 → m / 2 ^ (d + 10) % 2 ≡ turn s k n d
  unfolding turn_of
  turn-mix q h = rw (q, lt-ltb d 26 h)

  pub turn_again : 26 ≤ d → d < 62 → {x : ℕ} → x ≡ mix_again s k n → x / 2 ^ (d - 26) % 2 ≡ turn s k n d
  unfolding turn_of
  turn_again h l e = rw (le-ltb d 26 h, lt-ltb d 62 l, e)

  pub turn-word : 62 ≤ d → {x : ℕ} → x ≡ word_at s k n ((d - 62) / 64) → x / 2 ^ ((d - 62) % 64) % 2 ≡ turn s k n d
  unfolding turn_of
  turn-word h e = rw (le-ltb d 26 (omega arith), le-ltb d 62 h, e)

-- the slot is one of the index, whatever it holds
reach-below : (xs : List ℕ) (f : ℕ → ℕ) → ((d : ℕ) → f d < 2) → (m d σ : ℕ) → σ < 3072 → reach xs f m d σ < 3072
unfolding reach below
reach-below xs f w zero d σ h = h
reach-below xs f w (suc m) d σ h = go (place_in (get_or xs σ 0) 1024) refl (λ i l. reach-below xs f w m (suc d) (1024 + 2 * i + f d) (omega (arith, w d)))
  where
    go : (p : ℕ) → place_in (get_or xs σ 0) 1024 ≡ p → ((i : ℕ) → i < 1024 → reach xs f m (suc d) (1024 + 2 * i + f d) < 3072) → past σ (λ i. reach xs f m (suc d) (1024 + 2 * i + f d)) p < 3072
    go zero e ih = h
    go (suc i) e ih = ih i (omega (arith, place-most (get_or xs σ 0) 1024, e))

pub free-below : (xs : List ℕ) (s k : ℕ) (n : Name) → free_slot xs s k n < 3072
unfolding free_slot
free-below xs s k n = let b = bucket-below s k n in reach-below xs (turn s k n) (turn_below (mix s k n) s k n) 1024 0 (bucket s k n) (omega arith)

-- the test of one entry
module _ (s t i : ℕ) (b : Bool) where
  pub sought-early : i < s → false ≡ (within s t i && b)
  unfolding within
  sought-early h = rw (lt-ltb i s h)

  pub sought-inside : s ≤ i → i < t → (r : Bool) → r ≡ b → r ≡ (within s t i && b)
  unfolding within
  sought-inside h k r e = rw (le-ltb i s h, lt-ltb i t k) e

  pub sought_late : t ≤ i → false ≡ (within s t i && b)
  unfolding within
  sought_late h = rw (le-ltb i t h) (go (ltb i s))
    where
      go : (u : Bool) → false ≡ (cond u false false && b)
      go true = refl
      go false = refl

-- A TREE'S INDEX, of n entries, of which entry i begins at the slot `start i` and goes by the bits `way i`
pub record Walked (xs : List ℕ) (start : ℕ → ℕ) (way : ℕ → ℕ → ℕ) (n : ℕ) : Type 0 where
  -- a slot has an entry or none
  pub small : (σ : ℕ) → get_or xs σ 0 ≤ n
  -- below an entry to come there is none
  pub fresh : (σ : ℕ) → 1024 + 2 * n ≤ σ → get_or xs σ 0 ≡ 0
  -- a walk ends, after n entries at most
  pub ends : (b : ℕ) (f : ℕ → ℕ) → b < 1024 → ((d : ℕ) → f d < 2) → get_or xs (reach xs f n 0 b) 0 ≡ 0
  -- and meets all entries of its slot and bits, earlier ones first
  pub finds : (b : ℕ) (f : ℕ → ℕ) → b < 1024 → ((d : ℕ) → f d < 2) → (q : ℕ → Bool) → ((i : ℕ) → i < n → q i ≡ true → (start i ≡ b) × (way i ≡ f)) → seek q xs f n 0 b ≡ first_from q 0 n

-- nothing held, nothing met
pub walked_none : (xs : List ℕ) (start : ℕ → ℕ) (way : ℕ → ℕ → ℕ) → ((σ : ℕ) → get_or xs σ 0 ≡ 0) → Walked xs start way 0
unfolding seek reach first_from
walked_none xs start way w =
    record { small = λ σ. rw (w σ) (omega arith); fresh = λ σ h. w σ; ends = λ b f h l. w b; finds = λ b f h l q k. refl }

-- the same entries
pub walked_agree : (xs : List ℕ) (start start' : ℕ → ℕ) (way way' : ℕ → ℕ → ℕ) (n : ℕ) → ((i : ℕ) → i < n → start' i ≡ start i) → ((i : ℕ) → i < n → way' i ≡ way i) → Walked xs start way n → Walked xs start' way' n
walked_agree xs start start' way way' n p r w =
    record { small = w.small; fresh = w.fresh; ends = w.ends; finds = λ b f h l q k. w.finds b f h l q (λ i y z. (sym (p i y) ∙ (k i y z).0, sym (r i y) ∙ (k i y z).1)) }

-- the first of one more
abbrev or_else : Option ℕ → Option ℕ → Option ℕ
or_else None s = s
or_else (Some i) s = Some i

first_more : (q : ℕ → Bool) (i n : ℕ) → first_from q i (suc n) ≡ or_else (first_from q i n) (cond (q (i + n)) (Some (i + n)) None)
unfolding first_from
first_more q i zero = let z : i + 0 ≡ i = omega arith in rw z
first_more q i (suc n) = go (q i) (first_more q (suc i) n)
  where
    go : (b : Bool) → first_from q (suc i) (suc n) ≡ or_else (first_from q (suc i) n) (cond (q (suc i + n)) (Some (suc i + n)) None)
        → cond b (Some i) (first_from q (suc i) (suc n)) ≡ or_else (cond b (Some i) (first_from q (suc i) n)) (cond (q (i + suc n)) (Some (i + suc n)) None)
    go true ih = refl
    go false ih = let z : i + suc n ≡ suc i + n = omega arith in rw z ih

-- A WALK AFTER ONE MORE ENTRY, put into the empty slot E
module _ (xs : List ℕ) (n E : ℕ) (small : (σ : ℕ) → get_or xs σ 0 ≤ n) (fresh : (σ : ℕ) → 1024 + 2 * n ≤ σ → get_or xs σ 0 ≡ 0)
    (empty : get_or xs E 0 ≡ 0) (old : E < 1024 + 2 * n) (l : n < 1024) (long : length xs ≡ 3072) where
  abbrev after : List ℕ
  after = set xs E (suc n)

  after_same : get_or after E 0 ≡ suc n
  after_same = get_or-set_same xs E (suc n) 0 (omega arith)

  after-other : (σ : ℕ) → (σ ≡ E → ⊥) → get_or after σ 0 ≡ get_or xs σ 0
  after-other σ h = get_or-set_other xs E σ (suc n) 0 h

  module _ (f : ℕ → ℕ) (bits : (d : ℕ) → f d < 2) (q : ℕ → Bool) where
    -- the slot below the new entry is empty
    below-empty : (d : ℕ) → get_or after (below f d n) 0 ≡ 0
    unfolding below
    below-empty d = let b = bits d in after-other (1024 + 2 * n + f d) (λ z. omega arith) ∙ fresh (1024 + 2 * n + f d) (omega arith)

    gone : (p : ℕ) → p ≡ 0 → place_in p 1024 ≡ 0
    gone p e = rw e (sym (place-within 0 1024 (omega arith)).0)

    there : (p i : ℕ) → p ≡ suc i → i ≤ n → place_in p 1024 ≡ suc i
    there p i e h = rw e (sym (place-within (suc i) 1024 (omega arith)).0)

    abbrev new : ℕ → Option ℕ
    new σ = cond (eqb σ E) (cond (q n) (Some n) None) None

    record After (m d σ : ℕ) : Type 0 where
      found : seek q after f (suc m) d σ ≡ or_else (seek q xs f m d σ) (new (reach xs f m d σ))
      ended : get_or after (reach after f (suc m) d σ) 0 ≡ 0

    -- at an empty slot
    at-empty : (m d σ : ℕ) → get_or xs σ 0 ≡ 0 → After m d σ
    at-empty m d σ e = go (eqb σ E) refl
      where
        s0 : seek q xs f m d σ ≡ None
        s0 = seek-none xs f m d σ q (gone _ e)

        r0 : reach xs f m d σ ≡ σ
        r0 = reach-none xs f m d σ (gone _ e)

        go : (b : Bool) → eqb σ E ≡ b → After m d σ
        go true y =
            let z = eqb-true σ E y in
            let g : get_or after σ 0 ≡ suc n = rw z after_same in
            let p : place_in (get_or after σ 0) 1024 ≡ suc n = there _ n g (omega arith) in
            record {
              found = seek-turn after f m d σ q n p ∙ rw (s0, r0, y, seek-none after f m (suc d) (below f d n) q (gone _ (below-empty d)));
              ended = rw (reach-turn after f m d σ n p, reach-none after f m (suc d) (below f d n) (gone _ (below-empty d))) (below-empty d);
            }
        go false y =
            let z = eqb-false σ E y in
            let g : get_or after σ 0 ≡ 0 = after-other σ z ∙ e in
            record {
              found = seek-none after f (suc m) d σ q (gone _ g) ∙ rw (s0, r0, y);
              ended = rw (reach-none after f (suc m) d σ (gone _ g)) g;
            }

    at_entry : (m d σ i : ℕ) → get_or xs σ 0 ≡ suc i → After m (suc d) (below f d i) → After (suc m) d σ
    at_entry m d σ i e w =
        let h = small σ in
        let z : σ ≡ E → ⊥ = λ u. let y : suc i ≡ 0 = sym e ∙ ap (λ (x : ℕ). get_or xs x 0) u ∙ empty in omega arith in
        let g : get_or after σ 0 ≡ suc i = after-other σ z ∙ e in
        let p : place_in (get_or xs σ 0) 1024 ≡ suc i = there _ i e (omega arith) in
        let r : place_in (get_or after σ 0) 1024 ≡ suc i = there _ i g (omega arith) in
        record {
          found = seek-turn after f (suc m) d σ q i r ∙ rw (seek-turn xs f m d σ q i p, reach-turn xs f m d σ i p) (go (q i));
          ended = rw (reach-turn after f (suc m) d σ i r) w.ended;
        }
      where
        go : (b : Bool) → cond b (Some i) (seek q after f (suc m) (suc d) (below f d i)) ≡ or_else (cond b (Some i) (seek q xs f m (suc d) (below f d i))) (new (reach xs f m (suc d) (below f d i)))
        go true = refl
        go false = w.found

    after-all : (m d σ : ℕ) → get_or xs (reach xs f m d σ) 0 ≡ 0 → After m d σ
    unfolding reach
    after-all zero d σ e = at-empty zero d σ e
    after-all (suc m) d σ e = go (get_or xs σ 0) refl (λ i. after-all m (suc d) (below f d i))
      where
        go : (p : ℕ) → get_or xs σ 0 ≡ p → ((i : ℕ) → get_or xs (reach xs f m (suc d) (below f d i)) 0 ≡ 0 → After m (suc d) (below f d i)) → After (suc m) d σ
        go zero z ih = at-empty (suc m) d σ z
        go (suc i) z ih =
            let h = small σ in
            let p : place_in (get_or xs σ 0) 1024 ≡ suc i = there _ i z (omega arith) in
            at_entry m d σ i z (ih i (ap (λ (x : ℕ). get_or xs x 0) (sym (reach-turn xs f m d σ i p)) ∙ e))

-- more turns than entries change nothing
seek-more : (q : ℕ → Bool) (xs : List ℕ) (f : ℕ → ℕ) (j m d σ : ℕ) → get_or xs (reach xs f m d σ) 0 ≡ 0 → seek q xs f (m + j) d σ ≡ seek q xs f m d σ
unfolding seek reach
seek-more q xs f j zero d σ e = seek-none xs f (0 + j) d σ q (rw e (sym (place-within 0 1024 (omega arith)).0))
seek-more q xs f j (suc m) d σ e = go (place_in (get_or xs σ 0) 1024) refl (λ i. seek-more q xs f j m (suc d) (below f d i))
  where
    go : (p : ℕ) → place_in (get_or xs σ 0) 1024 ≡ p → ((i : ℕ) → get_or xs (reach xs f m (suc d) (below f d i)) 0 ≡ 0 → seek q xs f (m + j) (suc d) (below f d i) ≡ seek q xs f m (suc d) (below f d i)) → seek q xs f (suc m + j) d σ ≡ seek q xs f (suc m) d σ
    go zero z ih = seek-none xs f (suc m + j) d σ q z ∙ sym (seek-none xs f (suc m) d σ q z)
    go (suc i) z ih =
        let g : suc m + j ≡ suc (m + j) = omega arith in
        let k = ih i (ap (λ (x : ℕ). get_or xs x 0) (sym (reach-turn xs f m d σ i z)) ∙ e) in
        rw g (seek-turn xs f (m + j) d σ q i z ∙ rw k (sym (seek-turn xs f m d σ q i z)))

reach-more : (xs : List ℕ) (f : ℕ → ℕ) (j m d σ : ℕ) → get_or xs (reach xs f m d σ) 0 ≡ 0 → reach xs f (m + j) d σ ≡ reach xs f m d σ
unfolding reach
reach-more xs f j zero d σ e = reach-none xs f (0 + j) d σ (rw e (sym (place-within 0 1024 (omega arith)).0))
reach-more xs f j (suc m) d σ e = go (place_in (get_or xs σ 0) 1024) refl (λ i. reach-more xs f j m (suc d) (below f d i))
  where
    go : (p : ℕ) → place_in (get_or xs σ 0) 1024 ≡ p → ((i : ℕ) → get_or xs (reach xs f m (suc d) (below f d i)) 0 ≡ 0 → reach xs f (m + j) (suc d) (below f d i) ≡ reach xs f m (suc d) (below f d i)) → reach xs f (suc m + j) d σ ≡ reach xs f (suc m) d σ
    go zero z ih = reach-none xs f (suc m + j) d σ z ∙ sym (reach-none xs f (suc m) d σ z)
    go (suc i) z ih =
        let g : suc m + j ≡ suc (m + j) = omega arith in
        let k = ih i (ap (λ (x : ℕ). get_or xs x 0) (sym (reach-turn xs f m d σ i z)) ∙ e) in
        rw g (reach-turn xs f (m + j) d σ i z ∙ k ∙ sym (reach-turn xs f m d σ i z))

-- the slot that a walk ends at is none of an entry to come
pub reach_old : (xs : List ℕ) (f : ℕ → ℕ) (n : ℕ) → ((d : ℕ) → f d < 2) → ((σ : ℕ) → get_or xs σ 0 ≤ n) → n ≤ 1024 → (m d σ : ℕ) → σ < 1024 + 2 * n → reach xs f m d σ < 1024 + 2 * n
unfolding reach below
reach_old xs f n w small l zero d σ h = h
reach_old xs f n w small l (suc m) d σ h = go (get_or xs σ 0) refl (λ i k. reach_old xs f n w small l m (suc d) (1024 + 2 * i + f d) (omega (arith, w d)))
  where
    go : (p : ℕ) → get_or xs σ 0 ≡ p → ((i : ℕ) → i < n → reach xs f m (suc d) (1024 + 2 * i + f d) < 1024 + 2 * n) → past σ (λ i. reach xs f m (suc d) (1024 + 2 * i + f d)) (place_in (get_or xs σ 0) 1024) < 1024 + 2 * n
    go zero e ih = rw (e, ← (place-within 0 1024 (omega arith)).0) h
    go (suc i) e ih = let s = small σ in rw (e, ← (place-within (suc i) 1024 (omega arith)).0) (ih i (omega arith))

-- ONE MORE ENTRY: in the slot that its own walk ends at
pub walked_more : (xs : List ℕ) (start : ℕ → ℕ) (way : ℕ → ℕ → ℕ) (n : ℕ) → length xs ≡ 3072 → n < 1024 → start n < 1024 → ((d : ℕ) → way n d < 2) → Walked xs start way n
    → Walked (set xs (reach xs (way n) 1024 0 (start n)) (suc n)) start way (suc n)
walked_more xs start way n long l sb wb w =
    record { small = small'; fresh = fresh'; ends = ends'; finds = finds' }
  where
    E : ℕ
    E = reach xs (way n) 1024 0 (start n)

    soon : (f : ℕ → ℕ) (b : ℕ) → b < 1024 → ((d : ℕ) → f d < 2) → reach xs f 1024 0 b ≡ reach xs f n 0 b
    soon f b h k =
        let z : 1024 ≡ n + (1024 - n) = omega arith in
        ap (λ (m : ℕ). reach xs f m 0 b) z ∙ reach-more xs f (1024 - n) n 0 b (w.ends b f h k)

    empty : get_or xs E 0 ≡ 0
    empty = ap (λ (x : ℕ). get_or xs x 0) (soon (way n) (start n) sb wb) ∙ w.ends (start n) (way n) sb wb

    old : E < 1024 + 2 * n
    old = reach_old xs (way n) n wb w.small (omega arith) 1024 0 (start n) (omega arith)

    small' : (σ : ℕ) → get_or (set xs E (suc n)) σ 0 ≤ suc n
    small' σ = go (eqb σ E) refl
      where
        go : (b : Bool) → eqb σ E ≡ b → get_or (set xs E (suc n)) σ 0 ≤ suc n
        go true y = rw (eqb-true σ E y, get_or-set_same xs E (suc n) 0 (omega (arith, old))) (omega arith)
        go false y = let s = w.small σ in rw (get_or-set_other xs E σ (suc n) 0 (eqb-false σ E y)) (omega arith)

    fresh' : (σ : ℕ) → 1024 + 2 * suc n ≤ σ → get_or (set xs E (suc n)) σ 0 ≡ 0
    fresh' σ h = get_or-set_other xs E σ (suc n) 0 (λ z. omega (arith, old)) ∙ w.fresh σ (omega arith)

    ends' : (b : ℕ) (f : ℕ → ℕ) → b < 1024 → ((d : ℕ) → f d < 2) → get_or (set xs E (suc n)) (reach (set xs E (suc n)) f (suc n) 0 b) 0 ≡ 0
    ends' b f h k = (after-all xs n E w.small w.fresh empty old l long f k (λ i. false) n 0 b (w.ends b f h k)).ended

    finds' : (b : ℕ) (f : ℕ → ℕ) → b < 1024 → ((d : ℕ) → f d < 2) → (q : ℕ → Bool) → ((i : ℕ) → i < suc n → q i ≡ true → (start i ≡ b) × (way i ≡ f)) → seek q (set xs E (suc n)) f (suc n) 0 b ≡ first_from q 0 (suc n)
    finds' b f h k q same =
        (after-all xs n E w.small w.fresh empty old l long f k q n 0 b (w.ends b f h k)).found
        ∙ (λ j. or_else (w.finds b f h k q (λ i y z. same i (omega arith) z) j) (new (q n) refl j))
        ∙ sym (first_more q 0 n ∙ ap (λ (x : ℕ). or_else (first_from q 0 n) (cond (q x) (Some x) None)) (zero-add n))
      where
        new : (u : Bool) → q n ≡ u → cond (eqb (reach xs f n 0 b) E) (cond (q n) (Some n) None) None ≡ cond (q n) (Some n) None
        new true e =
            let s = same n (omega arith) e in
            let z : reach xs f n 0 b ≡ E = sym (soon f b h k) ∙ (λ j. reach xs (sym s.1 j) 1024 0 (sym s.0 j)) in
            rw (eq-eqb (reach xs f n 0 b) E z)
        new false e = rw e (none (eqb (reach xs f n 0 b) E))
          where
            none : (v : Bool) → cond {A = Option ℕ} v None None ≡ None
            none true = refl
            none false = refl

-- of those from s on, below t: the first of all
module _ (p : ℕ → Bool) (s t : ℕ) where
  abbrev ranged : ℕ → Bool
  ranged i = within s t i && p i

  early : (i : ℕ) → i < s → ranged i ≡ false
  early i h = sym (sought-early s t i (p i) h)

  late : (i : ℕ) → t ≤ i → ranged i ≡ false
  late i h = sym (sought_late s t i (p i) h)

  inner : (i : ℕ) → s ≤ i → i < t → ranged i ≡ p i
  inner i h l = sym (sought-inside s t i (p i) h l (p i) refl)

  ranged-inside : (m i : ℕ) → s ≤ i → t ≤ i + m → first_from ranged i m ≡ first_in p i t
  unfolding first_from
  ranged-inside zero i h l = sym (first-end p i t (omega arith))
  ranged-inside (suc m) i h l = go (dec_lt i t) (ranged-inside m (suc i) (omega arith) (omega arith))
    where
      go : Dec (i < t) → first_from ranged (suc i) m ≡ first_in p (suc i) t → cond (ranged i) (Some i) (first_from ranged (suc i) m) ≡ first_in p i t
      go (yes y) ih = let e : t - i ≡ suc (t - suc i) = omega arith in rw (inner i h y, e, ih)
      go (no y) ih = rw (late i (omega arith)) (ih ∙ first-end p (suc i) t (omega arith) ∙ sym (first-end p i t (omega arith)))

  ranged-first : (m i : ℕ) → i ≤ s → t ≤ i + m → first_from ranged i m ≡ first_in p s t
  unfolding first_from
  ranged-first zero i h l = sym (first-end p s t (omega arith))
  ranged-first (suc m) i h l = go (dec_lt i s) (λ y. ranged-first m (suc i) y (omega arith))
    where
      go : Dec (i < s) → (suc i ≤ s → first_from ranged (suc i) m ≡ first_in p s t) → first_from ranged i (suc m) ≡ first_in p s t
      go (yes y) ih = rw (early i y) (ih (omega arith))
      go (no y) ih = let z : i ≡ s = omega arith in rw z (ranged-inside (suc m) s (omega arith) (omega arith))

-- THE INDEX OF THE ARRAYS
abbrev pub start_at : List ℕ → List ℕ → List ℕ → List ℕ → List ℕ → List ℕ → ℕ → ℕ
start_at ss ks a b c d i = bucket (get_or ss i 0) (get_or ks i 0) (name_at a b c d i)

abbrev pub way_at : List ℕ → List ℕ → List ℕ → List ℕ → List ℕ → List ℕ → ℕ → ℕ → ℕ
way_at ss ks a b c d i = turn (get_or ss i 0) (get_or ks i 0) (name_at a b c d i)

pub record Indexed (xs ss ks a b c d : List ℕ) (n : ℕ) : Type 0 where
  pub walked : Walked xs (start_at ss ks a b c d) (way_at ss ks a b c d) n

abbrev pub IndexOf : Arrays → ℕ → Type 0
IndexOf A n = Indexed A.index A.scopes A.kinds A.n0 A.n1 A.n2 A.n3 n

-- a row that is looked for has the slot and the bits
row_route : (es ek : ℕ) (en : Name) (s k : ℕ) (n : Name) → is_row es ek en s k n ≡ true → (bucket es ek en ≡ bucket s k n) × (turn es ek en ≡ turn s k n)
unfolding is_row
row_route es ek en s k n h = go (eqb es s) (eqb ek k) (same_name en n) refl refl refl h
  where
    go : (u v w : Bool) → eqb es s ≡ u → eqb ek k ≡ v → same_name en n ≡ w → u && (v && w) ≡ true → (bucket es ek en ≡ bucket s k n) × (turn es ek en ≡ turn s k n)
    go true true true x y z e =
        ((λ j. bucket (eqb-true es s x j) (eqb-true ek k y j) (names_same en n z j)), (λ j. turn (eqb-true es s x j) (eqb-true ek k y j) (names_same en n z j)))
    go true true false x y z e = let o : ◌≡◌ {A = ℕ} 0 1 = cc in absurd (omega arith)
    go true false w x y z e = let o : ◌≡◌ {A = ℕ} 0 1 = cc in absurd (omega arith)
    go false v w x y z e = let o : ◌≡◌ {A = ℕ} 0 1 = cc in absurd (omega arith)

-- THE LAW: in a tree's arrays the lookup finds the first of all entries
pub spot_first : {xs ss ks a b c d : List ℕ} {total : ℕ} → Indexed xs ss ks a b c d total → total ≤ 1024 → (s t k : ℕ) (n : Name) → t ≤ total
    → spot_in xs ss ks a b c d s t k n ≡ first_in (looked ss ks a b c d s k n) s t
unfolding spot_in
spot_first {xs} {ss} {ks} {a} {b} {c} {d} {total} w h s t k n l =
    let q = sought_at ss ks a b c d s t k n in
    let bits = turn_below (mix s k n) s k n in
    let z : 1024 ≡ total + (1024 - total) = omega arith in
    ap (λ (m : ℕ). seek q xs (turn s k n) m 0 (bucket s k n)) z
    ∙ seek-more q xs (turn s k n) (1024 - total) total 0 (bucket s k n) (w.walked.ends (bucket s k n) (turn s k n) (bucket-below s k n) bits)
    ∙ w.walked.finds (bucket s k n) (turn s k n) (bucket-below s k n) bits q (λ i y e. row_route (get_or ss i 0) (get_or ks i 0) (name_at a b c d i) s k n (right (within s t i) (looked ss ks a b c d s k n i) e))
    ∙ ranged-first (looked ss ks a b c d s k n) s t total 0 (omega arith) (omega arith)
  where
    right : (u v : Bool) → u && v ≡ true → v ≡ true
    right true v y = y
    right false v y = let o : ◌≡◌ {A = ℕ} 0 1 = cc in absurd (omega arith)

-- the loops' laws, for the tactics
pub ruleset seeking_steps = (seeking_start, seeking_none, seeking_found, seeking_on, seeking_end)

pub ruleset reaching_steps = (reaching_start, reaching_free, reaching_on, reaching_end)
