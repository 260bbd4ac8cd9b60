-- Lists of tree calls as bytes, and what the calls answer one after another. Assumes nothing.
use Prim.Native.Nat.{ℕ, zero, suc, ◌+◌, ◌*◌, ◌-◌, ◌≤◌, ◌<◌}
use native.Mathlib.Omega.{arith}
use Rattle.std.proofs.Math.Decide.{dec_lt}
use Rattle.std.specs.Prelude.{◌≡◌, Bool, false, cond, ◌⊎◌, eqb, ltb, min, Option, Some, None, IfSome}
use Rattle.std.proofs.Math.Path.{refl, ap, sym}
use Rattle.std.proofs.Common.{subst, ◌∙◌, inl, inr, take_all}
use mathlib.Core.List.{List, [], ◌∷◌}
use lib.ListN.{length, get_or, take, drop, drop_of_length-le, replicate, length-replicate}
use borrow.Author.Tests.{ne_eqb, lt-ltb, le-ltb}
use Rattle.rows.specs.Written.{put_at, written}
use Rattle.scope_tree.specs.declared.Tree.{Tree}
use Rattle.scopes_c.specs.declared.Step.{Step}
use Rattle.scope_tree.specs.Told.{call_told}
use Rattle.scopes.specs.declared.call.Call.{Call}
use Rattle.scopes.specs.declared.call.Item.{Item}
use Rattle.scope_tree.specs.Step.{Answer, ok, marked, refused, step}
use Rattle.scope_tree.specs.Flat.{Flat, flat, first_flat}
use Rattle.scope_tree.specs.Form.{Request, enters, exits, inserts_alias, inserts_enum, inserts_function, resolves_use, gets_alias, gets_function, call_of}
use Rattle.scope_tree.specs.Rows.{tab}
use Rattle.scope_tree.specs.Index.{walked_none}
use Rattle.scope_tree.specs.Nav.{stack_of}
use Rattle.scope_tree.specs.Views.{told}
use Rattle.scope_tree.specs.Trees.{cleared, flat_of, Good}
use Rattle.scope_tree.specs.Pack.{index-clear, clear-get}
use Rattle.scopes.specs.Meets.{Outcome, Meets, request, request_of, code_of, bytes_of, public_of, mark_of, request-code, declares}
use Rattle.scopes.specs.Runs.{first-is, first_good}

-- THE BYTES

abbrev pub pair_at : List ℕ → ℕ → ℕ
pair_at s p = get_or s p 0 * 256 + get_or s (p + 1) 0

-- the n bytes from p on that are there
unfoldable pub part_of : List ℕ → ℕ → ℕ → List ℕ
part_of s p n = take n (drop p s)

-- a call, or an empty tree
pub data Order : Type 0 where
  asks : Request → Order
  clears : Order

-- a declaring call's item kind, as in a bundle
abbrev pub item_kind : ℕ → ℕ
item_kind op = cond (eqb op 5) 2 (cond (eqb op 4) 4 1)

abbrev pub is_declaring : ℕ → Bool
is_declaring op = cond (ltb op 3) false (ltb op 6)

-- the call at p
unfoldable pub order_at : List ℕ → ℕ → Order
order_at s p =
    cond (eqb (get_or s p 0) 2) (asks exits)
    (cond (eqb (get_or s p 0) 6) (asks (resolves_use (part_of s (p + 3) (pair_at s (p + 1))) (eqb (get_or s (p + 3 + pair_at s (p + 1)) 0) 1)))
    (cond (eqb (get_or s p 0) 7) (asks (gets_alias (part_of s (p + 2) (get_or s (p + 1) 0))))
    (cond (eqb (get_or s p 0) 8) (asks (gets_function (part_of s (p + 2) (get_or s (p + 1) 0))))
    (cond (eqb (get_or s p 0) 1) (asks (enters (part_of s (p + 2) (get_or s (p + 1) 0)) (eqb (get_or s (p + 2 + get_or s (p + 1) 0) 0) 1) (pair_at s (p + 2 + get_or s (p + 1) 0 + 1))))
    (cond (is_declaring (get_or s p 0)) (asks (declares (item_kind (get_or s p 0)) (part_of s (p + 2) (get_or s (p + 1) 0)) (eqb (get_or s (p + 2 + get_or s (p + 1) 0) 0) 1) (pair_at s (p + 2 + get_or s (p + 1) 0 + 1)))) clears)))))

-- the order of a call as it was read; none for an empty tree
abbrev pub order_told : Option Call → Order
order_told None = clears
order_told (Some c) = asks (request_of c)

-- a call that was read asks what the code n asks
pub record IsCoded (n : ℕ) (o : Option Call) : Type 0 where
  pub asked : IfSome o (λ c. request_of c ≡ request n (bytes_of c) (public_of c) (mark_of c))

pub is_coded : {n : ℕ} (c : Call) → n ≡ code_of c → IsCoded n (Some c)
is_coded c e = record { asked = rw e (request-code c) }

pub coded_none : {n : ℕ} → IsCoded n None
coded_none = record { asked = tt }

-- the name of the call at p; and what it declares
abbrev pub name_in : List ℕ → ℕ → List ℕ
name_in s p = part_of s (p + 2) (get_or s (p + 1) 0)

pub record IsItem (s : List ℕ) (p : ℕ) (i : Item) : Type 0 where
  pub name : i.name.now ≡ name_in s p
  pub public : i.public ≡ eqb (get_or s (p + 2 + get_or s (p + 1) 0) 0) 1
  pub mark : i.mark ≡ pair_at s (p + 2 + get_or s (p + 1) 0 + 1)

-- the place after the call at p
unfoldable pub after_order : List ℕ → ℕ → ℕ
after_order s p =
    cond (eqb (get_or s p 0) 6) (p + 4 + pair_at s (p + 1))
    (cond (eqb (get_or s p 0) 7) (p + 2 + get_or s (p + 1) 0)
    (cond (eqb (get_or s p 0) 8) (p + 2 + get_or s (p + 1) 0)
    (cond (eqb (get_or s p 0) 1) (p + 5 + get_or s (p + 1) 0)
    (cond (is_declaring (get_or s p 0)) (p + 5 + get_or s (p + 1) 0) (p + 1)))))

-- THE ANSWERS

-- code times 65,536 plus value: 0 done, 1 a mark, 2 a number
abbrev pub shown : Answer → ℕ
shown ok = 0
shown (marked m) = 65536 + m
shown (refused n) = 131072 + n

abbrev pub turn : Flat → Order → Flat × Answer
turn x (asks q) = step flat x (call_of q)
turn x clears = (first_flat, ok)

-- the answers of at most k calls from p on, below the bound
unfoldable pub replay : ℕ → Flat → List ℕ → ℕ → List ℕ
replay zero x s p = []
replay (suc k) x s p =
    cond (ltb p (length s))
    (cond (ltb p 16777216) (shown (turn x (order_at s p)).1 ∷ replay k (turn x (order_at s p)).0 s (after_order s p)) [])
    []

-- the tree that they leave
unfoldable pub left : ℕ → Flat → List ℕ → ℕ → Flat
left zero x s p = x
left (suc k) x s p =
    cond (ltb p (length s))
    (cond (ltb p 16777216) (left k (turn x (order_at s p)).0 s (after_order s p)) x)
    x

-- a call on a tree
pub record Turned (t : Tree) (o : Order) (n : ℕ) (u : Tree) : Type 0 where
  pub good : Good t → Good u
  pub tree : Good t → flat_of u ≡ (turn (flat_of t) o).0
  pub said : Good t → n ≡ shown (turn (flat_of t) o).1

pub turned_meets : {t : Tree} {q : Request} {r : Outcome} {o : Order} → asks q ≡ o → Meets t q r → Turned t o (shown (told r.answer)) r.tree
turned_meets {t} {q} {r} e m = subst (λ (x : Order). Turned t x (shown (told r.answer)) r.tree) e (record { good = m.good; tree = m.tree; said = λ g. ap shown (m.answer g) })

pub turned_clears : {t u : Tree} {o : Order} → clears ≡ o → u ≡ cleared → Turned t o 0 u
turned_clears {t} {u} {o} e h =
    subst (λ (x : Order). Turned t x 0 u) e
    (record {
      good = λ g. subst Good (sym h) first_good;
      tree = λ g. ap flat_of h ∙ first-is;
      said = λ g. refl;
    })

-- no entry, no open module
abbrev pub emptied : Tree → Tree
emptied t =
    record { opened = replicate 11 0; cells = replicate 7168 0; visible = t.visible; scopes = t.scopes; marks = t.marks; n0 = t.n0; n1 = t.n1; n2 = t.n2; n3 = t.n3 }

pub turned-emptied : (t : Tree) {o : Order} → clears ≡ o → Turned t o 0 (emptied t)
unfolding tab stack_of
turned-emptied t {o} e = subst (λ (x : Order). Turned t x 0 (emptied t)) e (record { good = good; tree = λ g. refl; said = λ g. refl })
  where
    good : Good t → Good (emptied t)
    good g =
        let z = g.sized in
        record {
          sized = record { opened = length-replicate {A = ℕ} 11 zero; cells = length-replicate {A = ℕ} 7168 zero; visible = z.visible; scopes = z.scopes; marks = z.marks; n0 = z.n0; n1 = z.n1; n2 = z.n2; n3 = z.n3 };
          good =
              record {
                small = omega arith;
                shallow = omega arith;
                doors = λ j h. absurd (omega arith);
                indexed = record { walked = walked_none _ _ _ (λ σ. ap (λ (x : List ℕ). get_or x σ 0) index-clear ∙ clear-get 3072 σ) };
              };
        }

-- the call at p by value
pub record Called (t : Tree) (s : List ℕ) (p : ℕ) (r : Step) : Type 0 where
  pub turned : Turned t (order_at s p) (shown (told (call_told r.answer))) r.tree
  pub next : r.next ≡ after_order s p
  pub near : r.next ≤ p + 65539

-- AS THE CODE HAS IT: the call at p
module _ (s : List ℕ) (p : ℕ) {op : ℕ} (oq : op ≡ get_or s p 0) where
  pub order-exit : op ≡ 2 → asks exits ≡ order_at s p
  unfolding order_at
  order-exit z = rw (← oq, z)

  pub order_use : op ≡ 6 → {n : ℕ} → n ≡ pair_at s (p + 1) → {d : List ℕ} → d ≡ part_of s (p + 3) n → {b : ℕ} → b ≡ get_or s (p + 3 + n) 0 → asks (resolves_use d (eqb b 1)) ≡ order_at s p
  unfolding order_at
  order_use z nq dq bq = rw (← oq, z, dq, bq, nq)

  module _ {d : List ℕ} (dq : d ≡ name_in s p) where
    pub order-alias : op ≡ 7 → asks (gets_alias d) ≡ order_at s p
    unfolding order_at
    order-alias z = rw (← oq, z, dq)

    pub order-function : op ≡ 8 → asks (gets_function d) ≡ order_at s p
    unfolding order_at
    order-function z = rw (← oq, z, dq)

  module _ {i : Item} (h : IsItem s p i) where
    pub order-enter : op ≡ 1 → asks (enters i.name.now i.public i.mark) ≡ order_at s p
    unfolding order_at
    order-enter z = rw (← oq, z, h.name, h.public, h.mark)

    pub order_type : op ≡ 3 → asks (inserts_alias i.name.now i.public i.mark) ≡ order_at s p
    unfolding order_at
    order_type z = rw (← oq, z, h.name, h.public, h.mark)

    pub order-enum : op ≡ 4 → asks (inserts_enum i.name.now i.public i.mark) ≡ order_at s p
    unfolding order_at
    order-enum z = rw (← oq, z, h.name, h.public, h.mark)

    pub order_fn : op ≡ 5 → asks (inserts_function i.name.now i.public i.mark) ≡ order_at s p
    unfolding order_at
    order_fn z = rw (← oq, z, h.name, h.public, h.mark)

  undeclared : (op ≡ 3 → ⊥) → (op ≡ 4 → ⊥) → (op ≡ 5 → ⊥) → is_declaring op ≡ false
  undeclared a b c = go (dec_lt op 3) (dec_lt op 6)
    where
      go : Dec (op < 3) → Dec (op < 6) → is_declaring op ≡ false
      go (yes h) k = rw (lt-ltb op 3 h)
      go (no h) (yes k) = absurd (omega arith)
      go (no h) (no k) = rw (le-ltb op 3 (omega arith), le-ltb op 6 (omega arith))

  pub order-none : (op ≡ 1 → ⊥) → (op ≡ 2 → ⊥) → (op ≡ 3 → ⊥) → (op ≡ 4 → ⊥) → (op ≡ 5 → ⊥) → (op ≡ 6 → ⊥) → (op ≡ 7 → ⊥) → (op ≡ 8 → ⊥) → clears ≡ order_at s p
  unfolding order_at
  order-none a b c d e f g h = rw (← oq, ne_eqb op 2 b, ne_eqb op 6 f, ne_eqb op 7 g, ne_eqb op 8 h, ne_eqb op 1 a, undeclared c d e)

  -- the place after it
  pub after_item : (op ≡ 1) ⊎ ((3 ≤ op) × (op ≤ 5)) → {n : ℕ} → n ≡ get_or s (p + 1) 0 → p + 5 + n ≡ after_order s p
  unfolding after_order
  after_item (inl z) e = rw (← oq, z, e)
  after_item (inr h) e =
      rw (← oq, e, ne_eqb op 6 (λ x. omega (arith, h.0, h.1)), ne_eqb op 7 (λ x. omega (arith, h.1)), ne_eqb op 8 (λ x. omega (arith, h.1)), ne_eqb op 1 (λ x. omega (arith, h.0)), le-ltb op 3 h.0, lt-ltb op 6 (omega (arith, h.1)))

  pub after_use : op ≡ 6 → {n : ℕ} → n ≡ pair_at s (p + 1) → p + 4 + n ≡ after_order s p
  unfolding after_order
  after_use z e = rw (← oq, z, e)

  pub after_get : (7 ≤ op) × (op ≤ 8) → {n : ℕ} → n ≡ get_or s (p + 1) 0 → p + 2 + n ≡ after_order s p
  unfolding after_order
  after_get (a, b) {n} e = go (dec_lt op 8)
    where
      go : Dec (op < 8) → p + 2 + n ≡ after_order s p
      go (yes l) = let z : op ≡ 7 = omega arith in rw (← oq, z, e)
      go (no l) = let z : op ≡ 8 = omega arith in rw (← oq, z, e)

  pub after_exit : op ≡ 2 → p + 1 ≡ after_order s p
  unfolding after_order
  after_exit z = rw (← oq, z)

  pub after_none : (op ≡ 1 → ⊥) → (op ≡ 3 → ⊥) → (op ≡ 4 → ⊥) → (op ≡ 5 → ⊥) → (op ≡ 6 → ⊥) → (op ≡ 7 → ⊥) → (op ≡ 8 → ⊥) → p + 1 ≡ after_order s p
  unfolding after_order
  after_none a c d e f g h = rw (← oq, ne_eqb op 6 f, ne_eqb op 7 g, ne_eqb op 8 h, ne_eqb op 1 a, undeclared c d e)

-- the part that a slice of the bytes is
pub part_is : (s : List ℕ) (p n : ℕ) {a b : ℕ} → a ≡ min (length s) p → b ≡ min (length s) (p + n) → take (b - a) (drop a s) ≡ part_of s p n
unfolding part_of
part_is s p n {a} {b} e f = go (dec_lt p (length s)) (dec_lt (p + n) (length s))
  where
    go : Dec (p < length s) → Dec (p + n < length s) → take (b - a) (drop a s) ≡ take n (drop p s)
    go (no h) k =
        let x : b - a ≡ 0 = omega (arith, e, f) in
        let d : drop p s ≡ [] = drop_of_length-le s (omega arith) in
        rw (x, d) (none n)
      where
        none : (m : ℕ) → ◌≡◌ {A = List ℕ} [] (take m [])
        none zero = refl
        none (suc m) = refl
    go (yes h) (yes k) = let x : a ≡ p = omega (arith, e) in let y : b - a ≡ n = omega (arith, e, f) in rw (y, x)
    go (yes h) (no k) =
        let x : a ≡ p = omega (arith, e) in
        let y : b ≡ length s = omega (arith, f) in
        rw (x, y) (take_all (length s - p) (drop p s) (simp lib.ListN.length-drop (omega arith)) ∙ sym (take_all n (drop p s) (simp lib.ListN.length-drop (omega arith))))

-- an answer by its number
pub said_as : {t u : Tree} {o : Order} {n m : ℕ} → m ≡ n → Turned t o n u → Turned t o m u
said_as e c = record { good = c.good; tree = c.tree; said = λ g. e ∙ c.said g }

-- a turn by its call
pub turned_as : {t u : Tree} {o q : Order} {n : ℕ} → o ≡ q → Turned t o n u → Turned t q n u
turned_as {t} {u} {o} {q} {n} e c = subst (λ (x : Order). Turned t x n u) e c

-- the tree that all calls leave
abbrev pub left_tree : List ℕ → Flat
left_tree s = left 16000000 first_flat s 0

-- THE LOOP: i answers are written, the arrays are those after i calls, and the next stands at p
module _ (s : List ℕ) (o₀ : List ℕ) where
  abbrev pub all_answers : List ℕ
  all_answers = replay 16000000 first_flat s 0

  pub record Walking (o : List ℕ) (t : Tree) (p i : ℕ) : Type 0 where
    pub within : i ≤ 16000000
    pub below : p ≤ 16842755
    pub long : length o ≡ length o₀
    pub good : Good t
    pub count : length all_answers ≡ i + length (replay (16000000 - i) (flat_of t) s p)
    pub out : written o₀ 0 all_answers ≡ written o i (replay (16000000 - i) (flat_of t) s p)
    pub tree : left_tree s ≡ left (16000000 - i) (flat_of t) s p

  -- what the walk gives
  pub record Walked (r : ℕ) (o : List ℕ) : Type 0 where
    pub count : r ≡ length all_answers
    pub out : o ≡ written o₀ 0 all_answers

  -- and leaves
  pub record Replayed (r : ℕ) (o : List ℕ) (t : Tree) : Type 0 where
    pub walked : Walked r o
    pub good : Good t
    pub tree : flat_of t ≡ left_tree s

  pub walking_start : Walking o₀ cleared 0 0
  walking_start =
      record {
        within = omega arith;
        below = omega arith;
        long = refl;
        good = first_good;
        count = rw first-is (omega arith);
        out = rw first-is;
        tree = rw first-is;
      }

  pub walking_begin : (t : Tree) → t ≡ cleared → Walking o₀ t 0 0
  walking_begin t q = subst (λ (x : Tree). Walking o₀ x 0 0) (sym q) walking_start

  module _ (o : List ℕ) (t : Tree) (p i : ℕ) (w : Walking o t p i) where
    ended_here : replay (16000000 - i) (flat_of t) s p ≡ [] → left (16000000 - i) (flat_of t) s p ≡ flat_of t → Replayed i o t
    unfolding written
    ended_here e f =
        record {
          walked =
              record {
                count = sym (w.count ∙ ap (λ (x : List ℕ). i + length x) e ∙ native.Mathlib.Nat.add-zero i);
                out = sym (w.out ∙ ap (written o i) e);
              };
          good = w.good;
          tree = sym (w.tree ∙ f);
        }

    pub walking_past : length s ≤ p → Replayed i o t
    unfolding replay left
    walking_past h = ended_here (go (16000000 - i)) (stays (16000000 - i))
      where
        go : (k : ℕ) → replay k (flat_of t) s p ≡ []
        go zero = refl
        go (suc k) = rw (le-ltb p (length s) h)

        stays : (k : ℕ) → left k (flat_of t) s p ≡ flat_of t
        stays zero = refl
        stays (suc k) = rw (le-ltb p (length s) h)

    pub walking_far : p < length s → 16777216 ≤ p → Replayed i o t
    unfolding replay left
    walking_far h f = ended_here (go (16000000 - i)) (stays (16000000 - i))
      where
        go : (k : ℕ) → replay k (flat_of t) s p ≡ []
        go zero = refl
        go (suc k) = rw (lt-ltb p (length s) h, le-ltb p 16777216 f)

        stays : (k : ℕ) → left k (flat_of t) s p ≡ flat_of t
        stays zero = refl
        stays (suc k) = rw (lt-ltb p (length s) h, le-ltb p 16777216 f)

    pub walking_end : 16000000 ≤ i → Replayed 16000000 o t
    unfolding replay left
    walking_end h =
        let e : 16000000 - i ≡ 0 = omega (arith, w.within) in
        let n : i ≡ 16000000 = omega (arith, w.within) in
        subst (λ (k : ℕ). Replayed k o t) n (ended_here (rw e) (rw e))

    -- no call is left
    pub walking_over : min (length s) 16777216 ≤ p → Replayed i o t
    walking_over h = go (dec_lt p (length s)) (dec_lt p 16777216)
      where
        go : Dec (p < length s) → Dec (p < 16777216) → Replayed i o t
        go (no a) b = walking_past (omega arith)
        go (yes a) (no b) = walking_far a (omega arith)
        go (yes a) (yes b) = absurd (omega arith)

    module _ (l : i < 16000000) (h : p < length s) (f : p < 16777216) (a : ℕ) (u : Tree) (c : Turned t (order_at s p) a u)
        (o' : List ℕ) (oq : o' ≡ put_at o i a) (ol : length o' ≡ length o) (q : ℕ) (qq : q ≡ after_order s p) (ql : q ≤ p + 65539) where
      stepped : replay (16000000 - i) (flat_of t) s p ≡ a ∷ replay (16000000 - (i + 1)) (flat_of u) s q
      unfolding replay
      stepped =
          let e : 16000000 - i ≡ suc (16000000 - (i + 1)) = omega arith in
          ap (λ (k : ℕ). replay k (flat_of t) s p) e
          ∙ rw (lt-ltb p (length s) h, lt-ltb p 16777216 f, ← c.said w.good, ← c.tree w.good, ← qq)

      stays : left (16000000 - i) (flat_of t) s p ≡ left (16000000 - (i + 1)) (flat_of u) s q
      unfolding left
      stays =
          let e : 16000000 - i ≡ suc (16000000 - (i + 1)) = omega arith in
          ap (λ (k : ℕ). left k (flat_of t) s p) e
          ∙ rw (lt-ltb p (length s) h, lt-ltb p 16777216 f, ← c.tree w.good, ← qq)

      pub walking_turn : Walking o' u q (i + 1)
      unfolding written
      walking_turn =
          record {
            within = omega arith;
            below = omega (arith, w.below);
            long = ol ∙ w.long;
            good = c.good w.good;
            count = w.count ∙ ap (λ (x : List ℕ). i + length x) stepped ∙ omega arith;
            out = w.out ∙ ap (written o i) stepped ∙ ap (λ (x : List ℕ). written x (i + 1) (replay (16000000 - (i + 1)) (flat_of u) s q)) (sym oq);
            tree = w.tree ∙ stays;
          }
