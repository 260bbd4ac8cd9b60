-- Laws of the parts of one array, and of the tree that nine arrays are seen as. Assumes nothing.
use Rattle.std.specs.Prelude.{ℕ, zero, suc, ◌+◌, ◌-◌, ◌≤◌, ◌<◌, ◌≡◌, refl, Bool, true, false, cond, List, [], ◌∷◌, length, get_or, set, take, drop, replicate}
use Rattle.std.proofs.Common.{arith, zero-add, not-suc-le-zero, le_of_suc-le-suc, ap, sym, ◌∙◌, length-set, length-drop, get_or-take, get_or-drop, drop-set-lt, length-take-le, get_or-set_same, get_or-set_other}
use Rattle.std.proofs.Math.Nat.{suc-sub-suc, sub-zero}
use Rattle.std.proofs.lemmas.List.{drop-set-add, take-set-le}
use Rattle.std.proofs.Math.Seq.{take-set-lt}
use Rattle.scope_tree.specs.Views.{View, pushed_under, pushed, opened_last}
use Rattle.scope_tree.specs.Views.{Sized as ViewSized}
use Rattle.scope_tree.specs.Views as views
use Rattle.scope_tree.specs.Index.{free_slot}
use Rattle.scope_tree.specs.Nav.{current_of}
use Rattle.scope_tree.specs.Trees.{part, index_of, doors_of, view, cleared, Sized}
use Rattle.scope_tree.specs.declared.Tree.{Tree}
use Rattle.scope_tree.specs.Entries.{Entry}

-- A WINDOW of an array, w numbers from the place p on
module _ (w p : ℕ) (xs : List ℕ) where
  window_get : (i : ℕ) → i < w → get_or (take w (drop p xs)) i 0 ≡ get_or xs (p + i) 0
  window_get i h = get_or-take w (drop p xs) i 0 h ∙ get_or-drop p xs i 0

  window_same : (i v : ℕ) → i < w → take w (drop p (set xs (p + i) v)) ≡ set (take w (drop p xs)) i v
  window_same i v h = ap (λ (l : List ℕ). take w l) (drop-set-add p xs i v) ∙ take-set-lt w (drop p xs) i v h

  window_before : (j v : ℕ) → j < p → take w (drop p (set xs j v)) ≡ take w (drop p xs)
  window_before j v h = ap (λ (l : List ℕ). take w l) (drop-set-lt p xs j v h)

  window_after : (j v : ℕ) → p + w ≤ j → take w (drop p (set xs j v)) ≡ take w (drop p xs)
  window_after j v h =
      let e : j ≡ p + (j - p) = omega arith in
      rw e (ap (λ (l : List ℕ). take w l) (drop-set-add p xs (j - p) v) ∙ take-set-le w (drop p xs) (j - p) v (omega arith))

-- nothing stands past it
take_past : (n : ℕ) (xs : List ℕ) (i : ℕ) → n ≤ i → get_or (take n xs) i 0 ≡ 0
take_past zero xs i h = refl
take_past (suc n) [] i h = refl
take_past (suc n) (x ∷ xs) zero h = absurd (not-suc-le-zero h)
take_past (suc n) (x ∷ xs) (suc i) h = take_past n xs i (le_of_suc-le-suc h)

drop-clear : (p n : ℕ) → p ≤ n → drop p (replicate n zero) ≡ replicate (n - p) zero
drop-clear zero n h = ap (λ (m : ℕ). replicate m zero) (sym (sub-zero n))
drop-clear (suc p) zero h = absurd (not-suc-le-zero h)
drop-clear (suc p) (suc n) h = drop-clear p n (le_of_suc-le-suc h) ∙ ap (λ (m : ℕ). replicate m zero) (sym (suc-sub-suc n p))

take-clear : (m n : ℕ) → m ≤ n → take m (replicate n zero) ≡ replicate m zero
take-clear zero n h = refl
take-clear (suc m) zero h = absurd (not-suc-le-zero h)
take-clear (suc m) (suc n) h = ap (λ (l : List ℕ). zero ∷ l) (take-clear m n (le_of_suc-le-suc h))

window_clear : (w p n : ℕ) → p + w ≤ n → take w (drop p (replicate n zero)) ≡ replicate w zero
window_clear w p n h = ap (λ (l : List ℕ). take w l) (drop-clear p n (omega arith)) ∙ take-clear w (n - p) (omega arith)

-- a part of the cells
pub part-get : (p : ℕ) (xs : List ℕ) (i : ℕ) → i < 1024 → get_or (part p xs) i 0 ≡ get_or xs (p + i) 0
unfolding part
part-get = window_get 1024

pub part_same : (p : ℕ) (xs : List ℕ) (i v : ℕ) → i < 1024 → part p (set xs (p + i) v) ≡ set (part p xs) i v
unfolding part
part_same = window_same 1024

pub part-before : (p : ℕ) (xs : List ℕ) (j v : ℕ) → j < p → part p (set xs j v) ≡ part p xs
unfolding part
part-before = window_before 1024

pub part-after : (p : ℕ) (xs : List ℕ) (j v : ℕ) → p + 1024 ≤ j → part p (set xs j v) ≡ part p xs
unfolding part
part-after = window_after 1024

pub part-past : (p : ℕ) (xs : List ℕ) (i : ℕ) → 1024 ≤ i → 0 ≡ get_or (part p xs) i 0
unfolding part
part-past p xs i h = sym (take_past 1024 (drop p xs) i h)

pub part_length : (p : ℕ) (xs : List ℕ) → p + 1024 ≤ length xs → length (part p xs) ≡ 1024
unfolding part
part_length p xs h = length-take-le 1024 (drop p xs) (rw length-drop (omega arith))

pub part-clear : (p n : ℕ) → p + 1024 ≤ n → part p (replicate n zero) ≡ replicate 1024 zero
unfolding part
part-clear = window_clear 1024

-- the index
pub index-get : (xs : List ℕ) (i : ℕ) → get_or (index_of xs) i 0 ≡ get_or xs (4096 + i) 0
unfolding index_of
index-get xs i = get_or-drop 4096 xs i 0

pub index_same : (xs : List ℕ) (i v : ℕ) → index_of (set xs (4096 + i) v) ≡ set (index_of xs) i v
unfolding index_of
index_same xs i v = drop-set-add 4096 xs i v

pub index-before : (xs : List ℕ) (j v : ℕ) → j < 4096 → index_of (set xs j v) ≡ index_of xs
unfolding index_of
index-before xs j v h = drop-set-lt 4096 xs j v h

pub index-length : (xs : List ℕ) → length xs ≡ 7168 → length (index_of xs) ≡ 3072
unfolding index_of
index-length xs h = rw length-drop (omega arith)

pub index-clear : index_of (replicate 7168 zero) ≡ replicate 3072 zero
unfolding index_of
index-clear = drop-clear 4096 7168 (omega arith)

-- nothing in what is cleared
pub clear-get : (n i : ℕ) → get_or (replicate n zero) i 0 ≡ 0
clear-get zero i = refl
clear-get (suc n) zero = refl
clear-get (suc n) (suc i) = clear-get n i

-- THE PUSH
abbrev pub cells_of : List ℕ → ℕ → ℕ → ℕ → ℕ → ℕ → ℕ → List ℕ
cells_of c at b k o a u = set (set (set (set (set c at k) (1024 + at) o) (2048 + at) a) (3072 + at) u) (4096 + b) (at + 1)

module _ (c : List ℕ) (at b k o a u : ℕ) (h : at < 1024) where
  kinds-set : part 0 (cells_of c at b k o a u) ≡ set (part 0 c) at k
  kinds-set =
      part-after 0 _ (4096 + b) _ (omega arith) ∙ part-after 0 _ (3072 + at) _ (omega arith) ∙ part-after 0 _ (2048 + at) _ (omega arith) ∙ part-after 0 _ (1024 + at) _ (omega arith)
      ∙ ap (λ (i : ℕ). part 0 (set c i k)) (sym (zero-add at)) ∙ part_same 0 c at k h

  origins-set : part 1024 (cells_of c at b k o a u) ≡ set (part 1024 c) at o
  origins-set =
      part-after 1024 _ (4096 + b) _ (omega arith) ∙ part-after 1024 _ (3072 + at) _ (omega arith) ∙ part-after 1024 _ (2048 + at) _ (omega arith)
      ∙ part_same 1024 _ at o h ∙ ap (λ (x : List ℕ). set x at o) (part-before 1024 c at k (omega arith))

  targets-set : part 2048 (cells_of c at b k o a u) ≡ set (part 2048 c) at a
  targets-set =
      part-after 2048 _ (4096 + b) _ (omega arith) ∙ part-after 2048 _ (3072 + at) _ (omega arith)
      ∙ part_same 2048 _ at a h ∙ ap (λ (x : List ℕ). set x at a) (part-before 2048 _ (1024 + at) o (omega arith) ∙ part-before 2048 c at k (omega arith))

  times-set : part 3072 (cells_of c at b k o a u) ≡ set (part 3072 c) at u
  times-set =
      part-after 3072 _ (4096 + b) _ (omega arith)
      ∙ part_same 3072 _ at u h ∙ ap (λ (x : List ℕ). set x at u) (part-before 3072 _ (2048 + at) a (omega arith) ∙ part-before 3072 _ (1024 + at) o (omega arith) ∙ part-before 3072 c at k (omega arith))

  index-set : index_of (cells_of c at b k o a u) ≡ set (index_of c) b (at + 1)
  index-set =
      index_same _ b (at + 1)
      ∙ ap (λ (x : List ℕ). set x b (at + 1)) (index-before _ (3072 + at) u (omega arith) ∙ index-before _ (2048 + at) a (omega arith) ∙ index-before _ (1024 + at) o (omega arith) ∙ index-before c at k (omega arith))

-- an entry at a place, in a slot
abbrev pub put_at : ℕ → ℕ → Tree → Entry → Tree
put_at at b t e =
    record {
      opened = set t.opened 9 (at + 1);
      cells = cells_of t.cells at b e.kind e.origin e.target e.moment;
      visible = set t.visible at e.visible;
      scopes = set t.scopes at e.scope;
      marks = set t.marks at e.mark;
      n0 = set t.n0 at e.name.w0;
      n1 = set t.n1 at e.name.w1;
      n2 = set t.n2 at e.name.w2;
      n3 = set t.n3 at e.name.w3;
    }

abbrev pub added_under : ℕ → Tree → Entry → Tree
added_under b t e = put_at (get_or t.opened 9 0) b t e

abbrev pub pushed_in : ℕ → Tree → Entry → Tree
pushed_in at t e = put_at at (free_slot (index_of t.cells) e.scope e.kind e.name) t e

-- a module opened: c is its scope, d the depth
abbrev pub opened_at : ℕ → ℕ → Tree → Tree
opened_at c d t =
    record { opened = set (set t.opened d c) 10 (d + 1); cells = t.cells; visible = t.visible; scopes = t.scopes; marks = t.marks; n0 = t.n0; n1 = t.n1; n2 = t.n2; n3 = t.n3 }

abbrev pub opened_in : ℕ → Tree → Tree
opened_in c t = opened_at c (get_or t.opened 10 0) t

-- what the writer makes of a tree
unfoldable pub added : ℕ → Tree → Entry → Tree
added at t e = cond e.opens (opened_at (at + 1) (get_or t.opened 10 0) (pushed_in at t e)) (pushed_in at t e)

-- the array of the open modules with one entry more
unfoldable pub doors_added : List ℕ → ℕ → Bool → List ℕ
doors_added o at b = cond b (set (set (set o 9 (at + 1)) (get_or o 10 0) (at + 1)) 10 (get_or o 10 0 + 1)) (set o 9 (at + 1))

pub doors-shut : (o : List ℕ) (at : ℕ) {b : Bool} → b ≡ false → set o 9 (at + 1) ≡ doors_added o at b
unfolding doors_added
doors-shut o at z = rw z

pub doors_open : (o : List ℕ) (at : ℕ) {b : Bool} → b ≡ true → {d : ℕ} → d ≡ get_or o 10 0 → set (set (set o 9 (at + 1)) d (at + 1)) 10 (d + 1) ≡ doors_added o at b
unfolding doors_added
doors_open o at z q = rw (z, q)

pub added-all : (t : Tree) (e : Entry) (at b : ℕ) → b ≡ free_slot (index_of t.cells) e.scope e.kind e.name → {x y : List ℕ} → x ≡ cells_of t.cells at b e.kind e.origin e.target e.moment → y ≡ doors_added t.opened at e.opens
    → record { opened = y; cells = x; visible = set t.visible at e.visible; scopes = set t.scopes at e.scope; marks = set t.marks at e.mark; n0 = set t.n0 at e.name.w0; n1 = set t.n1 at e.name.w1; n2 = set t.n2 at e.name.w2; n3 = set t.n3 at e.name.w3 }
    ≡ added at t e
unfolding added doors_added
added-all t e at b q f g = rw (f, g, q) (go e.opens)
  where
    go : (o : Bool)
        → record { opened = cond o (set (set (set t.opened 9 (at + 1)) (get_or t.opened 10 0) (at + 1)) 10 (get_or t.opened 10 0 + 1)) (set t.opened 9 (at + 1)); cells = (pushed_in at t e).cells; visible = (pushed_in at t e).visible; scopes = (pushed_in at t e).scopes; marks = (pushed_in at t e).marks; n0 = (pushed_in at t e).n0; n1 = (pushed_in at t e).n1; n2 = (pushed_in at t e).n2; n3 = (pushed_in at t e).n3 }
        ≡ cond {A = Tree} o (opened_at (at + 1) (get_or t.opened 10 0) (pushed_in at t e)) (pushed_in at t e)
    go true = refl
    go false = refl

pub view-sized : (t : Tree) → Sized t → ViewSized (view t)
unfolding doors_of
view-sized t z =
    record { kinds = part_length 0 t.cells (omega (arith, z.cells)); visible = z.visible; scopes = z.scopes; marks = z.marks; n0 = z.n0; n1 = z.n1; n2 = z.n2; n3 = z.n3; origins = part_length 1024 t.cells (omega (arith, z.cells)); targets = part_length 2048 t.cells (omega (arith, z.cells)); times = part_length 3072 t.cells (omega (arith, z.cells)); index = index-length t.cells z.cells; stack = length-take-le 9 t.opened (omega (arith, z.opened)) }

pub push-sized : (at b : ℕ) (t : Tree) (e : Entry) → Sized t → Sized (put_at at b t e)
push-sized at b t e z =
    record { opened = simp length-set z.opened; cells = simp length-set z.cells; visible = simp length-set z.visible; scopes = simp length-set z.scopes; marks = simp length-set z.marks; n0 = simp length-set z.n0; n1 = simp length-set z.n1; n2 = simp length-set z.n2; n3 = simp length-set z.n3 }

pub open_sized : (c d : ℕ) (t : Tree) → Sized t → Sized (opened_at c d t)
open_sized c d t z = record { opened = simp length-set z.opened; cells = z.cells; visible = z.visible; scopes = z.scopes; marks = z.marks; n0 = z.n0; n1 = z.n1; n2 = z.n2; n3 = z.n3 }

pub added-sized : (at : ℕ) (t : Tree) (e : Entry) → Sized t → Sized (added at t e)
unfolding added
added-sized at t e z = go e.opens
  where
    go : (b : Bool) → Sized (cond b (opened_at (at + 1) (get_or t.opened 10 0) (pushed_in at t e)) (pushed_in at t e))
    go true = open_sized _ _ (pushed_in at t e) (push-sized at _ t e z)
    go false = push-sized at _ t e z

-- THE LAWS: the writer in the view
pub push-view : (b : ℕ) (t : Tree) (e : Entry) → Sized t → get_or t.opened 9 0 < 1024
    → view (added_under b t e) ≡ pushed_under b (view t) e.kind e.visible e.scope e.mark e.name e.origin e.target e.moment
unfolding doors_of
push-view b t e z h =
    let at = get_or t.opened 9 0 in
    let count : get_or (set t.opened 9 (at + 1)) 9 0 ≡ at + 1 = get_or-set_same t.opened 9 (at + 1) 0 (omega (arith, z.opened)) in
    let depth : get_or (set t.opened 9 (at + 1)) 10 0 ≡ get_or t.opened 10 0 = get_or-set_other t.opened 9 10 (at + 1) 0 (λ q. omega arith) in
    let stack : take 9 (set t.opened 9 (at + 1)) ≡ take 9 t.opened = take-set-le 9 t.opened 9 (at + 1) (omega arith) in
    let ks = kinds-set t.cells at b e.kind e.origin e.target e.moment h in
    let os = origins-set t.cells at b e.kind e.origin e.target e.moment h in
    let ts = targets-set t.cells at b e.kind e.origin e.target e.moment h in
    let us = times-set t.cells at b e.kind e.origin e.target e.moment h in
    let xs = index-set t.cells at b e.kind e.origin e.target e.moment h in
    λ i. record {
      count = count i;
      kinds = ks i;
      visible = set t.visible at e.visible;
      scopes = set t.scopes at e.scope;
      marks = set t.marks at e.mark;
      n0 = set t.n0 at e.name.w0;
      n1 = set t.n1 at e.name.w1;
      n2 = set t.n2 at e.name.w2;
      n3 = set t.n3 at e.name.w3;
      origins = os i;
      targets = ts i;
      times = us i;
      index = xs i;
      depth = depth i;
      stack = stack i;
    }

pub open_view : (c : ℕ) (t : Tree) → Sized t → c ≡ get_or t.opened 9 0 → get_or t.opened 10 0 < 9 → view (opened_in c t) ≡ opened_last (view t)
unfolding doors_of
open_view c t z w h =
    let d = get_or t.opened 10 0 in
    let zs : length (set t.opened d c) ≡ 11 = simp length-set z.opened in
    let count : get_or (set (set t.opened d c) 10 (d + 1)) 9 0 ≡ get_or t.opened 9 0 =
    get_or-set_other (set t.opened d c) 10 9 (d + 1) 0 (λ q. omega arith) ∙ get_or-set_other t.opened d 9 c 0 (λ q. omega arith) in
    let depth : get_or (set (set t.opened d c) 10 (d + 1)) 10 0 ≡ d + 1 = get_or-set_same (set t.opened d c) 10 (d + 1) 0 (omega arith) in
    let stack : take 9 (set (set t.opened d c) 10 (d + 1)) ≡ set (take 9 t.opened) d (get_or t.opened 9 0) =
    take-set-le 9 (set t.opened d c) 10 (d + 1) (omega arith) ∙ take-set-lt 9 t.opened d c (omega arith) ∙ ap (λ (x : ℕ). set (take 9 t.opened) d x) w in
    λ i. record { count = count i; kinds = part 0 t.cells; visible = t.visible; scopes = t.scopes; marks = t.marks; n0 = t.n0; n1 = t.n1; n2 = t.n2; n3 = t.n3; origins = part 1024 t.cells; targets = part 2048 t.cells; times = part 3072 t.cells; index = index_of t.cells; depth = depth i; stack = stack i }

abbrev viewed : View → Entry → View
viewed v e = pushed v e.kind e.visible e.scope e.mark e.name e.origin e.target e.moment

pub shut-view : (at : ℕ) (t : Tree) (e : Entry) → at ≡ get_or t.opened 9 0 → Sized t → at < 1024 → e.opens ≡ false → view (added at t e) ≡ viewed (view t) e
unfolding added
shut-view at t e p z h o = rw (o, p) (push-view (free_slot (index_of t.cells) e.scope e.kind e.name) t e z (omega (arith, p)))

pub opened_view : (c : ℕ) (t : Tree) (e : Entry) → c ≡ get_or t.opened 9 0 → Sized t → c < 1024 → get_or t.opened 10 0 < 9 → e.opens ≡ true → view (added c t e) ≡ opened_last (viewed (view t) e)
unfolding added
opened_view c t e p z h d o =
    let at = get_or t.opened 9 0 in
    let depth : get_or (set t.opened 9 (at + 1)) 10 0 ≡ get_or t.opened 10 0 = get_or-set_other t.opened 9 10 (at + 1) 0 (λ q. omega arith) in
    let count : get_or (set t.opened 9 (at + 1)) 9 0 ≡ at + 1 = get_or-set_same t.opened 9 (at + 1) 0 (omega (arith, z.opened)) in
    rw (o, p)
    (ap (λ (d : ℕ). view (opened_at (at + 1) d (pushed_in at t e))) (sym depth)
    ∙ open_view (at + 1) (pushed_in at t e) (push-sized at _ t e z) (sym count) (omega (arith, depth))
    ∙ ap opened_last (push-view (free_slot (index_of t.cells) e.scope e.kind e.name) t e z (omega (arith, p))))

pub cleared-view : view cleared ≡ views.cleared
unfolding doors_of
cleared-view =
    let p : (p : ℕ) → p + 1024 ≤ 7168 → part p (replicate 7168 zero) ≡ replicate 1024 zero = λ p h. part-clear p 7168 h in
    let k = p 0 (omega arith) in
    let o = p 1024 (omega arith) in
    let t = p 2048 (omega arith) in
    let u = p 3072 (omega arith) in
    let x = index-clear in
    λ i. record { count = 0; kinds = k i; visible = replicate 1024 0; scopes = replicate 1024 0; marks = replicate 1024 0; n0 = replicate 1024 0; n1 = replicate 1024 0; n2 = replicate 1024 0; n3 = replicate 1024 0; origins = o i; targets = t i; times = u i; index = x i; depth = 0; stack = replicate 9 0 }

-- the open modules' scopes as the code reads them
pub stack-current : (o : List ℕ) (d : ℕ) → (d ≡ 0 → ⊥) → d ≤ 9 → get_or o (d - 1) 0 ≡ current_of (doors_of o) d
unfolding current_of doors_of
stack-current o d z h = rw (borrow.Author.Tests.ne_eqb d 0 z) (sym (get_or-take 9 o (d - 1) 0 (omega arith)))

pub door_get : (o : List ℕ) (i : ℕ) → i < 9 → get_or (doors_of o) i 0 ≡ get_or o i 0
unfolding doors_of
door_get o i h = get_or-take 9 o i 0 h

-- what is read of an array's part, for the tactics
pub ruleset parts = (part-get, part-past, index-get, stack-current, door_get)
