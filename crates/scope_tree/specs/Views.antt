-- A tree seen as a count, a stack and thirteen arrays: what the calls make of it, and the flat tree that it is. Assumes nothing.
use Rattle.std.specs.Prelude.{ℕ, zero, suc, ◌+◌, ◌≤◌, ◌<◌, ◌≡◌, refl, Bool, true, false, cond, List, [], ◌∷◌, ◌++◌, eqb, ltb, leb, length, get_or, set, replicate, Option, Some, None}
use Rattle.std.proofs.Common.{arith, add-one, ap, sym, ◌∙◌, append_assoc, append-nil, length-set, get_or-set_same, get_or-set_other}
use Rattle.std.proofs.Math.Path.{subst}
use Rattle.names.specs.declared.Name.{Name}
use Rattle.names.specs.Packed.{packed}
use Rattle.names.specs.Identifier.{is_identifier}
use Rattle.scope_tree.specs.Told.{Told, Done, Mark, Refused}
use Rattle.scope_tree.specs.Step.{Answer, ok, marked, refused, step}
use Rattle.scope_tree.specs.Flat.{Entry, Flat, flat}
use Rattle.scope_tree.specs.Form.{Request, call_of}
use Rattle.scope_tree.specs.Note.{accepted}
use Rattle.scope_tree.specs.Rows.{tab, tab_agree, Arrays, row, row_at, name_at}
use Rattle.scope_tree.specs.Index.{bucket, bucket-below, mix, turn, turn_below, reach, free_slot, look_up, start_at, way_at, Walked, walked_agree, walked_more, IndexOf}
use Rattle.scope_tree.specs.Nav.{stack_of, current_of, Doors}
use Rattle.scope_tree.specs.Staging.{Staged, is_at}

-- THE VIEW of a tree: entries in the order made, the index (specs/Index.antt), and the scopes of the open modules, outermost first
pub record View : Type 0 where
  pub count : ℕ
  -- 1 type, 2 function, 3 module
  pub kinds : List ℕ
  -- 0 private, 1 public
  pub visible : List ℕ
  pub scopes : List ℕ
  pub marks : List ℕ
  pub n0 : List ℕ
  pub n1 : List ℕ
  pub n2 : List ℕ
  pub n3 : List ℕ
  -- 0 for a declaration, i + 1 for a copy of entry i
  pub origins : List ℕ
  -- what is inside a copy: that scope, among the first so many entries
  pub targets : List ℕ
  pub times : List ℕ
  pub index : List ℕ
  pub depth : ℕ
  pub stack : List ℕ

-- an answer, with what was left
pub record ViewOutcome : Type 0 where
  pub answer : Told
  pub tree : View

-- 1,024 cleared places, no module open
abbrev pub cleared : View
cleared =
    record { count = 0; kinds = replicate 1024 0; visible = replicate 1024 0; scopes = replicate 1024 0; marks = replicate 1024 0; n0 = replicate 1024 0; n1 = replicate 1024 0; n2 = replicate 1024 0; n3 = replicate 1024 0; origins = replicate 1024 0; targets = replicate 1024 0; times = replicate 1024 0; index = replicate 3072 0; depth = 0; stack = replicate 9 0 }

abbrev pub bit_of : Bool → ℕ
bit_of true = 1
bit_of false = 0

-- an answer's number; its place is 0
abbrev pub told : Told → Answer
told Done = ok
told (Mark m) = marked m
told (Refused n) = refused n

-- THE FLAT TREE OF A RECORD
abbrev pub arrays_of : View → Arrays
arrays_of t =
    record { kinds = t.kinds; visible = t.visible; scopes = t.scopes; marks = t.marks; n0 = t.n0; n1 = t.n1; n2 = t.n2; n3 = t.n3; origins = t.origins; targets = t.targets; times = t.times; index = t.index }

abbrev pub rows : View → ℕ → Entry
rows t = row_at (arrays_of t)

abbrev pub entries_of : View → List Entry
entries_of t = tab (rows t) t.count

abbrev pub flat_of : View → Flat
flat_of t = record { entries = entries_of t; stack = stack_of t.stack t.depth }

-- what holds of every tree that calls from the empty one left
pub record Good (t : View) : Type 0 where
  pub small : t.count ≤ 1024
  pub shallow : t.depth ≤ 9
  pub doors : Doors t.stack t.depth t.count
  pub indexed : IndexOf (arrays_of t) t.count

-- the arrays have their lengths
pub record Sized (t : View) : Type 0 where
  pub kinds : length t.kinds ≡ 1024
  pub visible : length t.visible ≡ 1024
  pub scopes : length t.scopes ≡ 1024
  pub marks : length t.marks ≡ 1024
  pub n0 : length t.n0 ≡ 1024
  pub n1 : length t.n1 ≡ 1024
  pub n2 : length t.n2 ≡ 1024
  pub n3 : length t.n3 ≡ 1024
  pub origins : length t.origins ≡ 1024
  pub targets : length t.targets ≡ 1024
  pub times : length t.times ≡ 1024
  pub index : length t.index ≡ 3072
  pub stack : length t.stack ≡ 9

-- AN ENTRY MORE
-- in the slot b
abbrev pub pushed_under : ℕ → View → ℕ → ℕ → ℕ → ℕ → Name → ℕ → ℕ → ℕ → View
pushed_under b t k v s m n o a u =
    record {
      count = t.count + 1;
      kinds = set t.kinds t.count k;
      visible = set t.visible t.count v;
      scopes = set t.scopes t.count s;
      marks = set t.marks t.count m;
      n0 = set t.n0 t.count n.w0;
      n1 = set t.n1 t.count n.w1;
      n2 = set t.n2 t.count n.w2;
      n3 = set t.n3 t.count n.w3;
      origins = set t.origins t.count o;
      targets = set t.targets t.count a;
      times = set t.times t.count u;
      index = set t.index b (t.count + 1);
      depth = t.depth;
      stack = t.stack;
    }

-- kind, visibility, scope, mark, name, origin, from scope, from time
abbrev pub pushed : View → ℕ → ℕ → ℕ → ℕ → Name → ℕ → ℕ → ℕ → View
pushed t k v s m n o a u = pushed_under (free_slot t.index s k n) t k v s m n o a u

same_set : (xs : List ℕ) (i a : ℕ) → length xs ≡ 1024 → i < 1024 → get_or (set xs i a) i 0 ≡ a
same_set xs i a z l = get_or-set_same xs i a 0 (rw z l)

module _ (t : View) (k v s m : ℕ) (n : Name) (o a u : ℕ) where
  below : (i : ℕ) → i < t.count → rows (pushed t k v s m n o a u) i ≡ rows t i
  below i l =
      let ne : i ≡ t.count → ⊥ = λ e. omega arith in
      simp get_or-set_other

  at_last : Sized t → t.count < 1024 → rows (pushed t k v s m n o a u) t.count ≡ row k v s m n o a u
  at_last z l =
      simp (same_set t.kinds t.count k z.kinds l, same_set t.visible t.count v z.visible l, same_set t.scopes t.count s z.scopes l, same_set t.marks t.count m z.marks l, same_set t.n0 t.count n.w0 z.n0 l, same_set t.n1 t.count n.w1 z.n1 l, same_set t.n2 t.count n.w2 z.n2 l, same_set t.n3 t.count n.w3 z.n3 l, same_set t.origins t.count o z.origins l, same_set t.targets t.count a z.targets l, same_set t.times t.count u z.times l)

  pub push_law : Sized t → t.count < 1024 → entries_of (pushed t k v s m n o a u) ≡ entries_of t ++ (row k v s m n o a u ∷ [])
  unfolding tab
  push_law z l = rw (add-one, tab_agree (rows (pushed t k v s m n o a u)) (rows t) t.count below, at_last z l)

  pub push-sized : Sized t → Sized (pushed t k v s m n o a u)
  push-sized z =
      record {
        kinds = simp length-set z.kinds;
        visible = simp length-set z.visible;
        scopes = simp length-set z.scopes;
        marks = simp length-set z.marks;
        n0 = simp length-set z.n0;
        n1 = simp length-set z.n1;
        n2 = simp length-set z.n2;
        n3 = simp length-set z.n3;
        origins = simp length-set z.origins;
        targets = simp length-set z.targets;
        times = simp length-set z.times;
        index = simp length-set z.index;
        stack = z.stack;
      }

  -- where the walks of the entries begin, and their bits: those before it have theirs
  abbrev pub start_after : ℕ → ℕ
  start_after i = let r = pushed t k v s m n o a u in start_at r.scopes r.kinds r.n0 r.n1 r.n2 r.n3 i

  abbrev pub way_after : ℕ → ℕ → ℕ
  way_after i = let r = pushed t k v s m n o a u in way_at r.scopes r.kinds r.n0 r.n1 r.n2 r.n3 i

  pub start-kept : (i : ℕ) → i < t.count → start_after i ≡ start_at t.scopes t.kinds t.n0 t.n1 t.n2 t.n3 i
  start-kept i h =
      let ne : i ≡ t.count → ⊥ = λ e. omega arith in
      simp get_or-set_other

  pub way-kept : (i : ℕ) → i < t.count → way_after i ≡ way_at t.scopes t.kinds t.n0 t.n1 t.n2 t.n3 i
  way-kept i h =
      let ne : i ≡ t.count → ⊥ = λ e. omega arith in
      simp get_or-set_other

  module _ (z : Sized t) (l : t.count < 1024) where
    pub start-last : start_after t.count ≡ bucket s k n
    start-last =
        simp (same_set t.kinds t.count k z.kinds l, same_set t.scopes t.count s z.scopes l, same_set t.n0 t.count n.w0 z.n0 l, same_set t.n1 t.count n.w1 z.n1 l, same_set t.n2 t.count n.w2 z.n2 l, same_set t.n3 t.count n.w3 z.n3 l)

    pub way-last : way_after t.count ≡ turn s k n
    way-last =
        simp (same_set t.kinds t.count k z.kinds l, same_set t.scopes t.count s z.scopes l, same_set t.n0 t.count n.w0 z.n0 l, same_set t.n1 t.count n.w1 z.n1 l, same_set t.n2 t.count n.w2 z.n2 l, same_set t.n3 t.count n.w3 z.n3 l)

    -- the index holds the entry too
    pub push-indexed : IndexOf (arrays_of t) t.count → IndexOf (arrays_of (pushed t k v s m n o a u)) (t.count + 1)
    unfolding free_slot
    push-indexed w =
        let w' = walked_agree t.index (start_at t.scopes t.kinds t.n0 t.n1 t.n2 t.n3) start_after (way_at t.scopes t.kinds t.n0 t.n1 t.n2 t.n3) way_after t.count start-kept way-kept w.walked in
        let g = walked_more t.index start_after way_after t.count z.index l (rw start-last (bucket-below s k n)) (rw way-last (turn_below (mix s k n) s k n)) w' in
        let h : Walked (set t.index (reach t.index (turn s k n) 1024 0 (bucket s k n)) (suc t.count)) start_after way_after (suc t.count) =
        subst (λ (x : ℕ). Walked (set t.index x (suc t.count)) start_after way_after (suc t.count)) (λ j. reach t.index (way-last j) 1024 0 (start-last j)) g in
        record { walked = subst (λ (x : ℕ). Walked (set t.index (reach t.index (turn s k n) 1024 0 (bucket s k n)) x) start_after way_after x) (sym (add-one t.count)) h }

-- DECLARATIONS
abbrev pub refusing : ℕ → View → ViewOutcome
refusing n t = record { answer = Refused n; tree = t }

abbrev pub accepting : View → ViewOutcome
accepting t = record { answer = Done; tree = t }

abbrev pub here_of : View → ℕ
here_of t = current_of t.stack t.depth

-- the entry of a kind and a name in the current module
unfoldable pub current_spot : View → ℕ → Name → Option ℕ
current_spot t k n = look_up (arrays_of t) (here_of t) t.count k n

abbrev pub declared_in : View → ℕ → Bool → ℕ → Name → View
declared_in t k v m n = pushed t k (bit_of v) (here_of t) m n 0 0 0

-- a call's number, or 0, and the tree that it left
pub record Added : Type 0 where
  pub number : ℕ
  pub tree : View

abbrev pub no_entry : ℕ → View → Added
no_entry n t = record { number = n; tree = t }

-- name form, record, held name, place
unfoldable pub added_of : View → List ℕ → ℕ → ℕ → Bool → ℕ → ℕ → Added
added_of t s k twice v m deepest =
    cond (is_identifier s)
    (cond (ltb 1024 t.count) (no_entry 51 t)
    (cond (ltb 9 t.depth) (no_entry 51 t)
    (cond (is_at (current_spot t k (packed s))) (no_entry twice t)
    (cond (leb 1024 t.count) (no_entry 51 t)
    (cond (ltb deepest t.depth) (no_entry 51 t) (no_entry 0 (declared_in t k v m (packed s))))))))
    (no_entry 5 t)

-- the answer, and the tree with its last step
unfoldable pub ended : (View → View) → Added → ViewOutcome
ended fin a = cond (eqb a.number 0) (accepting (fin a.tree)) (refusing a.number a.tree)

-- the last entry opened
abbrev pub opened_last : View → View
opened_last t =
    record { count = t.count; kinds = t.kinds; visible = t.visible; scopes = t.scopes; marks = t.marks; n0 = t.n0; n1 = t.n1; n2 = t.n2; n3 = t.n3; origins = t.origins; targets = t.targets; times = t.times; index = t.index; depth = t.depth + 1; stack = set t.stack t.depth t.count }

abbrev pub mark_at : View → Option ℕ → Told
mark_at t None = Refused 43
mark_at t (Some i) = Mark (get_or t.marks i 0)

unfoldable pub got_of : View → List ℕ → ℕ → Told
got_of t s k =
    cond (is_identifier s)
    (cond (ltb 1024 t.count) (Refused 51) (cond (ltb 9 t.depth) (Refused 51) (mark_at t (current_spot t k (packed s)))))
    (Refused 5)

-- COMMITS: the first n staged entries
unfoldable pub committed : View → Staged → ℕ → ℕ → ℕ → View
committed t s h v zero = t
committed t s h v (suc n) =
    pushed (committed t s h v n) (get_or s.kinds n 0) v h (get_or s.marks n 0) (name_at s.n0 s.n1 s.n2 s.n3 n) (get_or s.origins n 0) (get_or s.targets n 0) (get_or s.times n 0)

-- a staged entry
abbrev pub staged_row : ℕ → ℕ → Staged → ℕ → Entry
staged_row v h s n =
    row (get_or s.kinds n 0) v h (get_or s.marks n 0) (name_at s.n0 s.n1 s.n2 s.n3 n) (get_or s.origins n 0) (get_or s.targets n 0) (get_or s.times n 0)

pub record Committed (t : View) (s : Staged) (h v n : ℕ) : Type 0 where
  pub count : (committed t s h v n).count ≡ t.count + n
  pub depth : (committed t s h v n).depth ≡ t.depth
  pub stack : (committed t s h v n).stack ≡ t.stack
  pub sized : Sized (committed t s h v n)
  pub entries : entries_of (committed t s h v n) ≡ entries_of t ++ tab (staged_row v h s) n
  pub indexed : IndexOf (arrays_of t) t.count → IndexOf (arrays_of (committed t s h v n)) (committed t s h v n).count

pub commits : (t : View) (s : Staged) (h v n : ℕ) → Sized t → t.count + n ≤ 1024 → Committed t s h v n
unfolding committed tab
commits t s h v zero z l = record { count = sym (native.Mathlib.Nat.add-zero t.count); depth = refl; stack = refl; sized = z; entries = sym (append-nil (entries_of t)); indexed = λ w. w }
commits t s h v (suc n) z l =
    let c = commits t s h v n z (omega arith) in
    let x = committed t s h v n in
    let p = push_law x (get_or s.kinds n 0) v h (get_or s.marks n 0) (name_at s.n0 s.n1 s.n2 s.n3 n) (get_or s.origins n 0) (get_or s.targets n 0) (get_or s.times n 0) c.sized (omega (arith, c.count)) in
    record {
      count = omega (arith, c.count);
      depth = c.depth;
      stack = c.stack;
      sized = push-sized x (get_or s.kinds n 0) v h (get_or s.marks n 0) (name_at s.n0 s.n1 s.n2 s.n3 n) (get_or s.origins n 0) (get_or s.targets n 0) (get_or s.times n 0) c.sized;
      entries = p ∙ rw (c.entries, append_assoc);
      indexed = λ w. push-indexed x (get_or s.kinds n 0) v h (get_or s.marks n 0) (name_at s.n0 s.n1 s.n2 s.n3 n) (get_or s.origins n 0) (get_or s.targets n 0) (get_or s.times n 0) c.sized (omega (arith, c.count)) (c.indexed w);
    }

-- a call that gives a tree back: on a good view the answer and the view are the definition's, and on any a refusal gives it back
pub record ViewMeets (t : View) (q : Request) (r : ViewOutcome) : Type 0 where
  pub good : Good t → Good r.tree
  pub tree : Good t → flat_of r.tree ≡ (step flat (flat_of t) (call_of q)).0
  pub answer : Good t → told r.answer ≡ (step flat (flat_of t) (call_of q)).1
  pub kept : accepted (told r.answer) ≡ false → r.tree ≡ t

-- a call that only asks
pub record ViewAnswers (t : View) (q : Request) (r : Told) : Type 0 where
  pub tree : Good t → flat_of t ≡ (step flat (flat_of t) (call_of q)).0
  pub answer : Good t → told r ≡ (step flat (flat_of t) (call_of q)).1

-- AS THE CODE HAS IT
pub ended_no : (f : View → View) (a : Added) → (a.number ≡ 0 → ⊥) → refusing a.number a.tree ≡ ended f a
unfolding ended
ended_no f a z = rw (borrow.Author.Tests.ne_eqb a.number 0 z)

pub ended_yes : (f : View → View) (a : Added) → a.number ≡ 0 → accepting (f a.tree) ≡ ended f a
unfolding ended
ended_yes f a z = rw (borrow.Author.Tests.eq-eqb a.number 0 z)

abbrev spot_at : View → ℕ → ℕ → Name → Option ℕ
spot_at t h k n = look_up (arrays_of t) h t.count k n

module _ (t : View) (s : List ℕ) (k : ℕ) {b : Bool} (i : b ≡ is_identifier s) where
  pub get-bad : b ≡ false → Refused 5 ≡ got_of t s k
  unfolding got_of
  get-bad z = rw (← i, z)

  module _ (y : b ≡ true) where
    pub get-many : 1024 < t.count → Refused 51 ≡ got_of t s k
    unfolding got_of
    get-many c = rw (← i, y, borrow.Author.Tests.lt-ltb 1024 t.count c)

    module _ (c : t.count ≤ 1024) where
      pub get-deep : 9 < t.depth → Refused 51 ≡ got_of t s k
      unfolding got_of
      get-deep d = rw (← i, y, borrow.Author.Tests.le-ltb 1024 t.count c, borrow.Author.Tests.lt-ltb 9 t.depth d)

      pub get-found : t.depth ≤ 9 → (n : Name) → n ≡ packed s → (h : ℕ) → h ≡ here_of t → (o : Option ℕ) → o ≡ spot_at t h k n → mark_at t o ≡ got_of t s k
      unfolding got_of current_spot
      get-found d n q h w o e =
          let f : o ≡ current_spot t k (packed s) = e ∙ rw (w, q) in
          rw (← i, y, borrow.Author.Tests.le-ltb 1024 t.count c, borrow.Author.Tests.le-ltb 9 t.depth d) (ap (mark_at t) f)
