-- Each call's record is what the definition makes of the flat tree. Assumes nothing.
use Prim.Native.Nat.{ℕ, zero, suc, ◌+◌, ◌-◌, ◌≤◌, ◌<◌}
use native.Mathlib.Omega.{arith}
use Rattle.std.proofs.Math.Decide.{dec_lt, dec_le}
use Rattle.std.proofs.Common.{add-one, sym, ◌∙◌, length-append, get_or-set_other}
use Rattle.std.specs.Prelude.{◌≡◌, Bool, cond, ◌||◌, List, [], ◌∷◌, ◌++◌, eqb, get_or, set, Option, Some, None}
use Rattle.std.proofs.Math.Path.{refl, ap}
use Rattle.std.proofs.Math.Bool.{true, false}
use Rattle.std.proofs.Math.Dec.{ltb, leb}
use Rattle.std.proofs.Math.ListN.{length}
use Rattle.std.proofs.Math.Seq.{get_or-set_same}
use borrow.Author.Tests.{ne_eqb, lt-ltb, le-ltb, le-leb, lt-leb}
use Rattle.names.specs.declared.Name.{Name}
use Rattle.names.specs.Packed.{packed}
use Rattle.names.specs.Identifier.{is_identifier}
use Rattle.scope_tree.specs.Told.{Refused}
use Rattle.scope_tree.specs.Step.{declared, head, Call, enter, alias, enum, function, get_alias, get_function, bad, Answer, ok, refused, done, fail, is_got, told_mark, held, full, deep, fresh, settle, close, step}
use Rattle.scope_tree.specs.Flat.{Body, own, copy, Entry, Flat, flat, top, stack_names, pop, push}
use Rattle.scope_tree.specs.Form.{Request, enters, exits, inserts_alias, inserts_enum, inserts_function, gets_alias, gets_function, named, call_of}
use Rattle.scope_tree.specs.Rows.{length-tab, body_of, is_own, spotted, find_spot}
use Rattle.scope_tree.specs.Index.{spot_first}
use Rattle.scope_tree.specs.Nav.{stack_of, current-top, Doors}
use Rattle.scope_tree.specs.Staging.{is_at}
use Rattle.scope_tree.specs.Note.{accepted}
use Rattle.scope_tree.specs.Views.{View, ViewOutcome, ViewMeets, ViewAnswers, Added, bit_of, told, rows, entries_of, flat_of, Good, Sized, push_law, push-indexed, refusing, accepting, here_of, current_spot, declared_in, no_entry, added_of, ended, opened_last, mark_at, got_of}

pub length-names : (l : List Entry) (ss : List ℕ) → length (stack_names l ss) ≡ length ss
unfolding stack_names
length-names l [] = refl
length-names l (s ∷ ss) = length-append (stack_names l ss) _ ∙ add-one _ ∙ ap suc (length-names l ss)

pub length-stack : (a : List ℕ) (d : ℕ) → length (stack_of a d) ≡ d
unfolding stack_of
length-stack a zero = refl
length-stack a (suc d) = ap suc (length-stack a d)

-- the current module
pub found_here : (t : View) → Good t → (k : ℕ) (n : Name) → flat.find (flat.here (flat_of t)) k n ≡ spotted (rows t) t.count (current_spot t k n)
unfolding current_spot
found_here t g k n =
    rw (spot_first g.indexed g.small (here_of t) t.count k n (omega arith), current-top t.stack t.depth)
    (find_spot (rows t) t.count (top (stack_of t.stack t.depth)) k n)

spotted-got : (f : ℕ → Entry) (c : ℕ) (s : Option ℕ) → is_got (spotted f c s) ≡ is_at s
spotted-got f c None = refl
spotted-got f c (Some i) = refl

pub held-here : (t : View) → Good t → (k : ℕ) (n : Name) → held flat (flat_of t) k n ≡ is_at (current_spot t k n)
held-here t g k n = ap is_got (found_here t g k n) ∙ spotted-got (rows t) t.count (current_spot t k n)

told_spot : (t : View) (s : Option ℕ) → told (mark_at t s) ≡ told_mark (spotted (rows t) t.count s)
told_spot t None = refl
told_spot t (Some i) = refl

-- GET
got-step : (t : View) (s : List ℕ) (k : ℕ) → Good t → (f : Name → Call) → ((n : Name) → step flat (flat_of t) (f n) ≡ (flat_of t, told_mark (flat.find (flat.here (flat_of t)) k n)))
    → (flat_of t ≡ (step flat (flat_of t) (named s f)).0) × (told (got_of t s k) ≡ (step flat (flat_of t) (named s f)).1)
unfolding got_of step
got-step t s k g f h = go (is_identifier s)
  where
    go : (b : Bool) → (flat_of t ≡ (step flat (flat_of t) (cond b (f (packed s)) (bad 5))).0)
        × (told (cond b (cond (ltb 1024 t.count) (Refused 51) (cond (ltb 9 t.depth) (Refused 51) (mark_at t (current_spot t k (packed s))))) (Refused 5)) ≡ (step flat (flat_of t) (cond b (f (packed s)) (bad 5))).1)
    go false = (refl, refl)
    go true =
        rw (h (packed s), le-ltb 1024 t.count g.small, le-ltb 9 t.depth g.shallow)
        (refl, told_spot t (current_spot t k (packed s)) ∙ ap told_mark (sym (found_here t g k (packed s))))

pub got-alias : (t : View) (s : List ℕ) → ViewAnswers t (gets_alias s) (got_of t s 1)
unfolding call_of step
got-alias t s = record { tree = λ g. (got-step t s 1 g get_alias (λ n. refl)).0; answer = λ g. (got-step t s 1 g get_alias (λ n. refl)).1 }

pub got-function : (t : View) (s : List ℕ) → ViewAnswers t (gets_function s) (got_of t s 2)
unfolding call_of step
got-function t s = record { tree = λ g. (got-step t s 2 g get_function (λ n. refl)).0; answer = λ g. (got-step t s 2 g get_function (λ n. refl)).1 }

-- EXIT
abbrev pub popped : View → View
popped t =
    record { count = t.count; kinds = t.kinds; visible = t.visible; scopes = t.scopes; marks = t.marks; n0 = t.n0; n1 = t.n1; n2 = t.n2; n3 = t.n3; origins = t.origins; targets = t.targets; times = t.times; index = t.index; depth = t.depth - 1; stack = t.stack }

exit-names : (l : List Entry) (ss : List ℕ) (x : Flat) → (length ss ≡ 0 → ⊥) → close flat x (stack_names l ss) ≡ (flat.closed x, ok)
exit-names l ss x h = go (stack_names l ss) (length-names l ss)
  where
    go : (ns : List Name) → length ns ≡ length ss → close flat x ns ≡ (flat.closed x, ok)
    go [] e = absurd (h (sym e))
    go (n ∷ ns) e = refl

pub exit-root : (t : View) → t.depth ≡ 0 → ViewMeets t exits (refusing 50 t)
unfolding call_of step stack_of stack_names
exit-root t z =
    record {
      good = λ g. g;
      tree = λ g. rw z;
      answer = λ g. rw z;
      kept = λ e. refl;
    }

pub exit_module : (t : View) → (t.depth ≡ 0 → ⊥) → ViewMeets t exits (accepting (popped t))
unfolding call_of step stack_of
exit_module t z =
    record {
      good = λ g. record { small = g.small; shallow = omega (arith, g.shallow); doors = λ j l. g.doors j (omega arith); indexed = g.indexed };
      tree = λ g. sym (ap (λ (p : Flat × Answer). p.0) left ∙ pops t.depth z);
      answer = λ g. sym (ap (λ (p : Flat × Answer). p.1) left);
      kept = λ e. let y : ◌≡◌ {A = ℕ} 0 1 = cc in absurd (omega arith);
    }
  where
    left : close flat (flat_of t) (stack_names (entries_of t) (stack_of t.stack t.depth)) ≡ (flat.closed (flat_of t), ok)
    left = exit-names (entries_of t) (stack_of t.stack t.depth) (flat_of t) (λ e. z (sym (length-stack t.stack t.depth) ∙ e))

    pops : (d : ℕ) → (d ≡ 0 → ⊥) → pop (entries_of t) (stack_of t.stack d) ≡ record { entries = entries_of t; stack = stack_of t.stack (d - 1) }
    pops zero h = absurd (h refl)
    pops (suc d) h = let e : suc d - 1 ≡ d = omega arith in rw e

-- DECLARATIONS

-- how a declaration ends: refused with the tree as it was, or with an entry more
data Ends (t : View) (x : View) : Added → Type 0 where
  turned_down : (n : ℕ) → (n ≡ 0 → ⊥) → Ends t x (no_entry n t)
  taken_up : Ends t x (no_entry 0 x)

ends : (t : View) (s : List ℕ) (k twice : ℕ) (v : Bool) (m deepest : ℕ) → (twice ≡ 0 → ⊥) → Ends t (declared_in t k v m (packed s)) (added_of t s k twice v m deepest)
unfolding added_of
ends t s k twice v m deepest z = go (is_identifier s) (ltb 1024 t.count) (ltb 9 t.depth) (is_at (current_spot t k (packed s))) (leb 1024 t.count) (ltb deepest t.depth)
  where
    go : (a b c d e f : Bool) → Ends t (declared_in t k v m (packed s))
        (cond a (cond b (no_entry 51 t) (cond c (no_entry 51 t) (cond d (no_entry twice t) (cond e (no_entry 51 t) (cond f (no_entry 51 t) (no_entry 0 (declared_in t k v m (packed s)))))))) (no_entry 5 t))
    go false b c d e f = turned_down 5 (λ q. omega arith)
    go true true c d e f = turned_down 51 (λ q. omega arith)
    go true false true d e f = turned_down 51 (λ q. omega arith)
    go true false false true e f = turned_down twice z
    go true false false false true f = turned_down 51 (λ q. omega arith)
    go true false false false false true = turned_down 51 (λ q. omega arith)
    go true false false false false false = taken_up

ends-kept : (f : View → View) {t x : View} {a : Added} → Ends t x a → accepted (told (ended f a).answer) ≡ false → (ended f a).tree ≡ t
unfolding ended
ends-kept f (turned_down n z) e = rw (ne_eqb n 0 z)
ends-kept f taken_up e = let y : ◌≡◌ {A = ℕ} 0 1 = cc in absurd (omega arith)

full_is : (c : ℕ) → ltb 1024 (c + 1) ≡ leb 1024 c
full_is c = go (dec_le 1024 c)
  where
    go : Dec (1024 ≤ c) → ltb 1024 (c + 1) ≡ leb 1024 c
    go (yes h) = rw (le-leb 1024 c h, lt-ltb 1024 (c + 1) (omega arith))
    go (no h) = rw (lt-leb 1024 c (omega arith), le-ltb 1024 (c + 1) (omega arith))

module _ (t : View) (s : List ℕ) (k twice : ℕ) (v : Bool) (m deepest : ℕ) (nz : twice ≡ 0 → ⊥) (fin : View → View) (call : Name → Call) (y : Name → Flat)
    (steps : (n : Name) → step flat (flat_of t) (call n) ≡ settle flat (flat_of t) (fresh flat (flat_of t) k n twice (y n)))
    (fulls : (n : Name) → full flat (y n) ≡ leb 1024 t.count) (deeps : (n : Name) → Good t → deep flat (y n) ≡ ltb deepest t.depth)
    (made : (n : Name) → Good t → t.count < 1024 → t.depth ≤ deepest → flat_of (fin (declared_in t k v m n)) ≡ y n)
    (fine : (n : Name) → Good t → t.count < 1024 → t.depth ≤ deepest → Good (fin (declared_in t k v m n))) where
  result : ViewOutcome
  result = ended fin (added_of t s k twice v m deepest)

  abbrev Same : ViewOutcome → Call → Type 0
  Same r c = (flat_of r.tree ≡ (step flat (flat_of t) c).0) × (told r.answer ≡ (step flat (flat_of t) c).1)

  same : Good t → Same (ended fin (added_of t s k twice v m deepest)) (named s call)
  unfolding added_of ended step
  same g = go (is_identifier s)
    where
      last : (e f : Bool) → leb 1024 t.count ≡ e → ltb deepest t.depth ≡ f
          → (flat_of (ended fin (cond e (no_entry 51 t) (cond f (no_entry 51 t) (no_entry 0 (declared_in t k v m (packed s)))))).tree ≡ (cond {A = Flat × Answer} (e || f) (flat_of t, refused 51) (y (packed s), ok)).0)
          × (told (ended fin (cond e (no_entry 51 t) (cond f (no_entry 51 t) (no_entry 0 (declared_in t k v m (packed s)))))).answer ≡ (cond {A = Flat × Answer} (e || f) (flat_of t, refused 51) (y (packed s), ok)).1)
      last true f p q = (refl, refl)
      last false true p q = (refl, refl)
      last false false p q = (made (packed s) g (omega (arith, borrow.Author.Tests.leb-false 1024 t.count p)) (borrow.Author.Tests.ltb-false deepest t.depth q), refl)

      held? : (d : Bool)
          → (flat_of (ended fin (cond d (no_entry twice t) (cond (leb 1024 t.count) (no_entry 51 t) (cond (ltb deepest t.depth) (no_entry 51 t) (no_entry 0 (declared_in t k v m (packed s))))))).tree ≡ (settle flat (flat_of t) (cond d (fail twice) (done (y (packed s))))).0)
          × (told (ended fin (cond d (no_entry twice t) (cond (leb 1024 t.count) (no_entry 51 t) (cond (ltb deepest t.depth) (no_entry 51 t) (no_entry 0 (declared_in t k v m (packed s))))))).answer ≡ (settle flat (flat_of t) (cond d (fail twice) (done (y (packed s))))).1)
      held? true = rw (ne_eqb twice 0 nz) (refl, refl)
      held? false = rw (fulls (packed s), deeps (packed s) g) (last (leb 1024 t.count) (ltb deepest t.depth) refl refl)

      go : (b : Bool)
          → (flat_of (ended fin (cond b (cond (ltb 1024 t.count) (no_entry 51 t) (cond (ltb 9 t.depth) (no_entry 51 t) (cond (is_at (current_spot t k (packed s))) (no_entry twice t) (cond (leb 1024 t.count) (no_entry 51 t) (cond (ltb deepest t.depth) (no_entry 51 t) (no_entry 0 (declared_in t k v m (packed s)))))))) (no_entry 5 t))).tree ≡ (step flat (flat_of t) (cond b (call (packed s)) (bad 5))).0)
          × (told (ended fin (cond b (cond (ltb 1024 t.count) (no_entry 51 t) (cond (ltb 9 t.depth) (no_entry 51 t) (cond (is_at (current_spot t k (packed s))) (no_entry twice t) (cond (leb 1024 t.count) (no_entry 51 t) (cond (ltb deepest t.depth) (no_entry 51 t) (no_entry 0 (declared_in t k v m (packed s)))))))) (no_entry 5 t))).answer ≡ (step flat (flat_of t) (cond b (call (packed s)) (bad 5))).1)
      go false = (refl, refl)
      go true =
          rw (le-ltb 1024 t.count g.small, le-ltb 9 t.depth g.shallow, steps (packed s), held-here t g k (packed s))
          (held? (is_at (current_spot t k (packed s))))

  fine-result : Good t → Good (ended fin (added_of t s k twice v m deepest)).tree
  unfolding added_of ended
  fine-result g = go (is_identifier s) (is_at (current_spot t k (packed s))) (leb 1024 t.count) (ltb deepest t.depth) refl refl
    where
      go : (a d e f : Bool) → leb 1024 t.count ≡ e → ltb deepest t.depth ≡ f → Good (ended fin (cond a (cond (ltb 1024 t.count) (no_entry 51 t) (cond (ltb 9 t.depth) (no_entry 51 t) (cond d (no_entry twice t) (cond e (no_entry 51 t) (cond f (no_entry 51 t) (no_entry 0 (declared_in t k v m (packed s)))))))) (no_entry 5 t))).tree
      go false d e f p q = g
      go true true e f p q = rw (le-ltb 1024 t.count g.small, le-ltb 9 t.depth g.shallow, ne_eqb twice 0 nz) g
      go true false true f p q = rw (le-ltb 1024 t.count g.small, le-ltb 9 t.depth g.shallow) g
      go true false false true p q = rw (le-ltb 1024 t.count g.small, le-ltb 9 t.depth g.shallow) g
      go true false false false p q =
          rw (le-ltb 1024 t.count g.small, le-ltb 9 t.depth g.shallow)
          (fine (packed s) g (omega (arith, borrow.Author.Tests.leb-false 1024 t.count p)) (borrow.Author.Tests.ltb-false deepest t.depth q))

  meets : (q : Request) → call_of q ≡ named s call → ViewMeets t q (ended fin (added_of t s k twice v m deepest))
  meets q e =
      record {
        good = fine-result;
        tree = λ g. rw e (same g).0;
        answer = λ g. rw e (same g).1;
        kept = ends-kept fin (ends t s k twice v m deepest nz);
      }

bit_is : (v : Bool) → eqb (bit_of v) 1 ≡ v
bit_is true = refl
bit_is false = refl

push-full : (t : View) (e : Entry) → ltb 1024 (length (entries_of t ++ (e ∷ []))) ≡ leb 1024 t.count
push-full t e = rw (length-append (entries_of t) (e ∷ []), length-tab (rows t) t.count) (full_is t.count)

push-doors : (t : View) → Good t → Doors t.stack t.depth (t.count + 1)
push-doors t g j l = ((g.doors j l).0, omega (arith, (g.doors j l).1))

-- the entry pushed is the definition's
push-same : (t : View) (k : ℕ) (v : Bool) (m : ℕ) (n : Name) (b : Body) → Sized t → t.count < 1024 → body_of k 0 0 0 ≡ b
    → entries_of (declared_in t k v m n) ≡ push (flat_of t) (head k n v m declared) b
push-same t k v m n b z l q = push_law t k (bit_of v) (here_of t) m n 0 0 0 z l ∙ rw (bit_is v, current-top t.stack t.depth, q)

module _ (t : View) (s : List ℕ) (v : Bool) (m : ℕ) (z : Sized t) where
  item : (k twice : ℕ) → (twice ≡ 0 → ⊥) → body_of k 0 0 0 ≡ copy 0 0 → (call : Name → Call)
      → ((n : Name) → step flat (flat_of t) (call n) ≡ settle flat (flat_of t) (fresh flat (flat_of t) k n twice (flat.add (flat_of t) (head k n v m declared) flat.empty)))
      → (q : Request) → call_of q ≡ named s call → ViewMeets t q (ended (λ x. x) (added_of t s k twice v m 9))
  item k twice nz b call st q e =
      meets t s k twice v m 9 nz (λ x. x) call (λ n. flat.add (flat_of t) (head k n v m declared) flat.empty) st
      (λ n. push-full t _)
      (λ n g. rw (length-names, length-stack))
      (λ n g l d. ap (λ (es : List Entry). record { entries = es; stack = stack_of t.stack t.depth }) (push-same t k v m n (copy 0 0) z l b))
      (λ n g l d. record { small = omega arith; shallow = g.shallow; doors = push-doors t g; indexed = push-indexed t k (bit_of v) (here_of t) m n 0 0 0 z l g.indexed })
      q e

  pub alias_meets : ViewMeets t (inserts_alias s v m) (ended (λ x. x) (added_of t s 1 48 v m 9))
  unfolding call_of step is_own
  alias_meets = item 1 48 (λ e. omega arith) refl (λ n. alias n v m) (λ n. refl) (inserts_alias s v m) refl

  pub enum_meets : ViewMeets t (inserts_enum s v m) (ended (λ x. x) (added_of t s 1 48 v m 9))
  unfolding call_of step is_own
  enum_meets = item 1 48 (λ e. omega arith) refl (λ n. enum n v m) (λ n. refl) (inserts_enum s v m) refl

  pub function_meets : ViewMeets t (inserts_function s v m) (ended (λ x. x) (added_of t s 2 49 v m 9))
  unfolding call_of step is_own
  function_meets = item 2 49 (λ e. omega arith) refl (λ n. function n v m) (λ n. refl) (inserts_function s v m) refl

  stack_set : (a : List ℕ) (d i x : ℕ) → d ≤ i → stack_of (set a i x) d ≡ stack_of a d
  unfolding stack_of
  stack_set a zero i x h = refl
  stack_set a (suc d) i x h =
      let ne : d ≡ i → ⊥ = λ e. omega arith in
      rw (get_or-set_other a i d x 0 ne, stack_set a d i x (omega arith))

  stack-more : (d x : ℕ) → d < 9 → stack_of (set t.stack d x) (d + 1) ≡ x ∷ stack_of t.stack d
  unfolding stack_of
  stack-more d x h =
      let l : d < length t.stack = omega (arith, z.stack) in
      rw (add-one, get_or-set_same t.stack d x 0 l, stack_set t.stack d d x (omega arith))

  deeper : (d : ℕ) → ltb 9 (suc d) ≡ ltb 8 d
  deeper d = go (dec_lt 8 d)
    where
      go : Dec (8 < d) → ltb 9 (suc d) ≡ ltb 8 d
      go (yes h) = rw (lt-ltb 8 d h, lt-ltb 9 (suc d) (omega arith))
      go (no h) = rw (le-ltb 8 d (omega arith), le-ltb 9 (suc d) (omega arith))

  opened-good : (n : Name) → Good t → t.count < 1024 → t.depth ≤ 8 → Good (opened_last (declared_in t 3 v m n))
  opened-good n g l d =
      record {
        small = omega arith;
        shallow = omega arith;
        doors = λ j h. door j h (dec_lt j t.depth);
        indexed = push-indexed t 3 (bit_of v) (here_of t) m n 0 0 0 z l g.indexed;
      }
    where
      door : (j : ℕ) → j < t.depth + 1 → Dec (j < t.depth) → (0 < get_or (set t.stack t.depth (t.count + 1)) j 0) × (get_or (set t.stack t.depth (t.count + 1)) j 0 ≤ t.count + 1)
      door j h (yes b) =
          let ne : j ≡ t.depth → ⊥ = λ e. omega arith in
          rw (get_or-set_other t.stack t.depth j (t.count + 1) 0 ne) (push-doors t g j b)
      door j h (no b) =
          let e : j ≡ t.depth = omega arith in
          let w : t.depth < length t.stack = omega (arith, z.stack) in
          rw (e, get_or-set_same t.stack t.depth (t.count + 1) 0 w) (omega arith, omega arith)

  pub enter_meets : ViewMeets t (enters s v m) (ended opened_last (added_of t s 3 47 v m 8))
  unfolding call_of step is_own stack_names
  enter_meets =
      meets t s 3 47 v m 8 (λ e. omega arith) opened_last (λ n. enter n v m) (λ n. flat.opened (flat_of t) (head 3 n v m declared)) (λ n. refl)
      (λ n. push-full t _)
      (λ n g. rw (length-names, length-stack) (deeper t.depth))
      (λ n g l d.
      let e : entries_of (declared_in t 3 v m n) ≡ push (flat_of t) (head 3 n v m declared) own = push-same t 3 v m n own z l refl in
      let x : t.count + 1 ≡ suc (length (entries_of t)) = rw length-tab (add-one t.count) in
      let u : stack_of (set t.stack t.depth (t.count + 1)) (t.depth + 1) ≡ suc (length (entries_of t)) ∷ stack_of t.stack t.depth = stack-more t.depth (t.count + 1) (omega arith) ∙ ap (λ (y : ℕ). y ∷ stack_of t.stack t.depth) x in
      λ i. record { entries = e i; stack = u i })
      opened-good
      (enters s v m) refl
