-- HOW DEEP A TREE IS, whatever the calls that left it: a module lies at most 9 deep, there are at most 1,024 entries, and what holds of
-- each declared kind and mark holds of every entry's. Assumes nothing.
use Prim.Native.Nat.{ℕ, zero, suc, ◌+◌, ◌≤◌, ◌<◌}
use Rattle.std.proofs.Common.{arith, sym, ⊎_elim, take-append-drop, ltb-false}
use Rattle.std.specs.Prelude.{◌≡◌, Bool, cond, not, ◌||◌, ◌&&◌, eqb, take, drop, get_or}
use Rattle.std.proofs.Math.Path.{refl, subst}
use Rattle.std.proofs.Math.Bool.{true, false}
use mathlib.Core.List.Memᴰ
use mathlib.Core.List.{List, [], ◌∷◌, ◌++◌, Memᴰ}
use Rattle.std.proofs.Math.ListN.{length, length-append}
use Rattle.names.specs.declared.Name.{Name}
use Rattle.scope_tree.specs.Step.{declared, used, Head, Elem, Call, enter, exit, alias, enum, function, use', get_alias, get_function, bad, Answer, ok, refused, Found, missing, got, Tried, done, fail, head, held, full, deep, settle, close, step, run}
use Rattle.scope_tree.specs.Flat.{Body, own, copy, Entry, Flat, Place, inside, look, top, none, stack_names, pop, push, flat, first_flat, flattened}
use Rattle.scope_tree.specs.Register.{is}
use Rattle.scope_tree.specs.Note.{inner, along, bring, bring_all, use_bring, fresh-done}

-- AT MOST d STEPS OUTWARD lead from the scope s to the root: the scope suc i is the module at entry i, which lies in that entry's scope
unfoldable pub Within : ℕ → List Entry → ℕ → Type 0
Within zero l zero = Unit {0}
Within zero l (suc i) = ⊥
Within (suc d) l zero = Unit {0}
Within (suc d) l (suc i) = (i < length l) × Within d l (get_or l i none).scope

within_more : (d : ℕ) (l ys : List Entry) (s : ℕ) → Within d l s → Within d (l ++ ys) s
unfolding Within
within_more zero l ys zero w = tt
within_more zero l ys (suc i) w = w
within_more (suc d) l ys zero w = tt
within_more (suc d) l ys (suc i) w =
    (omega (arith, length-append l ys, w.0), subst (λ (e : Entry). Within d (l ++ ys) e.scope) (sym (front l i w.0)) (within_more d l ys (get_or l i none).scope w.1))
  where
    front : (l : List Entry) (i : ℕ) → i < length l → get_or (l ++ ys) i none ≡ get_or l i none
    front [] i h = absurd (omega arith)
    front (e ∷ l) zero h = refl
    front (e ∷ l) (suc i) h = front l i (omega arith)

within-le : (d k : ℕ) (l : List Entry) (s : ℕ) → d ≤ k → Within d l s → Within k l s
unfolding Within
within-le zero zero l zero h w = tt
within-le zero (suc k) l zero h w = tt
within-le zero k l (suc i) h w = absurd w
within-le (suc d) zero l zero h w = tt
within-le (suc d) (suc k) l zero h w = tt
within-le (suc d) zero l (suc i) h w = absurd (omega arith)
within-le (suc d) (suc k) l (suc i) h w = (w.0, within-le d k l (get_or l i none).scope (omega arith) w.1)

-- the open modules: the innermost lies as deep as they are many
unfoldable pub Nested : List Entry → List ℕ → Type 0
Nested l [] = Unit {0}
Nested l (s ∷ ss) = Within (suc (length ss)) l s × Nested l ss

nested-more : (l ys : List Entry) (ss : List ℕ) → Nested l ss → Nested (l ++ ys) ss
unfolding Nested
nested-more l ys [] n = tt
nested-more l ys (s ∷ ss) n = (within_more (suc (length ss)) l ys s n.0, nested-more l ys ss n.1)

nested-top : (l : List Entry) (ss : List ℕ) → Nested l ss → Within (length ss) l (top ss)
unfolding Nested Within
nested-top l [] n = tt
nested-top l (s ∷ ss) n = n.0

nested-none : (l : List Entry) → Nested l []
unfolding Nested
nested-none l = tt

nested-rest : (l : List Entry) (s : ℕ) (ss : List ℕ) → Nested l (s ∷ ss) → Nested l ss
unfolding Nested
nested-rest l s ss n = n.1

last_entry : (l : List Entry) (e : Entry) → get_or (l ++ (e ∷ [])) (length l) none ≡ e
last_entry [] e = refl
last_entry (x ∷ l) e = last_entry l e

-- WHAT EVERY ENTRY SHOWS: P of its kind and mark
module _ (P : ℕ → ℕ → Type 0) where
  abbrev pub Shown : Head → Type 0
  Shown h = P h.kind h.mark

  abbrev pub AllShown : List Entry → Type 0
  AllShown l = (e : Entry) → Memᴰ e l → Shown e.shows

  abbrev pub FoundShown : Found Place → Type 0
  FoundShown missing = Unit {0}
  FoundShown (got i h c) = Shown h × AllShown c.among

  inside-shown : (l : List Entry) (i : ℕ) (b : Body) → AllShown l → AllShown (inside l i b).among
  inside-shown l i own a = a
  inside-shown l i (copy s u) a = λ e m. a e (subst (λ (k : List Entry). Memᴰ e k) (take-append-drop u l) (Memᴰ.append_left (drop u l) m))

  look-shown : (l : List Entry) (k : ℕ) (n : Name) (s i : ℕ) (es : List Entry) → AllShown l → AllShown es → FoundShown (look l k n s i es)
  unfolding look
  look-shown l k n s i [] a b = tt
  look-shown l k n s i (e ∷ es) a b = go (eqb e.scope s) (is k n e.shows) (look l k n s (suc i) es) (look-shown l k n s (suc i) es a (λ x m. b x (Memᴰ.tail m)))
    where
      go : (p q : Bool) (f : Found Place) → FoundShown f → FoundShown (cond p (cond q (got i e.shows (inside l i e.body)) f) f)
      go true true f r = (b e (Memᴰ.head refl), inside-shown l i e.body a)
      go true false f r = r
      go false q f r = r

  find-shown : (p : Place) (k : ℕ) (n : Name) → AllShown p.among → FoundShown (flat.find p k n)
  find-shown p k n a = look-shown p.among k n p.scope p.scope (drop p.scope p.among) a (λ e m. a e (subst (λ (l : List Entry). Memᴰ e l) (take-append-drop p.scope p.among) (Memᴰ.append_right (take p.scope p.among) m)))

  inner-shown : (f : Found Place) → FoundShown f → AllShown (inner flat f).among
  inner-shown missing r = λ e m. absurd (Memᴰ.not-nil m)
  inner-shown (got i h c) r = r.1

  along-shown : (p : List Name) (c : Place) → AllShown c.among → AllShown (along flat p c).among
  unfolding along
  along-shown [] c a = a
  along-shown (n ∷ p) c a = along-shown p (inner flat (flat.find c 3 n)) (inner-shown (flat.find c 3 n) (find-shown c 3 n a))

  -- A TREE with at most n open modules
  pub record Frame (n : ℕ) (f : Flat) : Type 0 where
    pub nested : Nested f.entries f.stack
    pub unclosed : length f.stack ≤ n
    pub scopes : (e : Entry) → Memᴰ e f.entries → Within 9 f.entries e.scope
    pub shown : AllShown f.entries

  -- an entry more in the innermost open module
  pushed-scopes : (f : Flat) (h : Head) (b : Body) → Frame 9 f → (e : Entry) → Memᴰ e (push f h b) → Within 9 (push f h b) e.scope
  pushed-scopes f h b g e m =
      ⊎_elim (λ k. within_more 9 f.entries _ e.scope (g.scopes e k))
      (λ k. ⊎_elim (λ q. subst (λ (x : Entry). Within 9 (push f h b) x.scope) (sym q) (within_more 9 f.entries _ (top f.stack) (within-le (length f.stack) 9 f.entries (top f.stack) g.unclosed (nested-top f.entries f.stack g.nested)))) (λ k'. absurd (Memᴰ.not-nil k')) (Memᴰ.cases_cons k))
      (Memᴰ.append_cases f.entries m)

  pushed-shown : (f : Flat) (h : Head) (b : Body) → Frame 9 f → Shown h → AllShown (push f h b)
  pushed-shown f h b g p e m =
      ⊎_elim (λ k. g.shown e k)
      (λ k. ⊎_elim (λ q. subst (λ (x : Entry). Shown x.shows) (sym q) p) (λ k'. absurd (Memᴰ.not-nil k')) (Memᴰ.cases_cons k))
      (Memᴰ.append_cases f.entries m)

  add-frame : (f : Flat) (h : Head) (c : Place) → Frame 9 f → Shown h → Frame 9 (flat.add f h c)
  add-frame f h c g p = record {
    nested = nested-more f.entries _ f.stack g.nested;
    unclosed = g.unclosed;
    scopes = pushed-scopes f h _ g;
    shown = pushed-shown f h _ g p;
  }

  open_frame : (f : Flat) (h : Head) → Frame 9 f → Shown h → Frame 10 (flat.opened f h)
  unfolding Nested Within
  open_frame f h g p = record {
    nested = (
      (
        omega (arith, length-append f.entries (record { scope = top f.stack; shows = h; body = own } ∷ [])),
        subst (λ (x : Entry). Within (length f.stack) (push f h own) x.scope) (sym (last_entry f.entries (record { scope = top f.stack; shows = h; body = own }))) (within_more (length f.stack) f.entries _ (top f.stack) (nested-top f.entries f.stack g.nested)),
      ),
      nested-more f.entries _ f.stack g.nested,
    );
    unclosed = omega (arith, g.unclosed);
    scopes = pushed-scopes f h own g;
    shown = pushed-shown f h own g p;
  }

  frame-le : (f : Flat) → Frame 9 f → Frame 10 f
  frame-le f g = record { nested = g.nested; unclosed = omega (arith, g.unclosed); scopes = g.scopes; shown = g.shown }

  bring-frame : (v : Bool) (l : Name) (f : Found Place) (x : Flat) → FoundShown f → Frame 9 x → Frame 9 (bring flat v l f x)
  bring-frame v l missing x p g = g
  bring-frame v l (got i h c) x p g = go (h.vis && not (held flat x h.kind l))
    where
      go : (t : Bool) → Frame 9 (cond t (flat.add x (head h.kind l v h.mark (used i)) c) x)
      go true = add-frame x (head h.kind l v h.mark (used i)) c g p.0
      go false = g

  brings_frame : (c : Place) (v : Bool) (es : List Elem) (x : Flat) → AllShown c.among → Frame 9 x → Frame 9 (bring_all flat c v es x)
  unfolding bring_all
  brings_frame c v [] x a g = g
  brings_frame c v (e ∷ es) x a g =
      brings_frame c v es _ a
      (bring-frame v e.local (flat.find c 3 e.name) _ (find-shown c 3 e.name a)
      (bring-frame v e.local (flat.find c 2 e.name) _ (find-shown c 2 e.name a)
      (bring-frame v e.local (flat.find c 1 e.name) x (find-shown c 1 e.name a) g)))

  -- A TREE WITHIN 51's LIMITS
  pub record Limited (f : Flat) : Type 0 where
    pub frame : Frame 9 f
    pub few : length f.entries ≤ 1024

  names-length : (l : List Entry) (ss : List ℕ) → length (stack_names l ss) ≡ length ss
  unfolding stack_names
  names-length l [] = refl
  names-length l (s ∷ ss) = omega (arith, names-length l ss, length-append (stack_names l ss) ((get_or l (Prim.Native.Nat.pred s) none).shows.name ∷ []))

  settle_limited : (x : Flat) (t : Tried Flat) → Limited x → ((y : Flat) → t ≡ done y → Frame 10 y) → Limited (settle flat x t).0
  settle_limited x (fail n) g k = g
  settle_limited x (done y) g k = go (full flat y) refl (deep flat y) refl
    where
      go : (a : Bool) → full flat y ≡ a → (b : Bool) → deep flat y ≡ b → Limited (cond {A = Flat × Answer} (a || b) (x, refused 51) (y, ok)).0
      go true p b q = g
      go false p true q = g
      go false p false q =
          let f = k y refl in
          record {
            frame = record { nested = f.nested; unclosed = omega (arith, ltb-false 9 (length (stack_names y.entries y.stack)) q, names-length y.entries y.stack); scopes = f.scopes; shown = f.shown };
            few = ltb-false 1024 (length y.entries) p;
          }

  -- what a call declares
  abbrev pub Declares : Call → Type 0
  Declares (enter n v m) = P 3 m
  Declares exit = Unit {0}
  Declares (alias n v m) = P 1 m
  Declares (enum n v m) = P 1 m
  Declares (function n v m) = P 2 m
  Declares (use' led p v es) = Unit {0}
  Declares (get_alias n) = Unit {0}
  Declares (get_function n) = Unit {0}
  Declares (bad n) = Unit {0}

  abbrev pub AllDeclare : List Call → Type 0
  AllDeclare cs = (c : Call) → Memᴰ c cs → Declares c

  step_limited : (x : Flat) (c : Call) → Declares c → Limited x → Limited (step flat x c).0
  unfolding step
  step_limited x (enter n v m) p g = settle_limited x _ g (λ y q. subst (λ (z : Flat). Frame 10 z) (sym (fresh-done flat x _ y 3 n 47 q)) (open_frame x (head 3 n v m declared) g.frame p))
  step_limited x exit p g = go (stack_names x.entries x.stack)
    where
      closed : (ss : List ℕ) → x.stack ≡ ss → Limited (pop x.entries ss)
      closed [] q = record { frame = record { nested = nested-none x.entries; unclosed = omega arith; scopes = g.frame.scopes; shown = g.frame.shown }; few = g.few }
      closed (s ∷ ss) q =
          let n : Nested x.entries (s ∷ ss) = subst (λ (k : List ℕ). Nested x.entries k) q g.frame.nested in
          let o : length (s ∷ ss) ≤ 9 = subst (λ (k : List ℕ). length k ≤ 9) q g.frame.unclosed in
          record { frame = record { nested = nested-rest x.entries s ss n; unclosed = omega arith; scopes = g.frame.scopes; shown = g.frame.shown }; few = g.few }

      go : (ns : List Name) → Limited (close flat x ns).0
      go [] = g
      go (n ∷ ns) = closed x.stack refl
  step_limited x (alias n v m) p g = settle_limited x _ g (λ y q. subst (λ (z : Flat). Frame 10 z) (sym (fresh-done flat x _ y 1 n 48 q)) (frame-le _ (add-frame x (head 1 n v m declared) flat.empty g.frame p)))
  step_limited x (enum n v m) p g = settle_limited x _ g (λ y q. subst (λ (z : Flat). Frame 10 z) (sym (fresh-done flat x _ y 1 n 48 q)) (frame-le _ (add-frame x (head 1 n v m declared) flat.empty g.frame p)))
  step_limited x (function n v m) p g = settle_limited x _ g (λ y q. subst (λ (z : Flat). Frame 10 z) (sym (fresh-done flat x _ y 2 n 49 q)) (frame-le _ (add-frame x (head 2 n v m declared) flat.empty g.frame p)))
  step_limited x (use' led w v es) p g =
      settle_limited x _ g (λ y q. subst (λ (z : Flat). Frame 10 z) (sym (use_bring flat x y led w v es q)) (frame-le _ (brings_frame (along flat w (flat.root x)) v es x (along-shown w (flat.root x) g.frame.shown) g.frame)))
  step_limited x (get_alias n) p g = g
  step_limited x (get_function n) p g = g
  step_limited x (bad n) p g = g

  run_limited : (cs : List Call) (x : Flat) → AllDeclare cs → Limited x → Limited (run flat x cs).0
  unfolding run
  run_limited [] x p g = g
  run_limited (c ∷ cs) x p g = run_limited cs (step flat x c).0 (λ d m. p d (Memᴰ.tail m)) (step_limited x c (p c (Memᴰ.head refl)) g)

  -- THE TREE OF ANY CALLS
  pub tree_limited : (cs : List Call) → AllDeclare cs → Limited (flattened cs).0
  tree_limited cs p = run_limited cs first_flat p (record { frame = record { nested = nested-none []; unclosed = omega arith; scopes = λ e m. absurd (Memᴰ.not-nil m); shown = λ e m. absurd (Memᴰ.not-nil m) }; few = omega arith })

declares-any : (c : Call) → Declares (λ k m. Unit {0}) c
declares-any (enter n v m) = tt
declares-any exit = tt
declares-any (alias n v m) = tt
declares-any (enum n v m) = tt
declares-any (function n v m) = tt
declares-any (use' led p v es) = tt
declares-any (get_alias n) = tt
declares-any (get_function n) = tt
declares-any (bad n) = tt

-- NESTING: whatever the calls, every entry of the tree they leave lies in the root or in a module at most 9 deep
pub nesting : (cs : List Call) (e : Entry) → Memᴰ e (flattened cs).0.entries → Within 9 (flattened cs).0.entries e.scope
nesting cs e m = (tree_limited (λ k n. Unit {0}) cs (λ c i. declares-any c)).frame.scopes e m

-- and there are at most 1,024
pub entries-few : (cs : List Call) → length (flattened cs).0.entries ≤ 1024
entries-few cs = (tree_limited (λ k n. Unit {0}) cs (λ c i. declares-any c)).few
