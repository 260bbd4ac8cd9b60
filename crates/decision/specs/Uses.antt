-- A use's record is what the definition makes of the flat tree. Assumes nothing.
use Prim.Native.Nat.{ℕ, zero, suc, pred, ◌+◌, ◌*◌, ◌-◌, ◌≤◌, ◌<◌}
use native.Mathlib.Omega.{arith}
use Rattle.std.proofs.Math.Path.{◌≡◌, refl, ap}
use Rattle.std.proofs.Common.{sym, subst, ◌∙◌, length-append}
use Rattle.std.specs.Prelude.{Bool, true, false, cond, eqb, ltb, length, get_or, replicate, Result, Ok, Err}
use mathlib.Core.List.{List, [], ◌++◌, append-nil}
use Rattle.std.proofs.lemmas.List.{length-replicate}
use borrow.Author.Tests.{eq-eqb, ne_eqb, lt-ltb, le-ltb}
use Rattle.names.specs.declared.Name.{Name}
use Rattle.names.specs.Packed.{packed}
use Rattle.names.specs.Keywords.{is_crate}
use Rattle.scope_tree.specs.declared.look.Way.{Way}
use Rattle.scope_tree.specs.Step.{Answer, ok, refused, Tried, done, fail, any_main, bind, shared, nav, stage, settle, use_of, step}
use Rattle.scope_tree.specs.Flat.{Entry, Flat, flat, top, stack_names}
use Rattle.scope_tree.specs.Form.{Request, resolves_use, string, after_string, after_strings, names_from, elements_from, led_by_crate, use_call, call_of, use_fault, rest_fault, names_fault, elements_fault, after_elements, or_else}
use Rattle.scope_tree.specs.Rows.{tab, length-tab, placed}
use Rattle.refusal.specs.declared.Cause.{Cause}
use Rattle.refusal.specs.Numbers.{number_of}
use Rattle.scope_tree.specs.Nav.{stack_of, current-top, Doors, way, Same_way, Reached}
use Rattle.scope_tree.specs.Staging.{Staged, refusal, staged_all, element-count}
use Rattle.scope_tree.specs.Views.{View, ViewMeets, bit_of, arrays_of, rows, entries_of, flat_of, Good, Sized, refusing, accepting, here_of, committed, staged_row, commits}
use Rattle.decision.specs.Calls.{length-names, length-stack}
use Rattle.decision.specs.UseLaws.{Sized_staged, stage-same}

pub refused_meets : (t : View) (q : Request) (n : ℕ) → (Good t → step flat (flat_of t) (call_of q) ≡ (flat_of t, refused n)) → ViewMeets t q (refusing n t)
refused_meets t q n h =
    record {
      good = λ g. g;
      tree = λ g. sym (ap (λ (p : Flat × Answer). p.0) (h g));
      answer = λ g. sym (ap (λ (p : Flat × Answer). p.1) (h g));
      kept = λ e. refl;
    }

accepted_meets : (t : View) (q : Request) (x : View) → (Good t → Good x) → (Good t → step flat (flat_of t) (call_of q) ≡ (flat_of x, ok)) → ViewMeets t q (accepting x)
accepted_meets t q x g h =
    record {
      good = g;
      tree = λ w. sym (ap (λ (p : Flat × Answer). p.0) (h w));
      answer = λ w. sym (ap (λ (p : Flat × Answer). p.1) (h w));
      kept = λ e. let y : ◌≡◌ {A = ℕ} 0 1 = cc in absurd (omega arith);
    }

-- what is staged is at most three entries an element
all-count : (A : Rattle.scope_tree.specs.Rows.Arrays) (total here scope time : ℕ) (d : List ℕ) (n p : ℕ) (s : Staged) → (staged_all A total here scope time d n p s).count ≤ s.count + 3 * n
unfolding staged_all
all-count A total here scope time d zero p s = omega arith
all-count A total here scope time d (suc n) p s =
    let x = Rattle.scope_tree.specs.Staging.staged_element A total here scope time s (packed (string d p)) (Rattle.scope_tree.specs.Form.local_name d p) in
    let c = element-count A total here scope time s (packed (string d p)) (Rattle.scope_tree.specs.Form.local_name d p) in
    go x _ (eqb x.number 0) (all-count A total here scope time d n (Rattle.scope_tree.specs.Form.after_element d p) x) c
  where
    go : (x y : Staged) (b : Bool) → y.count ≤ x.count + 3 * n → x.count ≤ s.count + 3 → (cond b y x).count ≤ s.count + 3 * suc n
    go x y true h k = omega arith
    go x y false h k = omega arith

pub few_staged : (A : Rattle.scope_tree.specs.Rows.Arrays) (total here scope time : ℕ) (d : List ℕ) (n p : ℕ) (r : Staged) → r ≡ staged_all A total here scope time d n p (refusal 0) → n ≤ 32 → r.count ≤ 96
few_staged A total here scope time d n p r q h = rw q (let c = all-count A total here scope time d n p (refusal 0) in omega arith)

-- THE BOUNDS THAT THE FORM GIVES
first_fine : (s : List ℕ) → use_fault s ≡ 0 → (get_or s 0 0 ≤ 17) × (rest_fault s (after_strings s (get_or s 0 0) 1) ≡ 0)
unfolding use_fault
first_fine s = go (eqb (length s) 0) (ltb 17 (get_or s 0 0)) refl (names_fault s (get_or s 0 0) 1)
  where
    go : (a b : Bool) → ltb 17 (get_or s 0 0) ≡ b → (f : ℕ) → cond a 1 (cond b 3 (or_else f (rest_fault s (after_strings s (get_or s 0 0) 1)))) ≡ 0 → (get_or s 0 0 ≤ 17) × (rest_fault s (after_strings s (get_or s 0 0) 1) ≡ 0)
    go true b q f e = absurd (omega arith)
    go false true q f e = absurd (omega arith)
    go false false q f e = (borrow.Author.Tests.ltb-false 17 (get_or s 0 0) q, fine (eqb f 0) refl e)
      where
        fine : (c : Bool) → eqb f 0 ≡ c → cond c (rest_fault s (after_strings s (get_or s 0 0) 1)) f ≡ 0 → rest_fault s (after_strings s (get_or s 0 0) 1) ≡ 0
        fine true p e = e
        fine false p e = absurd (borrow.Author.Tests.eqb-false f 0 p e)

second-fine : (s : List ℕ) (p : ℕ) → rest_fault s p ≡ 0 → get_or s p 0 ≤ 32
unfolding rest_fault
second-fine s p = go (ltb p (length s)) (ltb 32 (get_or s p 0)) refl
  where
    go : (a b : Bool) → ltb 32 (get_or s p 0) ≡ b → cond a (cond b 3 (or_else (elements_fault s (get_or s p 0) (p + 1)) (cond (ltb (after_elements s (get_or s p 0) (p + 1)) (length s)) 1 0))) 1 ≡ 0 → get_or s p 0 ≤ 32
    go false b q e = absurd (omega arith)
    go true true q e = absurd (omega arith)
    go true false q e = borrow.Author.Tests.ltb-false 32 (get_or s p 0) q

-- the path's strings are one fewer from the second on
pub after-all : (s : List ℕ) (n a : ℕ) → n ≡ get_or s 0 0 → (n ≡ 0 → ⊥) → a ≡ after_string s 1 → after_strings s (n - 1) a ≡ after_strings s (get_or s 0 0) 1
unfolding after_strings
after-all s n a q z e = let x : n ≡ suc (n - 1) = omega arith in rw (← q, e) (sym (ap (λ (m : ℕ). after_strings s m 1) x))

module _ (s : List ℕ) (fz : use_fault s ≡ 0) {n : ℕ} (nq : (n ≡ get_or s 0 0) × (n < 256)) where
  pub segment_bound : n ≤ 17
  segment_bound = let x = first_fine s fz in omega (arith, x.0, nq.0)

  pub element_bound : (n ≡ 0 → ⊥) → {a : ℕ} → (a ≡ after_string s 1) × (a ≤ 1 + 256) → {p : ℕ} → p ≡ after_strings s (n - 1) a → {m : ℕ} → (m ≡ get_or s p 0) × (m < 256) → m ≤ 32
  element_bound nz {a} aq {p} pq {m} mq =
      let x = first_fine s fz in
      let e : p ≡ after_strings s (get_or s 0 0) 1 = pq ∙ after-all s n a nq.0 nz aq.0 in
      subst (λ (y : ℕ). y ≤ 32) (sym (mq.0 ∙ ap (λ (i : ℕ). get_or s i 0) e)) (second-fine s (after_strings s (get_or s 0 0) 1) x.1)

module _ (t : View) (s : List ℕ) (v : Bool) where
  pub use_bad : (n : ℕ) → use_fault s ≡ n → (n ≡ 0 → ⊥) → ViewMeets t (resolves_use s v) (refusing n t)
  unfolding call_of step
  use_bad n q z = refused_meets t (resolves_use s v) n (λ g. rw (q, ne_eqb n 0 z))

  pub use_many : 1024 < t.count → ViewMeets t (resolves_use s v) (refusing 51 t)
  use_many h = refused_meets t (resolves_use s v) 51 (λ g. absurd (omega (arith, g.small)))

  pub use_deep : 9 < t.depth → ViewMeets t (resolves_use s v) (refusing 51 t)
  use_deep h = refused_meets t (resolves_use s v) 51 (λ g. absurd (omega (arith, g.shallow)))

  module _ (fz : use_fault s ≡ 0) {n : ℕ} (nq : (n ≡ get_or s 0 0) × (n < 256)) where
    -- the use that the call is
    abbrev path : List Name
    path = names_from s (pred (get_or s 0 0)) (after_string s 1)

    abbrev elems : List Rattle.scope_tree.specs.Step.Elem
    elems = elements_from s (get_or s (after_strings s (get_or s 0 0) 1) 0) (after_strings s (get_or s 0 0) 1 + 1)

    stepped : step flat (flat_of t) (call_of (resolves_use s v)) ≡ settle flat (flat_of t) (use_of flat (flat_of t) (led_by_crate s) path v elems)
    unfolding call_of step use_call
    stepped = rw fz

    pub use_empty : n ≡ 0 → ViewMeets t (resolves_use s v) (refusing 40 t)
    use_empty z = refused_meets t (resolves_use s v) 40 (λ g. stepped ∙ rw (← nq.0, z))

    module _ (nz : n ≡ 0 → ⊥) {l : List ℕ} (lq : l ≡ string s 1) {b : Bool} (bq : b ≡ is_crate l) where
      led : led_by_crate s ≡ b
      led = rw (← nq.0, ne_eqb n 0 nz, bq, lq)

      pub use_no_crate : b ≡ false → ViewMeets t (resolves_use s v) (refusing 40 t)
      use_no_crate z = refused_meets t (resolves_use s v) 40 (λ g. stepped ∙ rw (led, z))

      module _ (bz : b ≡ true) {a : ℕ} (aq : (a ≡ after_string s 1) × (a ≤ 1 + 256)) where
        abbrev Way_same : Result Way Cause → Type 0
        Way_same = Same_way t.kinds t.visible t.scopes t.n0 t.n1 t.n2 t.n3 t.origins t.targets t.times t.index t.count t.stack t.depth s a (n - 1)

        walk : (r : Result Way Cause) → Way_same r → Good t → nav flat (shared (flat.names (flat_of t)) path) 0 path (flat.root (flat_of t)) ≡ way (rows t) r
        walk r q g =
            let p : pred (get_or s 0 0) ≡ n - 1 = omega (arith, nq.0) in
            rw (p, ← aq.0) (sym (q.same g.small g.indexed g.doors t.marks))

        tail : (r : Result Way Cause) → Way_same r → Good t → step flat (flat_of t) (call_of (resolves_use s v)) ≡ settle flat (flat_of t) (bind (way (rows t) r) (λ c. cond (any_main elems) (fail 46) (stage flat c v elems (flat_of t))))
        tail r q g = stepped ∙ rw (led, bz, walk r q g)

        pub use_lost : (c : Cause) → Way_same (Err c) → ViewMeets t (resolves_use s v) (refusing (number_of c) t)
        use_lost c q = refused_meets t (resolves_use s v) (number_of c) (λ g. tail (Err c) q g)

        module _ {w : Way} (wq : Reached t.kinds t.visible t.scopes t.n0 t.n1 t.n2 t.n3 t.origins t.targets t.times t.index t.count t.stack t.depth s a (n - 1) w) {m : ℕ} (mq : (m ≡ get_or s w.next 0) × (m < 256)) where
          place : w.next ≡ after_strings s (get_or s 0 0) 1
          place = wq.next ∙ after-all s n a nq.0 nz aq.0

          pub few_elements : m ≤ 32
          few_elements = element_bound s fz nq nz aq wq.next mq

          same-elems : elems ≡ elements_from s m (w.next + 1)
          same-elems = rw (← place, ← mq.0)

          arrived : Good t → step flat (flat_of t) (call_of (resolves_use s v)) ≡ settle flat (flat_of t) (cond (any_main (elements_from s m (w.next + 1))) (fail 46) (stage flat (placed (rows t) w.to.scope w.to.time) v (elements_from s m (w.next + 1)) (flat_of t)))
          arrived g = tail (Ok w) wq.way g ∙ rw same-elems

          module _ {x : Bool} (xq : x ≡ any_main (elements_from s m (w.next + 1))) where
            pub use_main : x ≡ true → ViewMeets t (resolves_use s v) (refusing 46 t)
            use_main z = refused_meets t (resolves_use s v) 46 (λ g. arrived g ∙ rw (← xq, z))

            module _ (xz : x ≡ false) {h : ℕ} (hq : h ≡ here_of t) {c : ℕ} (cq : c ≡ t.count) {r : Staged} (made : r ≡ staged_all (arrays_of t) c h w.to.scope w.to.time s m (w.next + 1) (refusal 0)) where
              rq : r ≡ staged_all (arrays_of t) t.count h w.to.scope w.to.time s m (w.next + 1) (refusal 0)
              rq = made ∙ ap (λ (x : ℕ). staged_all (arrays_of t) x h w.to.scope w.to.time s m (w.next + 1) (refusal 0)) cq

              nothing-sized : Sized_staged (refusal 0)
              nothing-sized =
                  let z : length (replicate 96 (zero)) ≡ 96 = length-replicate {A = ℕ} 96 zero in
                  record { kinds = z; marks = z; n0 = z; n1 = z; n2 = z; n3 = z; origins = z; targets = z; times = z }

              top-is : top (stack_of t.stack t.depth) ≡ h
              top-is = sym (hq ∙ current-top t.stack t.depth)

              -- the open module's scope is among the entries
              top-le : Good t → h ≤ t.count
              unfolding stack_of
              top-le g = go t.depth (hq ∙ current-top t.stack t.depth) g.doors
                where
                  go : (d : ℕ) → h ≡ top (stack_of t.stack d) → Doors t.stack d t.count → h ≤ t.count
                  go zero q ds = omega arith
                  go (suc d) q ds = omega (arith, q, (ds d (omega arith)).1)

              bit_is : eqb (bit_of v) 1 ≡ v
              bit_is = pick v
                where
                  pick : (y : Bool) → eqb (bit_of y) 1 ≡ y
                  pick true = refl
                  pick false = refl

              abbrev after_use : Tried Flat
              after_use = cond (eqb r.number 0) (done (record { entries = entries_of t ++ tab (staged_row (bit_of v) h r) r.count; stack = stack_of t.stack t.depth })) (fail r.number)

              staged_is : Good t → stage flat (placed (rows t) w.to.scope w.to.time) v (elements_from s m (w.next + 1)) (flat_of t) ≡ after_use
              unfolding tab
              staged_is g =
                  let e : ◌≡◌ {A = Flat} (flat_of t) (record { entries = entries_of t ++ []; stack = stack_of t.stack t.depth }) = ap (λ (l : List Entry). record { entries = l; stack = stack_of t.stack t.depth }) (sym (append-nil (entries_of t))) in
                  let z = stage-same (arrays_of t) t.count h w.to.scope w.to.time (stack_of t.stack t.depth) top-is (top-le g) (bit_of v) g.small wq.time g.indexed s m (w.next + 1) (refusal 0) nothing-sized (omega (arith, few_elements)) refl in
                  ap (stage flat (placed (rows t) w.to.scope w.to.time) v (elements_from s m (w.next + 1))) e
                  ∙ (rw (bit_is, ← rq) at z)

              staged_step : Good t → step flat (flat_of t) (call_of (resolves_use s v)) ≡ settle flat (flat_of t) after_use
              staged_step g = arrived g ∙ rw (← xq, xz, staged_is g)

              pub use_refused : (r.number ≡ 0 → ⊥) → ViewMeets t (resolves_use s v) (refusing r.number t)
              use_refused z = refused_meets t (resolves_use s v) r.number (λ g. staged_step g ∙ rw (ne_eqb r.number 0 z))

              module _ (rz : r.number ≡ 0) where
                after-full : ltb 1024 (length (entries_of t ++ tab (staged_row (bit_of v) h r) r.count)) ≡ ltb 1024 (t.count + r.count)
                after-full = rw (length-append (entries_of t), length-tab (rows t) t.count, length-tab (staged_row (bit_of v) h r) r.count)

                after-deep : Good t → ltb 9 (length (stack_names (entries_of t ++ tab (staged_row (bit_of v) h r) r.count) (stack_of t.stack t.depth))) ≡ false
                after-deep g = rw (length-names, length-stack) (le-ltb 9 t.depth g.shallow)

                pub use_full : 1024 < t.count + r.count → ViewMeets t (resolves_use s v) (refusing 51 t)
                use_full z = refused_meets t (resolves_use s v) 51 (λ g. staged_step g ∙ rw (eq-eqb r.number 0 rz, after-full, lt-ltb 1024 (t.count + r.count) z))

                pub use_done : t.count + r.count ≤ 1024 → Sized t → (y : ℕ) → y ≡ bit_of v → (o : View) → o ≡ committed t r h y r.count → ViewMeets t (resolves_use s v) (accepting o)
                use_done z sz y yq o oq =
                    let c = commits t r h (bit_of v) r.count sz z in
                    rw (oq, yq)
                    (accepted_meets t (resolves_use s v) (committed t r h (bit_of v) r.count)
                    (λ g. record {
                      small = omega (arith, c.count);
                      shallow = rw c.depth g.shallow;
                      indexed = c.indexed g.indexed;
                      doors = λ j k. rw c.stack ((g.doors j (rw c.depth at k)).0, omega (arith, c.count, (g.doors j (rw c.depth at k)).1));
                    })
                    (λ g.
                    let u : stack_of (committed t r h (bit_of v) r.count).stack (committed t r h (bit_of v) r.count).depth ≡ stack_of t.stack t.depth = rw (c.stack, c.depth) in
                    let e : ◌≡◌ {A = Flat} (flat_of (committed t r h (bit_of v) r.count)) (record { entries = entries_of t ++ tab (staged_row (bit_of v) h r) r.count; stack = stack_of t.stack t.depth }) = λ i. record { entries = c.entries i; stack = u i } in
                    staged_step g ∙ rw (eq-eqb r.number 0 rz, after-full, le-ltb 1024 (t.count + r.count) z, after-deep g) (ap (λ (x : Flat). (x, ok)) (sym e))))
