-- What is staged is what the definition of a use adds to the flat tree. Assumes nothing.
use Prim.Native.Nat.{ℕ, zero, suc, ◌+◌, ◌*◌, ◌≤◌, ◌<◌}
use native.Mathlib.Omega.{arith}
use Rattle.std.proofs.Common.{add-one, ◌∙◌, append_assoc, length-set, get_or-set_same, get_or-set_other}
use Rattle.std.proofs.Math.Path.{◌≡◌, refl, ap, sym}
use Rattle.std.specs.Prelude.{Bool, ◌&&◌, ◌||◌, List, [], ◌∷◌, ◌++◌, set, drop, Option, Some, None}
use Rattle.std.proofs.Math.Bool.{true, false, cond}
use Rattle.std.proofs.Math.Dec.{eqb}
use Rattle.std.proofs.Math.ListN.{length, get_or}
use Rattle.std.proofs.lemmas.List.{drop-append-le}
use borrow.Author.Tests.{ne_eqb, eqb-true}
use Rattle.names.specs.declared.Name.{Name}
use Rattle.names.specs.Packed.{packed}
use Rattle.scope_tree.specs.Step.{used, head, Elem, got, Tried, done, fail, is_got, after, bind, held, import, attempt, judge, element, stage}
use Rattle.scope_tree.specs.Register.{is}
use Rattle.scope_tree.specs.Flat.{copy, Entry, Flat, Place, inside, look, flat, top}
use Rattle.scope_tree.specs.Form.{string, local_name, after_element, element_at, elements_from}
use Rattle.scope_tree.specs.Rows.{tab, tab_agree, length-tab, Arrays, row, row_at, is_own, is_row, hit, first_in, looked, spotted, find_spot, placed, inside-site}
use Rattle.scope_tree.specs.Index.{look_up, IndexOf, spot_found, spot_first}
use Rattle.scope_tree.specs.Staging.{Choice, Staged, is_at, any_to, numbered, put, staged_test, staged_held, no_choice, with_choice, sought, occupied, inside_of, chosen, choice_of, staged_item, verdict_of, staged_element, staged_all, item_count_within, element-count}
use Rattle.scope_tree.specs.Views.{staged_row}

-- WHETHER AN ENTRY IS AMONG THEM
unfoldable any_hit : ℕ → ℕ → Name → List Entry → Bool
any_hit s k n [] = false
any_hit s k n (e ∷ es) = hit s k n e || any_hit s k n es

look-any : (l : List Entry) (k : ℕ) (n : Name) (s i : ℕ) (xs : List Entry) → is_got (look l k n s i xs) ≡ any_hit s k n xs
unfolding look any_hit is_row
look-any l k n s i [] = refl
look-any l k n s i (e ∷ es) = go (eqb e.scope s) (is k n e.shows) (look-any l k n s (suc i) es)
  where
    go : (a b : Bool) → is_got (look l k n s (suc i) es) ≡ any_hit s k n es
        → is_got (cond a (cond b (got i e.shows (inside l i e.body)) (look l k n s (suc i) es)) (look l k n s (suc i) es)) ≡ (a && b) || any_hit s k n es
    go true true h = refl
    go true false h = h
    go false b h = h

any_append : (s k : ℕ) (n : Name) (xs ys : List Entry) → any_hit s k n (xs ++ ys) ≡ any_hit s k n xs || any_hit s k n ys
unfolding any_hit
any_append s k n [] ys = refl
any_append s k n (x ∷ xs) ys = go (hit s k n x) (any_append s k n xs ys)
  where
    go : (b : Bool) → any_hit s k n (xs ++ ys) ≡ any_hit s k n xs || any_hit s k n ys → b || any_hit s k n (xs ++ ys) ≡ (b || any_hit s k n xs) || any_hit s k n ys
    go true h = refl
    go false h = h

or_false : (b : Bool) → b || false ≡ b
or_false true = refl
or_false false = refl

any-tab : (s k : ℕ) (n : Name) (g : ℕ → Entry) (m : ℕ) → any_hit s k n (tab g m) ≡ any_to (λ i. hit s k n (g i)) m
unfolding any_hit any_to tab
any-tab s k n g zero = refl
any-tab s k n g (suc m) = any_append s k n (tab g m) (g m ∷ []) ∙ rw (any-tab s k n g m, or_false (hit s k n (g m)))

-- STAGED ROWS
pub record Sized_staged (s : Staged) : Type 0 where
  pub kinds : length s.kinds ≡ 96
  pub marks : length s.marks ≡ 96
  pub n0 : length s.n0 ≡ 96
  pub n1 : length s.n1 ≡ 96
  pub n2 : length s.n2 ≡ 96
  pub n3 : length s.n3 ≡ 96
  pub origins : length s.origins ≡ 96
  pub targets : length s.targets ≡ 96
  pub times : length s.times ≡ 96

same_set : (xs : List ℕ) (i a : ℕ) → length xs ≡ 96 → i < 96 → get_or (set xs i a) i 0 ≡ a
same_set xs i a z l = get_or-set_same xs i a 0 (rw z l)

module _ (v here : ℕ) (s : Staged) (k m : ℕ) (n : Name) (o a u : ℕ) where
  below : (i : ℕ) → i < s.count → staged_row v here (put s k m n o a u) i ≡ staged_row v here s i
  below i l =
      let ne : i ≡ s.count → ⊥ = λ e. omega arith in
      simp get_or-set_other

  at_last : Sized_staged s → s.count < 96 → staged_row v here (put s k m n o a u) s.count ≡ row k v here m n o a u
  at_last z l =
      simp (same_set s.kinds s.count k z.kinds l, same_set s.marks s.count m z.marks l, same_set s.n0 s.count n.w0 z.n0 l, same_set s.n1 s.count n.w1 z.n1 l, same_set s.n2 s.count n.w2 z.n2 l, same_set s.n3 s.count n.w3 z.n3 l, same_set s.origins s.count o z.origins l, same_set s.targets s.count a z.targets l, same_set s.times s.count u z.times l)

  put-rows : Sized_staged s → s.count < 96 → tab (staged_row v here (put s k m n o a u)) (s.count + 1) ≡ tab (staged_row v here s) s.count ++ (row k v here m n o a u ∷ [])
  unfolding tab
  put-rows z l = rw (add-one, tab_agree (staged_row v here (put s k m n o a u)) (staged_row v here s) s.count below, at_last z l)

  put-sized : Sized_staged s → Sized_staged (put s k m n o a u)
  put-sized z =
      record {
        kinds = simp length-set z.kinds;
        marks = simp length-set z.marks;
        n0 = simp length-set z.n0;
        n1 = simp length-set z.n1;
        n2 = simp length-set z.n2;
        n3 = simp length-set z.n3;
        origins = simp length-set z.origins;
        targets = simp length-set z.targets;
        times = simp length-set z.times;
      }

renumbered : (n : ℕ) (s : Staged) → Sized_staged s → Sized_staged (numbered n s)
renumbered n s z = record { kinds = z.kinds; marks = z.marks; n0 = z.n0; n1 = z.n1; n2 = z.n2; n3 = z.n3; origins = z.origins; targets = z.targets; times = z.times }

item-sized : (s : Staged) (here k : ℕ) (l : Name) (c : Choice) → Sized_staged s → Sized_staged (with_choice s here k l c)
unfolding with_choice
item-sized s here k l c z = go (eqb c.number 0) (staged_held s here k l)
  where
    go : (a b : Bool) → Sized_staged (cond a (cond b (numbered 45 s) (put s k c.mark l c.origin c.target c.moment)) (numbered c.number s))
    go true true = renumbered 45 s z
    go true false = put-sized 0 here s k c.mark l c.origin c.target c.moment z
    go false b = renumbered c.number s z

whole-sized : (A : Arrays) (total here scope time : ℕ) (s : Staged) → Sized_staged s → (n l : Name) → Sized_staged (staged_element A total here scope time s n l)
unfolding staged_element
whole-sized A total here scope time s z n l =
    renumbered _ _
    (item-sized _ here 3 l (choice_of A total here scope time 3 n l)
    (item-sized _ here 2 l (choice_of A total here scope time 2 n l) (item-sized s here 1 l (choice_of A total here scope time 1 n l) z)))

-- ITEMS, ELEMENTS, USES
module _ (A : Arrays) (total here scope time : ℕ) (ss : List ℕ) (hh : top ss ≡ here) (le : here ≤ total) (v : ℕ) (few : total ≤ 1024) (soon : time ≤ total) (ix : IndexOf A total) where
  -- the flat tree with what is staged
  abbrev pub state : Staged → Flat
  state s = record { entries = tab (row_at A) total ++ tab (staged_row v here s) s.count; stack = ss }

  abbrev pub tried : Staged → Tried Flat
  tried s = cond (eqb s.number 0) (done (state s)) (fail s.number)

  spotted-got : (f : ℕ → Entry) (c : ℕ) (r : Option ℕ) → is_got (spotted f c r) ≡ is_at r
  spotted-got f c None = refl
  spotted-got f c (Some i) = refl

  -- the current module and earlier elements
  held-state : (s : Staged) (k : ℕ) (l : Name) → held flat (state s) k l ≡ occupied A total here scope time k l || staged_held s here k l
  unfolding occupied staged_test
  held-state s k l =
      let E = tab (row_at A) total in
      let P = tab (staged_row v here s) s.count in
      let b : here ≤ length E = rw length-tab le in
      let x : any_hit here k l (drop here E) ≡ is_at (look_up A here total k l) =
      sym (look-any E k l here here (drop here E)) ∙ ap is_got (find_spot (row_at A) total here k l) ∙ spotted-got (row_at A) total (first_in (looked A.scopes A.kinds A.n0 A.n1 A.n2 A.n3 here k l) here total)
      ∙ ap is_at (sym (spot_first ix few here total k l (omega arith))) in
      rw hh
      (look-any (E ++ P) k l here here (drop here (E ++ P)) ∙ ap (any_hit here k l) (drop-append-le here E P b) ∙ any_append here k l (drop here E) P
      ∙ rw (x, any-tab here k l (staged_row v here s) s.count))

  kind_of : (k : ℕ) (n : Name) (e : ℕ) → sought A total here scope time k n ≡ Some e → get_or A.kinds e 0 ≡ k
  unfolding sought is_row
  kind_of k n e q =
      let f = spot_found A.index A.scopes A.kinds A.n0 A.n1 A.n2 A.n3 scope time k n e q in
      eqb-true (get_or A.kinds e 0) k (part (eqb (get_or A.scopes e 0) scope) (eqb (get_or A.kinds e 0) k) _ f.holds)
    where
      part : (a b c : Bool) → a && (b && c) ≡ true → b ≡ true
      part true true c h = refl
      part true false c h = h
      part false b c h = let z : ◌≡◌ {A = ℕ} 0 1 = cc in absurd (omega arith)

  own-not : (k e : ℕ) → is_own k (e + 1) ≡ false
  unfolding is_own
  own-not k e = rw (ne_eqb (e + 1) 0 (λ q. omega arith)) (go (eqb k 3))
    where
      go : (b : Bool) → b && false ≡ false
      go true = refl
      go false = refl

  module _ (s : Staged) (z : Sized_staged s) (room : s.count < 96) where
    -- the entry staged is the one the definition adds
    added : (k e : ℕ) (l : Name) → get_or A.kinds e 0 ≡ k
        → state (put s k (get_or A.marks e 0) l (e + 1) (inside_of A total here scope time e).scope (inside_of A total here scope time e).time)
        ≡ flat.add (state s) (head (get_or A.kinds e 0) l (eqb v 1) (get_or A.marks e 0) (used e)) (inside (tab (row_at A) time) e (row_at A e).body)
    added k e l q =
        let g = inside_of A total here scope time e in
        let i = inside-site (row_at A) e (get_or A.kinds e 0) (get_or A.origins e 0) (get_or A.targets e 0) (get_or A.times e 0) time in
        let r : row k v here (get_or A.marks e 0) l (e + 1) g.scope g.time ≡ record { scope = top ss; shows = head k l (eqb v 1) (get_or A.marks e 0) (used e); body = copy g.scope g.time } = rw (own-not k e, add-one, hh) in
        let w : tab (row_at A) total ++ tab (staged_row v here (put s k (get_or A.marks e 0) l (e + 1) g.scope g.time)) (s.count + 1)
        ≡ (tab (row_at A) total ++ tab (staged_row v here s) s.count) ++ (record { scope = top ss; shows = head k l (eqb v 1) (get_or A.marks e 0) (used e); body = copy g.scope g.time } ∷ []) =
        ap (λ (x : List Entry). tab (row_at A) total ++ x) (put-rows v here s k (get_or A.marks e 0) l (e + 1) g.scope g.time z room ∙ rw r) ∙ sym (append_assoc (tab (row_at A) total) (tab (staged_row v here s) s.count) _) in
        let F : ℕ → Place → Flat = λ y p. flat.add (state s) (head y l (eqb v 1) (get_or A.marks e 0) (used e)) p in
        let base : record { entries = (tab (row_at A) total ++ tab (staged_row v here s) s.count) ++ (record { scope = top ss; shows = head k l (eqb v 1) (get_or A.marks e 0) (used e); body = copy g.scope g.time } ∷ []); stack = ss } ≡ F k (placed (row_at A) g.scope g.time) =
        ap (λ (m : ℕ). record { entries = (tab (row_at A) total ++ tab (staged_row v here s) s.count) ++ (record { scope = top ss; shows = head k l (eqb v 1) (get_or A.marks e 0) (used e); body = copy g.scope m } ∷ []); stack = ss }) (sym (length-tab (row_at A) g.time)) in
        (λ j. record { entries = w j; stack = ss }) ∙ base ∙ ap (λ (y : ℕ). F y (placed (row_at A) g.scope g.time)) (sym q) ∙ ap (F (get_or A.kinds e 0)) (sym i)

    item-found : (k : ℕ) (n l : Name) (r : Option ℕ) → sought A total here scope time k n ≡ r
        → import flat (eqb v 1) l (state s) (spotted (row_at A) time r) ≡ tried (with_choice s here k l (chosen A total here scope time k l r))
    unfolding with_choice chosen
    item-found k n l None q = refl
    item-found k n l (Some e) q = visible (eqb (get_or A.visible e 0) 1)
      where
        kind : get_or A.kinds e 0 ≡ k
        kind = kind_of k n e q

        staged : (b c : Bool)
            → cond (b || c) (fail 45) (done (flat.add (state s) (head (get_or A.kinds e 0) l (eqb v 1) (get_or A.marks e 0) (used e)) (inside (tab (row_at A) time) e (row_at A e).body)))
            ≡ tried (cond (eqb (cond {A = Choice} b (no_choice 45) (record { number = 0; mark = get_or A.marks e 0; origin = e + 1; target = (inside_of A total here scope time e).scope; moment = (inside_of A total here scope time e).time })).number 0)
            (cond c (numbered 45 s) (put s k (cond {A = Choice} b (no_choice 45) (record { number = 0; mark = get_or A.marks e 0; origin = e + 1; target = (inside_of A total here scope time e).scope; moment = (inside_of A total here scope time e).time })).mark l (cond {A = Choice} b (no_choice 45) (record { number = 0; mark = get_or A.marks e 0; origin = e + 1; target = (inside_of A total here scope time e).scope; moment = (inside_of A total here scope time e).time })).origin (cond {A = Choice} b (no_choice 45) (record { number = 0; mark = get_or A.marks e 0; origin = e + 1; target = (inside_of A total here scope time e).scope; moment = (inside_of A total here scope time e).time })).target (cond {A = Choice} b (no_choice 45) (record { number = 0; mark = get_or A.marks e 0; origin = e + 1; target = (inside_of A total here scope time e).scope; moment = (inside_of A total here scope time e).time })).moment))
            (numbered (cond {A = Choice} b (no_choice 45) (record { number = 0; mark = get_or A.marks e 0; origin = e + 1; target = (inside_of A total here scope time e).scope; moment = (inside_of A total here scope time e).time })).number s))
        staged true c = refl
        staged false true = refl
        staged false false = ap (λ (x : Flat). done x) (sym (added k e l kind))

        visible : (b : Bool)
            → cond b (cond (held flat (state s) (get_or A.kinds e 0) l) (fail 45) (done (flat.add (state s) (head (get_or A.kinds e 0) l (eqb v 1) (get_or A.marks e 0) (used e)) (inside (tab (row_at A) time) e (row_at A e).body)))) (fail 44)
            ≡ tried (with_choice s here k l (cond b (cond (occupied A total here scope time k l) (no_choice 45) (record { number = 0; mark = get_or A.marks e 0; origin = e + 1; target = (inside_of A total here scope time e).scope; moment = (inside_of A total here scope time e).time })) (no_choice 44)))
        visible true =
            ap (λ (b : Bool). cond b (fail 45) (done (flat.add (state s) (head (get_or A.kinds e 0) l (eqb v 1) (get_or A.marks e 0) (used e)) (inside (tab (row_at A) time) e (row_at A e).body))))
            (ap (λ (y : ℕ). held flat (state s) y l) kind ∙ held-state s k l) ∙ staged (occupied A total here scope time k l) (staged_held s here k l)
        visible false = refl

    pub item-same : (k : ℕ) (n l : Name) → import flat (eqb v 1) l (state s) (flat.find (placed (row_at A) scope time) k n) ≡ tried (staged_item A total here scope time s k n l)
    unfolding choice_of sought
    item-same k n l =
        ap (import flat (eqb v 1) l (state s)) (find_spot (row_at A) time scope k n ∙ ap (spotted (row_at A) time) (sym (spot_first ix few scope time k n soon)))
        ∙ item-found k n l (sought A total here scope time k n) refl

    -- what is staged after an item
    pub item-after : (k : ℕ) (n l : Name) → after (tried (staged_item A total here scope time s k n l)) (state s) ≡ state (staged_item A total here scope time s k n l)
    unfolding with_choice
    item-after k n l = go (choice_of A total here scope time k n l) (eqb (choice_of A total here scope time k n l).number 0) (staged_held s here k l) refl
      where
        go : (c : Choice) (a b : Bool) → eqb c.number 0 ≡ a
            → after (tried (cond a (cond b (numbered 45 s) (put s k c.mark l c.origin c.target c.moment)) (numbered c.number s))) (state s)
            ≡ state (cond a (cond b (numbered 45 s) (put s k c.mark l c.origin c.target c.moment)) (numbered c.number s))
        go c true true q = refl
        go c true false q = refl
        go c false b q = rw q

  -- one element
  judged : (a b c : Staged) (x : Flat) → judge flat (tried a) (tried b) (tried c) x ≡ cond (eqb (verdict_of a.number b.number c.number) 0) (done x) (fail (verdict_of a.number b.number c.number))
  unfolding verdict_of
  judged a b c x = go (eqb a.number 0) (eqb b.number 0) (eqb c.number 0) refl refl refl
    where
      told : (d e : Bool) → eqb a.number 0 ≡ false → eqb b.number 0 ≡ false → eqb c.number 0 ≡ false
          → fail (cond d (cond e c.number b.number) a.number) ≡ cond (eqb (cond d (cond e c.number b.number) a.number) 0) (done x) (fail (cond d (cond e c.number b.number) a.number))
      told true true p q r = rw r
      told true false p q r = rw q
      told false e p q r = rw p

      go : (d e f : Bool) → eqb a.number 0 ≡ d → eqb b.number 0 ≡ e → eqb c.number 0 ≡ f
          → judge flat (cond d (done (state a)) (fail a.number)) (cond e (done (state b)) (fail b.number)) (cond f (done (state c)) (fail c.number)) x
          ≡ cond (eqb (cond d 0 (cond e 0 (cond f 0 (cond (eqb a.number 43) (cond (eqb b.number 43) c.number b.number) a.number)))) 0) (done x) (fail (cond d 0 (cond e 0 (cond f 0 (cond (eqb a.number 43) (cond (eqb b.number 43) c.number b.number) a.number)))))
      go true e f p q r = refl
      go false true f p q r = refl
      go false false true p q r = refl
      go false false false p q r = told (eqb a.number 43) (eqb b.number 43) p q r

  pub element-same : (s : Staged) → Sized_staged s → s.count + 3 ≤ 96 → (e : Elem)
      → element flat (placed (row_at A) scope time) (eqb v 1) e (state s) ≡ tried (staged_element A total here scope time s e.name e.local)
  unfolding element staged_element
  element-same s z room e =
      let it : Staged → ℕ → Staged = λ x k. staged_item A total here scope time x k e.name e.local in
      let try : Flat → ℕ → Tried Flat = λ x k. attempt flat (placed (row_at A) scope time) (eqb v 1) e k x in
      let a = it s 1 in
      let b = it a 2 in
      let c = it b 3 in
      let za : Sized_staged a = item-sized s here 1 e.local (choice_of A total here scope time 1 e.name e.local) z in
      let zb : Sized_staged b = item-sized a here 2 e.local (choice_of A total here scope time 2 e.name e.local) za in
      let na = item_count_within s here 1 e.local (choice_of A total here scope time 1 e.name e.local) in
      let nb = item_count_within a here 2 e.local (choice_of A total here scope time 2 e.name e.local) in
      let ra : s.count < 96 = omega arith in
      let rb : a.count < 96 = omega arith in
      let rc : b.count < 96 = omega arith in
      let ea : try (state s) 1 ≡ tried a = item-same s z ra 1 e.name e.local in
      let eb : try (state a) 2 ≡ tried b = item-same a za rb 2 e.name e.local in
      let ec : try (state b) 3 ≡ tried c = item-same b zb rc 3 e.name e.local in
      let xa : after (tried a) (state s) ≡ state a = item-after s z ra 1 e.name e.local in
      let xb : after (tried b) (state a) ≡ state b = item-after a za rb 2 e.name e.local in
      let xc : after (tried c) (state b) ≡ state c = item-after b zb rc 3 e.name e.local in
      rw (ea, xa, eb, xb, ec, xc) (judged a b c (state c))

  -- all elements
  pub stage-same : (d : List ℕ) (n p : ℕ) (s : Staged) → Sized_staged s → s.count + 3 * n ≤ 96 → s.number ≡ 0
      → stage flat (placed (row_at A) scope time) (eqb v 1) (elements_from d n p) (state s) ≡ tried (staged_all A total here scope time d n p s)
  unfolding stage elements_from staged_all
  stage-same d zero p s z room fine = rw fine
  stage-same d (suc n) p s z room fine =
      let x = staged_element A total here scope time s (packed (string d p)) (local_name d p) in
      let zx : Sized_staged x = element-sized s z (packed (string d p)) (local_name d p) in
      rw (element-same s z (omega arith) (element_at d p))
      (go (eqb x.number 0) refl (λ q. stage-same d n (after_element d p) x zx (omega (arith, element-count A total here scope time s (packed (string d p)) (local_name d p))) q))
    where
      element-sized : (s : Staged) → Sized_staged s → (n l : Name) → Sized_staged (staged_element A total here scope time s n l)
      element-sized s z n l = whole-sized A total here scope time s z n l

      go : (b : Bool) → eqb (staged_element A total here scope time s (packed (string d p)) (local_name d p)).number 0 ≡ b
          → ((staged_element A total here scope time s (packed (string d p)) (local_name d p)).number ≡ 0 → stage flat (placed (row_at A) scope time) (eqb v 1) (elements_from d n (after_element d p)) (state (staged_element A total here scope time s (packed (string d p)) (local_name d p)))
          ≡ tried (staged_all A total here scope time d n (after_element d p) (staged_element A total here scope time s (packed (string d p)) (local_name d p))))
          → bind (cond b (done (state (staged_element A total here scope time s (packed (string d p)) (local_name d p)))) (fail (staged_element A total here scope time s (packed (string d p)) (local_name d p)).number)) (stage flat (placed (row_at A) scope time) (eqb v 1) (elements_from d n (after_element d p)))
          ≡ tried (cond b (staged_all A total here scope time d n (after_element d p) (staged_element A total here scope time s (packed (string d p)) (local_name d p))) (staged_element A total here scope time s (packed (string d p)) (local_name d p)))
      go true q ih = ih (eqb-true (staged_element A total here scope time s (packed (string d p)) (local_name d p)).number 0 q)
      go false q ih = rw q
