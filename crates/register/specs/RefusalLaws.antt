-- A call is refused a number exactly when that number's row says so: the proof, over any model. Assumes nothing.
use Prim.Native.Nat.{ℕ, suc, ◌≤◌, ◌<◌}
use native.Mathlib.Omega.{arith}
use Rattle.std.proofs.Math.Path.{◌≡◌, refl, ap, subst}
use Rattle.std.proofs.Common.{sym, ◌∙◌, inl, inr, ltb-true, ltb-false, lt-ltb, le-ltb, eqb-true, ne_eqb}
use Rattle.std.specs.Prelude.{Bool, cond, not, ◌||◌, ◌&&◌, ◌⊎◌, ◌↔◌, eqb, ltb}
use Rattle.std.proofs.Math.Bool.{true, false}
use Rattle.std.proofs.Math.Logic.{⊎_elim}
use mathlib.Core.List.Memᴰ
use mathlib.Core.List.{List, [], ◌∷◌, ◌++◌, append_assoc, append-nil, Memᴰ}
use Rattle.std.proofs.Math.ListN.{length, length-append}
use Rattle.std.proofs.lemmas.Bool.{eqb-false}
use Rattle.names.specs.declared.Name.{Name}
use Rattle.names.specs.Packed.{same_name, names_same}
use Rattle.scope_tree.specs.Step.{copy_of, declared, Head, Elem, Call, enter, exit, alias, enum, function, use', get_alias, get_function, bad, Answer, ok, refused, Found, missing, got, Model, Tried, done, fail, is_got, told_mark, shared, any_main, after, first_told, head, bind, same_refl, held, full, deep, nav, import, attempt, judge, element, stage, use_of, fresh, settle, close, step}
use Rattle.scope_tree.specs.Note.{inner, along, bring_all, noted, element-bring, use_bring, fresh-done}
use Rattle.register.specs.Refusals.{Leads, NoMain, NoCrate, no_crate, Adds, adds_module, adds_alias, adds_enum, adds_function, adds_items, Argument, argument, Formed, pick, at, so_far, Passes, AllPass, NoSegment, PrivateSegment, Says, says_43, says_44, says_45, Takes, Taken, as_type, as_function, as_module, Fails, by_type, by_function, by_module, AllTaken, FirstFails, ItemFails, Holds, NoModule, no_module, PrivateModule, private_module, NoItem, no_item, no_alias, no_function, PrivateItem, private_item, Clash, clash, AliasMain, alias_main, ModuleTwice, module_twice, TypeTwice, alias_twice, enum_twice, FunctionTwice, function_twice, NotInside, not_inside, Fault, Past, TreeFull, Refused}

-- LISTS
-- a place in l with one more at its end
snoc_split : {A : Type 0} (l : List A) (x : A) (front : List A) (y : A) (back : List A) → l ++ (x ∷ []) ≡ front ++ (y ∷ back)
    → ((rest : List A) × (l ≡ front ++ (y ∷ rest))) ⊎ ((front ≡ l) × (y ≡ x))
snoc_split [] x [] y back q = inr (refl, cc)
snoc_split [] x (z ∷ []) y back q = let w : ◌≡◌ {A = ℕ} 0 1 = cc in absurd (omega arith)
snoc_split [] x (z ∷ (z' ∷ f)) y back q = let w : ◌≡◌ {A = ℕ} 0 1 = cc in absurd (omega arith)
snoc_split (w ∷ l) x [] y back q = let p : w ≡ y = cc in inl (l, rw p)
snoc_split (w ∷ l) x (z ∷ f) y back q =
    let p : w ≡ z = cc in
    ⊎_elim (λ k. inl (k.0, rw (p, k.1))) (λ k. inr (rw (p, k.0), k.1)) (snoc_split l x f y back (cc))

-- A PATH
leads-shared : (f ns b : List Name) → Leads f ns → length f ≤ shared ns (f ++ b)
unfolding shared
leads-shared [] ns b l = omega arith
leads-shared (n ∷ f) ns b l = rw (l.is, same_refl n) (let i = leads-shared f (f ++ l.rest) b (record { rest = l.rest; is = refl }) in omega arith)

shared-leads : (f ns b : List Name) → length f ≤ shared ns (f ++ b) → Leads f ns
unfolding shared
shared-leads [] ns b h = record { rest = ns; is = refl }
shared-leads (n ∷ f) [] b h = absurd (omega arith)
shared-leads (n ∷ f) (m ∷ ns) b h = go (same_name m n) refl h (shared-leads f ns b)
  where
    go : (t : Bool) → same_name m n ≡ t → suc (length f) ≤ cond t (suc (shared ns (f ++ b))) 0 → (length f ≤ shared ns (f ++ b) → Leads f ns) → Leads (n ∷ f) (m ∷ ns)
    go true e h ih = more (names_same m n e) (ih (omega arith))
      where
        more : m ≡ n → Leads f ns → Leads (n ∷ f) (m ∷ ns)
        more e l = record { rest = l.rest; is = rw (e, l.is) }
    go false e h ih = absurd (omega arith)

module _ {X C : Type 0} (M : Model X C) where
  along-append : (f g : List Name) (c : C) → along M (f ++ g) c ≡ along M g (along M f c)
  unfolding along
  along-append [] g c = refl
  along-append (n ∷ f) g c = along-append f g (inner M (M.find c 3 n))

  pass_all : (x : X) (f : List Name) (n : Name) → AllPass M x f → Passes M x f n → AllPass M x (f ++ (n ∷ []))
  pass_all x f n a p front m back q =
      ⊎_elim (λ k. a front m k.0 k.1) (λ k. rw (k.0, k.1) p) (snoc_split f n front m back q)

  -- the test of 42
  passing : (x : X) (p f g : List Name) (v : Bool) → p ≡ f ++ g → (v ≡ true) ⊎ Leads f (M.names x) → (not v && ltb (shared (M.names x) p) (length f)) ≡ false
  passing x p f g v q (inl e) = rw e
  passing x p f g v q (inr l) =
      let le : length f ≤ shared (M.names x) p = rw q (leads-shared f (M.names x) g l) in
      rw (le-ltb (shared (M.names x) p) (length f) le) (go v)
    where
      go : (v : Bool) → not v && false ≡ false
      go true = refl
      go false = refl

  barring : (x : X) (p f g : List Name) → p ≡ f ++ g → (Leads f (M.names x) → ⊥) → ltb (shared (M.names x) p) (length f) ≡ true
  barring x p f g q nl = go (ltb (shared (M.names x) p) (length f)) refl
    where
      go : (t : Bool) → ltb (shared (M.names x) p) (length f) ≡ t → t ≡ true
      go true e = refl
      go false e = absurd (nl (shared-leads f (M.names x) g (rw q at (ltb-false (shared (M.names x) p) (length f) e))))

  -- a segment that passes leads on
  on : (x : X) (p f : List Name) (n : Name) (g : List Name) → p ≡ f ++ (n ∷ g) → Passes M x f n
      → nav M (shared (M.names x) p) (length f) (n ∷ g) (so_far M x f) ≡ nav M (shared (M.names x) p) (length (f ++ (n ∷ []))) g (so_far M x (f ++ (n ∷ [])))
  unfolding nav along
  on x p f n g q a =
      let len : length (f ++ (n ∷ [])) ≡ suc (length f) = omega (arith, length-append f (n ∷ [])) in
      let c' : so_far M x (f ++ (n ∷ [])) ≡ a.contents = along-append f (n ∷ []) (M.root x) ∙ ap (inner M) a.found in
      rw (len, c', a.found, passing x p f (n ∷ g) a.shows.vis q a.may)

  over : (x : X) (p f g r : List Name) → p ≡ f ++ (g ++ r) → AllPass M x (f ++ g)
      → nav M (shared (M.names x) p) (length f) (g ++ r) (so_far M x f) ≡ nav M (shared (M.names x) p) (length (f ++ g)) r (so_far M x (f ++ g))
  over x p f [] r q a = rw (append-nil f)
  over x p f (n ∷ g) r q a =
      let z : f ++ (n ∷ g) ≡ (f ++ (n ∷ [])) ++ g = rw append_assoc in
      on x p f n (g ++ r) q (a f n g refl)
      ∙ subst (λ (l : List Name). nav M (shared (M.names x) p) (length (f ++ (n ∷ []))) (g ++ r) (so_far M x (f ++ (n ∷ []))) ≡ nav M (shared (M.names x) p) (length l) r (so_far M x l)) (sym z)
      (over x p (f ++ (n ∷ [])) g r (q ∙ (rw append_assoc)) (rw z at a))

  passed : (x : X) (p : List Name) → AllPass M x p → nav M (shared (M.names x) p) 0 p (M.root x) ≡ done (so_far M x p)
  unfolding nav along
  passed x p a =
      let z : p ++ [] ≡ p = append-nil p in
      subst (λ (l : List Name). nav M (shared (M.names x) p) 0 l (M.root x) ≡ done (so_far M x p)) z (over x p [] p [] (sym z) a)

  missed : (x : X) (p : List Name) → NoSegment M x p → nav M (shared (M.names x) p) 0 p (M.root x) ≡ fail 41
  unfolding nav along
  missed x p w =
      subst (λ (l : List Name). nav M (shared (M.names x) p) 0 l (M.root x) ≡ fail 41) (sym w.split)
      (over x p [] w.front (w.segment ∷ w.back) w.split w.before ∙ (rw w.none))

  barred : (x : X) (p : List Name) → PrivateSegment M x p → nav M (shared (M.names x) p) 0 p (M.root x) ≡ fail 42
  unfolding nav along
  barred x p w =
      subst (λ (l : List Name). nav M (shared (M.names x) p) 0 l (M.root x) ≡ fail 42) (sym w.split)
      (over x p [] w.front (w.segment ∷ w.back) w.split w.before
      ∙ (rw (w.found, w.private, barring x p w.front (w.segment ∷ w.back) w.split w.not_led)))

  -- and there is no other outcome
  pub data NavSays (x : X) (p : List Name) : Tried C → Type 0 where
    nav_good : AllPass M x p → NavSays x p (done (so_far M x p))
    nav_41 : NoSegment M x p → NavSays x p (fail 41)
    nav_42 : PrivateSegment M x p → NavSays x p (fail 42)

  nav-from : (x : X) (p f g : List Name) → p ≡ f ++ g → AllPass M x f → NavSays x p (nav M (shared (M.names x) p) (length f) g (so_far M x f))
  unfolding nav
  nav-from x p f [] q a = let z : p ≡ f = q ∙ append-nil f in rw (← z) (nav_good (rw (← z) at a))
  nav-from x p f (n ∷ g) q a = go (M.find (so_far M x f) 3 n) refl (λ b. nav-from x p (f ++ (n ∷ [])) g (q ∙ (rw append_assoc)) (pass_all x f n a b))
    where
      go : (t : Found C) → M.find (so_far M x f) 3 n ≡ t
          → (Passes M x f n → NavSays x p (nav M (shared (M.names x) p) (length (f ++ (n ∷ []))) g (so_far M x (f ++ (n ∷ [])))))
          → NavSays x p (nav M (shared (M.names x) p) (length f) (n ∷ g) (so_far M x f))
      go missing e ih = rw e (nav_41 (record { front = f; segment = n; back = g; split = q; before = a; none = e }))
      go (got i h c) e ih = try h.vis refl (ltb (shared (M.names x) p) (length f)) refl
        where
          next : Passes M x f n → NavSays x p (nav M (shared (M.names x) p) (length f) (n ∷ g) (so_far M x f))
          next b = rw (on x p f n g q b) (ih b)

          try : (v : Bool) → h.vis ≡ v → (t : Bool) → ltb (shared (M.names x) p) (length f) ≡ t → NavSays x p (nav M (shared (M.names x) p) (length f) (n ∷ g) (so_far M x f))
          try true ev t et = next (record { number = i; shows = h; contents = c; found = e; may = inl ev })
          try false ev false et =
              next (record { number = i; shows = h; contents = c; found = e; may = inr (shared-leads f (M.names x) (n ∷ g) (rw q at (ltb-false (shared (M.names x) p) (length f) et))) })
          try false ev true et =
              rw (e, ev, et)
              (nav_42 (record {
                front = f;
                segment = n;
                back = g;
                split = q;
                before = a;
                number = i;
                shows = h;
                contents = c;
                found = e;
                private = ev;
                not_led = λ l. let le = leads-shared f (M.names x) (n ∷ g) l in let lt = ltb-true (shared (M.names x) p) (length f) et in omega (arith, ap (shared (M.names x)) q);
              }))

  pub nav_says : (x : X) (p : List Name) → NavSays x p (nav M (shared (M.names x) p) 0 p (M.root x))
  unfolding along
  nav_says x p = nav-from x p [] p refl (λ front n back q. absurd (go front n back q))
    where
      go : (front : List Name) (n : Name) (back : List Name) → [] ≡ front ++ (n ∷ back) → ⊥
      go [] n back q = let w : ◌≡◌ {A = ℕ} 0 1 = cc in omega arith
      go (m ∷ front) n back q = let w : ◌≡◌ {A = ℕ} 0 1 = cc in omega arith

  -- AN ELEMENT
  says_fail : (x : X) (c : C) (v : Bool) (e : Elem) (k n : ℕ) → Says M x c e k n → attempt M c v e k x ≡ fail n
  says_fail x c v e k n (says_43 q) = rw q
  says_fail x c v e k n (says_44 i h b q w) = rw (q, w)
  says_fail x c v e k n (says_45 i h b q w t) = rw (q, w, t)

  data Tells (x : X) (c : C) (e : Elem) (k : ℕ) : Tried X → Type 0 where
    tells : {n : ℕ} → Says M x c e k n → Tells x c e k (fail n)
    takes : (y : X) → Takes M x c e k → Tells x c e k (done y)

  kind_says : (x : X) (c : C) (v : Bool) (e : Elem) (k : ℕ) → Tells x c e k (attempt M c v e k x)
  kind_says x c v e k = go (M.find c k e.name) refl
    where
      go : (f : Found C) → M.find c k e.name ≡ f → Tells x c e k (import M v e.local x f)
      go missing q = tells (says_43 q)
      go (got i h b) q = try h.vis refl (held M x h.kind e.local) refl
        where
          try : (w : Bool) → h.vis ≡ w → (t : Bool) → held M x h.kind e.local ≡ t
              → Tells x c e k (cond w (cond t (fail 45) (done (M.add x (copy_of i h e.local v) b))) (fail 44))
          try true ew true et = tells (says_45 i h b q ew et)
          try true ew false et = takes _ (record { number = i; shows = h; contents = b; found = q; public = ew; free = et })
          try false ew t et = tells (says_44 i h b q ew)

  fails_of : (x : X) (c : C) (e : Elem) (n m l : ℕ) → Says M x c e 1 n → Says M x c e 2 m → Says M x c e 3 l → Fails M x c e (first_told n m l)
  fails_of x c e n m l s₁ s₂ s₃ = go (eqb n 43) refl
    where
      go : (t : Bool) → eqb n 43 ≡ t → Fails M x c e (cond t (cond (eqb m 43) l m) n)
      go true q = next (eqb m 43) refl
        where
          first : Says M x c e 1 43
          first = subst (Says M x c e 1) (eqb-true n 43 q) s₁

          next : (t : Bool) → eqb m 43 ≡ t → Fails M x c e (cond t l m)
          next true r = by_module first (subst (Says M x c e 2) (eqb-true m 43 r) s₂) s₃
          next false r = by_function first s₂ (eqb-false m 43 r) l s₃
      go false q = by_type s₁ (eqb-false n 43 q) m s₂ l s₃

  data ElementSays (x : X) (c : C) (e : Elem) : Tried X → Type 0 where
    element_good : (y : X) → Taken M x c e → ElementSays x c e (done y)
    element_bad : {n : ℕ} → Fails M x c e n → ElementSays x c e (fail n)

  element_says : (x : X) (c : C) (v : Bool) (e : Elem) → ElementSays x c e (element M c v e x)
  unfolding element
  element_says x c v e = one (attempt M c v e 1 x) (kind_says x c v e 1)
    where
      one : (a : Tried X) → Tells x c e 1 a
          → ElementSays x c e (judge M a (attempt M c v e 2 (after a x)) (attempt M c v e 3 (after (attempt M c v e 2 (after a x)) (after a x))) (after (attempt M c v e 3 (after (attempt M c v e 2 (after a x)) (after a x))) (after (attempt M c v e 2 (after a x)) (after a x))))
      one a (takes y t) = element_good _ (as_type t)
      one a (tells {n} s₁) = two (attempt M c v e 2 x) (kind_says x c v e 2)
        where
          two : (b : Tried X) → Tells x c e 2 b → ElementSays x c e (judge M (fail n) b (attempt M c v e 3 (after b x)) (after (attempt M c v e 3 (after b x)) (after b x)))
          two b (takes y t) = element_good _ (as_function t)
          two b (tells {n = m} s₂) = three (attempt M c v e 3 x) (kind_says x c v e 3)
            where
              three : (d : Tried X) → Tells x c e 3 d → ElementSays x c e (judge M (fail n) (fail m) d (after d x))
              three d (takes y t) = element_good _ (as_module t)
              three d (tells {n = l} s₃) = element_bad (fails_of x c e n m l s₁ s₂ s₃)

  all-fail : (x : X) (c : C) (v : Bool) (e : Elem) (n m l : ℕ) → Says M x c e 1 n → Says M x c e 2 m → Says M x c e 3 l → element M c v e x ≡ fail (first_told n m l)
  unfolding element
  all-fail x c v e n m l s₁ s₂ s₃ = rw (says_fail x c v e 1 n s₁, says_fail x c v e 2 m s₂, says_fail x c v e 3 l s₃)

  fails-fail : (x : X) (c : C) (v : Bool) (e : Elem) (n : ℕ) → Fails M x c e n → element M c v e x ≡ fail n
  fails-fail x c v e n (by_type s₁ ne m s₂ l s₃) = all-fail x c v e n m l s₁ s₂ s₃ ∙ (rw (ne_eqb n 43 ne))
  fails-fail x c v e n (by_function s₁ s₂ ne l s₃) = all-fail x c v e 43 n l s₁ s₂ s₃ ∙ (rw (ne_eqb n 43 ne))
  fails-fail x c v e n (by_module s₁ s₂ s₃) = all-fail x c v e 43 43 n s₁ s₂ s₃

  takes_says : (x : X) (c : C) (e : Elem) (k n : ℕ) → Takes M x c e k → Says M x c e k n → ⊥
  takes_says x c e k n t (says_43 q) = let p = t.found in let z : ◌≡◌ {A = ℕ} 0 1 = cc in omega arith
  takes_says x c e k n t (says_44 i h b q w) =
      let p = t.found in
      let g : t.shows ≡ h = cc in
      let z : true ≡ false = sym t.public ∙ ap (λ (h : Head). h.vis) g ∙ w in
      let z : ◌≡◌ {A = ℕ} 0 1 = cc in
      omega arith
  takes_says x c e k n t (says_45 i h b q w u) =
      let p = t.found in
      let g : t.shows ≡ h = cc in
      let z : false ≡ true = sym t.free ∙ ap (λ (h : Head). held M x h.kind e.local) g ∙ u in
      let z : ◌≡◌ {A = ℕ} 0 1 = cc in
      omega arith

  taken-fails : (x : X) (c : C) (e : Elem) (n : ℕ) → Taken M x c e → Fails M x c e n → ⊥
  taken-fails x c e n (as_type t) (by_type s₁ ne m s₂ l s₃) = takes_says x c e 1 n t s₁
  taken-fails x c e n (as_type t) (by_function s₁ s₂ ne l s₃) = takes_says x c e 1 43 t s₁
  taken-fails x c e n (as_type t) (by_module s₁ s₂ s₃) = takes_says x c e 1 43 t s₁
  taken-fails x c e n (as_function t) (by_type s₁ ne m s₂ l s₃) = takes_says x c e 2 m t s₂
  taken-fails x c e n (as_function t) (by_function s₁ s₂ ne l s₃) = takes_says x c e 2 n t s₂
  taken-fails x c e n (as_function t) (by_module s₁ s₂ s₃) = takes_says x c e 2 43 t s₂
  taken-fails x c e n (as_module t) (by_type s₁ ne m s₂ l s₃) = takes_says x c e 3 l t s₃
  taken-fails x c e n (as_module t) (by_function s₁ s₂ ne l s₃) = takes_says x c e 3 l t s₃
  taken-fails x c e n (as_module t) (by_module s₁ s₂ s₃) = takes_says x c e 3 n t s₃

  element-taken : (x : X) (c : C) (v : Bool) (e : Elem) → Taken M x c e → element M c v e x ≡ done (bring_all M c v (e ∷ []) x)
  unfolding bring_all
  element-taken x c v e t = go (element M c v e x) refl (element_says x c v e)
    where
      go : (a : Tried X) → element M c v e x ≡ a → ElementSays x c e a → a ≡ done (bring_all M c v (e ∷ []) x)
      go a q (element_good y t') = rw (element-bring M c v e x y q)
      go a q (element_bad {n} f) = absurd (taken-fails x c e n t f)

  -- THE ELEMENTS
  bring-append : (c : C) (v : Bool) (f g : List Elem) (x : X) → bring_all M c v (f ++ g) x ≡ bring_all M c v g (bring_all M c v f x)
  unfolding bring_all
  bring-append c v [] g x = refl
  bring-append c v (e ∷ f) g x = bring-append c v f g _

  take_all : (x : X) (c : C) (v : Bool) (f : List Elem) (e : Elem) → AllTaken M x c v f → Taken M (bring_all M c v f x) c e → AllTaken M x c v (f ++ (e ∷ []))
  take_all x c v f e a t front d back q =
      ⊎_elim (λ k. a front d k.0 k.1) (λ k. rw (k.0, k.1) t) (snoc_split f e front d back q)

  goes_on : (x : X) (c : C) (v : Bool) (f : List Elem) (e : Elem) (g : List Elem) → Taken M (bring_all M c v f x) c e
      → stage M c v (e ∷ g) (bring_all M c v f x) ≡ stage M c v g (bring_all M c v (f ++ (e ∷ [])) x)
  unfolding stage
  goes_on x c v f e g t = rw (element-taken (bring_all M c v f x) c v e t, bring-append c v f (e ∷ []) x)

  stage-over : (x : X) (c : C) (v : Bool) (f g r : List Elem) → AllTaken M x c v (f ++ g)
      → stage M c v (g ++ r) (bring_all M c v f x) ≡ stage M c v r (bring_all M c v (f ++ g) x)
  stage-over x c v f [] r a = rw (append-nil f)
  stage-over x c v f (e ∷ g) r a =
      let z : f ++ (e ∷ g) ≡ (f ++ (e ∷ [])) ++ g = rw append_assoc in
      goes_on x c v f e (g ++ r) (a f e g refl)
      ∙ subst (λ (l : List Elem). stage M c v (g ++ r) (bring_all M c v (f ++ (e ∷ [])) x) ≡ stage M c v r (bring_all M c v l x)) (sym z)
      (stage-over x c v (f ++ (e ∷ [])) g r (rw z at a))

  stage-fail : (x : X) (c : C) (v : Bool) (es : List Elem) (n : ℕ) → FirstFails M x c v es n → stage M c v es x ≡ fail n
  unfolding stage bring_all
  stage-fail x c v es n w =
      subst (λ (l : List Elem). stage M c v l x ≡ fail n) (sym w.split)
      (stage-over x c v [] w.front (w.elem ∷ w.back) w.before ∙ (rw (fails-fail (bring_all M c v w.front x) c v w.elem n w.fails)))

  pub data StageSays (x : X) (c : C) (v : Bool) (es : List Elem) : Tried X → Type 0 where
    stage_good : (y : X) → AllTaken M x c v es → StageSays x c v es (done y)
    stage_bad : {n : ℕ} → FirstFails M x c v es n → StageSays x c v es (fail n)

  stage-from : (x : X) (c : C) (v : Bool) (es f g : List Elem) → es ≡ f ++ g → AllTaken M x c v f → StageSays x c v es (stage M c v g (bring_all M c v f x))
  unfolding stage
  stage-from x c v es f [] q a = let z : es ≡ f = q ∙ append-nil f in stage_good _ (rw (← z) at a)
  stage-from x c v es f (e ∷ g) q a =
      go (element M c v e (bring_all M c v f x)) refl (element_says (bring_all M c v f x) c v e)
      (λ t. stage-from x c v es (f ++ (e ∷ [])) g (q ∙ (rw append_assoc)) (take_all x c v f e a t))
    where
      go : (b : Tried X) → element M c v e (bring_all M c v f x) ≡ b → ElementSays (bring_all M c v f x) c e b
          → (Taken M (bring_all M c v f x) c e → StageSays x c v es (stage M c v g (bring_all M c v (f ++ (e ∷ [])) x))) → StageSays x c v es (stage M c v (e ∷ g) (bring_all M c v f x))
      go b r (element_good y t) ih = rw (goes_on x c v f e g t) (ih t)
      go b r (element_bad w) ih = rw r (stage_bad (record { front = f; elem = e; back = g; split = q; before = a; fails = w }))

  pub stage_says : (x : X) (c : C) (v : Bool) (es : List Elem) → StageSays x c v es (stage M c v es x)
  unfolding bring_all
  stage_says x c v es = stage-from x c v es [] es refl (λ front e back q. absurd (go front e back q))
    where
      go : (front : List Elem) (e : Elem) (back : List Elem) → [] ≡ front ++ (e ∷ back) → ⊥
      go [] n back q = let w : ◌≡◌ {A = ℕ} 0 1 = cc in omega arith
      go (m ∷ front) n back q = let w : ◌≡◌ {A = ℕ} 0 1 = cc in omega arith

  -- A CALL
  main_in : (es : List Elem) → any_main es ≡ true → (e : Elem) × (Memᴰ e es × (e.as_main ≡ true))
  unfolding any_main
  main_in [] q = let z : ◌≡◌ {A = ℕ} 0 1 = cc in absurd (omega arith)
  main_in (e ∷ es) q = go e.as_main refl q (main_in es)
    where
      go : (t : Bool) → e.as_main ≡ t → t || any_main es ≡ true → (any_main es ≡ true → (d : Elem) × (Memᴰ d es × (d.as_main ≡ true))) → (d : Elem) × (Memᴰ d (e ∷ es) × (d.as_main ≡ true))
      go true r q ih = (e, (Memᴰ.head refl, r))
      go false r q ih = let w = ih q in (w.0, (Memᴰ.tail w.1.0, w.1.1))

  in_main : (es : List Elem) (e : Elem) → Memᴰ e es → e.as_main ≡ true → any_main es ≡ true
  unfolding any_main
  in_main [] e m q = absurd (Memᴰ.not-nil m)
  in_main (d ∷ es) e m q = ⊎_elim (λ r. go r) (λ k. rest d.as_main (in_main es e k q)) (Memᴰ.cases_cons m)
    where
      go : e ≡ d → d.as_main || any_main es ≡ true
      go r = let t : d.as_main ≡ true = ap (λ (a : Elem). a.as_main) (sym r) ∙ q in rw t

      rest : (t : Bool) → any_main es ≡ true → t || any_main es ≡ true
      rest true k = refl
      rest false k = k

  main-out : (es : List Elem) → any_main es ≡ false → NoMain es
  main-out es q e m = go e.as_main refl
    where
      go : (t : Bool) → e.as_main ≡ t → t ≡ false
      go true r = let k = in_main es e m r in let z : ◌≡◌ {A = ℕ} 0 1 = cc in absurd (omega arith)
      go false r = refl

  out-main : (es : List Elem) → NoMain es → any_main es ≡ false
  out-main es w = go (any_main es) refl
    where
      go : (t : Bool) → any_main es ≡ t → t ≡ false
      go true r = let k = main_in es r in let q = w k.0 k.1.0 in let p = k.1.1 in let z : ◌≡◌ {A = ℕ} 0 1 = cc in absurd (omega arith)
      go false r = refl

  abbrev left : X → List Name → Tried X
  left x [] = fail 50
  left x (n ∷ ns) = done (M.closed x)

  abbrev asked : X → Found C → Tried X
  asked x missing = fail 43
  asked x (got i h c) = done x

  -- a call before the limits
  abbrev tried : X → Call → Tried X
  tried x (enter n v m) = fresh M x 3 n 47 (M.opened x (head 3 n v m declared))
  tried x exit = left x (M.names x)
  tried x (alias n v m) = fresh M x 1 n 48 (M.add x (head 1 n v m declared) M.empty)
  tried x (enum n v m) = fresh M x 1 n 48 (M.add x (head 1 n v m declared) M.empty)
  tried x (function n v m) = fresh M x 2 n 49 (M.add x (head 2 n v m declared) M.empty)
  tried x (use' led p v es) = use_of M x led p v es
  tried x (get_alias n) = asked x (M.find (M.here x) 1 n)
  tried x (get_function n) = asked x (M.find (M.here x) 2 n)
  tried x (bad n) = fail n

  made : (x y : X) (c : Call) → Adds c → tried x c ≡ done y → y ≡ noted M c x
  made x y c (adds_module {n} {v} {m}) q = fresh-done M x _ y 3 n 47 q
  made x y c (adds_alias {n} {v} {m}) q = fresh-done M x _ y 1 n 48 q
  made x y c (adds_enum {n} {v} {m}) q = fresh-done M x _ y 1 n 48 q
  made x y c (adds_function {n} {v} {m}) q = fresh-done M x _ y 2 n 49 q
  made x y c (adds_items {led} {p} {v} {es}) q = use_bring M x y led p v es q

  -- the two ways to a number
  data Ends (x : X) (c : Call) (n : ℕ) : Type 0 where
    by_fault : tried x c ≡ fail n → Ends x c n
    by_limit : n ≡ 51 → Adds c → tried x c ≡ done (noted M c x) → Past M (noted M c x) → Ends x c n

  ends_of : (x : X) (c : Call) (n : ℕ) → Adds c → (settle M x (tried x c)).1 ≡ refused n → Ends x c n
  ends_of x c n a e = go (tried x c) refl e
    where
      go : (t : Tried X) → tried x c ≡ t → (settle M x t).1 ≡ refused n → Ends x c n
      go (fail m) q e = let z : m ≡ n = cc in by_fault (rw z at q)
      go (done y) q e = try (full M y) refl (deep M y) refl e
        where
          same : y ≡ noted M c x
          same = made x y c a q

          past : n ≡ 51 → Past M y → Ends x c n
          past z p = by_limit z a (q ∙ ap done same) (subst (Past M) same p)

          try : (s : Bool) → full M y ≡ s → (t : Bool) → deep M y ≡ t → (cond {A = X × Answer} (s || t) (x, refused 51) (y, ok)).1 ≡ refused n → Ends x c n
          try true es t et e = past (cc) (inl (ltb-true 1024 (M.count y) es))
          try false es true et e = past (cc) (inr (ltb-true 9 (length (M.names y)) et))
          try false es false et e = let z : ◌≡◌ {A = ℕ} 0 1 = cc in absurd (omega arith)

  settles : (x : X) (c : Call) (n : ℕ) → Ends x c n → (settle M x (tried x c)).1 ≡ refused n
  settles x c n (by_fault q) = rw q
  settles x c n (by_limit z a q p) = rw (q, z) (go p)
    where
      go : Past M (noted M c x) → (cond {A = X × Answer} (full M (noted M c x) || deep M (noted M c x)) (x, refused 51) (noted M c x, ok)).1 ≡ refused 51
      go (inl h) = rw (lt-ltb 1024 (M.count (noted M c x)) h)
      go (inr h) = rw (lt-ltb 9 (length (M.names (noted M c x))) h) (other (full M (noted M c x)))
        where
          other : (t : Bool) → (cond {A = X × Answer} (t || true) (x, refused 51) (noted M c x, ok)).1 ≡ refused 51
          other true = refl
          other false = refl

  step-ends : (x : X) (c : Call) (n : ℕ) → (step M x c).1 ≡ refused n → Ends x c n
  unfolding step
  step-ends x (enter k v m) n e = ends_of x (enter k v m) n adds_module e
  step-ends x exit n e = go (M.names x) refl e
    where
      go : (ns : List Name) → M.names x ≡ ns → (close M x ns).1 ≡ refused n → Ends x exit n
      go [] q e = let z : 50 ≡ n = cc in by_fault (rw (q, z))
      go (k ∷ ns) q e = let z : ◌≡◌ {A = ℕ} 0 1 = cc in absurd (omega arith)
  step-ends x (alias k v m) n e = ends_of x (alias k v m) n adds_alias e
  step-ends x (enum k v m) n e = ends_of x (enum k v m) n adds_enum e
  step-ends x (function k v m) n e = ends_of x (function k v m) n adds_function e
  step-ends x (use' led p v es) n e = ends_of x (use' led p v es) n adds_items e
  step-ends x (get_alias k) n e = go (M.find (M.here x) 1 k) refl e
    where
      go : (f : Found C) → M.find (M.here x) 1 k ≡ f → told_mark f ≡ refused n → Ends x (get_alias k) n
      go missing q e = let z : 43 ≡ n = cc in by_fault (rw (q, z))
      go (got i h c) q e = let z : ◌≡◌ {A = ℕ} 0 1 = cc in absurd (omega arith)
  step-ends x (get_function k) n e = go (M.find (M.here x) 2 k) refl e
    where
      go : (f : Found C) → M.find (M.here x) 2 k ≡ f → told_mark f ≡ refused n → Ends x (get_function k) n
      go missing q e = let z : 43 ≡ n = cc in by_fault (rw (q, z))
      go (got i h c) q e = let z : ◌≡◌ {A = ℕ} 0 1 = cc in absurd (omega arith)
  step-ends x (bad m) n e = let z : m ≡ n = cc in by_fault (rw z)

  limit-step : (x : X) (c : Call) (n : ℕ) → Adds c → Ends x c n → (step M x c).1 ≡ refused n
  unfolding step
  limit-step x c n (adds_module {n = k} {v} {m}) e = settles x (enter k v m) n e
  limit-step x c n (adds_alias {n = k} {v} {m}) e = settles x (alias k v m) n e
  limit-step x c n (adds_enum {n = k} {v} {m}) e = settles x (enum k v m) n e
  limit-step x c n (adds_function {n = k} {v} {m}) e = settles x (function k v m) n e
  limit-step x c n (adds_items {led} {p} {v} {es}) e = settles x (use' led p v es) n e

  fault-step : (x : X) (c : Call) (n : ℕ) → tried x c ≡ fail n → (step M x c).1 ≡ refused n
  unfolding step
  fault-step x (enter k v m) n q = settles x (enter k v m) n (by_fault q)
  fault-step x exit n q = go (M.names x) q
    where
      go : (ns : List Name) → left x ns ≡ fail n → (close M x ns).1 ≡ refused n
      go [] q = let z : 50 ≡ n = cc in rw z
      go (k ∷ ns) q = let z : ◌≡◌ {A = ℕ} 0 1 = cc in absurd (omega arith)
  fault-step x (alias k v m) n q = settles x (alias k v m) n (by_fault q)
  fault-step x (enum k v m) n q = settles x (enum k v m) n (by_fault q)
  fault-step x (function k v m) n q = settles x (function k v m) n (by_fault q)
  fault-step x (use' led p v es) n q = settles x (use' led p v es) n (by_fault q)
  fault-step x (get_alias k) n q = go (M.find (M.here x) 1 k) q
    where
      go : (f : Found C) → asked x f ≡ fail n → told_mark f ≡ refused n
      go missing q = let z : 43 ≡ n = cc in rw z
      go (got i h c) q = let z : ◌≡◌ {A = ℕ} 0 1 = cc in absurd (omega arith)
  fault-step x (get_function k) n q = go (M.find (M.here x) 2 k) q
    where
      go : (f : Found C) → asked x f ≡ fail n → told_mark f ≡ refused n
      go missing q = let z : 43 ≡ n = cc in rw z
      go (got i h c) q = let z : ◌≡◌ {A = ℕ} 0 1 = cc in absurd (omega arith)
  fault-step x (bad m) n q = let z : m ≡ n = cc in rw z

  -- THE TABLE, FROM THE CALL
  fresh-why : (x y : X) (k : ℕ) (nm : Name) (num n : ℕ) → fresh M x k nm num y ≡ fail n → (n ≡ num) × Holds M x k nm
  fresh-why x y k nm num n q = go (M.find (M.here x) k nm) refl q
    where
      go : (f : Found C) → M.find (M.here x) k nm ≡ f → cond (is_got f) (fail num) (done y) ≡ fail n → (n ≡ num) × Holds M x k nm
      go missing e q = let z : ◌≡◌ {A = ℕ} 0 1 = cc in absurd (omega arith)
      go (got i h c) e q = (cc, record { number = i; shows = h; contents = c; found = e })

  says_number : (x : X) (c : C) (e : Elem) (k n : ℕ) → Says M x c e k n → (n ≡ 43) ⊎ ((n ≡ 44) ⊎ (n ≡ 45))
  says_number x c e k n (says_43 q) = inl refl
  says_number x c e k n (says_44 i h b q w) = inr (inl refl)
  says_number x c e k n (says_45 i h b q w t) = inr (inr refl)

  fails-number : (x : X) (c : C) (e : Elem) (n : ℕ) → Fails M x c e n → (n ≡ 43) ⊎ ((n ≡ 44) ⊎ (n ≡ 45))
  fails-number x c e n (by_type s ne m s₂ l s₃) = says_number x c e 1 n s
  fails-number x c e n (by_function s₁ s ne l s₃) = says_number x c e 2 n s
  fails-number x c e n (by_module s₁ s₂ s) = says_number x c e 3 n s

  item-why : (x : X) (p : List Name) (v : Bool) (es : List Elem) (n : ℕ) → ItemFails M x p v es n → Fault M x (use' true p v es) n
  item-why x p v es n w =
      let P : ℕ → Type 0 = Fault M x (use' true p v es) in
      let I : ℕ → Type 0 = ItemFails M x p v es in
      ⊎_elim (λ (z : n ≡ 43). subst P (sym z) (no_item (subst I z w)))
      (⊎_elim (λ (z : n ≡ 44). subst P (sym z) (private_item (subst I z w))) (λ (z : n ≡ 45). subst P (sym z) (clash (subst I z w))))
      (fails-number _ _ _ n w.first.fails)

  use_why : (x : X) (led : Bool) (p : List Name) (v : Bool) (es : List Elem) (n : ℕ) → use_of M x led p v es ≡ fail n → Fault M x (use' led p v es) n
  use_why x false p v es n q = let z : 40 ≡ n = cc in subst (Fault M x (use' false p v es)) z no_crate
  use_why x true p v es n q = go (nav M (shared (M.names x) p) 0 p (M.root x)) (nav_says x p) q
    where
      go : (t : Tried C) → NavSays x p t → bind t (λ c. cond (any_main es) (fail 46) (stage M c v es x)) ≡ fail n → Fault M x (use' true p v es) n
      go t (nav_41 w) q = let z : 41 ≡ n = cc in subst (Fault M x (use' true p v es)) z (no_module w)
      go t (nav_42 w) q = let z : 42 ≡ n = cc in subst (Fault M x (use' true p v es)) z (private_module w)
      go t (nav_good a) q = try (any_main es) refl q
        where
          try : (b : Bool) → any_main es ≡ b → cond b (fail 46) (stage M (so_far M x p) v es x) ≡ fail n → Fault M x (use' true p v es) n
          try true r q =
              let z : 46 ≡ n = cc in
              let m = main_in es r in
              subst (Fault M x (use' true p v es)) z (alias_main a m.0 m.1.0 m.1.1)
          try false r q = last (stage M (so_far M x p) v es x) (stage_says x (so_far M x p) v es) q
            where
              last : (t : Tried X) → StageSays x (so_far M x p) v es t → t ≡ fail n → Fault M x (use' true p v es) n
              last t (stage_good y w) q = let z : ◌≡◌ {A = ℕ} 0 1 = cc in absurd (omega arith)
              last t (stage_bad {n = m} w) q =
                  let z : m ≡ n = cc in
                  subst (Fault M x (use' true p v es)) z (item-why x p v es m (record { path = a; no_main = main-out es r; first = w }))

  why : (x : X) (c : Call) (n : ℕ) → Formed c → tried x c ≡ fail n → Fault M x c n
  why x (enter k v m) n f q = let w = fresh-why x _ 3 k 47 n q in subst (Fault M x (enter k v m)) (sym w.0) (module_twice w.1)
  why x exit n f q = go (M.names x) refl q
    where
      go : (ns : List Name) → M.names x ≡ ns → left x ns ≡ fail n → Fault M x exit n
      go [] e q = let z : 50 ≡ n = cc in subst (Fault M x exit) z (not_inside e)
      go (k ∷ ns) e q = let z : ◌≡◌ {A = ℕ} 0 1 = cc in absurd (omega arith)
  why x (alias k v m) n f q = let w = fresh-why x _ 1 k 48 n q in subst (Fault M x (alias k v m)) (sym w.0) (alias_twice w.1)
  why x (enum k v m) n f q = let w = fresh-why x _ 1 k 48 n q in subst (Fault M x (enum k v m)) (sym w.0) (enum_twice w.1)
  why x (function k v m) n f q = let w = fresh-why x _ 2 k 49 n q in subst (Fault M x (function k v m)) (sym w.0) (function_twice w.1)
  why x (use' led p v es) n f q = use_why x led p v es n q
  why x (get_alias k) n f q = go (M.find (M.here x) 1 k) refl q
    where
      go : (g : Found C) → M.find (M.here x) 1 k ≡ g → asked x g ≡ fail n → Fault M x (get_alias k) n
      go missing e q = let z : 43 ≡ n = cc in subst (Fault M x (get_alias k)) z (no_alias e)
      go (got i h c) e q = let z : ◌≡◌ {A = ℕ} 0 1 = cc in absurd (omega arith)
  why x (get_function k) n f q = go (M.find (M.here x) 2 k) refl q
    where
      go : (g : Found C) → M.find (M.here x) 2 k ≡ g → asked x g ≡ fail n → Fault M x (get_function k) n
      go missing e q = let z : 43 ≡ n = cc in subst (Fault M x (get_function k)) z (no_function e)
      go (got i h c) e q = let z : ◌≡◌ {A = ℕ} 0 1 = cc in absurd (omega arith)
  why x (bad m) n f q =
      let z : m ≡ n = cc in
      let lt : n < 40 = rw z at f in
      let ne : (k : ℕ) → 40 ≤ k → n ≡ k → ⊥ = λ k h e. omega arith in
      rw (ne_eqb n 40 (ne 40 (omega arith)), ne_eqb n 41 (ne 41 (omega arith)), ne_eqb n 42 (ne 42 (omega arith)), ne_eqb n 43 (ne 43 (omega arith)), ne_eqb n 44 (ne 44 (omega arith)), ne_eqb n 45 (ne 45 (omega arith)), ne_eqb n 46 (ne 46 (omega arith)), ne_eqb n 47 (ne 47 (omega arith)), ne_eqb n 48 (ne 48 (omega arith)), ne_eqb n 49 (ne 49 (omega arith)), ne_eqb n 50 (ne 50 (omega arith)), ne_eqb n 51 (ne 51 (omega arith)), z) argument

  -- AND BACK TO IT
  at_elim : (n k : ℕ) {A B : Type 0} (P : ℕ → Type 0) → (A → P k) → (B → P n) → at n k A B → P n
  at_elim n k {A} {B} P f g w = go (eqb n k) refl w
    where
      go : (t : Bool) → eqb n k ≡ t → pick t A B → P n
      go true e w = subst P (sym (eqb-true n k e)) (f w)
      go false e w = g w

  item_back : (x : X) (p : List Name) (v : Bool) (es : List Elem) (n : ℕ) → ItemFails M x p v es n → use_of M x true p v es ≡ fail n
  item_back x p v es n w = rw (passed x p w.path, out-main es w.no_main) (stage-fail x (so_far M x p) v es n w.first)

  back_40 : (x : X) (c : Call) → NoCrate c → tried x c ≡ fail 40
  back_40 x c no_crate = refl

  back_41 : (x : X) (c : Call) → NoModule M x c → tried x c ≡ fail 41
  back_41 x c (no_module {p} w) = rw (missed x p w)

  back_42 : (x : X) (c : Call) → PrivateModule M x c → tried x c ≡ fail 42
  back_42 x c (private_module {p} w) = rw (barred x p w)

  back_43 : (x : X) (c : Call) → NoItem M x c → tried x c ≡ fail 43
  back_43 x c (no_item {p} {v} {es} w) = item_back x p v es 43 w
  back_43 x c (no_alias e) = rw e
  back_43 x c (no_function e) = rw e

  back_44 : (x : X) (c : Call) → PrivateItem M x c → tried x c ≡ fail 44
  back_44 x c (private_item {p} {v} {es} w) = item_back x p v es 44 w

  back_45 : (x : X) (c : Call) → Clash M x c → tried x c ≡ fail 45
  back_45 x c (clash {p} {v} {es} w) = item_back x p v es 45 w

  back_46 : (x : X) (c : Call) → AliasMain M x c → tried x c ≡ fail 46
  back_46 x c (alias_main {p} {v} {es} a e m q) = rw (passed x p a, in_main es e m q)

  back_47 : (x : X) (c : Call) → ModuleTwice M x c → tried x c ≡ fail 47
  back_47 x c (module_twice w) = rw w.found

  back_48 : (x : X) (c : Call) → TypeTwice M x c → tried x c ≡ fail 48
  back_48 x c (alias_twice w) = rw w.found
  back_48 x c (enum_twice w) = rw w.found

  back_49 : (x : X) (c : Call) → FunctionTwice M x c → tried x c ≡ fail 49
  back_49 x c (function_twice w) = rw w.found

  back_50 : (x : X) (c : Call) → NotInside M x c → tried x c ≡ fail 50
  back_50 x c (not_inside e) = rw e

  back-argument : (x : X) (c : Call) (n : ℕ) → Argument c n → tried x c ≡ fail n
  back-argument x c n argument = refl

  back : (x : X) (c : Call) (n : ℕ) → Fault M x c n → tried x c ≡ fail n
  back x c n =
      let P : ℕ → Type 0 = λ k. tried x c ≡ fail k in
      at_elim n 40 P (back_40 x c) (at_elim n 41 P (back_41 x c) (at_elim n 42 P (back_42 x c) (at_elim n 43 P (back_43 x c) (at_elim n 44 P (back_44 x c) (at_elim n 45 P (back_45 x c)
      (at_elim n 46 P (back_46 x c) (at_elim n 47 P (back_47 x c) (at_elim n 48 P (back_48 x c) (at_elim n 49 P (back_49 x c) (at_elim n 50 P (back_50 x c)
      (at_elim n 51 P (λ w. absurd w) (back-argument x c n))))))))))))

  -- THE TABLE AS ONE THEOREM: a call is refused n exactly when its row says so
  pub refusals : (x : X) (c : Call) (n : ℕ) → Formed c → ((step M x c).1 ≡ refused n) ↔ Refused M x c n
  refusals x c n f = (λ e. there (step-ends x c n e), λ w. here (eqb n 51) refl w)
    where
      there : Ends x c n → Refused M x c n
      there (by_fault q) = go (eqb n 51) refl
        where
          go : (t : Bool) → eqb n 51 ≡ t → pick t (TreeFull M x c) (Fault M x c n)
          go true e = let z : Fault M x c 51 = subst (Fault M x c) (eqb-true n 51 e) (why x c n f q) in absurd z
          go false e = why x c n f q
      there (by_limit z a q p) =
          subst (Refused M x c) (sym z)
          (record { adds = a; good = λ m w. let b = back x c m w in let z : ◌≡◌ {A = ℕ} 0 1 = cc in omega arith; past = p })

      here : (t : Bool) → eqb n 51 ≡ t → pick t (TreeFull M x c) (Fault M x c n) → (step M x c).1 ≡ refused n
      here true e w = limit-step x c n w.adds (go (tried x c) refl)
        where
          go : (t : Tried X) → tried x c ≡ t → Ends x c n
          go (fail m) q = absurd (w.good m (why x c m f q))
          go (done y) q = by_limit (eqb-true n 51 e) w.adds (q ∙ ap done (made x y c w.adds q)) w.past
      here false e w = fault-step x c n (back x c n w)
