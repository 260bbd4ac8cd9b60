-- `linearize` is right: what an order and a ring that it answers are, and when it answers which. Assumes nothing.
use Rattle.std.specs.Prelude.{◌≡◌, refl, Bool, true, false, cond, ◌⊎◌, eqb, length}
use Rattle.std.proofs.Common.{sym, subst, ◌∙◌, inl, inr, length-append}
use Rattle.std.proofs.Math.Path.{ap}
use Rattle.std.proofs.Math.Logic.{⊎_elim}
use mathlib.Core.List.{List, [], ◌∷◌, ◌++◌, Memᴰ}
use Prim.Native.Nat.{ℕ, zero, suc, ◌<◌, ◌+◌}
use native.Mathlib.Omega.{arith}
use borrow.Author.Tests.{eqb-true, eqb-false}
use Rattle.graph.specs.Linearize.{Out, order, ring, memb, from, and_then, each, visit, linearize}
use Rattle.graph.specs.Order.{Edge, Reaches, here, step, Chain, last, link, Once, none, more, Ring, EachLists, one, next, Walk, Named, Ordered, Cyclic, Within}
use Rattle.graph.specs.Facts.{cond_elim, memb_true, memb_false, mem_snoc, once_snoc, pigeonhole, chain_snoc, chain_join, path_join, chain-path, path-chain}

-- how a list with one more at its end is split at a member: at the last, or before it
pub split_snoc : (o p q : List ℕ) (u x : ℕ) → o ++ (u ∷ []) ≡ p ++ (x ∷ q) → ((o ≡ p) × (u ≡ x)) ⊎ ((q' : List ℕ) × (o ≡ p ++ (x ∷ q')))
split_snoc [] [] q u x e = inl (refl, cc)
split_snoc [] (y ∷ []) q u x e = let z : ◌≡◌ {A = ℕ} 0 1 = cc in absurd (omega arith)
split_snoc [] (y ∷ (y' ∷ p)) q u x e = let z : ◌≡◌ {A = ℕ} 0 1 = cc in absurd (omega arith)
split_snoc (a ∷ o) [] q u x e = inr (o, cc)
split_snoc (a ∷ o) (y ∷ p) q u x e =
    ⊎_elim (λ h. inl (let h' : o ≡ p = h.0 in cc, h.1)) (λ h. inr (h.0, let h' : o ≡ p ++ (x ∷ h.0) = h.1 in cc))
    (split_snoc o p q u x (cc))

-- l before the first u
before : ℕ → List ℕ → List ℕ
before u [] = []
before u (x ∷ l) = cond (eqb u x) [] (x ∷ before u l)

before-from : (u : ℕ) (l : List ℕ) → before u l ++ from u l ≡ l
unfolding before from
before-from u [] = refl
before-from u (x ∷ l) = go (eqb u x) (before-from u l)
  where
    go : (b : Bool) → before u l ++ from u l ≡ l → cond b [] (x ∷ before u l) ++ cond b (x ∷ l) (from u l) ≡ x ∷ l
    go true e = refl
    go false e = ap (λ (k : List ℕ). x ∷ k) e

module _ (deps : ℕ → List ℕ) where
  -- what an answer is to be: an order where there is no ring, and a ring where there is one
  abbrev pub Linearizes : Out → Type 0
  Linearizes (order o) = Ordered deps o × (Cyclic deps → ⊥)
  Linearizes (ring r) = Named deps r × Cyclic deps

  -- what is done: each unit once, after every other that it lists
  pub data Done : List ℕ → Type 0 where
    start : Done []
    push : {o : List ℕ} {u : ℕ} → Done o → (Memᴰ u o → ⊥) → ((v : ℕ) → Edge deps u v → Memᴰ v o) → Reaches deps 0 u → Done (o ++ (u ∷ []))

  pub done-reach : {o : List ℕ} → Done o → (x : ℕ) → Memᴰ x o → Reaches deps 0 x
  done-reach start x m = absurd (mathlib.Core.List.Memᴰ.not-nil m)
  done-reach (push {o} {u} d f c r) x m =
      ⊎_elim (λ m'. done-reach d x m') (λ e. subst (λ (y : ℕ). Reaches deps 0 y) (sym e) r) (mem_snoc o m)

  pub done-once : {o : List ℕ} → Done o → Once o
  done-once start = none
  done-once (push d f c r) = once_snoc (done-once d) f

  done-closed : {o : List ℕ} → Done o → (u v : ℕ) → Memᴰ u o → Edge deps u v → Memᴰ v o
  done-closed start u v m e = absurd (mathlib.Core.List.Memᴰ.not-nil m)
  done-closed (push {o} {u = x} d f c r) u v m e =
      ⊎_elim (λ m'. mathlib.Core.List.Memᴰ.append_left _ (done-closed d u v m' e))
      (λ q. mathlib.Core.List.Memᴰ.append_left _ (c v (subst (λ (y : ℕ). Edge deps y v) q e))) (mem_snoc o m)

  done-path : {o : List ℕ} → Done o → {u v : ℕ} → Reaches deps u v → Memᴰ u o → Memᴰ v o
  done-path d here m = m
  done-path d (step {u} {v} e p) m = done-path d p (done-closed d u v m e)

  done-after : {o : List ℕ} → Done o → (p q : List ℕ) (u v : ℕ) → o ≡ p ++ (u ∷ q) → Edge deps u v → Memᴰ v p
  done-after start [] q u v e h = let z : ◌≡◌ {A = ℕ} 0 1 = cc in absurd (omega arith)
  done-after start (y ∷ p) q u v e h = let z : ◌≡◌ {A = ℕ} 0 1 = cc in absurd (omega arith)
  done-after (push {o} {u = x} d f c r) p q u v e h =
      ⊎_elim
      (λ k. subst (λ (l : List ℕ). Memᴰ v l) k.0 (c v (subst (λ (y : ℕ). Edge deps y v) (sym k.1) h)))
      (λ k. done-after d p k.0 u v k.1 h) (split_snoc o p q x u e)

  -- no chain among what is done comes back to where it began
  done_acyclic : {o : List ℕ} → Done o → (u : ℕ) (l : List ℕ) → Memᴰ u o → Chain deps u l u → ⊥
  done_acyclic start u l m c = mathlib.Core.List.Memᴰ.not-nil m
  done_acyclic (push {o} {u = x} d f cl r) u l m c =
      ⊎_elim (λ m'. done_acyclic d u l m' c) (λ q. first u l q c) (mem_snoc o m)
    where
      first : (u : ℕ) (l : List ℕ) → u ≡ x → Chain deps u l u → ⊥
      first u [] q (last e) = e.other refl
      first u (v ∷ l) q (link e c') =
          f (mathlib.Core.List.Memᴰ.cast (sym q) (done-path d (chain-path c') (cl v (subst (λ (y : ℕ). Edge deps y v) q e))))

  -- from each of s by a chain through those after it to u
  abbrev pub Chains : List ℕ → ℕ → Type 0
  Chains [] u = Unit {0}
  Chains (d ∷ l) u = Chain deps d l u × Chains l u

  chains_snoc : (s : List ℕ) {u v : ℕ} → Chains s u → Edge deps u v → Chains (s ++ (u ∷ [])) v
  chains_snoc [] t e = (last e, tt)
  chains_snoc (d ∷ l) t e = (chain_snoc t.0 e, chains_snoc l t.1 e)

  -- s, then u, begins with unit 0
  abbrev pub Begins : List ℕ → ℕ → Type 0
  Begins [] u = u ≡ 0
  Begins (d ∷ l) u = d ≡ 0

  begins_snoc : (s : List ℕ) (u v : ℕ) → Begins s u → Begins (s ++ (u ∷ [])) v
  begins_snoc [] u v b = b
  begins_snoc (d ∷ l) u v b = b

  -- the units being visited lead from 0 to u
  pub record Trail (s : List ℕ) (u : ℕ) : Type 0 where
    pub begins : Begins s u
    pub chains : Chains s u

  pub trail_snoc : (s : List ℕ) {u v : ℕ} → Trail s u → Edge deps u v → Trail (s ++ (u ∷ [])) v
  trail_snoc s {u} {v} t e = record { begins = begins_snoc s u v t.begins; chains = chains_snoc s t.chains e }

  ring_of : (u x : ℕ) (l : List ℕ) → u ≡ x → Once (x ∷ l) → ((y : ℕ) → Memᴰ y (x ∷ l) → Reaches deps 0 y) → Chain deps x l u → Ring deps (x ∷ l)
  ring_of u x [] q on r (last e) = absurd (e.other q)
  ring_of u x (y ∷ l) q on r c =
      record { first = x; second = y; rest = l; is = refl; once = on; round = subst (λ (z : ℕ). Chain deps x (y ∷ l) z) q c; reached = r }

  from-ring : (u : ℕ) {s : List ℕ} → Once s → Memᴰ u s → ((y : ℕ) → Memᴰ y s → Reaches deps 0 y) → Chains s u → Ring deps (from u s)
  unfolding from
  from-ring u none m r t = absurd (mathlib.Core.List.Memᴰ.not-nil m)
  from-ring u (more {u = x} {l} f on) m r t =
      cond_elim (Ring deps) (eqb u x)
      (λ h. ring_of u x l (eqb-true u x h) (more f on) r t.0)
      (λ h. from-ring u on (⊎_elim (λ q. absurd (eqb-false u x h q)) (λ m'. m') (mathlib.Core.List.Memᴰ.cases_cons m)) (λ y k. r y (mathlib.Core.List.Memᴰ.tail k)) t.1)

  chain-linked : {d u : ℕ} {l : List ℕ} → Chain deps d l u → EachLists deps (d ∷ l)
  chain-linked (last e) = one
  chain-linked (link e c) = next e (chain-linked c)

  -- the units being visited are a walk, where u is one of them
  trail-walk : (s : List ℕ) (u : ℕ) → Memᴰ u s → Once s → Trail s u → Walk deps s
  trail-walk [] u m on t = absurd (mathlib.Core.List.Memᴰ.not-nil m)
  trail-walk (d ∷ l) u m on t =
      let b : d ≡ 0 = t.begins in
      record { after_first = l; begins = ap (λ (x : ℕ). x ∷ l) b; linked = chain-linked t.chains.0; once = on }

  -- a unit that is met again closes a ring, which the walk ends with
  met_again : (u : ℕ) (s : List ℕ) → Once s → Memᴰ u s → ((y : ℕ) → Memᴰ y s → Reaches deps 0 y) → Trail s u → Named deps (from u s)
  met_again u s on m r t =
      record {
        ring = from-ring u on m r t.chains;
        before = before u s;
        walk = subst (λ (l : List ℕ). Walk deps l) (sym (before-from u s)) (trail-walk s u m on t);
      }

  abbrev pub Apart : List ℕ → List ℕ → Type 0
  Apart s o = (x : ℕ) → Memᴰ x s → Memᴰ x o → ⊥

  -- what a part of the walk leaves
  pub record Grown (s o o' : List ℕ) : Type 0 where
    pub done : Done o'
    pub keeps : (x : ℕ) → Memᴰ x o → Memᴰ x o'
    pub apart : Apart s o'

  abbrev pub Post : List ℕ → List ℕ → (List ℕ → Type 0) → Out → Type 0
  Post s o Q (order o') = Grown s o o' × Q o'
  Post s o Q (ring r) = Named deps r

  pub post_map : {s o o₂ : List ℕ} {Q Q₂ : List ℕ → Type 0} (r : Out)
      → ((x : ℕ) → Memᴰ x o → Memᴰ x o₂)
      → ((o' : List ℕ) → Grown s o₂ o' → Q₂ o' → Q o')
      → Post s o₂ Q₂ r → Post s o Q r
  post_map (order o') h k p =
      (record { done = p.0.done; keeps = λ x m. p.0.keeps x (h x m); apart = p.0.apart }, k o' p.0 p.1)
  post_map (ring r) h k p = p

  pub then-right : {s o : List ℕ} {Q : List ℕ → Type 0} (R : Out → Type 0) (r : Out) {f : List ℕ → Out}
      → Post s o Q r
      → ((o' : List ℕ) → Grown s o o' → Q o' → R (f o'))
      → ((l : List ℕ) → Named deps l → R (ring l))
      → R (and_then r f)
  then-right R (order o') p h k = h o' p.0 p.1
  then-right R (ring l) p h k = k l p

  -- of all the units of a list that are not u, o has each
  abbrev pub Has : ℕ → List ℕ → List ℕ → Type 0
  Has u ds o = (d : ℕ) → Memᴰ d ds → (d ≡ u → ⊥) → Memᴰ d o

  pub each_right : (v : List ℕ → ℕ → Out) (u : ℕ) (s : List ℕ)
      → ((o : List ℕ) (d : ℕ) → Done o → Apart s o → Edge deps u d → Post s o (λ o'. Memᴰ d o') (v o d))
      → (ds : List ℕ) → ((d : ℕ) → Memᴰ d ds → Memᴰ d (deps u))
      → (o : List ℕ) → Done o → Apart s o → Post s o (Has u ds) (each v u o ds)
  unfolding each
  each_right v u s hv [] sub o dn ap =
      (record { done = dn; keeps = λ x m. m; apart = ap }, λ d m f. absurd (mathlib.Core.List.Memᴰ.not-nil m))
  each_right v u s hv (d ∷ ds) sub o dn ap =
      cond_elim (Post s o (Has u (d ∷ ds))) (eqb d u)
      (λ e. post_map (each v u o ds) (λ x m. m)
      (λ o' g h x m f. ⊎_elim (λ q. absurd (f (q ∙ eqb-true d u e))) (λ m'. h x m' f) (mathlib.Core.List.Memᴰ.cases_cons m))
      (each_right v u s hv ds (λ x m. sub x (mathlib.Core.List.Memᴰ.tail m)) o dn ap))
      (λ e. then-right (Post s o (Has u (d ∷ ds))) (v o d)
      (hv o d dn ap (record { other = eqb-false d u e; listed = sub d (mathlib.Core.List.Memᴰ.head refl) }))
      (λ o₁ g₁ in₁. post_map (each v u o₁ ds) g₁.keeps
      (λ o' g h x m f. ⊎_elim (λ q. g.keeps x (mathlib.Core.List.Memᴰ.cast q in₁)) (λ m'. h x m' f) (mathlib.Core.List.Memᴰ.cases_cons m))
      (each_right v u s hv ds (λ x m. sub x (mathlib.Core.List.Memᴰ.tail m)) o₁ g₁.done g₁.apart))
      (λ l r. r))

  module _ (n : ℕ) (w : Within deps n) where
    -- the units being visited, with k left
    pub record On (s : List ℕ) (k : ℕ) : Type 0 where
      pub once : Once s
      pub below : (x : ℕ) → Memᴰ x s → x < n
      pub reach : (x : ℕ) → Memᴰ x s → Reaches deps 0 x
      pub left : n < length s + k

    pub on-push : {s : List ℕ} {k u : ℕ} → On s (suc k) → (Memᴰ u s → ⊥) → u < n → Reaches deps 0 u → On (s ++ (u ∷ [])) k
    on-push {s} {k} {u} h f b r =
        record {
          once = once_snoc h.once f;
          below = λ x m. ⊎_elim (h.below x) (λ q. subst (λ (y : ℕ). y < n) (sym q) b) (mem_snoc s m);
          reach = λ x m. ⊎_elim (h.reach x) (λ q. subst (λ (y : ℕ). Reaches deps 0 y) (sym q) r) (mem_snoc s m);
          left = let l = h.left in omega (arith, length-append s (u ∷ []));
        }

    pub visit-right : (k : ℕ) (s o : List ℕ) (u : ℕ) → On s k → Done o → Apart s o → Trail s u → u < n → Reaches deps 0 u
        → Post s o (λ o'. Memᴰ u o') (visit deps k s o u)
    unfolding visit
    visit-right zero s o u h dn ap t b r = let l = h.left in absurd (omega (arith, pigeonhole n s h.once h.below))
    visit-right (suc k) s o u h dn ap t b r =
        cond_elim (Post s o (λ o'. Memᴰ u o')) (memb u o)
        (λ e. (record { done = dn; keeps = λ x m. m; apart = ap }, memb_true u o e))
        (λ e. cond_elim (Post s o (λ o'. Memᴰ u o')) (memb u s)
        (λ e'. met_again u s h.once (memb_true u s e') h.reach t)
        (λ e'. then-right (Post s o (λ o'. Memᴰ u o')) (each (visit deps k (s ++ (u ∷ []))) u o (deps u))
        (each_right (visit deps k (s ++ (u ∷ []))) u (s ++ (u ∷ []))
        (λ o₁ d dn₁ ap₁ ed. visit-right k (s ++ (u ∷ [])) o₁ d (on-push h (memb_false u s e') b r) dn₁ ap₁ (trail_snoc s t ed) (w.lists u d b ed.listed) (path_join r (step ed here)))
        (deps u) (λ d m. m) o dn
        (λ x m m'. ⊎_elim (λ k'. ap x k' m') (λ q. memb_false u o e (mathlib.Core.List.Memᴰ.cast (sym q) m')) (mem_snoc s m)))
        (λ o' g hs. (
          record {
            done = push g.done (λ m. g.apart u (mathlib.Core.List.Memᴰ.append_right s (mathlib.Core.List.Memᴰ.head refl)) m) (λ v ed. hs v ed.listed ed.other) r;
            keeps = λ x m. mathlib.Core.List.Memᴰ.append_left _ (g.keeps x m);
            apart = λ x m m'. ⊎_elim (λ k'. g.apart x (mathlib.Core.List.Memᴰ.append_left _ m) k') (λ q. memb_false u s e' (mathlib.Core.List.Memᴰ.cast (sym q) m)) (mem_snoc o' m');
          },
          mathlib.Core.List.Memᴰ.append_right o' (mathlib.Core.List.Memᴰ.head refl),
        ))
        (λ l q. q)))

    linearize_post : Post [] [] (λ o'. Memᴰ 0 o') (linearize deps n)
    unfolding linearize
    linearize_post =
        visit-right (suc n) [] [] 0
        (record { once = none; below = λ x m. absurd (mathlib.Core.List.Memᴰ.not-nil m); reach = λ x m. absurd (mathlib.Core.List.Memᴰ.not-nil m); left = omega arith })
        start (λ x m m'. mathlib.Core.List.Memᴰ.not-nil m) (record { begins = refl; chains = tt }) w.some here

    ring_cyclic : {r : List ℕ} → Ring deps r → Cyclic deps
    ring_cyclic {r} g = go g.first g.second g.rest g.round (subst Once g.is g.once) (g.reached g.first (subst (λ (l : List ℕ). Memᴰ g.first l) (sym g.is) (mathlib.Core.List.Memᴰ.head refl)))
      where
        go : (a b : ℕ) (l : List ℕ) → Chain deps a (b ∷ l) a → Once (a ∷ (b ∷ l)) → Reaches deps 0 a → Cyclic deps
        go a b l (link e c) (more f on) p =
            record { a = a; b = b; different = λ q. f (mathlib.Core.List.Memᴰ.head q); reached = p; there = step e here; back = chain-path c }

    done-right : {o : List ℕ} → Done o → Memᴰ 0 o → Linearizes (order o)
    done-right {o} d m =
        (record { sound = done-reach d; complete = λ x h. done-path d h m; once = done-once d; after = done-after d }, acyclic)
      where
        acyclic : Cyclic deps → ⊥
        acyclic c =
            let at : Memᴰ c.a o = done-path d c.reached m in
            ⊎_elim c.different (λ k. ⊎_elim (λ q. c.different (sym q))
            (λ k'. done_acyclic d c.a _ at (chain_join k.1 k'.1)) (path-chain c.back)) (path-chain c.there)

    post_right : (x : Out) → Post [] [] (λ o'. Memᴰ 0 o') x → Linearizes x
    post_right (order o) p = done-right p.0.done p.1
    post_right (ring r) p = (p, ring_cyclic p.ring)

    -- THE THEOREM, for any number of units
    pub linearize-right : Linearizes (linearize deps n)
    linearize-right = post_right (linearize deps n) linearize_post

    -- a ring is answered exactly where there is one
    pub ring_iff : ((r : List ℕ) × (linearize deps n ≡ ring r) → Cyclic deps) × (Cyclic deps → (r : List ℕ) × (linearize deps n ≡ ring r))
    ring_iff = (λ p. by-ring p.0 p.1, λ c. go (linearize deps n) refl linearize-right c)
      where
        by-ring : (r : List ℕ) → linearize deps n ≡ ring r → Cyclic deps
        by-ring r e = let q : Linearizes (ring r) = rw e at linearize-right in q.1

        go : (x : Out) → linearize deps n ≡ x → Linearizes x → Cyclic deps → (r : List ℕ) × (linearize deps n ≡ ring r)
        go (order o) e q c = absurd (q.1 c)
        go (ring r) e q c = (r, e)

    -- which is where two different reached units are reached from each other
    pub ring-there : (Cyclic deps → (r : List ℕ) × Ring deps r) × ((r : List ℕ) × Ring deps r → Cyclic deps)
    ring-there = (λ c. let q = ring_iff.1 c in by_answer q.0 q.1, λ k. ring_cyclic k.1)
      where
        by_answer : (r : List ℕ) → linearize deps n ≡ ring r → (r : List ℕ) × Ring deps r
        by_answer r e = let q : Linearizes (ring r) = rw e at linearize-right in (r, q.0.ring)
