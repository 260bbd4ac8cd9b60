-- What an accepted use imported has an unbroken chain of public entries to one public declaration. Assumes nothing.
use Rattle.std.specs.Prelude.{ℕ, zero, suc, ◌+◌, ◌≤◌, ◌<◌, ◌≡◌, Bool, cond, ◌⊎◌, eqb, length, take, drop, get_or}
use native.Mathlib.Omega.{arith}
use Rattle.std.proofs.Math.Decide.{dec_lt}
use Rattle.std.proofs.Math.Path.{refl}
use Rattle.std.proofs.Common.{ap, sym, subst, ◌∙◌, inl, inr, ⊎_elim, length-take, length-drop, take-append-drop, drop_of_length-le, length-take-le, eq-eqb}
use Rattle.std.proofs.Math.Bool.{true, false}
use mathlib.Core.List.{List, [], ◌∷◌, ◌++◌, append_assoc}
use Rattle.std.proofs.Math.ListN.{length-append}
use Rattle.std.proofs.lemmas.List.{drop-append-le, get_or_at}
use Rattle.scope_tree.specs.Step.{Alike, declared, used, Head, Call}
use Rattle.scope_tree.specs.Register.{Scope, end, node, registered, tree_of}
use Rattle.scope_tree.specs.Flat.{Body, own, copy, Entry, none, flattened, build, within, pasts, write}
use Rattle.scope_tree.specs.Laws.{Has, Times, copied}
use Rattle.scope_tree.specs.Sim.{Origin, made, taken}
use Rattle.scope_tree.specs.Same.{has_more, has-below, behind, times-front, Known, Home, at_top, in_own, Sound, alike, same-tree}

-- the tree holds the entry of the number i, showing h: in a module, or in one of its modules, written-out ones too
pub data In (i : ℕ) (h : Head) : Scope → Type 0 where
  here : {b f : Scope} → In i h (node i h b f)
  inside : {j : ℕ} {g : Head} {b f : Scope} → In i h b → In i h (node j g b f)
  later : {j : ℕ} {g : Head} {b f : Scope} → In i h f → In i h (node j g b f)

-- a chain from the entry i: it is public, and a declaration; or a use brought it, from an entry of its kind and mark that has a chain.
-- An entry brought along inside a module's copy is In the tree with its own number and origin, so its chain is its original's: "a chain
-- goes from it to its original, not through the module that brought it"
pub data Chain (T : Scope) : ℕ → Head → Type 0 where
  last : {i : ℕ} {h : Head} → In i h T → h.vis ≡ true → h.came ≡ declared → Chain T i h
  link : {i j : ℕ} {h g : Head} → In i h T → h.vis ≡ true → h.came ≡ used j → Alike g h → Chain T j g → Chain T i h

-- WHAT THE WRITTEN-OUT TREE HOLDS
module _ (past : ℕ → Scope) (e : Entry) (back : List Entry) (s : ℕ) (q : e.scope ≡ s) where
  reach : (xs : List Entry) (i j : ℕ) → i + length xs ≡ j → {t : ℕ} {h : Head}
      → In t h (node j e.shows (within e.body (build past (suc j) back (suc j)) (past j)) (build past (suc j) back s)) → In t h (build past i (xs ++ (e ∷ back)) s)
  unfolding build
  reach [] i j a n = let z : i ≡ j = omega arith in rw (eq-eqb e.scope s q, z) n
  reach (x ∷ xs) i j a {t} {h} n = go (eqb x.scope s) _ (reach xs (suc i) j (omega arith) n)
    where
      go : (b : Bool) (y : Scope) → In t h (build past (suc i) (xs ++ (e ∷ back)) s) → In t h (cond b (node i x.shows y (build past (suc i) (xs ++ (e ∷ back)) s)) (build past (suc i) (xs ++ (e ∷ back)) s))
      go true y m = later m
      go false y m = m

module _ (l : List Entry) (sd : Sound l) where
  home-le : {j s : ℕ} → Home l j s → s ≤ j
  home-le (at_top e) = omega arith
  home-le (in_own i e q b h o) = omega arith

  -- an entry's node is in its scope
  in_scope : (j : ℕ) (e : Entry) → Has l j e → {t : ℕ} {h : Head} → ((f : Scope) → In t h (node j e.shows (within e.body (write l (suc j)) (pasts l j)) f)) → In t h (write l e.scope)
  in_scope j e k {t} {h} n =
      let le : e.scope ≤ length k.front = omega (arith, home-le (sd.home j e k), k.at) in
      let d : drop e.scope l ≡ drop e.scope k.front ++ (e ∷ k.back) = rw k.is (drop-append-le e.scope k.front (e ∷ k.back) le) in
      let b : drop (suc j) l ≡ k.back = rw k.is (behind k.front e k.back j k.at) in
      rw d (reach (pasts l) e k.back e.scope refl (drop e.scope k.front) e.scope j (omega (arith, length-drop e.scope k.front, k.at)) (subst (λ (x : List Entry). In t h (node j e.shows (within e.body (build (pasts l) (suc j) x (suc j)) (pasts l j)) (build (pasts l) (suc j) k.back e.scope))) b (n (build (pasts l) (suc j) k.back e.scope))))

  -- what a scope holds is in the tree
  lift : (n s : ℕ) → s < n → {j : ℕ} → Home l j s → {t : ℕ} {h : Head} → In t h (write l s) → In t h (write l 0)
  lift zero s a hm m = absurd (omega arith)
  lift (suc n) s a {j} (at_top e) {t} {h} m = subst (λ (z : ℕ). In t h (write l z)) e m
  lift (suc n) s a {j} (in_own i e q b k o) {t} {h} m =
      let m' : In t h (write l (suc i)) = subst (λ (z : ℕ). In t h (write l z)) q m in
      let le : e.scope ≤ i = home-le (sd.home i e k) in
      lift n e.scope (omega arith) (sd.home i e k) (in_scope i e k (λ f. inside (rw o m')))

  pub held : {i : ℕ} {h : Head} → Known l i h → In i h (write l 0)
  held {i} {h} k =
      lift (suc k.entry.scope) k.entry.scope (omega arith) (sd.home i k.entry k.has)
      (in_scope i k.entry k.has (λ f. rw k.shows here))

-- the other way round: what is in the tree is an entry of the list
known_more : {l : List Entry} {i : ℕ} {h : Head} (ys : List Entry) → Known l i h → Known (l ++ ys) i h
known_more ys k = record { entry = k.entry; has = has_more ys k.has; shows = k.shows }

pub in_end : {t : ℕ} {h : Head} (c : Scope) → c ≡ end → In t h c → ⊥
in_end c q here = let z : ◌≡◌ {A = ℕ} 0 1 = cc in omega arith
in_end c q (inside m) = let z : ◌≡◌ {A = ℕ} 0 1 = cc in omega arith
in_end c q (later m) = let z : ◌≡◌ {A = ℕ} 0 1 = cc in omega arith

in_node : {t j : ℕ} {h g : Head} {b f : Scope} → In t h (node j g b f) → ((t ≡ j) × (h ≡ g)) ⊎ (In t h b ⊎ In t h f)
in_node here = inl (refl, refl)
in_node (inside m) = inr (inl m)
in_node (later m) = inr (inr m)

module _ (t : ℕ) (h : Head) (l : List Entry) (tm : Times l) (before : (u a : ℕ) → u < length l → In t h (write (take u l) a) → Known (take u l) t h) where
  known_from : (xs front : List Entry) (i s : ℕ) → l ≡ front ++ xs → length front ≡ i → In t h (build (pasts l) i xs s) → Known l t h
  unfolding build
  known_from [] front i s q b m = absurd (in_end end refl m)
  known_from (e ∷ xs) front i s q b m = go (eqb e.scope s) (λ s' m'. known_from xs (front ++ (e ∷ [])) (suc i) s' (rw append_assoc q) (rw length-append (omega arith)) m') m
    where
      k : Has l i e
      k = record { front = front; back = xs; is = q; at = b }

      within-known : (y : Body) → e.body ≡ y → ((s' : ℕ) → In t h (build (pasts l) (suc i) xs s') → Known l t h)
          → In t h (within y (build (pasts l) (suc i) xs (suc i)) (pasts l i)) → Known l t h
      within-known own o ih m = ih (suc i) m
      within-known (copy a u) o ih m =
          let le : u ≤ i = tm i e a u k o in
          let m' : In t h (write (take u l) a) = subst (In t h) (copied l i e a u k o le) m in
          let w = before u a (omega (arith, has-below k)) m' in
          subst (λ (x : List Entry). Known x t h) (take-append-drop u l) (known_more (drop u l) w)

      go : (c : Bool) → ((s' : ℕ) → In t h (build (pasts l) (suc i) xs s') → Known l t h)
          → In t h (cond c (node i e.shows (within e.body (build (pasts l) (suc i) xs (suc i)) (pasts l i)) (build (pasts l) (suc i) xs s)) (build (pasts l) (suc i) xs s)) → Known l t h
      go true ih m =
          ⊎_elim (λ z. record { entry = e; has = rw z.0 k; shows = sym z.1 })
          (λ z. ⊎_elim (λ m'. within-known e.body refl ih m') (λ m'. ih s m') z) (in_node m)
      go false ih m = ih s m

pub known : (n : ℕ) (l : List Entry) → length l < n → Times l → (t : ℕ) (h : Head) (s : ℕ) → In t h (write l s) → Known l t h
unfolding build
known zero l a tm t h s m = absurd (omega arith)
known (suc n) l a tm t h s m =
    go (λ u a' lt m'. known n (take u l) (omega (arith, length-take u l)) (times-front (take u l) (drop u l) (rw (take-append-drop u l) tm)) t h a' m') (dec_lt s (length l))
  where
    go : ((u a' : ℕ) → u < length l → In t h (write (take u l) a') → Known (take u l) t h) → Dec (s < length l) → Known l t h
    go before (yes lt) = known_from t h l tm before (drop s l) (take s l) s s (sym (take-append-drop s l)) (length-take-le s l (omega arith)) m
    go before (no nl) =
        let le : length l ≤ s = omega arith in
        let w : drop s l ≡ [] = drop_of_length-le l le in
        absurd (in_end end refl (subst (λ (x : List Entry). In t h (build (pasts l) s x s)) w m))

-- CHAINS
module _ (l : List Entry) (sd : Sound l) where
  chain : (n i : ℕ) (h : Head) → i < n → Known l i h → h.vis ≡ true → Chain (write l 0) i h
  chain zero i h a k v = absurd (omega arith)
  chain (suc n) i h a k v = go (subst (Origin (λ j g. (j < i) × Known l j g)) k.shows (sd.origin i k.entry k.has)) (λ j g b k' v'. chain n j g b k' v')
    where
      go : Origin (λ j g. (j < i) × Known l j g) h → ((j : ℕ) (g : Head) → j < n → Known l j g → g.vis ≡ true → Chain (write l 0) j g) → Chain (write l 0) i h
      go (made e) c = last (held l sd k) v e
      go (taken j g e al v' p) c = link (held l sd k) v e al (c j g (omega (arith, p.0)) p.1 v')

  chain-of : (i j : ℕ) (h : Head) → Known l i h → h.came ≡ used j → (g : Head) × Alike g h × Chain (write l 0) j g
  chain-of i j h k u = go (subst (Origin (λ j g. (j < i) × Known l j g)) k.shows (sd.origin i k.entry k.has))
    where
      go : Origin (λ j g. (j < i) × Known l j g) h → (g : Head) × Alike g h × Chain (write l 0) j g
      go (made e) = let z : ◌≡◌ {A = ℕ} 0 1 = cc in absurd (omega arith)
      go (taken j' g e al v p) =
          let same : j' ≡ j = cc in
          (g, al, subst (λ (x : ℕ). Chain (write l 0) x g) same (chain (suc j') j' g (omega arith) p.1 v))

-- THE THEOREM: whatever the calls, each imported entry of the register's tree has its chain
pub chains : (cs : List Call) (i j : ℕ) (h : Head) → In i h (tree_of (registered cs).0) → h.came ≡ used j
    → (g : Head) × Alike g h × Chain (tree_of (registered cs).0) j g
chains cs i j h m u =
    let l = (flattened cs).0.entries in
    let sd = (alike cs).sound in
    subst (λ (T : Scope). In i h T → (g : Head) × Alike g h × Chain T j g) (same-tree cs)
    (λ m'. chain-of l sd i j h (known (suc (length l)) l (omega arith) sd.times i h 0 m') u) m

-- a public entry of the tree has its chain
pub chain-from : (cs : List Call) (i : ℕ) (h : Head) → In i h (tree_of (registered cs).0) → h.vis ≡ true → Chain (tree_of (registered cs).0) i h
chain-from cs i h m v =
    let l = (flattened cs).0.entries in
    let sd = (alike cs).sound in
    subst (λ (T : Scope). In i h T → Chain T i h) (same-tree cs)
    (λ m'. chain l sd (suc i) i h (omega arith) (known (suc (length l)) l (omega arith) sd.times i h 0 m') v) m

-- a number is one entry's, wherever the tree shows it
has_same : {l : List Entry} {i : ℕ} {e e' : Entry} → Has l i e → Has l i e' → e ≡ e'
has_same {l} {i} {e} {e'} a b =
    let p : get_or l i none ≡ e = rw a.is (get_or_at a.front e a.back none i a.at) in
    let q : get_or l i none ≡ e' = rw b.is (get_or_at b.front e' b.back none i b.at) in
    sym p ∙ q

pub one_entry : (cs : List Call) (i : ℕ) (h g : Head) → In i h (tree_of (registered cs).0) → In i g (tree_of (registered cs).0) → h ≡ g
one_entry cs i h g a b =
    let l = (flattened cs).0.entries in
    let tm = (alike cs).sound.times in
    let k : Known l i h = known (suc (length l)) l (omega arith) tm i h 0 (subst (In i h) (sym (same-tree cs)) a) in
    let k' : Known l i g = known (suc (length l)) l (omega arith) tm i g 0 (subst (In i g) (sym (same-tree cs)) b) in
    sym k.shows ∙ ap (λ (e : Entry). e.shows) (has_same k.has k'.has) ∙ k'.shows
