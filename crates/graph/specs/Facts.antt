-- Facts of lists and chains. Assumes nothing.
use Rattle.std.specs.Prelude.{◌≡◌, refl, Bool, true, false, cond, ◌||◌, ◌⊎◌, ℕ, zero, suc, ◌<◌, ◌≤◌, eqb, length}
use Rattle.std.proofs.Common.{sym, ap, subst, ◌∙◌, inl, inr, ⊎_elim, le_of_suc-le-suc, eq-or-lt_of_le, arith, eqb-true}
use mathlib.Core.List.Memᴰ
use mathlib.Core.List.{List, [], ◌∷◌, ◌++◌, Memᴰ}
use Rattle.std.proofs.lemmas.Bool.{eqb-false}
use Rattle.graph.specs.Linearize.{memb}
use Rattle.graph.specs.Order.{Edge, Reaches, here, step, Chain, last, link, Once, none, more}

-- a goal at `cond b x y` is one at x where b is true and one at y where it is false
pub cond_elim : {A : Type 0} (P : A → Type 0) (b : Bool) {x y : A} → (b ≡ true → P x) → (b ≡ false → P y) → P (cond b x y)
cond_elim P true f g = f refl
cond_elim P false f g = g refl

pub memb_true : (u : ℕ) (l : List ℕ) → memb u l ≡ true → Memᴰ u l
unfolding memb
memb_true u [] e = let z : ◌≡◌ {A = ℕ} 0 1 = cc in absurd (omega arith)
memb_true u (x ∷ l) e = go (eqb u x) refl e (memb_true u l)
  where
    go : (b : Bool) → eqb u x ≡ b → b || memb u l ≡ true → (memb u l ≡ true → Memᴰ u l) → Memᴰ u (x ∷ l)
    go true h e' k = Memᴰ.head (eqb-true u x h)
    go false h e' k = Memᴰ.tail (k e')

pub memb_false : (u : ℕ) (l : List ℕ) → memb u l ≡ false → Memᴰ u l → ⊥
unfolding memb
memb_false u [] e m = Memᴰ.not-nil m
memb_false u (x ∷ l) e m = go (eqb u x) refl e (memb_false u l)
  where
    go : (b : Bool) → eqb u x ≡ b → b || memb u l ≡ false → (memb u l ≡ false → Memᴰ u l → ⊥) → ⊥
    go true h e' k = let z : ◌≡◌ {A = ℕ} 0 1 = cc in omega arith
    go false h e' k = ⊎_elim (eqb-false u x h) (k e') (Memᴰ.cases_cons m)

-- ONE MORE AT THE END, AND PIGEONS
module _ {A : Type 0} where
  pub mem_snoc : {x u : A} (l : List A) → Memᴰ x (l ++ (u ∷ [])) → Memᴰ x l ⊎ (x ≡ u)
  mem_snoc l m = ⊎_elim (λ a. inl a) (λ b. inr (Memᴰ.eq_of_singleton b)) (Memᴰ.append_cases l m)

  pub once_snoc : {u : A} {l : List A} → Once l → (Memᴰ u l → ⊥) → Once (l ++ (u ∷ []))
  once_snoc none h = more Memᴰ.not-nil none
  once_snoc {u} (more {u = x} {l = l'} f o) h =
      more (λ m. ⊎_elim f (λ e. h (Memᴰ.head (sym e))) (mem_snoc l' m)) (once_snoc o (λ m. h (Memᴰ.tail m)))

  -- what can be pulled out of a list leaves one less
  pull : {x : A} {m : List A} → Memᴰ x m → (k : List A) × ((length m ≡ suc (length k)) × ((y : A) → Memᴰ y m → (y ≡ x) ⊎ Memᴰ y k))
  pull (Memᴰ.head {x} {xs} e) = (xs, (refl, λ y h. ⊎_elim (λ q. inl (q ∙ sym e)) (λ t. inr t) (Memᴰ.cases_cons h)))
  pull (Memᴰ.tail {x} {xs} h) =
      let t = pull h in
      (x ∷ t.0, (ap suc t.1.0, λ y j. ⊎_elim (λ q. inr (Memᴰ.head q)) (λ j'. ⊎_elim (λ q. inl q) (λ w. inr (Memᴰ.tail w)) (t.1.1 y j')) (Memᴰ.cases_cons j)))

  -- different elements of a list are no more than it has
  pub pigeons : {l : List A} → Once l → (m : List A) → ((x : A) → Memᴰ x l → Memᴰ x m) → length l ≤ length m
  pigeons none m h = omega arith
  pigeons (more {u = a} {l} f o) m h =
      let t = pull (h a (Memᴰ.head refl)) in
      let ih = pigeons o t.0 (λ x k. ⊎_elim (λ q. absurd (f (Memᴰ.cast (sym q) k))) (λ w. w) (t.1.1 x (h x (Memᴰ.tail k)))) in
      let e = t.1.0 in
      omega arith

-- the numbers below n
unfoldable numbers_below : ℕ → List ℕ
numbers_below zero = []
numbers_below (suc n) = n ∷ numbers_below n

below_length : (n : ℕ) → length (numbers_below n) ≡ n
unfolding numbers_below
below_length zero = refl
below_length (suc n) = ap suc (below_length n)

below_all : (n : ℕ) {x : ℕ} → x < n → Memᴰ x (numbers_below n)
unfolding numbers_below
below_all zero h = absurd (omega arith)
below_all (suc n) {x} h = ⊎_elim (λ e. Memᴰ.head e) (λ l. Memᴰ.tail (below_all n l)) (eq-or-lt_of_le (le_of_suc-le-suc h))

-- there are no more different numbers below n than n
pub pigeonhole : (n : ℕ) (l : List ℕ) → Once l → ((x : ℕ) → Memᴰ x l → x < n) → length l ≤ n
pigeonhole n l o h = let p = pigeons o (numbers_below n) (λ x m. below_all n (h x m)) in omega (arith, below_length n)

-- CHAINS AND PATHS
module _ {deps : ℕ → List ℕ} where
  pub chain_snoc : {u v w : ℕ} {l : List ℕ} → Chain deps u l v → Edge deps v w → Chain deps u (l ++ (v ∷ [])) w
  chain_snoc (last e) f = link e (last f)
  chain_snoc (link e c) f = link e (chain_snoc c f)

  pub chain_join : {u v w : ℕ} {k l : List ℕ} → Chain deps u k v → Chain deps v l w → Chain deps u (k ++ (v ∷ l)) w
  chain_join (last e) d = link e d
  chain_join (link e c) d = link e (chain_join c d)

  pub path_join : {u v w : ℕ} → Reaches deps u v → Reaches deps v w → Reaches deps u w
  path_join here q = q
  path_join (step e p) q = step e (path_join p q)

  pub chain-path : {u w : ℕ} {l : List ℕ} → Chain deps u l w → Reaches deps u w
  chain-path (last e) = step e here
  chain-path (link e c) = step e (chain-path c)

  -- a path between different units is a chain
  pub path-chain : {u w : ℕ} → Reaches deps u w → (u ≡ w) ⊎ ((l : List ℕ) × Chain deps u l w)
  path-chain here = inl refl
  path-chain (step {u} {v} {w} e p) = inr (go (path-chain p))
    where
      go : (v ≡ w) ⊎ ((l : List ℕ) × Chain deps v l w) → (l : List ℕ) × Chain deps u l w
      go (inl q) = ([], last (subst (λ (y : ℕ). Edge deps u y) q e))
      go (inr c) = (v ∷ c.0, link e c.1)
