-- Laws of writing out: what more entries at the end change, and that a copy stays. Assumes nothing.
use Rattle.std.specs.Prelude.{ℕ, suc, ◌+◌, ◌≤◌, ◌<◌, ◌≡◌, Bool, eqb, length, take, drop}
use native.Mathlib.Omega.{arith}
use Rattle.std.proofs.Math.Path.{refl}
use Rattle.std.proofs.Common.{ap, subst, ◌∙◌, length-append, length-drop, take-append-drop, eq-eqb, ne_eqb}
use Rattle.std.proofs.Math.Bool.{true, false, cond}
use mathlib.Core.List.{List, [], ◌∷◌, ◌++◌, append_assoc, append-nil}
use Rattle.std.proofs.lemmas.List.{take-append-le, drop-append-le}
use Rattle.scope_tree.specs.Register.{Scope, end, node, append}
use Rattle.scope_tree.specs.Flat.{Body, own, copy, Entry, build, within, view, past_of, pasts_from, pasts, write}

pub append-end : (f : Scope) → append f end ≡ f
unfolding append
append-end end = refl
append-end (node i h b f) = rw (append-end f)

abbrev pub All : (Entry → Type 0) → List Entry → Type 0
All P [] = Unit {0}
All P (e ∷ es) = P e × All P es

pub all_append : (P : Entry → Type 0) (xs ys : List Entry) → All P xs → All P ys → All P (xs ++ ys)
all_append P [] ys a b = b
all_append P (x ∷ xs) ys a b = (a.0, all_append P xs ys a.1 b)

pub all_map : (P Q : Entry → Type 0) → ((e : Entry) → P e → Q e) → (xs : List Entry) → All P xs → All Q xs
all_map P Q f [] a = tt
all_map P Q f (x ∷ xs) a = (f x a.0, all_map P Q f xs a.1)

-- not in a scope past lo, up to hi
abbrev pub Out : ℕ → ℕ → Entry → Type 0
Out lo hi e = (s : ℕ) → lo < s → s ≤ hi → e.scope ≡ s → ⊥

module _ (past : ℕ → Scope) where
  pub build_gone : (ys : List Entry) (i s : ℕ) → All (λ e. e.scope ≡ s → ⊥) ys → build past i ys s ≡ end
  unfolding build
  build_gone [] i s a = refl
  build_gone (y ∷ ys) i s a = rw (ne_eqb y.scope s a.0) (build_gone ys (suc i) s a.1)

  module _ (lo hi : ℕ) (ys : List Entry) (a : All (Out lo hi) ys) where
    build-other : (xs : List Entry) (i s : ℕ) → i + length xs ≡ hi → lo ≤ i → lo < s → s ≤ hi → build past i (xs ++ ys) s ≡ build past i xs s
    unfolding build
    build-other [] i s e l m n = build_gone ys i s (all_map _ _ (λ y f. f s m n) ys a)
    build-other (x ∷ xs) i s e l m n =
        rw (build-other xs (suc i) (suc i) (omega arith) (omega arith) (omega arith) (omega arith), build-other xs (suc i) s (omega arith) (omega arith) m n)

    -- entries at the end that stand in none of the modules there: what the scope holds has them at its end
    pub build-append : (xs : List Entry) (i s : ℕ) → i + length xs ≡ hi → lo ≤ i → build past i (xs ++ ys) s ≡ append (build past i xs s) (build past hi ys s)
    unfolding build append
    build-append [] i s e l = let q : i ≡ hi = omega arith in rw q
    build-append (x ∷ xs) i s e l =
        rw (build-other xs (suc i) (suc i) (omega arith) (omega arith) (omega arith) (omega arith), build-append xs (suc i) s (omega arith) (omega arith))
        (go (eqb x.scope s) _)
      where
        go : (b : Bool) (h : Scope) → cond b (node i x.shows h (append (build past (suc i) xs s) (build past hi ys s))) (append (build past (suc i) xs s) (build past hi ys s))
            ≡ append (cond b (node i x.shows h (build past (suc i) xs s)) (build past (suc i) xs s)) (build past hi ys s)
        go true h = refl
        go false h = refl

pub build_agree : (p q : ℕ → Scope) (xs : List Entry) (i s : ℕ) → ((j : ℕ) → i ≤ j → j < i + length xs → p j ≡ q j) → build p i xs s ≡ build q i xs s
unfolding build
build_agree p q [] i s h = refl
build_agree p q (x ∷ xs) i s h =
    let h' : (j : ℕ) → suc i ≤ j → j < suc i + length xs → p j ≡ q j = λ j a b. h j (omega arith) (omega arith) in
    rw (h i (omega arith) (omega arith), build_agree p q xs (suc i) (suc i) h', build_agree p q xs (suc i) s h')

pub view_agree : (p q : ℕ → Scope) (l : List Entry) (s : ℕ) → ((j : ℕ) → j < length l → p j ≡ q j) → view p l s ≡ view q l s
view_agree p q l s h = build_agree p q (drop s l) s s (λ j a b. h j (omega (arith, length-drop s l)))

-- THE PASTS
pasts-more : (xs ys l : List Entry) (p : ℕ → Scope) → pasts_from p l (xs ++ ys) ≡ pasts_from (pasts_from p l xs) (l ++ xs) ys
unfolding pasts_from
pasts-more [] ys l p = rw append-nil
pasts-more (x ∷ xs) ys l p = rw (pasts-more xs ys (l ++ (x ∷ [])), append_assoc)

pasts-low : (xs l : List Entry) (p : ℕ → Scope) (j : ℕ) → j < length l → pasts_from p l xs j ≡ p j
unfolding pasts_from
pasts-low [] l p j h = refl
pasts-low (x ∷ xs) l p j h =
    let ne : j ≡ length l → ⊥ = λ e. omega arith in
    pasts-low xs (l ++ (x ∷ [])) _ j (rw length-append (omega arith)) ∙ (rw (ne_eqb j (length l) ne))

pub pasts_stay : (l ys : List Entry) (j : ℕ) → j < length l → pasts (l ++ ys) j ≡ pasts l j
pasts_stay l ys j h = ap (λ (f : ℕ → Scope). f j) (pasts-more l ys [] (λ i. end)) ∙ pasts-low ys l (pasts l) j h

pub pasts-at : (l : List Entry) (e : Entry) (ys : List Entry) → pasts (l ++ (e ∷ ys)) (length l) ≡ past_of (pasts l) l e.body
unfolding pasts_from
pasts-at l e ys =
    ap (λ (f : ℕ → Scope). f (length l)) (pasts-more l (e ∷ ys) [] (λ i. end))
    ∙ pasts-low ys (l ++ (e ∷ [])) _ (length l) (rw length-append (omega arith))
    ∙ (rw (eq-eqb (length l) (length l) refl))

-- later entries do not show
pub view-stays : (l ys : List Entry) (s : ℕ) → view (pasts (l ++ ys)) l s ≡ write l s
view-stays l ys s = view_agree _ _ l s (λ j h. pasts_stay l ys j h)

-- the entry e is at the place i
pub record Has (l : List Entry) (i : ℕ) (e : Entry) : Type 0 where
  pub front : List Entry
  pub back : List Entry
  pub is : l ≡ front ++ (e ∷ back)
  pub at : length front ≡ i

-- each copy is of a time that had been
abbrev pub Times : List Entry → Type 0
Times l = (i : ℕ) (e : Entry) (a u : ℕ) → Has l i e → e.body ≡ copy a u → u ≤ i

-- what is in a copy is its scope at its time
pub copied : (l : List Entry) (i : ℕ) (e : Entry) (a u : ℕ) → Has l i e → e.body ≡ copy a u → u ≤ i → pasts l i ≡ write (take u l) a
copied l i e a u h b le =
    let fits : u ≤ length h.front = omega (arith, h.at) in
    let at : pasts (h.front ++ (e ∷ h.back)) (length h.front) ≡ view (pasts h.front) (take u h.front) a = pasts-at h.front e h.back ∙ ap (past_of (pasts h.front) h.front) b in
    let was : view (pasts h.front) (take u h.front) a ≡ write (take u h.front) a =
    subst (λ (l' : List Entry). view (pasts l') (take u h.front) a ≡ write (take u h.front) a) (take-append-drop u h.front) (view-stays (take u h.front) (drop u h.front) a) in
    rw (h.is, ← h.at, take-append-le u h.front (e ∷ h.back) fits) (at ∙ was)

-- entries ys at the end: the scope s holds those of them that stand in it at its end
write-append : (l ys : List Entry) (s : ℕ) → s ≤ length l → All (Out s (length l)) ys → write (l ++ ys) s ≡ append (write l s) (build (pasts (l ++ ys)) (length l) ys s)
write-append l ys s le a =
    rw (drop-append-le s l ys le, ← view-stays l ys s)
    (build-append (pasts (l ++ ys)) s (length l) ys a (drop s l) s s (omega (arith, length-drop s l)) (omega arith))

-- an entry more in the scope s
pub write-push : (l : List Entry) (e : Entry) (s : ℕ) → s ≤ length l → e.scope ≡ s
    → write (l ++ (e ∷ [])) s ≡ append (write l s) (node (length l) e.shows (within e.body end (past_of (pasts l) l e.body)) end)
unfolding build
write-push l e s le q =
    write-append l (e ∷ []) s le (λ s' a b r. omega arith, tt) ∙ rw (pasts-at l e [], eq-eqb e.scope s q)

-- a module e in the scope s with entries after it that stand in it or below it
pub write-shut : (l : List Entry) (e : Entry) (ys : List Entry) (s : ℕ) → s ≤ length l → e.scope ≡ s → e.body ≡ own → All (λ y. suc (length l) ≤ y.scope) ys
    → write (l ++ (e ∷ ys)) s ≡ append (write l s) (node (length l) e.shows (write (l ++ (e ∷ ys)) (suc (length l))) end)
unfolding build
write-shut l e ys s le q b a =
    let gone : All (λ y. y.scope ≡ s → ⊥) ys = all_map _ _ (λ y h r. omega arith) ys a in
    write-append l (e ∷ ys) s le (λ s' c d r. omega arith, all_map _ _ (λ y h s' c d r. omega arith) ys a)
    ∙ rw (eq-eqb e.scope s q, build_gone (pasts (l ++ (e ∷ ys))) ys (suc (length l)) s gone, behind l e ys)
    (ap (λ (x : Body). append (write l s) (node (length l) e.shows (within x (build (pasts (l ++ (e ∷ ys))) (suc (length l)) ys (suc (length l))) (pasts (l ++ (e ∷ ys)) (length l))) end)) b)
  where
    behind : (l : List Entry) (e : Entry) (ys : List Entry) → drop (suc (length l)) (l ++ (e ∷ ys)) ≡ ys
    behind [] e ys = refl
    behind (x ∷ l) e ys = behind l e ys

-- a module that was just opened
pub write_new : (l : List Entry) (e : Entry) → write (l ++ (e ∷ [])) (suc (length l)) ≡ end
unfolding build
write_new l e = rw (none-behind l)
  where
    none-behind : (l : List Entry) → drop (suc (length l)) (l ++ (e ∷ [])) ≡ []
    none-behind [] = refl
    none-behind (x ∷ l) = none-behind l
