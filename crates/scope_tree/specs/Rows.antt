-- What the arrays of a tree mean: rows, lookups among the first rows, and what is inside a row. Assumes nothing.
use Rattle.std.specs.Prelude.{ℕ, zero, suc, ◌+◌, ◌-◌, ◌≤◌, ◌<◌, ◌≡◌, refl, Bool, true, false, cond, ◌&&◌, List, [], ◌∷◌, ◌++◌, eqb, ltb, length, take, drop, get_or, Option, Some, None}
use Rattle.std.proofs.Common.{add-zero, add-suc, not-suc-le-zero, add-one, arith, ap, sym, ◌∙◌, append_assoc, append-nil, length-append, drop_of_length-le, drop-cons, take_at, take_all}
use Rattle.std.proofs.Math.Decide.{dec_lt}
use Rattle.std.proofs.Math.ListN.{get_or-append}
use Rattle.std.proofs.lemmas.List.{get_or_at}
use Rattle.names.specs.declared.Name.{Name}
use Rattle.names.specs.Packed.{same_name}
use Rattle.scope_tree.specs.declared.look.Place.{Place as Site}
use Rattle.scope_tree.specs.Step.{Came, declared, used, head, Found, missing, got}
use Rattle.scope_tree.specs.Register.{is}
use Rattle.scope_tree.specs.Flat.{Body, own, copy, Entry, none, Place, inside, look, flat}

-- TABLES

-- f 0, f 1, .., f (n - 1)
unfoldable pub tab : {A : Type 0} → (ℕ → A) → ℕ → List A
tab f zero = []
tab f (suc n) = tab f n ++ (f n ∷ [])

pub length-tab : {A : Type 0} (f : ℕ → A) (n : ℕ) → length (tab f n) ≡ n
unfolding tab
length-tab f zero = refl
length-tab f (suc n) = length-append (tab f n) (f n ∷ []) ∙ add-one _ ∙ ap suc (length-tab f n)

tab-add : {A : Type 0} (f : ℕ → A) (n m : ℕ) → tab f (n + m) ≡ tab f n ++ tab (λ k. f (n + k)) m
unfolding tab
tab-add f n zero = rw (add-zero, append-nil)
tab-add f n (suc m) = rw (add-suc, tab-add f n m, append_assoc)

pub take-tab : {A : Type 0} (f : ℕ → A) (n m : ℕ) → m ≤ n → take m (tab f n) ≡ tab f m
take-tab f n m h =
    let e : n ≡ m + (n - m) = omega arith in
    rw (e, tab-add) (take_at (tab f m) _ m (length-tab f m))

pub get_d_tab : {A : Type 0} (f : ℕ → A) (n k : ℕ) (d : A) → k < n → get_or (tab f n) k d ≡ f k
unfolding tab
get_d_tab f zero k d h = absurd (not-suc-le-zero h)
get_d_tab f (suc n) k d h = go (dec_lt k n) (λ l. get_d_tab f n k d l)
  where
    go : Dec (k < n) → (k < n → get_or (tab f n) k d ≡ f k) → get_or (tab f n ++ (f n ∷ [])) k d ≡ f k
    go (yes l) ih = rw (get_or-append (tab f n) (f n ∷ []) d k (rw length-tab l)) (ih l)
    go (no l) ih = let e : k ≡ n = omega arith in rw e (get_or_at (tab f n) (f n) [] d n (length-tab f n))

pub tab_agree : {A : Type 0} (f g : ℕ → A) (n : ℕ) → ((k : ℕ) → k < n → f k ≡ g k) → tab f n ≡ tab g n
unfolding tab
tab_agree f g zero h = refl
tab_agree f g (suc n) h = rw (tab_agree f g n (λ k l. h k (omega arith)), h n (omega arith))

-- ROWS

-- 0 is a declaration, i + 1 a copy of entry i
abbrev pub came_of : ℕ → Came
came_of zero = declared
came_of (suc i) = used i

-- a declared module has a scope of its own; anything else shows a scope as of a time
unfoldable pub is_own : ℕ → ℕ → Bool
is_own k o = eqb k 3 && eqb o 0

abbrev pub body_of : ℕ → ℕ → ℕ → ℕ → Body
body_of k o a u = cond (is_own k o) own (copy a u)

-- kind, visibility, scope, mark, name, origin, from scope, from time
abbrev pub row : ℕ → ℕ → ℕ → ℕ → Name → ℕ → ℕ → ℕ → Entry
row k v s m n o a u = record { scope = s; shows = head k n (eqb v 1) m (came_of o); body = body_of k o a u }

-- the arrays of a tree
pub record Arrays : Type 0 where
  pub kinds : List ℕ
  pub visible : List ℕ
  pub scopes : List ℕ
  pub marks : List ℕ
  pub n0 : List ℕ
  pub n1 : List ℕ
  pub n2 : List ℕ
  pub n3 : List ℕ
  pub origins : List ℕ
  pub targets : List ℕ
  pub times : List ℕ
  pub index : List ℕ

abbrev pub arrays : List ℕ → List ℕ → List ℕ → List ℕ → List ℕ → List ℕ → List ℕ → List ℕ → List ℕ → List ℕ → List ℕ → List ℕ → Arrays
arrays k v s m a b c d o f t xs =
    record { kinds = k; visible = v; scopes = s; marks = m; n0 = a; n1 = b; n2 = c; n3 = d; origins = o; targets = f; times = t; index = xs }

abbrev pub name_at : List ℕ → List ℕ → List ℕ → List ℕ → ℕ → Name
name_at a b c d i = record { w0 = get_or a i 0; w1 = get_or b i 0; w2 = get_or c i 0; w3 = get_or d i 0 }

abbrev pub row_at : Arrays → ℕ → Entry
row_at A i =
    row (get_or A.kinds i 0) (get_or A.visible i 0) (get_or A.scopes i 0) (get_or A.marks i 0)
    (name_at A.n0 A.n1 A.n2 A.n3 i) (get_or A.origins i 0) (get_or A.targets i 0) (get_or A.times i 0)

-- LOOKUPS

-- whether a row of that scope, kind and name is the one looked for
unfoldable pub is_row : ℕ → ℕ → Name → ℕ → ℕ → Name → Bool
is_row es ek en s k n = eqb es s && (eqb ek k && same_name en n)

-- the first i, i + 1, .. of n numbers of which p holds
unfoldable pub first_from : (ℕ → Bool) → ℕ → ℕ → Option ℕ
first_from p i zero = None
first_from p i (suc n) = cond (p i) (Some i) (first_from p (suc i) n)

-- the first number from s on, below t
abbrev pub first_in : (ℕ → Bool) → ℕ → ℕ → Option ℕ
first_in p s t = first_from p s (t - s)

-- the test of a lookup in the arrays
abbrev pub looked : List ℕ → List ℕ → List ℕ → List ℕ → List ℕ → List ℕ → ℕ → ℕ → Name → ℕ → Bool
looked ss ks a b c d s k n i = is_row (get_or ss i 0) (get_or ks i 0) (name_at a b c d i) s k n

pub first-hit : (p : ℕ → Bool) (i t : ℕ) → i < t → p i ≡ true → first_in p i t ≡ Some i
unfolding first_from
first-hit p i t h q = let e : t - i ≡ suc (t - suc i) = omega arith in rw (e, q)

pub first_miss : (p : ℕ → Bool) (i t : ℕ) → i < t → p i ≡ false → first_in p i t ≡ first_in p (i + 1) t
unfolding first_from
first_miss p i t h q = let e : t - i ≡ suc (t - suc i) = omega arith in rw (e, q, add-one)

pub first-end : (p : ℕ → Bool) (i t : ℕ) → t ≤ i → first_in p i t ≡ None
unfolding first_from
first-end p i t h = let e : t - i ≡ 0 = omega arith in rw e

-- what was found is below the time, and is it
pub record Found_at (p : ℕ → Bool) (t i : ℕ) : Type 0 where
  pub below : i < t
  pub holds : p i ≡ true

pub first-at : (p : ℕ → Bool) (n s t i : ℕ) → s + n ≤ t → first_from p s n ≡ Some i → Found_at p t i
unfolding first_from
first-at p zero s t i h q = let z : ◌≡◌ {A = ℕ} 0 1 = cc in absurd (omega arith)
first-at p (suc n) s t i h q = go (p s) refl q (λ r. first-at p n (suc s) t i (omega arith) r)
  where
    go : (b : Bool) → p s ≡ b → cond b (Some s) (first_from p (suc s) n) ≡ Some i → (first_from p (suc s) n ≡ Some i → Found_at p t i) → Found_at p t i
    go true e r k = let z : s ≡ i = cc in record { below = omega arith; holds = rw (← z) e }
    go false e r k = k r

pub found_at : (p : ℕ → Bool) (s t i : ℕ) → first_in p s t ≡ Some i → Found_at p t i
found_at p s t i q = go (dec_lt s t)
  where
    go : Dec (s < t) → Found_at p t i
    go (yes l) = first-at p (t - s) s t i (omega arith) q
    go (no l) =
        let e : None ≡ Some i = sym (first-end p s t (omega arith)) ∙ q in
        let z : ◌≡◌ {A = ℕ} 0 1 = cc in absurd (omega arith)

-- the lookup's answer in the flat tree
abbrev pub spotted : (ℕ → Entry) → ℕ → Option ℕ → Found Place
spotted f t None = missing
spotted f t (Some i) = got i (f i).shows (inside (tab f t) i (f i).body)

abbrev pub hit : ℕ → ℕ → Name → Entry → Bool
hit s k n e = is_row e.scope e.shows.kind e.shows.name s k n

look-from : (f : ℕ → Entry) (t s k : ℕ) (n : Name) (m i : ℕ) → t ≡ i + m → look (tab f t) k n s i (drop i (tab f t)) ≡ spotted f t (first_from (λ j. hit s k n (f j)) i m)
unfolding look first_from is_row
look-from f t s k n zero i h =
    let b : length (tab f t) ≤ i = rw length-tab (omega arith) in
    let w : drop i (tab f t) ≡ [] = drop_of_length-le (tab f t) b in
    rw w
look-from f t s k n (suc m) i h =
    let b : i < length (tab f t) = rw length-tab (omega arith) in
    let lt : i < t = omega arith in
    let e : drop i (tab f t) ≡ f i ∷ drop (suc i) (tab f t) = drop-cons (tab f t) i none b ∙ ap (λ (x : Entry). x ∷ drop (suc i) (tab f t)) (get_d_tab f t i none lt) in
    rw e (go (eqb (f i).scope s) (is k n (f i).shows) refl (look-from f t s k n m (suc i) (omega arith)))
  where
    go : (a c : Bool) → is_row (f i).scope (f i).shows.kind (f i).shows.name s k n ≡ a && c → look (tab f t) k n s (suc i) (drop (suc i) (tab f t)) ≡ spotted f t (first_from (λ j. hit s k n (f j)) (suc i) m)
        → cond a (cond c (got i (f i).shows (inside (tab f t) i (f i).body)) (look (tab f t) k n s (suc i) (drop (suc i) (tab f t)))) (look (tab f t) k n s (suc i) (drop (suc i) (tab f t)))
        ≡ spotted f t (cond (hit s k n (f i)) (Some i) (first_from (λ j. hit s k n (f j)) (suc i) m))
    go true true q ih = rw q
    go true false q ih = rw q ih
    go false c q ih = rw q ih

-- `find` of the flat model at a scope and a time
pub find_spot : (f : ℕ → Entry) (t s k : ℕ) (n : Name) → flat.find (record { among = tab f t; scope = s }) k n ≡ spotted f t (first_in (λ j. hit s k n (f j)) s t)
unfolding look first_from is_row
find_spot f t s k n = go (dec_lt s t)
  where
    go : Dec (s < t) → flat.find (record { among = tab f t; scope = s }) k n ≡ spotted f t (first_in (λ j. hit s k n (f j)) s t)
    go (yes l) = look-from f t s k n (t - s) s (omega arith)
    go (no l) =
        let b : length (tab f t) ≤ s = rw length-tab (omega arith) in
        let w : drop s (tab f t) ≡ [] = drop_of_length-le (tab f t) b in
        let e : t - s ≡ 0 = omega arith in
        rw (w, e)

-- INSIDE

-- the code's place in the flat tree
abbrev pub placed : (ℕ → Entry) → ℕ → ℕ → Place
placed f s t = record { among = tab f t; scope = s }

-- what is inside row i, among the first t rows
unfoldable pub site : ℕ → ℕ → ℕ → ℕ → ℕ → ℕ → Site
site i k o a u t = cond (is_own k o) (record { scope = i + 1; time = t }) (record { scope = a; time = cond (ltb u t) u t })

pub inside-site : (f : ℕ → Entry) (i k o a u t : ℕ) → inside (tab f t) i (body_of k o a u) ≡ placed f (site i k o a u t).scope (site i k o a u t).time
unfolding site
inside-site f i k o a u t = go (is_own k o)
  where
    copied : (b : Bool) → ltb u t ≡ b → inside (tab f t) i (copy a u) ≡ placed f a (cond b u t)
    copied true q = rw (take-tab f t u (omega (arith, borrow.Author.Tests.ltb-true u t q)))
    copied false q = rw (take_all u (tab f t) (rw length-tab (borrow.Author.Tests.ltb-false u t q)))

    go : (b : Bool) → inside (tab f t) i (cond b own (copy a u)) ≡ placed f (cond {A = Site} b (record { scope = i + 1; time = t }) (record { scope = a; time = cond (ltb u t) u t })).scope (cond {A = Site} b (record { scope = i + 1; time = t }) (record { scope = a; time = cond (ltb u t) u t })).time
    go true = rw add-one
    go false = copied (ltb u t) refl

-- the time within does not pass the time
pub site-time : (i k o a u t : ℕ) → (site i k o a u t).time ≤ t
unfolding site
site-time i k o a u t = go (is_own k o) (ltb u t) refl
  where
    go : (b c : Bool) → ltb u t ≡ c → (cond {A = Site} b (record { scope = i + 1; time = t }) (record { scope = a; time = cond c u t })).time ≤ t
    go true c q = omega arith
    go false true q = omega (arith, borrow.Author.Tests.ltb-true u t q)
    go false false q = omega arith

pub site-le : (g : Site) (i k o a u t : ℕ) → g ≡ site i k o a u t → g.time ≤ t
site-le g i k o a u t q = rw q (site-time i k o a u t)
