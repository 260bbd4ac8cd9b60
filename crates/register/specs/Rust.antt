-- The Rust's own shape: a root and a path of names, each module found by its name. It is the register. Assumes nothing.
use Rattle.std.specs.Prelude.{ℕ, suc, ◌≡◌, refl, Bool, true, false, cond, List, [], ◌∷◌, ◌++◌}
use Rattle.std.proofs.Common.{arith, ap, sym, ◌∙◌, eq-eqb}
use Rattle.names.specs.declared.Name.{Name}
use Rattle.scope_tree.specs.Step.{same_refl, Head, Call, Found, missing, got, is_got, Model, run}
use Rattle.scope_tree.specs.Register.{Scope, end, node, append, is, find, Opened, Register, shut, whole, names, leave, register, first_register}
use Rattle.scope_tree.specs.Flat.{flattened, write}
use Rattle.scope_tree.specs.Sim.{SameFound, no_one, both, Simulation, run_ok}
use Rattle.scope_tree.specs.Same.{same-answers, same-tree}

pub record Rust : Type 0 where
  pub total : ℕ
  pub root : Scope
  pub path : List Name

abbrev pub contents : Found Scope → Scope
contents missing = end
contents (got i h c) = c

-- `current`: the fold over the path
unfoldable pub walk : List Name → Scope → Scope
walk [] c = c
walk (n ∷ p) c = walk p (contents (find c 3 n))

-- `current_mut`: the first module of the name changed
unfoldable pub change : Name → (Scope → Scope) → Scope → Scope
change n g end = end
change n g (node i h b f) = cond (is 3 n h) (node i h (g b) f) (node i h b (change n g f))

unfoldable pub update : List Name → (Scope → Scope) → Scope → Scope
update [] g c = g c
update (n ∷ p) g c = change n (update p g) c

abbrev pub but_last : Name → List Name → List Name
but_last x [] = []
but_last x (y ∷ ys) = x ∷ but_last y ys

abbrev pub popped : List Name → List Name
popped [] = []
popped (x ∷ xs) = but_last x xs

abbrev pub rust : Model Rust Scope
rust =
    record {
      empty = end;
      root = λ x. x.root;
      here = λ x. walk x.path x.root;
      find = find;
      names = λ x. x.path;
      count = λ x. x.total;
      add = λ x h c. record { total = suc x.total; root = update x.path (λ m. append m (node x.total h c end)) x.root; path = x.path };
      opened = λ x h. record { total = suc x.total; root = update x.path (λ m. append m (node x.total h end end)) x.root; path = x.path ++ (h.name ∷ []) };
      closed = λ x. record { total = x.total; root = x.root; path = popped x.path };
    }

abbrev pub first_rust : Rust
first_rust = record { total = 0; root = end; path = [] }

-- no module before an open one has its name
abbrev Clear : List Opened → Type 0
Clear [] = Unit {0}
Clear (o ∷ os) = (find o.before 3 o.shows.name ≡ missing) × (o.shows.kind ≡ 3) × Clear os

is_self : (h : Head) → h.kind ≡ 3 → is 3 h.name h ≡ true
is_self h k = rw (eq-eqb h.kind 3 k, same_refl h.name)

find-shut : (b : Scope) (i : ℕ) (h : Head) (c : Scope) → find b 3 h.name ≡ missing → h.kind ≡ 3 → find (append b (node i h c end)) 3 h.name ≡ got i h c
unfolding find append
find-shut end i h c m k = rw (is_self h k)
find-shut (node j g d f) i h c m k = go (is 3 h.name g) m (λ m'. find-shut f i h c m' k)
  where
    go : (b : Bool) → cond b (got j g d) (find f 3 h.name) ≡ missing → (find f 3 h.name ≡ missing → find (append f (node i h c end)) 3 h.name ≡ got i h c)
        → cond b (got j g d) (find (append f (node i h c end)) 3 h.name) ≡ got i h c
    go true m ih = let z : ◌≡◌ {A = ℕ} 0 1 = cc in absurd (omega arith)
    go false m ih = ih m

change-shut : (b : Scope) (i : ℕ) (h : Head) (c : Scope) (g : Scope → Scope) → find b 3 h.name ≡ missing → h.kind ≡ 3
    → change h.name g (append b (node i h c end)) ≡ append b (node i h (g c) end)
unfolding find append change
change-shut end i h c g m k = rw (is_self h k)
change-shut (node j a d f) i h c g m k = go (is 3 h.name a) m (λ m'. change-shut f i h c g m' k)
  where
    go : (b : Bool) → cond b (got j a d) (find f 3 h.name) ≡ missing → (find f 3 h.name ≡ missing → change h.name g (append f (node i h c end)) ≡ append f (node i h (g c) end))
        → cond b (node j a (g d) (append f (node i h c end))) (node j a d (change h.name g (append f (node i h c end)))) ≡ node j a d (append f (node i h (g c) end))
    go true m ih = let z : ◌≡◌ {A = ℕ} 0 1 = cc in absurd (omega arith)
    go false m ih = rw (ih m)

walk-append : (p q : List Name) (c : Scope) → walk (p ++ q) c ≡ walk q (walk p c)
unfolding walk
walk-append [] q c = refl
walk-append (n ∷ p) q c = walk-append p q (contents (find c 3 n))

update-append : (p q : List Name) (g : Scope → Scope) → update (p ++ q) g ≡ update p (update q g)
unfolding update
update-append [] q g = refl
update-append (n ∷ p) q g = ap (λ (k : Scope → Scope). change n k) (update-append p q g)

walk-whole : (os : List Opened) (c : Scope) → Clear os → walk (names os) (whole c os) ≡ c
unfolding walk whole names
walk-whole [] c k = refl
walk-whole (o ∷ os) c k =
    walk-append (names os) (o.shows.name ∷ []) (whole (shut o c) os)
    ∙ rw (walk-whole os (shut o c) k.2, find-shut o.before o.id o.shows c k.0 k.1)

update-whole : (os : List Opened) (g : Scope → Scope) (c : Scope) → Clear os → update (names os) g (whole c os) ≡ whole (g c) os
unfolding update whole names
update-whole [] g c k = refl
update-whole (o ∷ os) g c k =
    ap (λ (f : Scope → Scope). f (whole (shut o c) os)) (update-append (names os) (o.shows.name ∷ []) g)
    ∙ update-whole os (update (o.shows.name ∷ []) g) (shut o c) k.2
    ∙ ap (λ (d : Scope). whole d os) (change-shut o.before o.id o.shows c g k.0 k.1)

popped_snoc : (xs : List Name) (n : Name) → popped (xs ++ (n ∷ [])) ≡ xs
popped_snoc [] n = refl
popped_snoc (x ∷ xs) n = go x xs
  where
    go : (x : Name) (xs : List Name) → but_last x (xs ++ (n ∷ [])) ≡ x ∷ xs
    go x [] = refl
    go x (y ∷ ys) = rw (go y ys)

pub record RelP (x : Rust) (r : Register) : Type 0 where
  pub total : x.total ≡ r.total
  pub root : x.root ≡ whole r.inner r.outer
  pub path : x.path ≡ names r.outer
  pub clear : Clear r.outer

same_self : (f : Found Scope) → SameFound (λ c d. c ≡ d) (λ i h. Unit {0}) f f
same_self missing = no_one
same_self (got i h c) = both tt refl

not-held : (f : Found Scope) → is_got f ≡ false → f ≡ missing
not-held missing e = refl
not-held (got i h c) e = let z : ◌≡◌ {A = ℕ} 0 1 = cc in absurd (omega arith)

close-path : (x : Rust) (n : ℕ) (c : Scope) (os : List Opened) → x.total ≡ n → x.root ≡ whole c os → x.path ≡ names os → Clear os → RelP (rust.closed x) (leave n c os)
unfolding whole names
close-path x n c [] t r p k = record { total = t; root = r; path = rw p; clear = tt }
close-path x n c (o ∷ os) t r p k = record { total = t; root = r; path = rw p (popped_snoc (names os) o.shows.name); clear = k.2 }

pub agree_path : Simulation rust register RelP (λ r c d. c ≡ d) (λ r i h. Unit {0})
unfolding whole names
agree_path =
    record {
      empty_ok = λ r. refl;
      root_ok = λ x r q. q.root;
      here_ok = λ x r q. rw (q.root, q.path) (walk-whole r.outer r.inner q.clear);
      find_ok = λ r c d s k n. rw s (same_self (find d k n));
      names_ok = λ x r q. q.path;
      count_ok = λ x r q. q.total;
      add_ok = λ x r h c d q t o s. record {
        total = ap suc q.total;
        root = rw (q.root, q.path, q.total, s) (update-whole r.outer _ r.inner q.clear);
        path = q.path;
        clear = q.clear;
      };
      add_stays = λ r h e c d s. s;
      open_ok = λ x r h q m k n. record {
        total = ap suc q.total;
        root = rw (q.root, q.path, q.total) (update-whole r.outer _ r.inner q.clear);
        path = rw q.path;
        clear = (not-held _ n, k, q.clear);
      };
      close_ok = λ x r q. close-path x r.total r.inner r.outer q.total q.root q.path q.clear;
    }

first-path : RelP first_rust first_register
unfolding whole names
first-path = record { total = refl; root = refl; path = refl; clear = tt }

-- THE THEOREM, against the Rust's shape: the same answers, the same tree
pub rust-answers : (cs : List Call) → (run rust first_rust cs).1 ≡ (flattened cs).1
rust-answers cs = (run_ok agree_path cs first_rust first_register first-path).1 ∙ same-answers cs

pub rust-tree : (cs : List Call) → write (flattened cs).0.entries 0 ≡ (run rust first_rust cs).0.root
rust-tree cs = same-tree cs ∙ sym (run_ok agree_path cs first_rust first_register first-path).0.root
