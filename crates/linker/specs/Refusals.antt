-- The numbers with which the tree's calls are refused, when 51 is, and how many entries an accepted use adds. Assumes nothing.
use Rattle.std.specs.Prelude.{ℕ, zero, suc, pred, ◌+◌, ◌<◌, ◌≤◌, Bool, true, false, cond, ◌||◌, ◌&&◌, not, ◌⊎◌, refl, eqb, ltb, length, get_or}
use Rattle.std.proofs.Common.{arith, inl, inr, sym, ap, ◌∙◌, length-append, ltb-true}
use Rattle.std.proofs.Math.Path.{◌≡◌}
use mathlib.Core.List.{List, [], ◌∷◌}
use Rattle.names.specs.declared.Name.{Name}
use Rattle.names.specs.Identifier.{is_identifier}
use Rattle.scope_tree.specs.Step.{Head, Elem, Call, enter, exit, alias, enum, function, use', get_alias, get_function, bad, Answer, ok, refused, Found, missing, got, Tried, fail, is_done, number, after, first_told, head, declared, told_mark, any_main, shared, bind, held, full, deep, pass, nav, import, attempt, element, stage, use_of, fresh, settle, close, step}
use Rattle.scope_tree.specs.Step as tree
use Rattle.scope_tree.specs.Flat.{Flat, Place, copy, top, flat, stack_names}
use Rattle.decision.specs.Calls.{length-names}
use Rattle.register.specs.RefusalTheorems.{use_small}
use Rattle.scope_tree.specs.Form.{led_by_crate, names_from, Request, enters, exits, inserts_alias, inserts_enum, inserts_function, resolves_use, gets_alias, gets_function, named, after_string, after_element, after_strings, use_fault, use_call, elements_from, call_of}

-- NUMBERS
abbrev Between : ℕ → ℕ → ℕ → Type 0
Between a b n = (a ≤ n) × (n ≤ b)

-- 41, 42 of a path
nav-number : (sh ind : ℕ) (p : List Name) (c : Place) (n : ℕ) → nav flat sh ind p c ≡ fail n → Between 41 42 n
unfolding nav
nav-number sh ind [] c n e = let z : ◌≡◌ {A = ℕ} 0 1 = cc in absurd (omega arith)
nav-number sh ind (m ∷ p) c n e = go (λ d h. nav-number sh (suc ind) p d n h) (flat.find c 3 m) e
  where
    by : ((d : Place) → nav flat sh (suc ind) p d ≡ fail n → Between 41 42 n) → (d : Place) (t : Bool) → cond t (fail 42) (nav flat sh (suc ind) p d) ≡ fail n → Between 41 42 n
    by ih d true h = let z : 42 ≡ n = cc in (omega arith, omega arith)
    by ih d false h = ih d h

    go : ((d : Place) → nav flat sh (suc ind) p d ≡ fail n → Between 41 42 n) → (f : Found Place) → pass flat sh ind f (nav flat sh (suc ind) p) ≡ fail n → Between 41 42 n
    go ih missing h = let z : 41 ≡ n = cc in (omega arith, omega arith)
    go ih (got i g d) h = by ih d (not g.vis && ltb sh ind) h

-- 43 to 45 of a kind of an element
import-number : (v : Bool) (l : Name) (x : Flat) (f : Found Place) → Between 43 45 (number (import flat v l x f))
import-number v l x missing = (omega arith, omega arith)
import-number v l x (got i g d) = by g.vis (held flat x g.kind l)
  where
    by : (t u : Bool) → Between 43 45 (number (cond t (cond u (fail 45) (tree.done (flat.add x (head g.kind l v g.mark (tree.used i)) d))) (fail 44)))
    by true true = (omega arith, omega arith)
    by true false = (omega arith, omega arith)
    by false u = (omega arith, omega arith)

first-number : (a b c : ℕ) → Between 43 45 a → Between 43 45 b → Between 43 45 c → Between 43 45 (first_told a b c)
first-number a b c i j k = go (eqb a 43) (eqb b 43)
  where
    go : (t u : Bool) → Between 43 45 (cond t (cond u c b) a)
    go true true = k
    go true false = j
    go false u = i

element-number : (c : Place) (v : Bool) (e : Elem) (x : Flat) (n : ℕ) → element flat c v e x ≡ fail n → Between 43 45 n
unfolding element
element-number c v e x n h =
    let a = attempt flat c v e 1 x in
    let x₁ = after a x in
    let b = attempt flat c v e 2 x₁ in
    let x₂ = after b x₁ in
    let d = attempt flat c v e 3 x₂ in
    by a b d (after d x₂) (import-number v e.local x (flat.find c 1 e.name)) (import-number v e.local x₁ (flat.find c 2 e.name)) (import-number v e.local x₂ (flat.find c 3 e.name))
    (is_done a || (is_done b || is_done d)) h
  where
    by : (a b d : Tried Flat) (y : Flat) → Between 43 45 (number a) → Between 43 45 (number b) → Between 43 45 (number d)
        → (t : Bool) → cond t (tree.done y) (fail (first_told (number a) (number b) (number d))) ≡ fail n → Between 43 45 n
    by a b d y i j k true q = let z : ◌≡◌ {A = ℕ} 0 1 = cc in absurd (omega arith)
    by a b d y i j k false q =
        let z : first_told (number a) (number b) (number d) ≡ n = cc in
        let r = first-number (number a) (number b) (number d) i j k in
        (omega (arith, r.0), omega (arith, r.1))

stage-number : (c : Place) (v : Bool) (es : List Elem) (x : Flat) (n : ℕ) → stage flat c v es x ≡ fail n → Between 43 45 n
unfolding stage
stage-number c v [] x n h = let z : ◌≡◌ {A = ℕ} 0 1 = cc in absurd (omega arith)
stage-number c v (e ∷ es) x n h = go (λ y q. stage-number c v es y n q) (element flat c v e x) refl h
  where
    go : ((y : Flat) → stage flat c v es y ≡ fail n → Between 43 45 n) → (t : Tried Flat) → element flat c v e x ≡ t → bind t (stage flat c v es) ≡ fail n → Between 43 45 n
    go ih (tree.done y) q k = ih y k
    go ih (fail m) q k = let z : m ≡ n = cc in element-number c v e x n (q ∙ ap fail z)

use_number : (x : Flat) (led : Bool) (p : List Name) (v : Bool) (es : List Elem) (n : ℕ) → use_of flat x led p v es ≡ fail n → Between 40 46 n
use_number x led p v es n h = by led h
  where
    last : (c : Place) (m : Bool) → cond m (fail 46) (stage flat c v es x) ≡ fail n → Between 40 46 n
    last c true k = let z : 46 ≡ n = cc in (omega arith, omega arith)
    last c false k = let r = stage-number c v es x n k in (omega (arith, r.0), omega (arith, r.1))

    then : (t : Tried Place) → nav flat (shared (flat.names x) p) 0 p (flat.root x) ≡ t → bind t (λ c. cond (any_main es) (fail 46) (stage flat c v es x)) ≡ fail n → Between 40 46 n
    then (tree.done c) q k = last c (any_main es) k
    then (fail m) q k =
        let z : m ≡ n = cc in
        let r = nav-number (shared (flat.names x) p) 0 p (flat.root x) n (q ∙ ap fail z) in
        (omega (arith, r.0), omega (arith, r.1))

    by : (t : Bool) → cond t (bind (nav flat (shared (flat.names x) p) 0 p (flat.root x)) (λ c. cond (any_main es) (fail 46) (stage flat c v es x))) (fail 40) ≡ fail n → Between 40 46 n
    by true k = then (nav flat (shared (flat.names x) p) 0 p (flat.root x)) refl k
    by false k = let z : 40 ≡ n = cc in (omega arith, omega arith)

-- arguments that are refused: 1, 3 or 5
named-bad : (s : List ℕ) (f : Name → Call) → ((k : Name) (m : ℕ) → f k ≡ bad m → ⊥) → (n : ℕ) → named s f ≡ bad n → n ≤ 5
named-bad s f apart n h = go (is_identifier s) h
  where
    go : (t : Bool) → cond t (f (Rattle.names.specs.Packed.packed s)) (bad 5) ≡ bad n → n ≤ 5
    go true k = absurd (apart (Rattle.names.specs.Packed.packed s) n k)
    go false k = let z : 5 ≡ n = cc in omega arith

pub bad-small : (q : Request) (n : ℕ) → call_of q ≡ bad n → n ≤ 5
unfolding call_of use_call
bad-small (enters s v m) n h = named-bad s (λ k. enter k v m) (λ k j e. let z : ◌≡◌ {A = ℕ} 0 1 = cc in omega arith) n h
bad-small exits n h = let z : ◌≡◌ {A = ℕ} 0 1 = cc in absurd (omega arith)
bad-small (inserts_alias s v m) n h = named-bad s (λ k. alias k v m) (λ k j e. let z : ◌≡◌ {A = ℕ} 0 1 = cc in omega arith) n h
bad-small (inserts_enum s v m) n h = named-bad s (λ k. enum k v m) (λ k j e. let z : ◌≡◌ {A = ℕ} 0 1 = cc in omega arith) n h
bad-small (inserts_function s v m) n h = named-bad s (λ k. function k v m) (λ k j e. let z : ◌≡◌ {A = ℕ} 0 1 = cc in omega arith) n h
bad-small (resolves_use s v) n h = go (eqb (use_fault s) 0) h
  where
    go : (t : Bool) → cond t (use_call s v) (bad (use_fault s)) ≡ bad n → n ≤ 5
    go true k = let z : ◌≡◌ {A = ℕ} 0 1 = cc in absurd (omega arith)
    go false k = let z : use_fault s ≡ n = cc in let l = use_small s in omega arith
bad-small (gets_alias s) n h = named-bad s get_alias (λ k j e. let z : ◌≡◌ {A = ℕ} 0 1 = cc in omega arith) n h
bad-small (gets_function s) n h = named-bad s get_function (λ k j e. let z : ◌≡◌ {A = ℕ} 0 1 = cc in omega arith) n h

-- THE LIMITS
-- what the call, otherwise good, leaves; exit and the calls that only ask add nothing
abbrev pub otherwise : Flat → Call → Tried Flat
otherwise x (enter n v m) = fresh flat x 3 n 47 (flat.opened x (head 3 n v m declared))
otherwise x exit = fail 50
otherwise x (alias n v m) = fresh flat x 1 n 48 (flat.add x (head 1 n v m declared) flat.empty)
otherwise x (enum n v m) = fresh flat x 1 n 48 (flat.add x (head 1 n v m declared) flat.empty)
otherwise x (function n v m) = fresh flat x 2 n 49 (flat.add x (head 2 n v m declared) flat.empty)
otherwise x (use' led p v es) = use_of flat x led p v es
otherwise x (get_alias n) = fail 43
otherwise x (get_function n) = fail 43
otherwise x (bad n) = fail n

-- "the call, otherwise good, passes a tree limit": 1,024 entries, 9 open modules
pub record PassesLimit (x : Flat) (c : Call) : Type 0 where
  pub leaves : Flat
  pub good : otherwise x c ≡ tree.done leaves
  pub passes : (1024 < length leaves.entries) ⊎ (9 < length leaves.stack)

-- what comes before the limits is refused with another number
fresh-number : (x : Flat) (k : ℕ) (a : Name) (m : ℕ) (y : Flat) (n : ℕ) → fresh flat x k a m y ≡ fail n → n ≡ m
fresh-number x k a m y n h = go (held flat x k a) h
  where
    go : (t : Bool) → cond t (fail m) (tree.done y) ≡ fail n → n ≡ m
    go true e = let z : m ≡ n = cc in sym z
    go false e = let z : ◌≡◌ {A = ℕ} 0 1 = cc in absurd (omega arith)

settled : (x : Flat) (n : ℕ) (t : Tried Flat) → (settle flat x t).1 ≡ refused n → (t ≡ fail n) ⊎ ((n ≡ 51) × ((y : Flat) × ((t ≡ tree.done y) × ((1024 < length y.entries) ⊎ (9 < length y.stack)))))
settled x n (fail m) h = let z : m ≡ n = cc in inl (ap fail z)
settled x n (tree.done y) h = go (full flat y) refl (deep flat y) refl h
  where
    go : (t : Bool) → full flat y ≡ t → (u : Bool) → deep flat y ≡ u → (cond {A = Flat × Answer} (t || u) (x, refused 51) (y, ok)).1 ≡ refused n
        → (tree.done y ≡ fail n) ⊎ ((n ≡ 51) × ((z : Flat) × ((tree.done y ≡ tree.done z) × ((1024 < length z.entries) ⊎ (9 < length z.stack)))))
    go true e u f k = let z : 51 ≡ n = cc in inr (sym z, (y, (refl, inl (ltb-true 1024 (length y.entries) e))))
    go false e true f k =
        let z : 51 ≡ n = cc in
        let d = ltb-true 9 (length (stack_names y.entries y.stack)) f in
        inr (sym z, (y, (refl, inr (omega (arith, d, length-names y.entries y.stack)))))
    go false e false f k = let z : ◌≡◌ {A = ℕ} 0 1 = cc in absurd (omega arith)

-- a refusal is one of the arguments', one from 40 to 50, or 51 where a limit is passed
pub data RefusedBy (x : Flat) (c : Call) (n : ℕ) : Type 0 where
  by_form : c ≡ bad n → RefusedBy x c n
  by_rule : 40 ≤ n → n ≤ 50 → RefusedBy x c n
  by_limit : n ≡ 51 → PassesLimit x c → RefusedBy x c n

module _ (x : Flat) (n : ℕ) where
  from_settled : (c : Call) → ((k : ℕ) → otherwise x c ≡ fail k → Between 40 50 k) → (settle flat x (otherwise x c)).1 ≡ refused n → RefusedBy x c n
  from_settled c f h = go (settled x n (otherwise x c) h)
    where
      go : (otherwise x c ≡ fail n) ⊎ ((n ≡ 51) × ((y : Flat) × ((otherwise x c ≡ tree.done y) × ((1024 < length y.entries) ⊎ (9 < length y.stack))))) → RefusedBy x c n
      go (inl e) = let r = f n e in by_rule r.0 r.1
      go (inr e) = by_limit e.0 (record { leaves = e.1.0; good = e.1.1.0; passes = e.1.1.1 })

  held-between : (k : ℕ) (a : Name) (m : ℕ) (y : Flat) → 40 ≤ m → m ≤ 50 → (j : ℕ) → fresh flat x k a m y ≡ fail j → Between 40 50 j
  held-between k a m y l u j h = let z = fresh-number x k a m y j h in (omega arith, omega arith)

  pub refused-by : (c : Call) → (step flat x c).1 ≡ refused n → RefusedBy x c n
  unfolding step
  refused-by (enter a v m) h = from_settled (enter a v m) (held-between 3 a 47 _ (omega arith) (omega arith)) h
  refused-by exit h = go (flat.names x) h
    where
      go : (l : List Name) → (close flat x l).1 ≡ refused n → RefusedBy x exit n
      go [] k = let z : 50 ≡ n = cc in by_rule (omega arith) (omega arith)
      go (a ∷ l) k = let z : ◌≡◌ {A = ℕ} 0 1 = cc in absurd (omega arith)
  refused-by (alias a v m) h = from_settled (alias a v m) (held-between 1 a 48 _ (omega arith) (omega arith)) h
  refused-by (enum a v m) h = from_settled (enum a v m) (held-between 1 a 48 _ (omega arith) (omega arith)) h
  refused-by (function a v m) h = from_settled (function a v m) (held-between 2 a 49 _ (omega arith) (omega arith)) h
  refused-by (use' led p v es) h =
      from_settled (use' led p v es) (λ k e. let r = use_number x led p v es k e in (omega (arith, r.0), omega (arith, r.1))) h
  refused-by (get_alias a) h = go (flat.find (flat.here x) 1 a) h
    where
      go : (f : Found Place) → told_mark f ≡ refused n → RefusedBy x (get_alias a) n
      go missing k = let z : 43 ≡ n = cc in by_rule (omega arith) (omega arith)
      go (got i g d) k = let z : ◌≡◌ {A = ℕ} 0 1 = cc in absurd (omega arith)
  refused-by (get_function a) h = go (flat.find (flat.here x) 2 a) h
    where
      go : (f : Found Place) → told_mark f ≡ refused n → RefusedBy x (get_function a) n
      go missing k = let z : 43 ≡ n = cc in by_rule (omega arith) (omega arith)
      go (got i g d) k = let z : ◌≡◌ {A = ℕ} 0 1 = cc in absurd (omega arith)
  refused-by (bad m) h = let z : m ≡ n = cc in by_form (ap bad z)

-- WHAT AN ACCEPTED USE ADDS: an entry at least for each element
added : (x : Flat) (h : Head) (d : Place) → length (flat.add x h d).entries ≡ suc (length x.entries)
added x h d = omega (arith, length-append x.entries (record { scope = top x.stack; shows = h; body = copy d.scope (length d.among) } ∷ []))

import-adds : (v : Bool) (l : Name) (x y : Flat) (f : Found Place) → import flat v l x f ≡ tree.done y → length y.entries ≡ suc (length x.entries)
import-adds v l x y missing h = let z : ◌≡◌ {A = ℕ} 0 1 = cc in absurd (omega arith)
import-adds v l x y (got i g d) h = by g.vis (held flat x g.kind l) h
  where
    by : (t u : Bool) → cond t (cond u (fail 45) (tree.done (flat.add x (head g.kind l v g.mark (tree.used i)) d))) (fail 44) ≡ tree.done y → length y.entries ≡ suc (length x.entries)
    by true true k = let z : ◌≡◌ {A = ℕ} 0 1 = cc in absurd (omega arith)
    by true false k =
        let z : flat.add x (head g.kind l v g.mark (tree.used i)) d ≡ y = cc in
        ap (λ (w : Flat). length w.entries) (sym z) ∙ added x (head g.kind l v g.mark (tree.used i)) d
    by false u k = let z : ◌≡◌ {A = ℕ} 0 1 = cc in absurd (omega arith)

after-adds : (a : Tried Flat) (x : Flat) → ((y : Flat) → a ≡ tree.done y → length y.entries ≡ suc (length x.entries))
    → (length x.entries ≤ length (after a x).entries) × (is_done a ≡ true → length x.entries < length (after a x).entries)
after-adds (tree.done y) x f = let e = f y refl in (omega arith, λ q. omega arith)
after-adds (fail n) x f = (omega arith, λ q. let z : ◌≡◌ {A = ℕ} 0 1 = cc in absurd (omega arith))

element-adds : (c : Place) (v : Bool) (e : Elem) (x y : Flat) → element flat c v e x ≡ tree.done y → length x.entries < length y.entries
unfolding element
element-adds c v e x y h =
    let a = attempt flat c v e 1 x in
    let x₁ = after a x in
    let b = attempt flat c v e 2 x₁ in
    let x₂ = after b x₁ in
    let d = attempt flat c v e 3 x₂ in
    let i = after-adds a x (λ w. import-adds v e.local x w (flat.find c 1 e.name)) in
    let j = after-adds b x₁ (λ w. import-adds v e.local x₁ w (flat.find c 2 e.name)) in
    let k = after-adds d x₂ (λ w. import-adds v e.local x₂ w (flat.find c 3 e.name)) in
    by (is_done a) (is_done b) (is_done d) (length x.entries) (length x₁.entries) (length x₂.entries) (after d x₂) (first_told (number a) (number b) (number d)) i j k h
  where
    by : (p q r : Bool) (m₀ m₁ m₂ : ℕ) (z : Flat) (n : ℕ) → (m₀ ≤ m₁) × (p ≡ true → m₀ < m₁) → (m₁ ≤ m₂) × (q ≡ true → m₁ < m₂) → (m₂ ≤ length z.entries) × (r ≡ true → m₂ < length z.entries)
        → cond (p || (q || r)) (tree.done z) (fail n) ≡ tree.done y → m₀ < length y.entries
    by true q r m₀ m₁ m₂ z n i j k g = let w : z ≡ y = cc in let s = ap (λ (u : Flat). length u.entries) w in omega (arith, i.1 refl, j.0, k.0, s)
    by false true r m₀ m₁ m₂ z n i j k g = let w : z ≡ y = cc in let s = ap (λ (u : Flat). length u.entries) w in omega (arith, i.0, j.1 refl, k.0, s)
    by false false true m₀ m₁ m₂ z n i j k g = let w : z ≡ y = cc in let s = ap (λ (u : Flat). length u.entries) w in omega (arith, i.0, j.0, k.1 refl, s)
    by false false false m₀ m₁ m₂ z n i j k g = let w : ◌≡◌ {A = ℕ} 0 1 = cc in absurd (omega arith)

stage-adds : (c : Place) (v : Bool) (es : List Elem) (x y : Flat) → stage flat c v es x ≡ tree.done y → length x.entries + length es ≤ length y.entries
unfolding stage
stage-adds c v [] x y h = let z : x ≡ y = cc in let s = ap (λ (u : Flat). length u.entries) z in omega arith
stage-adds c v (e ∷ es) x y h = go (λ z q. stage-adds c v es z y q) (element flat c v e x) refl h
  where
    go : ((z : Flat) → stage flat c v es z ≡ tree.done y → length z.entries + length es ≤ length y.entries) → (t : Tried Flat) → element flat c v e x ≡ t → bind t (stage flat c v es) ≡ tree.done y
        → length x.entries + length (e ∷ es) ≤ length y.entries
    go ih (tree.done z) q k = let s = ih z k in let l = element-adds c v e x z q in omega arith
    go ih (fail m) q k = let z : ◌≡◌ {A = ℕ} 0 1 = cc in absurd (omega arith)

pub use_adds : (x : Flat) (led : Bool) (p : List Name) (v : Bool) (es : List Elem) → (step flat x (use' led p v es)).1 ≡ ok → length x.entries + length es ≤ length (step flat x (use' led p v es)).0.entries
unfolding step
use_adds x led p v es h = by led h
  where
    settles : (t : Tried Flat) → ((y : Flat) → t ≡ tree.done y → length x.entries + length es ≤ length y.entries) → (settle flat x t).1 ≡ ok → length x.entries + length es ≤ length (settle flat x t).0.entries
    settles (fail n) f k = let z : ◌≡◌ {A = ℕ} 0 1 = cc in absurd (omega arith)
    settles (tree.done y) f k = go (full flat y || deep flat y) k
      where
        go : (t : Bool) → (cond {A = Flat × Answer} t (x, refused 51) (y, ok)).1 ≡ ok → length x.entries + length es ≤ length (cond {A = Flat × Answer} t (x, refused 51) (y, ok)).0.entries
        go true q = let z : ◌≡◌ {A = ℕ} 0 1 = cc in absurd (omega arith)
        go false q = f y refl

    by : (t : Bool) → (settle flat x (cond t (bind (nav flat (shared (flat.names x) p) 0 p (flat.root x)) (λ c. cond (any_main es) (fail 46) (stage flat c v es x))) (fail 40))).1 ≡ ok
        → length x.entries + length es ≤ length (settle flat x (cond t (bind (nav flat (shared (flat.names x) p) 0 p (flat.root x)) (λ c. cond (any_main es) (fail 46) (stage flat c v es x))) (fail 40))).0.entries
    by true k = settles (bind (nav flat (shared (flat.names x) p) 0 p (flat.root x)) (λ c. cond (any_main es) (fail 46) (stage flat c v es x))) (λ y e. path (nav flat (shared (flat.names x) p) 0 p (flat.root x)) y e) k
      where
        last : (c : Place) (y : Flat) (m : Bool) → cond m (fail 46) (stage flat c v es x) ≡ tree.done y → length x.entries + length es ≤ length y.entries
        last c y true e = let z : ◌≡◌ {A = ℕ} 0 1 = cc in absurd (omega arith)
        last c y false e = stage-adds c v es x y e

        path : (t : Tried Place) (y : Flat) → bind t (λ c. cond (any_main es) (fail 46) (stage flat c v es x)) ≡ tree.done y → length x.entries + length es ≤ length y.entries
        path (tree.done c) y e = last c y (any_main es) e
        path (fail n) y e = let z : ◌≡◌ {A = ℕ} 0 1 = cc in absurd (omega arith)
    by false k = settles (fail 40) (λ y e. let z : ◌≡◌ {A = ℕ} 0 1 = cc in absurd (omega arith)) k

-- the elements of a use in bytes: as many as its count says
abbrev pub element_count : List ℕ → ℕ
element_count d = get_or d (after_strings d (get_or d 0 0) 1) 0

elements-counted : (d : List ℕ) (n at : ℕ) → length (elements_from d n at) ≡ n
unfolding elements_from
elements-counted d zero at = refl
elements-counted d (suc n) at = ap suc (elements-counted d n (after_element d at))

pub request-adds : (x : Flat) (d : List ℕ) (v : Bool) → (step flat x (call_of (resolves_use d v))).1 ≡ ok → length x.entries + element_count d ≤ length (step flat x (call_of (resolves_use d v))).0.entries
unfolding call_of use_call step
request-adds x d v h = go (eqb (use_fault d) 0) h
  where
    go : (t : Bool) → (step flat x (cond t (use_call d v) (bad (use_fault d)))).1 ≡ ok → length x.entries + element_count d ≤ length (step flat x (cond t (use_call d v) (bad (use_fault d)))).0.entries
    go true k =
        let r = use_adds x (led_by_crate d) (names_from d (pred (get_or d 0 0)) (after_string d 1)) v (elements_from d (element_count d) (after_strings d (get_or d 0 0) 1 + 1)) k in
        omega (arith, r, elements-counted d (element_count d) (after_strings d (get_or d 0 0) 1 + 1))
    go false k = let z : ◌≡◌ {A = ℕ} 0 1 = cc in absurd (omega arith)
