-- The register in the specification's words: it takes each call's arguments and whether it was accepted. Assumes nothing.
use Rattle.std.specs.Prelude.{ℕ, suc, Bool, not, ◌||◌, ◌&&◌}
use Rattle.std.proofs.Common.{arith, ◌∙◌}
use Rattle.std.proofs.Math.Path.{◌≡◌, refl, ap, sym}
use Rattle.std.proofs.Math.Bool.{true, false, cond}
use mathlib.Core.List.{List, [], ◌∷◌}
use Rattle.std.proofs.Math.Dec.{ltb}
use Rattle.names.specs.declared.Name.{Name}
use Rattle.scope_tree.specs.Step.{copy_of, declared, Elem, Call, enter, exit, alias, enum, function, use', get_alias, get_function, bad, Answer, ok, marked, refused, Found, missing, got, Model, Tried, done, fail, told_mark, shared, any_main, is_done, number, after, first_told, head, bind, held, full, deep, pass, nav, import, judge, element, stage, use_of, fresh, settle, close, step, run}
use Rattle.scope_tree.specs.Register.{Register, register, first_register, tree_of}
use Rattle.scope_tree.specs.Flat.{flattened, write}
use Rattle.scope_tree.specs.Same.{same-answers, same-tree}

abbrev pub accepted : Answer → Bool
accepted ok = true
accepted (marked m) = true
accepted (refused n) = false

module _ {X C : Type 0} (M : Model X C) where
  abbrev pub inner : Found C → C
  inner missing = M.empty
  inner (got i h c) = c

  -- the module of a path
  unfoldable pub along : List Name → C → C
  along [] c = c
  along (n ∷ p) c = along p (inner (M.find c 3 n))

  -- 01: "under the local name if free in that kind, a copy of the public entry of the element's name in the module of the use's path, with
  -- that entry's mark and the use's visibility"
  abbrev pub bring : Bool → Name → Found C → X → X
  bring v l missing x = x
  bring v l (got i h c) x = cond (h.vis && not (held M x h.kind l)) (M.add x (copy_of i h l v) c) x

  -- "A use adds there, by element, then type, function, module"
  unfoldable pub bring_all : C → Bool → List Elem → X → X
  bring_all c v [] x = x
  bring_all c v (e ∷ es) x =
      bring_all c v es
      (bring v e.local (M.find c 3 e.name) (bring v e.local (M.find c 2 e.name) (bring v e.local (M.find c 1 e.name) x)))

  -- an accepted call: "Enter adds a module to the innermost open one and opens it; exit closes it. A type alias, enum (a type) or function
  -- is added there"; "refused and get calls change nothing"
  abbrev pub noted : Call → X → X
  noted (enter n v m) x = M.opened x (head 3 n v m declared)
  noted exit x = M.closed x
  noted (alias n v m) x = M.add x (head 1 n v m declared) M.empty
  noted (enum n v m) x = M.add x (head 1 n v m declared) M.empty
  noted (function n v m) x = M.add x (head 2 n v m declared) M.empty
  noted (use' led p v es) x = bring_all (along p (M.root x)) v es x
  noted (get_alias n) x = x
  noted (get_function n) x = x
  noted (bad n) x = x

  abbrev pub note : X → Call → Bool → X
  note x c true = noted c x
  note x c false = x

  unfoldable pub notes : X → List Call → List Answer → X
  notes x [] as' = x
  notes x (c ∷ cs) [] = x
  notes x (c ∷ cs) (a ∷ as') = notes (note x c (accepted a)) cs as'

  -- STEP IS THAT
  pub nav-along : (sh ind : ℕ) (p : List Name) (c d : C) → nav M sh ind p c ≡ done d → d ≡ along p c
  unfolding nav along
  nav-along sh ind [] c d e = cc
  nav-along sh ind (n ∷ p) c d e = go (M.find c 3 n) refl e (λ c'. nav-along sh (suc ind) p c' d)
    where
      go : (f : Found C) → M.find c 3 n ≡ f → pass M sh ind f (nav M sh (suc ind) p) ≡ done d → ((c' : C) → nav M sh (suc ind) p c' ≡ done d → d ≡ along p c') → d ≡ along p (inner (M.find c 3 n))
      go missing q e k = let z : ◌≡◌ {A = ℕ} 0 1 = cc in absurd (omega arith)
      go (got i h c') q e k = rw q (pick (not h.vis && ltb sh ind) e)
        where
          pick : (b : Bool) → cond b (fail 42) (nav M sh (suc ind) p c') ≡ done d → d ≡ along p c'
          pick true e = let z : ◌≡◌ {A = ℕ} 0 1 = cc in absurd (omega arith)
          pick false e = k c' e

  bring-after : (v : Bool) (l : Name) (f : Found C) (x : X) → after (import M v l x f) x ≡ bring v l f x
  bring-after v l missing x = refl
  bring-after v l (got i h c) x = go h.vis (held M x h.kind l) _
    where
      go : (b t : Bool) (y : X) → after (cond b (cond t (fail 45) (done y)) (fail 44)) x ≡ cond (b && not t) y x
      go true true y = refl
      go true false y = refl
      go false t y = refl

  judge-done : (a b d : Tried X) (x y : X) → judge M a b d x ≡ done y → x ≡ y
  judge-done a b d x y q = go (is_done a || (is_done b || is_done d)) q
    where
      go : (t : Bool) → cond t (done x) (fail (first_told (number a) (number b) (number d))) ≡ done y → x ≡ y
      go true q = cc
      go false q = let z : ◌≡◌ {A = ℕ} 0 1 = cc in absurd (omega arith)

  pub element-bring : (c : C) (v : Bool) (e : Elem) (x x' : X) → element M c v e x ≡ done x'
      → x' ≡ bring v e.local (M.find c 3 e.name) (bring v e.local (M.find c 2 e.name) (bring v e.local (M.find c 1 e.name) x))
  unfolding element
  element-bring c v e x x' q =
      let l = e.local in
      let f₁ = M.find c 1 e.name in
      let f₂ = M.find c 2 e.name in
      let f₃ = M.find c 3 e.name in
      let x₁ = after (import M v l x f₁) x in
      let x₂ = after (import M v l x₁ f₂) x₁ in
      sym (judge-done (import M v l x f₁) (import M v l x₁ f₂) (import M v l x₂ f₃) _ x' q)
      ∙ bring-after v l f₃ x₂ ∙ ap (bring v l f₃) (bring-after v l f₂ x₁ ∙ ap (bring v l f₂) (bring-after v l f₁ x))

  pub stage-bring : (c : C) (v : Bool) (es : List Elem) (x x' : X) → stage M c v es x ≡ done x' → x' ≡ bring_all c v es x
  unfolding stage bring_all
  stage-bring c v [] x x' q = cc
  stage-bring c v (e ∷ es) x x' q = go (element M c v e x) refl q (λ x₁. stage-bring c v es x₁ x')
    where
      go : (a : Tried X) → element M c v e x ≡ a → bind a (stage M c v es) ≡ done x' → ((x₁ : X) → stage M c v es x₁ ≡ done x' → x' ≡ bring_all c v es x₁) → x' ≡ bring_all c v (e ∷ es) x
      go (fail n) p q k = let z : ◌≡◌ {A = ℕ} 0 1 = cc in absurd (omega arith)
      go (done x₁) p q k = rw (← element-bring c v e x x₁ p) (k x₁ q)

  pub use_bring : (x x' : X) (led : Bool) (p : List Name) (v : Bool) (es : List Elem) → use_of M x led p v es ≡ done x' → x' ≡ bring_all (along p (M.root x)) v es x
  use_bring x x' false p v es q = let z : ◌≡◌ {A = ℕ} 0 1 = cc in absurd (omega arith)
  use_bring x x' true p v es q = go (nav M (shared (M.names x) p) 0 p (M.root x)) refl q
    where
      go : (a : Tried C) → nav M (shared (M.names x) p) 0 p (M.root x) ≡ a → bind a (λ c. cond (any_main es) (fail 46) (stage M c v es x)) ≡ done x' → x' ≡ bring_all (along p (M.root x)) v es x
      go (fail n) e q = let z : ◌≡◌ {A = ℕ} 0 1 = cc in absurd (omega arith)
      go (done c) e q = rw (← nav-along (shared (M.names x) p) 0 p (M.root x) c e) (pick (any_main es) q)
        where
          pick : (b : Bool) → cond b (fail 46) (stage M c v es x) ≡ done x' → x' ≡ bring_all c v es x
          pick true q = let z : ◌≡◌ {A = ℕ} 0 1 = cc in absurd (omega arith)
          pick false q = stage-bring c v es x x' q

  settled : (x : X) (c : Call) (a : Tried X) → ((x' : X) → a ≡ done x' → x' ≡ noted c x) → (settle M x a).0 ≡ note x c (accepted (settle M x a).1)
  settled x c (fail n) h = refl
  settled x c (done y) h = go (full M y || deep M y)
    where
      go : (b : Bool) → ◌≡◌ {A = X} (cond {A = X × Answer} b (x, refused 51) (y, ok)).0 (note x c (accepted (cond {A = X × Answer} b (x, refused 51) (y, ok)).1))
      go true = refl
      go false = h y refl

  pub fresh-done : (x y x' : X) (k : ℕ) (n : Name) (num : ℕ) → fresh M x k n num y ≡ done x' → x' ≡ y
  fresh-done x y x' k n num q = go (held M x k n) q
    where
      go : (b : Bool) → cond b (fail num) (done y) ≡ done x' → x' ≡ y
      go true q = let z : ◌≡◌ {A = ℕ} 0 1 = cc in absurd (omega arith)
      go false q = cc

  -- what a step leaves is what the register notes, by the arguments and whether it was accepted
  pub step-note : (x : X) (c : Call) → (step M x c).0 ≡ note x c (accepted (step M x c).1)
  unfolding step
  step-note x (enter n v m) = settled x (enter n v m) (fresh M x 3 n 47 (M.opened x (head 3 n v m declared))) (λ x' q. fresh-done x _ x' 3 n 47 q)
  step-note x exit = go (M.names x)
    where
      go : (ns : List Name) → ◌≡◌ {A = X} (close M x ns).0 (note x exit (accepted (close M x ns).1))
      go [] = refl
      go (n ∷ ns) = refl
  step-note x (alias n v m) = settled x (alias n v m) (fresh M x 1 n 48 (M.add x (head 1 n v m declared) M.empty)) (λ x' q. fresh-done x _ x' 1 n 48 q)
  step-note x (enum n v m) = settled x (enum n v m) (fresh M x 1 n 48 (M.add x (head 1 n v m declared) M.empty)) (λ x' q. fresh-done x _ x' 1 n 48 q)
  step-note x (function n v m) = settled x (function n v m) (fresh M x 2 n 49 (M.add x (head 2 n v m declared) M.empty)) (λ x' q. fresh-done x _ x' 2 n 49 q)
  step-note x (use' led p v es) = settled x (use' led p v es) (use_of M x led p v es) (λ x' q. use_bring x x' led p v es q)
  step-note x (get_alias n) = go (M.find (M.here x) 1 n)
    where
      go : (f : Found C) → x ≡ note x (get_alias n) (accepted (told_mark f))
      go missing = refl
      go (got i h c) = refl
  step-note x (get_function n) = go (M.find (M.here x) 2 n)
    where
      go : (f : Found C) → x ≡ note x (get_function n) (accepted (told_mark f))
      go missing = refl
      go (got i h c) = refl
  step-note x (bad n) = refl

  pub run-notes : (cs : List Call) (x : X) → (run M x cs).0 ≡ notes x cs (run M x cs).1
  unfolding run notes
  run-notes [] x = refl
  run-notes (c ∷ cs) x = run-notes cs (step M x c).0 ∙ ap (λ (y : X). notes y cs (run M (step M x c).0 cs).1) (step-note x c)

-- THE THEOREM in 01's words: the flat list, written out, is the register that took the calls and the flat list's own answers
unfoldable pub register_of : List Call → List Answer → Register
register_of cs as' = notes register first_register cs as'

pub written : (cs : List Call) → write (flattened cs).0.entries 0 ≡ tree_of (register_of cs (flattened cs).1)
unfolding register_of
written cs =
    same-tree cs ∙ ap (λ (r : Register). tree_of r) (run-notes register cs first_register)
    ∙ ap (λ (as' : List Answer). tree_of (notes register first_register cs as')) (same-answers cs)
