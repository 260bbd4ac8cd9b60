-- 40 to 51 exactly when, one theorem each in the words of the specification's table, over any model; and what an accepted use imports. Assumes nothing.
use Rattle.std.specs.Prelude.{ℕ, zero, suc, ◌+◌, ◌≤◌, ◌<◌, Bool, cond, not, ◌||◌, ◌&&◌, ◌⊎◌, ◌↔◌, eqb, ltb, leb, length, get_or}
use native.Mathlib.Omega.{arith}
use Rattle.std.proofs.Math.Path.{◌≡◌, refl, ap}
use Rattle.std.proofs.Common.{sym, subst, ◌∙◌, inl, inr, ⊎_elim, length-append}
use Rattle.std.proofs.Math.Bool.{true, false}
use mathlib.Core.List.{List, [], ◌∷◌}
use Rattle.names.specs.declared.Name.{Name}
use Rattle.names.specs.Packed.{packed}
use Rattle.scope_tree.specs.Step.{copy_of, Head, Elem, Call, enter, alias, enum, function, use', get_alias, get_function, bad, Answer, ok, refused, Found, missing, got, Model, Tried, done, fail, shared, any_main, bind, held, full, deep, nav, stage, use_of, settle, step}
use Rattle.scope_tree.specs.Note.{bring, bring_all, noted, use_bring}
use Rattle.names.specs.Identifier.{is_identifier}
use Rattle.scope_tree.specs.Register.{Scope, Register, register}
use Rattle.scope_tree.specs.Flat.{Flat, Place, top, copy, flat}
use Rattle.scope_tree.specs.Form.{Request, enters, exits, inserts_alias, inserts_enum, inserts_function, resolves_use, gets_alias, gets_function, string, after_string, after_strings, after_element, after_elements, or_else, string_fault, names_fault, elements_fault, rest_fault, use_fault, named, use_call, call_of}
use Rattle.register.specs.Refusals.{NoCrate, Argument, Formed, so_far, Takes, Taken, as_type, as_function, as_module, NoModule, PrivateModule, NoItem, PrivateItem, Clash, AliasMain, ModuleTwice, TypeTwice, FunctionTwice, NotInside, TreeFull}
use Rattle.register.specs.RefusalLaws.{NavSays, nav_good, nav_41, nav_42, nav_says, StageSays, stage_good, stage_bad, stage_says, refusals}

-- THE CALL A REQUEST IS
cond_small : (t : Bool) (a b : ℕ) → a ≤ 5 → b ≤ 5 → cond t a b ≤ 5
cond_small true a b p q = p
cond_small false a b p q = q

or-small : (a b : ℕ) → a ≤ 5 → b ≤ 5 → or_else a b ≤ 5
or-small a b p q = cond_small (eqb a 0) b a q p

string-small : (t : Bool) (s : List ℕ) (p : ℕ) → string_fault t s p ≤ 5
unfolding string_fault
string-small t s p = go (ltb p (length s)) (leb (after_string s p) (length s)) ((t && eqb (get_or s p 0) 0) || is_identifier (string s p))
  where
    go : (a b c : Bool) → cond a (cond b (cond c 0 5) 1) 1 ≤ 5
    go true true true = omega arith
    go true true false = omega arith
    go true false c = omega arith
    go false b c = omega arith

names-small : (s : List ℕ) (n p : ℕ) → names_fault s n p ≤ 5
unfolding names_fault
names-small s zero p = omega arith
names-small s (suc n) p = or-small (string_fault false s p) (names_fault s n (after_string s p)) (string-small false s p) (names-small s n (after_string s p))

elements-small : (s : List ℕ) (n p : ℕ) → elements_fault s n p ≤ 5
unfolding elements_fault
elements-small s zero p = omega arith
elements-small s (suc n) p =
    or-small (string_fault false s p) (or_else (string_fault true s (after_string s p)) (elements_fault s n (after_element s p))) (string-small false s p)
    (or-small (string_fault true s (after_string s p)) (elements_fault s n (after_element s p)) (string-small true s (after_string s p)) (elements-small s n (after_element s p)))

counted-small : (a b : Bool) (k : ℕ) → k ≤ 5 → cond a (cond b 3 k) 1 ≤ 5
counted-small true true k h = omega arith
counted-small true false k h = h
counted-small false b k h = omega arith

ended-small : (a : Bool) → cond a 1 0 ≤ 5
ended-small true = omega arith
ended-small false = omega arith

rest-small : (s : List ℕ) (p : ℕ) → rest_fault s p ≤ 5
unfolding rest_fault
rest-small s p =
    counted-small (ltb p (length s)) (ltb 32 (get_or s p 0)) _
    (or-small (elements_fault s (get_or s p 0) (p + 1)) _ (elements-small s (get_or s p 0) (p + 1)) (ended-small (ltb (after_elements s (get_or s p 0) (p + 1)) (length s))))

-- arguments that are refused: 1, 3 or 5
pub use_small : (s : List ℕ) → use_fault s ≤ 5
unfolding use_fault
use_small s =
    go (eqb (length s) 0) (ltb 17 (get_or s 0 0)) _
    (or-small (names_fault s (get_or s 0 0) 1) (rest_fault s (after_strings s (get_or s 0 0) 1)) (names-small s (get_or s 0 0) 1) (rest-small s (after_strings s (get_or s 0 0) 1)))
  where
    go : (a b : Bool) (k : ℕ) → k ≤ 5 → cond a 1 (cond b 3 k) ≤ 5
    go true b k h = omega arith
    go false true k h = omega arith
    go false false k h = h

named-formed : (s : List ℕ) (f : Name → Call) → ((n : Name) → Formed (f n)) → Formed (named s f)
named-formed s f g = go (is_identifier s)
  where
    go : (t : Bool) → Formed (cond t (f (packed s)) (bad 5))
    go true = g (packed s)
    go false = omega arith

pub formed : (q : Request) → Formed (call_of q)
unfolding call_of use_call
formed (enters s v m) = named-formed s (λ n. enter n v m) (λ n. tt)
formed exits = tt
formed (inserts_alias s v m) = named-formed s (λ n. alias n v m) (λ n. tt)
formed (inserts_enum s v m) = named-formed s (λ n. enum n v m) (λ n. tt)
formed (inserts_function s v m) = named-formed s (λ n. function n v m) (λ n. tt)
formed (resolves_use s v) = go (eqb (use_fault s) 0)
  where
    go : (t : Bool) → Formed (cond t (use_call s v) (bad (use_fault s)))
    go true = tt
    go false = let k = use_small s in omega arith
formed (gets_alias s) = named-formed s get_alias (λ n. tt)
formed (gets_function s) = named-formed s get_function (λ n. tt)

-- THE THEOREMS: whatever a caller hands over, on any tree of any model
module _ {X C : Type 0} (M : Model X C) (x : X) (q : Request) where
  -- 40: "tree use not led by `crate`"
  pub refused_40 : ((step M x (call_of q)).1 ≡ refused 40) ↔ NoCrate (call_of q)
  refused_40 = refusals M x (call_of q) 40 (formed q)

  -- 41: "segment missing", all before it passing
  pub refused_41 : ((step M x (call_of q)).1 ≡ refused 41) ↔ NoModule M x (call_of q)
  refused_41 = refusals M x (call_of q) 41 (formed q)

  -- 42: segment "private, unless those before it lead the open path", all before it passing
  pub refused_42 : ((step M x (call_of q)).1 ≡ refused 42) ↔ PrivateModule M x (call_of q)
  refused_42 = refusals M x (call_of q) 42 (formed q)

  -- 43: "all three kinds fail" at the first element that fails, each with 43; "also where `get_alias` or `get_function` finds no name"
  pub refused_43 : ((step M x (call_of q)).1 ≡ refused 43) ↔ NoItem M x (call_of q)
  refused_43 = refusals M x (call_of q) 43 (formed q)

  -- 44: there "the first that isn't 43, of type, function, module," is private
  pub refused_44 : ((step M x (call_of q)).1 ≡ refused 44) ↔ PrivateItem M x (call_of q)
  refused_44 = refusals M x (call_of q) 44 (formed q)

  -- 45: there "the current module or an earlier element holds the local name in that kind"
  pub refused_45 : ((step M x (call_of q)).1 ≡ refused 45) ↔ Clash M x (call_of q)
  refused_45 = refusals M x (call_of q) 45 (formed q)

  -- 46: "element renamed `main`", anywhere in the list, on a path that passes
  pub refused_46 : ((step M x (call_of q)).1 ≡ refused 46) ↔ AliasMain M x (call_of q)
  refused_46 = refusals M x (call_of q) 46 (formed q)

  -- 47, 48, 49: "name held" by the innermost open module as a module, a type, a function
  pub refused_47 : ((step M x (call_of q)).1 ≡ refused 47) ↔ ModuleTwice M x (call_of q)
  refused_47 = refusals M x (call_of q) 47 (formed q)

  pub refused_48 : ((step M x (call_of q)).1 ≡ refused 48) ↔ TypeTwice M x (call_of q)
  refused_48 = refusals M x (call_of q) 48 (formed q)

  pub refused_49 : ((step M x (call_of q)).1 ≡ refused 49) ↔ FunctionTwice M x (call_of q)
  refused_49 = refusals M x (call_of q) 49 (formed q)

  -- 50: "exit at the root"
  pub refused_50 : ((step M x (call_of q)).1 ≡ refused 50) ↔ NotInside M x (call_of q)
  refused_50 = refusals M x (call_of q) 50 (formed q)

  -- 51: "the call, otherwise good, passes a tree limit"
  pub refused_51 : ((step M x (call_of q)).1 ≡ refused 51) ↔ TreeFull M x (call_of q)
  refused_51 = refusals M x (call_of q) 51 (formed q)

  -- 1, 3, 5: the arguments', before all others
  pub refused_1 : ((step M x (call_of q)).1 ≡ refused 1) ↔ Argument (call_of q) 1
  refused_1 = refusals M x (call_of q) 1 (formed q)

  pub refused_3 : ((step M x (call_of q)).1 ≡ refused 3) ↔ Argument (call_of q) 3
  refused_3 = refusals M x (call_of q) 3 (formed q)

  pub refused_5 : ((step M x (call_of q)).1 ≡ refused 5) ↔ Argument (call_of q) 5
  refused_5 = refusals M x (call_of q) 5 (formed q)

  -- 51 where the entries and open modules after the call are within the limits contradicts the definition
  pub space_left : M.count (noted M (call_of q) x) ≤ 1024 → length (M.names (noted M (call_of q) x)) ≤ 9 → (step M x (call_of q)).1 ≡ refused 51 → ⊥
  space_left a b e =
      ⊎_elim (λ (p : 1024 < M.count (noted M (call_of q) x)). omega arith) (λ (p : 9 < length (M.names (noted M (call_of q) x))). omega arith) (refused_51.0 e).past

-- A USE THAT IMPORTS NOTHING
module _ {X C : Type 0} (M : Model X C) (counts : (x : X) (h : Head) (c : C) → M.count (M.add x h c) ≡ suc (M.count x)) where
  bring-counts : (v : Bool) (l : Name) (f : Found C) (x : X) → (bring M v l f x ≡ x) ⊎ (M.count (bring M v l f x) ≡ suc (M.count x))
  bring-counts v l missing x = inl refl
  bring-counts v l (got i h c) x = go (h.vis && not (held M x h.kind l))
    where
      go : (t : Bool) → (cond t (M.add x (copy_of i h l v) c) x ≡ x) ⊎ (M.count (cond t (M.add x (copy_of i h l v) c) x) ≡ suc (M.count x))
      go true = inr (counts x _ c)
      go false = inl refl

  bring-more : (v : Bool) (l : Name) (f : Found C) (x : X) → M.count x ≤ M.count (bring M v l f x)
  bring-more v l f x =
      ⊎_elim (λ (e : bring M v l f x ≡ x). rw e (omega arith)) (λ (e : M.count (bring M v l f x) ≡ suc (M.count x)). omega arith) (bring-counts v l f x)

  all_more : (c : C) (v : Bool) (es : List Elem) (x : X) → M.count x ≤ M.count (bring_all M c v es x)
  unfolding bring_all
  all_more c v [] x = omega arith
  all_more c v (e ∷ es) x =
      let a = bring-more v e.local (M.find c 1 e.name) x in
      let x₁ = bring M v e.local (M.find c 1 e.name) x in
      let b = bring-more v e.local (M.find c 2 e.name) x₁ in
      let x₂ = bring M v e.local (M.find c 2 e.name) x₁ in
      let d = bring-more v e.local (M.find c 3 e.name) x₂ in
      let r = all_more c v es (bring M v e.local (M.find c 3 e.name) x₂) in
      omega arith

  takes-counts : (x : X) (c : C) (v : Bool) (e : Elem) (k : ℕ) → Takes M x c e k → M.count (bring M v e.local (M.find c k e.name) x) ≡ suc (M.count x)
  takes-counts x c v e k t = rw (t.found, t.public, t.free) (counts x _ t.contents)

  grows : (v : Bool) (l : Name) (f₁ f₂ f₃ : Found C) (x : X) → (bring M v l f₁ x ≡ x → bring M v l f₂ x ≡ x → bring M v l f₃ x ≡ x → ⊥)
      → M.count x < M.count (bring M v l f₃ (bring M v l f₂ (bring M v l f₁ x)))
  grows v l f₁ f₂ f₃ x nl =
      ⊎_elim
      (λ (q₁ : bring M v l f₁ x ≡ x). ⊎_elim
      (λ (q₂ : bring M v l f₂ x ≡ x). ⊎_elim
      (λ (q₃ : bring M v l f₃ x ≡ x). absurd (nl q₁ q₂ q₃))
      (λ (c₃ : M.count (bring M v l f₃ x) ≡ suc (M.count x)). subst (λ (y : X). M.count x < M.count (bring M v l f₃ y)) (sym (ap (bring M v l f₂) q₁ ∙ q₂)) (omega arith))
      (bring-counts v l f₃ x))
      (λ (c₂ : M.count (bring M v l f₂ x) ≡ suc (M.count x)).
      let w : M.count (bring M v l f₂ (bring M v l f₁ x)) ≡ suc (M.count x) = ap (λ (y : X). M.count (bring M v l f₂ y)) q₁ ∙ c₂ in
      let d = bring-more v l f₃ (bring M v l f₂ (bring M v l f₁ x)) in
      omega arith)
      (bring-counts v l f₂ x))
      (λ (c₁ : M.count (bring M v l f₁ x) ≡ suc (M.count x)).
      let b = bring-more v l f₂ (bring M v l f₁ x) in
      let d = bring-more v l f₃ (bring M v l f₂ (bring M v l f₁ x)) in
      omega arith)
      (bring-counts v l f₁ x)

  not_same : (x : X) (c : C) (v : Bool) (e : Elem) (k : ℕ) → Takes M x c e k → bring M v e.local (M.find c k e.name) x ≡ x → ⊥
  not_same x c v e k t q = let a = takes-counts x c v e k t in let b : M.count (bring M v e.local (M.find c k e.name) x) ≡ M.count x = ap M.count q in omega arith

  element-counts : (x : X) (c : C) (v : Bool) (e : Elem) → Taken M x c e → M.count x < M.count (bring_all M c v (e ∷ []) x)
  unfolding bring_all
  element-counts x c v e (as_type t) = grows v e.local (M.find c 1 e.name) (M.find c 2 e.name) (M.find c 3 e.name) x (λ q₁ q₂ q₃. not_same x c v e 1 t q₁)
  element-counts x c v e (as_function t) = grows v e.local (M.find c 1 e.name) (M.find c 2 e.name) (M.find c 3 e.name) x (λ q₁ q₂ q₃. not_same x c v e 2 t q₂)
  element-counts x c v e (as_module t) = grows v e.local (M.find c 1 e.name) (M.find c 2 e.name) (M.find c 3 e.name) x (λ q₁ q₂ q₃. not_same x c v e 3 t q₃)

  use_counts : (x : X) (led : Bool) (p : List Name) (v : Bool) (e : Elem) (es : List Elem) (y : X) → use_of M x led p v (e ∷ es) ≡ done y → M.count x < M.count y
  unfolding bring_all
  use_counts x false p v e es y r = let z : ◌≡◌ {A = ℕ} 0 1 = cc in absurd (omega arith)
  use_counts x true p v e es y r = go (nav M (shared (M.names x) p) 0 p (M.root x)) (nav_says M x p) r
    where
      counted : Taken M x (so_far M x p) e → M.count x < M.count y
      counted t =
          let a = element-counts x (so_far M x p) v e t in
          let b = all_more (so_far M x p) v es (bring_all M (so_far M x p) v (e ∷ []) x) in
          let z : M.count y ≡ M.count (bring_all M (so_far M x p) v es (bring_all M (so_far M x p) v (e ∷ []) x)) = ap M.count (use_bring M x y true p v (e ∷ es) r) in
          omega arith

      last : (t : Tried X) → StageSays M x (so_far M x p) v (e ∷ es) t → t ≡ done y → M.count x < M.count y
      last t (stage_good z w) q = counted (w [] e es refl)
      last t (stage_bad w) q = let z : ◌≡◌ {A = ℕ} 0 1 = cc in absurd (omega arith)

      try : (b : Bool) → cond b (fail 46) (stage M (so_far M x p) v (e ∷ es) x) ≡ done y → M.count x < M.count y
      try true q = let z : ◌≡◌ {A = ℕ} 0 1 = cc in absurd (omega arith)
      try false q = last (stage M (so_far M x p) v (e ∷ es) x) (stage_says M x (so_far M x p) v (e ∷ es)) q

      go : (t : Tried C) → NavSays M x p t → bind t (λ c. cond (any_main (e ∷ es)) (fail 46) (stage M c v (e ∷ es) x)) ≡ done y → M.count x < M.count y
      go t (nav_good a) q = try (any_main (e ∷ es)) q
      go t (nav_41 w) q = let z : ◌≡◌ {A = ℕ} 0 1 = cc in absurd (omega arith)
      go t (nav_42 w) q = let z : ◌≡◌ {A = ℕ} 0 1 = cc in absurd (omega arith)

  -- a use that reports success and imports nothing contradicts the definition: after an accepted use with an element the tree has more entries
  pub imports_something : (x : X) (led : Bool) (p : List Name) (v : Bool) (e : Elem) (es : List Elem) → (step M x (use' led p v (e ∷ es))).1 ≡ ok
      → M.count x < M.count (step M x (use' led p v (e ∷ es))).0
  unfolding step
  imports_something x led p v e es q = go (use_of M x led p v (e ∷ es)) refl q
    where
      go : (t : Tried X) → use_of M x led p v (e ∷ es) ≡ t → (settle M x t).1 ≡ ok → M.count x < M.count (settle M x t).0
      go (fail n) r q = let z : ◌≡◌ {A = ℕ} 0 1 = cc in absurd (omega arith)
      go (done y) r q = try (full M y || deep M y) q
        where
          try : (t : Bool) → (cond {A = X × Answer} t (x, refused 51) (y, ok)).1 ≡ ok → M.count x < M.count (cond {A = X × Answer} t (x, refused 51) (y, ok)).0
          try true q = let z : ◌≡◌ {A = ℕ} 0 1 = cc in absurd (omega arith)
          try false q = use_counts x led p v e es y r

-- the register and the flat list count what is added
pub register-counts : (r : Register) (h : Head) (c : Scope) → register.count (register.add r h c) ≡ suc (register.count r)
register-counts r h c = refl

pub flat-counts : (f : Flat) (h : Head) (c : Place) → flat.count (flat.add f h c) ≡ suc (flat.count f)
flat-counts f h c = omega (arith, length-append f.entries (record { scope = top f.stack; shows = h; body = copy c.scope (length c.among) } ∷ []))
