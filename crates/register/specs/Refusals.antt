-- Rows 40 to 51 of the specification's table, each as a condition on the call and the tree, over any model. "First" is: it fails, and all before
-- it are good. Assumes nothing.
use Rattle.std.specs.Prelude.{ℕ, ◌<◌, ◌≡◌, Bool, true, false, ◌⊎◌, eqb, length}
use mathlib.Core.List.{List, [], ◌∷◌, ◌++◌, Memᴰ}
use Rattle.names.specs.declared.Name.{Name}
use Rattle.scope_tree.specs.Step.{Head, Elem, Call, enter, exit, alias, enum, function, use', get_alias, get_function, bad, missing, got, Model, held}
use Rattle.scope_tree.specs.Note.{along, bring_all, noted}

-- the segments `front` lead the open path
pub record Leads (front names : List Name) : Type 0 where
  pub rest : List Name
  pub is : names ≡ front ++ rest

-- no element is written `as main`
abbrev pub NoMain : List Elem → Type 0
NoMain es = (e : Elem) → Memᴰ e es → e.as_main ≡ false

-- 40: "tree use not led by `crate`"
pub data NoCrate : Call → Type 0 where
  no_crate : {p : List Name} {v : Bool} {es : List Elem} → NoCrate (use' false p v es)

-- the calls that add
pub data Adds : Call → Type 0 where
  adds_module : {n : Name} {v : Bool} {m : ℕ} → Adds (enter n v m)
  adds_alias : {n : Name} {v : Bool} {m : ℕ} → Adds (alias n v m)
  adds_enum : {n : Name} {v : Bool} {m : ℕ} → Adds (enum n v m)
  adds_function : {n : Name} {v : Bool} {m : ℕ} → Adds (function n v m)
  adds_items : {led : Bool} {p : List Name} {v : Bool} {es : List Elem} → Adds (use' led p v es)

-- the arguments' own numbers
pub data Argument : Call → ℕ → Type 0 where
  argument : {n : ℕ} → Argument (bad n) n

-- the arguments' numbers are under 40
abbrev pub Formed : Call → Type 0
Formed (enter n v m) = Unit {0}
Formed exit = Unit {0}
Formed (alias n v m) = Unit {0}
Formed (enum n v m) = Unit {0}
Formed (function n v m) = Unit {0}
Formed (use' led p v es) = Unit {0}
Formed (get_alias n) = Unit {0}
Formed (get_function n) = Unit {0}
Formed (bad n) = n < 40

abbrev pub pick : Bool → Type 0 → Type 0 → Type 0
pick true A B = A
pick false A B = B

-- A for the number k, B for any other
abbrev pub at : ℕ → ℕ → Type 0 → Type 0 → Type 0
at n k A B = pick (eqb n k) A B

module _ {X C : Type 0} (M : Model X C) where
  -- A PATH

  -- the module after the segments of `front`
  abbrev pub so_far : X → List Name → C
  so_far x front = along M front (M.root x)

  -- the segment n after those of `front` passes: it is a module there, public or, where those before it lead the open path, private
  pub record Passes (x : X) (front : List Name) (n : Name) : Type 0 where
    pub number : ℕ
    pub shows : Head
    pub contents : C
    pub found : M.find (so_far x front) 3 n ≡ got number shows contents
    pub may : (shows.vis ≡ true) ⊎ Leads front (M.names x)

  abbrev pub AllPass : X → List Name → Type 0
  AllPass x p = (front : List Name) (n : Name) (back : List Name) → p ≡ front ++ (n ∷ back) → Passes x front n

  -- 41: "segment missing"
  pub record NoSegment (x : X) (p : List Name) : Type 0 where
    pub front : List Name
    pub segment : Name
    pub back : List Name
    pub split : p ≡ front ++ (segment ∷ back)
    pub before : AllPass x front
    pub none : M.find (so_far x front) 3 segment ≡ missing

  -- 42: segment "private, unless those before it lead the open path"
  pub record PrivateSegment (x : X) (p : List Name) : Type 0 where
    pub front : List Name
    pub segment : Name
    pub back : List Name
    pub split : p ≡ front ++ (segment ∷ back)
    pub before : AllPass x front
    pub number : ℕ
    pub shows : Head
    pub contents : C
    pub found : M.find (so_far x front) 3 segment ≡ got number shows contents
    pub private : shows.vis ≡ false
    pub not_led : Leads front (M.names x) → ⊥

  -- AN ELEMENT, looked up in the module c; x is the tree before the use with what the elements before it added

  -- what one kind of it answers: 43 nothing of that name and kind in the module of the path; 44 it is private; 45 the current module, or an
  -- earlier element, holds the local name in that kind
  pub data Says (x : X) (c : C) (e : Elem) (k : ℕ) : ℕ → Type 0 where
    says_43 : M.find c k e.name ≡ missing → Says x c e k 43
    says_44 : (i : ℕ) (h : Head) (b : C) → M.find c k e.name ≡ got i h b → h.vis ≡ false → Says x c e k 44
    says_45 : (i : ℕ) (h : Head) (b : C) → M.find c k e.name ≡ got i h b → h.vis ≡ true → held M x h.kind e.local ≡ true → Says x c e k 45

  -- or it is imported
  pub record Takes (x : X) (c : C) (e : Elem) (k : ℕ) : Type 0 where
    pub number : ℕ
    pub shows : Head
    pub contents : C
    pub found : M.find c k e.name ≡ got number shows contents
    pub public : shows.vis ≡ true
    pub free : held M x shows.kind e.local ≡ false

  -- C11: "of type, function and module under a name, one success is enough"
  pub data Taken (x : X) (c : C) (e : Elem) : Type 0 where
    as_type : Takes x c e 1 → Taken x c e
    as_function : Takes x c e 2 → Taken x c e
    as_module : Takes x c e 3 → Taken x c e

  -- "all three kinds fail"; "the first that isn't 43, of type, function, module, is told"
  pub data Fails (x : X) (c : C) (e : Elem) (n : ℕ) : Type 0 where
    by_type : Says x c e 1 n → (n ≡ 43 → ⊥) → (m : ℕ) → Says x c e 2 m → (l : ℕ) → Says x c e 3 l → Fails x c e n
    by_function : Says x c e 1 43 → Says x c e 2 n → (n ≡ 43 → ⊥) → (l : ℕ) → Says x c e 3 l → Fails x c e n
    by_module : Says x c e 1 43 → Says x c e 2 43 → Says x c e 3 n → Fails x c e n

  abbrev pub AllTaken : X → C → Bool → List Elem → Type 0
  AllTaken x c v es = (front : List Elem) (e : Elem) (back : List Elem) → es ≡ front ++ (e ∷ back) → Taken (bring_all M c v front x) c e

  -- "43 to 45 at the first element that fails"
  pub record FirstFails (x : X) (c : C) (v : Bool) (es : List Elem) (n : ℕ) : Type 0 where
    pub front : List Elem
    pub elem : Elem
    pub back : List Elem
    pub split : es ≡ front ++ (elem ∷ back)
    pub before : AllTaken x c v front
    pub fails : Fails (bring_all M c v front x) c elem n

  -- what comes before it is good
  pub record ItemFails (x : X) (p : List Name) (v : Bool) (es : List Elem) (n : ℕ) : Type 0 where
    pub path : AllPass x p
    pub no_main : NoMain es
    pub first : FirstFails x (so_far x p) v es n

  -- the innermost open module holds the name in that kind
  pub record Holds (x : X) (k : ℕ) (n : Name) : Type 0 where
    pub number : ℕ
    pub shows : Head
    pub contents : C
    pub found : M.find (M.here x) k n ≡ got number shows contents

  -- THE ROWS

  -- 41, 42
  pub data NoModule (x : X) : Call → Type 0 where
    no_module : {p : List Name} {v : Bool} {es : List Elem} → NoSegment x p → NoModule x (use' true p v es)

  pub data PrivateModule (x : X) : Call → Type 0 where
    private_module : {p : List Name} {v : Bool} {es : List Elem} → PrivateSegment x p → PrivateModule x (use' true p v es)

  -- 43: "also where `get_alias` or `get_function` finds no name"
  pub data NoItem (x : X) : Call → Type 0 where
    no_item : {p : List Name} {v : Bool} {es : List Elem} → ItemFails x p v es 43 → NoItem x (use' true p v es)
    no_alias : {n : Name} → M.find (M.here x) 1 n ≡ missing → NoItem x (get_alias n)
    no_function : {n : Name} → M.find (M.here x) 2 n ≡ missing → NoItem x (get_function n)

  -- 44, 45
  pub data PrivateItem (x : X) : Call → Type 0 where
    private_item : {p : List Name} {v : Bool} {es : List Elem} → ItemFails x p v es 44 → PrivateItem x (use' true p v es)

  pub data Clash (x : X) : Call → Type 0 where
    clash : {p : List Name} {v : Bool} {es : List Elem} → ItemFails x p v es 45 → Clash x (use' true p v es)

  -- 46: "element renamed `main`", after 41 and 42
  pub data AliasMain (x : X) : Call → Type 0 where
    alias_main : {p : List Name} {v : Bool} {es : List Elem} → AllPass x p → (e : Elem) → Memᴰ e es → e.as_main ≡ true → AliasMain x (use' true p v es)

  -- 47, 48, 49: "name held"
  pub data ModuleTwice (x : X) : Call → Type 0 where
    module_twice : {n : Name} {v : Bool} {m : ℕ} → Holds x 3 n → ModuleTwice x (enter n v m)

  pub data TypeTwice (x : X) : Call → Type 0 where
    alias_twice : {n : Name} {v : Bool} {m : ℕ} → Holds x 1 n → TypeTwice x (alias n v m)
    enum_twice : {n : Name} {v : Bool} {m : ℕ} → Holds x 1 n → TypeTwice x (enum n v m)

  pub data FunctionTwice (x : X) : Call → Type 0 where
    function_twice : {n : Name} {v : Bool} {m : ℕ} → Holds x 2 n → FunctionTwice x (function n v m)

  -- 50: "exit at the root"
  pub data NotInside (x : X) : Call → Type 0 where
    not_inside : M.names x ≡ [] → NotInside x exit

  -- THE TABLE

  -- the rows but the last: the call c on the tree x is refused n
  abbrev pub Fault : X → Call → ℕ → Type 0
  Fault x c n =
      at n 40 (NoCrate c) (at n 41 (NoModule x c) (at n 42 (PrivateModule x c) (at n 43 (NoItem x c) (at n 44 (PrivateItem x c) (at n 45 (Clash x c)
      (at n 46 (AliasMain x c) (at n 47 (ModuleTwice x c) (at n 48 (TypeTwice x c) (at n 49 (FunctionTwice x c) (at n 50 (NotInside x c)
      (at n 51 ⊥ (Argument c n))))))))))))

  -- "passes a tree limit": more than 1,024 entries, or more than 9 open modules
  abbrev pub Past : X → Type 0
  Past x = (1024 < M.count x) ⊎ (9 < length (M.names x))

  -- 51: "the call, otherwise good, passes a tree limit"
  pub record TreeFull (x : X) (c : Call) : Type 0 where
    pub adds : Adds c
    pub good : (n : ℕ) → Fault x c n → ⊥
    pub past : Past (noted M c x)

  abbrev pub Refused : X → Call → ℕ → Type 0
  Refused x c n = at n 51 (TreeFull x c) (Fault x c n)
