-- The tree calls, as the Rust's `ModuleTree` has them, over any model of the tree. Assumes nothing.
use Rattle.std.specs.Prelude.{ℕ, suc, Bool, true, false, cond, ◌||◌, ◌&&◌, not, ◌≡◌, refl, List, [], ◌∷◌, eqb, ltb, length}
use Rattle.std.proofs.Common.{eq-eqb}
use Rattle.names.specs.declared.Name.{Name}
use Rattle.names.specs.Packed.{same_name}

-- where an entry came from: a declaration, or a use that copied the entry of that number. 01: "a chain goes from it to its original"
pub data Came : Type 0 where
  declared : Came
  used : ℕ → Came

pub same_refl : (a : Name) → same_name a a ≡ true
unfolding same_name
same_refl a = rw (eq-eqb a.w0 a.w0 refl, eq-eqb a.w1 a.w1 refl, eq-eqb a.w2 a.w2 refl, eq-eqb a.w3 a.w3 refl)

-- what an entry shows. Kinds as in 01's `has` lines: 1 type, 2 function, 3 module
pub record Head : Type 0 where
  pub kind : ℕ
  pub name : Name
  pub vis : Bool
  pub mark : ℕ
  pub came : Came

-- an element of a use: its name, its local name, and whether it is written with `as main`. 46: "element renamed `main`"
pub record Elem : Type 0 where
  pub name : Name
  pub local : Name
  pub as_main : Bool

pub data Call : Type 0 where
  enter : Name → Bool → ℕ → Call
  exit : Call
  alias : Name → Bool → ℕ → Call
  enum : Name → Bool → ℕ → Call
  function : Name → Bool → ℕ → Call
  -- whether the path is led by `crate` (40), the rest of it, visibility, elements
  use' : Bool → List Name → Bool → List Elem → Call
  get_alias : Name → Call
  get_function : Name → Call
  -- arguments that are refused: 1, 3 or 5
  bad : ℕ → Call

pub data Answer : Type 0 where
  ok : Answer
  marked : ℕ → Answer
  refused : ℕ → Answer

-- what a module holds under a kind and a name: nothing, or an entry: its number, what it shows, and what is inside it
pub data Found (C : Type 0) : Type 0 where
  missing : Found C
  got : ℕ → Head → C → Found C

-- A model of the tree: X is the tree with its open modules, C a module's contents
pub record Model (X C : Type 0) : Type 0 where
  pub empty : C
  pub root : X → C
  pub here : X → C
  pub find : C → ℕ → Name → Found C
  -- the names of the open modules, outermost first
  pub names : X → List Name
  -- how many entries were added
  pub count : X → ℕ
  -- an entry more in the innermost open module
  pub add : X → Head → C → X
  -- a module more there, and opened
  pub opened : X → Head → X
  pub closed : X → X

-- the outcome of a phase of a use
pub data Tried (A : Type 0) : Type 0 where
  done : A → Tried A
  fail : ℕ → Tried A

abbrev pub is_got : {C : Type 0} → Found C → Bool
is_got missing = false
is_got (got i h c) = true

abbrev pub told_mark : {C : Type 0} → Found C → Answer
told_mark missing = refused 43
told_mark (got i h c) = marked h.mark

-- how many names two paths have in common at their start: the Rust's shared_prefix_len
unfoldable pub shared : List Name → List Name → ℕ
shared [] [] = 0
shared [] (b ∷ bs) = 0
shared (a ∷ as') [] = 0
shared (a ∷ as') (b ∷ bs) = cond (same_name a b) (suc (shared as' bs)) 0

unfoldable pub any_main : List Elem → Bool
any_main [] = false
any_main (e ∷ es) = e.as_main || any_main es

abbrev pub is_done : {A : Type 0} → Tried A → Bool
is_done (done a) = true
is_done (fail n) = false

abbrev pub number : {A : Type 0} → Tried A → ℕ
number (done a) = 43
number (fail n) = n

-- the state after an attempt: the new one, or the old one
abbrev pub after : {A : Type 0} → Tried A → A → A
after (done a) x = a
after (fail n) x = x

-- 01: "In 43 to 45 the first that isn't 43, of type, function, module, is told"
abbrev pub first_told : ℕ → ℕ → ℕ → ℕ
first_told a b c = cond (eqb a 43) (cond (eqb b 43) c b) a

abbrev pub head : ℕ → Name → Bool → ℕ → Came → Head
head k n v m c = record { kind = k; name = n; vis = v; mark = m; came = c }

-- what a use adds for entry i, under a local name and the use's visibility
abbrev pub copy_of : ℕ → Head → Name → Bool → Head
copy_of i h l v = head h.kind l v h.mark (used i)

-- what an entry and its copies have in common
abbrev pub Alike : Head → Head → Type 0
Alike g h = (g.kind ≡ h.kind) × (g.mark ≡ h.mark)

abbrev pub bind : {A B : Type 0} → Tried A → (A → Tried B) → Tried B
bind (done a) f = f a
bind (fail n) f = fail n

module _ {X C : Type 0} (M : Model X C) where
  abbrev pub held : X → ℕ → Name → Bool
  held x k n = is_got (M.find (M.here x) k n)

  -- 51: "the call, otherwise good, passes a tree limit": at most 1,024 entries, 9 open modules
  abbrev pub full : X → Bool
  full x = ltb 1024 (M.count x)

  abbrev pub deep : X → Bool
  deep x = ltb 9 (length (M.names x))

  -- from the module c along the path. 41 / 42: "segment missing / private, unless those before it lead the open path"; the Rust tests
  -- shared_prefix_len < ind
  abbrev pub pass : ℕ → ℕ → Found C → (C → Tried C) → Tried C
  pass sh ind missing k = fail 41
  pass sh ind (got i h c) k = cond (not h.vis && ltb sh ind) (fail 42) (k c)

  unfoldable pub nav : ℕ → ℕ → List Name → C → Tried C
  nav sh ind [] c = done c
  nav sh ind (n ∷ p) c = pass sh ind (M.find c 3 n) (nav sh (suc ind) p)

  -- one kind of one element: looked up in c, the tree before the use (43), then private (44), then held by the current module or an
  -- earlier element "in that kind" (45). The entry takes "that entry's mark and the use's visibility"
  abbrev pub import : Bool → Name → X → Found C → Tried X
  import v l x missing = fail 43
  import v l x (got i h c) =
      cond h.vis (cond (held x h.kind l) (fail 45) (done (M.add x (copy_of i h l v) c))) (fail 44)

  abbrev pub attempt : C → Bool → Elem → ℕ → X → Tried X
  attempt c v e k x = import v e.local x (M.find c k e.name)

  -- C11: "of type, function and module under a name, one success is enough"
  abbrev pub judge : Tried X → Tried X → Tried X → X → Tried X
  judge a b d x = cond (is_done a || (is_done b || is_done d)) (done x) (fail (first_told (number a) (number b) (number d)))

  unfoldable pub element : C → Bool → Elem → X → Tried X
  element c v e x =
      let a = attempt c v e 1 x in
      let x₁ = after a x in
      let b = attempt c v e 2 x₁ in
      let x₂ = after b x₁ in
      let d = attempt c v e 3 x₂ in
      judge a b d (after d x₂)

  unfoldable pub stage : C → Bool → List Elem → X → Tried X
  stage c v [] x = done x
  stage c v (e ∷ es) x = bind (element c v e x) (stage c v es)

  -- 01: "In a tree use 40 comes first, then 41 and 42 segment by segment, then 46, then 43 to 45 at the first element that fails"
  abbrev pub use_of : X → Bool → List Name → Bool → List Elem → Tried X
  use_of x led p v es =
      cond led
      (bind (nav (shared (M.names x) p) 0 p (M.root x)) (λ c. cond (any_main es) (fail 46) (stage c v es x)))
      (fail 40)

  -- 47 / 48 / 49: "name held"
  abbrev pub fresh : X → ℕ → Name → ℕ → X → Tried X
  fresh x k n num y = cond (held x k n) (fail num) (done y)

  -- the limits come last; "every refusal leaves image and tree untouched"
  abbrev pub settle : X → Tried X → X × Answer
  settle x (fail n) = (x, refused n)
  settle x (done y) = cond (full y || deep y) (x, refused 51) (y, ok)

  abbrev pub close : X → List Name → X × Answer
  close x [] = (x, refused 50)
  close x (n ∷ ns) = (M.closed x, ok)

  unfoldable pub step : X → Call → X × Answer
  step x (enter n v m) = settle x (fresh x 3 n 47 (M.opened x (head 3 n v m declared)))
  step x exit = close x (M.names x)
  step x (alias n v m) = settle x (fresh x 1 n 48 (M.add x (head 1 n v m declared) M.empty))
  step x (enum n v m) = settle x (fresh x 1 n 48 (M.add x (head 1 n v m declared) M.empty))
  step x (function n v m) = settle x (fresh x 2 n 49 (M.add x (head 2 n v m declared) M.empty))
  step x (use' led p v es) = settle x (use_of x led p v es)
  step x (get_alias n) = (x, told_mark (M.find (M.here x) 1 n))
  step x (get_function n) = (x, told_mark (M.find (M.here x) 2 n))
  step x (bad n) = (x, refused n)

  -- 01: "Demand 3's list of tree calls is one claim": the calls one after another, refused ones included: the tree left, and the answers
  unfoldable pub run : X → List Call → X × List Answer
  run x [] = (x, [])
  run x (c ∷ cs) =
      let s = step x c in
      let r = run s.0 cs in
      (r.0, s.1 ∷ r.1)
