-- The tree as one list of entries that only grows, and how it is written out. 01: "Cloned scopes become marks in one list of entries
-- that only grows". Assumes nothing.
use Prim.Native.Nat.{ℕ, suc}
use Rattle.std.specs.Prelude.{false, cond, List, [], ◌∷◌, ◌++◌, eqb, length, take, drop, get_or}
use Rattle.names.specs.declared.Name.{Name}
use Rattle.scope_tree.specs.Step.{Head, Call, Answer, Found, missing, got, Model, run, head, declared}
use Rattle.scope_tree.specs.Register.{Scope, end, node, is}

-- what is inside an entry: the entries whose scope is its own; or those of a scope as of a time (0 0: nothing)
pub data Body : Type 0 where
  own : Body
  copy : ℕ → ℕ → Body

-- the root is scope 0, and the module at place i is scope i + 1
pub record Entry : Type 0 where
  pub scope : ℕ
  pub shows : Head
  pub body : Body

pub record Flat : Type 0 where
  pub entries : List Entry
  -- the scopes of the open modules, innermost first
  pub stack : List ℕ

-- a scope among the entries of a time
pub record Place : Type 0 where
  pub among : List Entry
  pub scope : ℕ

abbrev pub inside : List Entry → ℕ → Body → Place
inside l i own = record { among = l; scope = suc i }
inside l i (copy a u) = record { among = take u l; scope = a }

-- the first entry of a kind and a name in the scope s, of the entries from the place i on
unfoldable pub look : List Entry → ℕ → Name → ℕ → ℕ → List Entry → Found Place
look l k n s i [] = missing
look l k n s i (e ∷ es) =
    cond (eqb e.scope s)
    (cond (is k n e.shows) (got i e.shows (inside l i e.body)) (look l k n s (suc i) es))
    (look l k n s (suc i) es)

abbrev pub top : List ℕ → ℕ
top [] = 0
top (s ∷ ss) = s

abbrev pub none : Entry
none = record { scope = 0; shows = head 0 (record { w0 = 0; w1 = 0; w2 = 0; w3 = 0 }) false 0 declared; body = own }

-- the name of the module at place i
unfoldable pub stack_names : List Entry → List ℕ → List Name
stack_names l [] = []
stack_names l (s ∷ ss) = stack_names l ss ++ ((get_or l (Prim.Native.Nat.pred s) none).shows.name ∷ [])

abbrev pub pop : List Entry → List ℕ → Flat
pop l [] = record { entries = l; stack = [] }
pop l (s ∷ ss) = record { entries = l; stack = ss }

abbrev pub push : Flat → Head → Body → List Entry
push f h b = f.entries ++ (record { scope = top f.stack; shows = h; body = b } ∷ [])

abbrev pub flat : Model Flat Place
flat =
    record {
      empty = record { among = []; scope = 0 };
      root = λ f. record { among = f.entries; scope = 0 };
      here = λ f. record { among = f.entries; scope = top f.stack };
      find = λ p k n. look p.among k n p.scope p.scope (drop p.scope p.among);
      names = λ f. stack_names f.entries f.stack;
      count = λ f. length f.entries;
      add = λ f h p. record { entries = push f h (copy p.scope (length p.among)); stack = f.stack };
      opened = λ f h. record { entries = push f h own; stack = suc (length f.entries) ∷ f.stack };
      closed = λ f. pop f.entries f.stack;
    }

abbrev pub first_flat : Flat
first_flat = record { entries = []; stack = [] }

abbrev pub flattened : List Call → Flat × List Answer
flattened cs = run flat first_flat cs

-- WRITING OUT

abbrev pub within : Body → Scope → Scope → Scope
within own mine past = mine
within (copy a u) mine past = past

-- what the scope s holds, of the entries from the place i on; `past` has what is in each copy
unfoldable pub build : (ℕ → Scope) → ℕ → List Entry → ℕ → Scope
build past i [] s = end
build past i (e ∷ es) s =
    cond (eqb e.scope s)
    (node i e.shows (within e.body (build past (suc i) es (suc i)) (past i)) (build past (suc i) es s))
    (build past (suc i) es s)

abbrev pub view : (ℕ → Scope) → List Entry → ℕ → Scope
view past l s = build past s (drop s l) s

abbrev pub put : ℕ → Scope → (ℕ → Scope) → ℕ → Scope
put i c past j = cond (eqb j i) c (past j)

-- what is in the copy that comes after the entries l
abbrev pub past_of : (ℕ → Scope) → List Entry → Body → Scope
past_of past l own = end
past_of past l (copy a u) = view past (take u l) a

unfoldable pub pasts_from : (ℕ → Scope) → List Entry → List Entry → ℕ → Scope
pasts_from past l [] = past
pasts_from past l (e ∷ es) = pasts_from (put (length l) (past_of past l e.body) past) (l ++ (e ∷ [])) es

abbrev pub pasts : List Entry → ℕ → Scope
pasts l = pasts_from (λ i. end) [] l

-- what the scope s holds, written out
abbrev pub write : List Entry → ℕ → Scope
write l s = view (pasts l) l s
