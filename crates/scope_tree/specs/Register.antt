-- The register of the specification: nested modules, an import written out. "Its register starts as an empty open root"; "a module's copy
-- brings along, in its order, what the module then held". Assumes nothing.
use Rattle.std.specs.Prelude.{ℕ, suc, Bool, cond, ◌&&◌, List, [], ◌∷◌, ◌++◌, eqb}
use Rattle.names.specs.declared.Name.{Name}
use Rattle.names.specs.Packed.{same_name}
use Rattle.scope_tree.specs.Step.{Head, Call, Answer, Found, missing, got, Model, run}

-- what a module holds, first entry first: an entry's number, what it shows, what is inside it, and the entries after it
pub data Scope : Type 0 where
  end : Scope
  node : ℕ → Head → Scope → Scope → Scope

unfoldable pub append : Scope → Scope → Scope
append end g = g
append (node i h b f) g = node i h b (append f g)

abbrev pub is : ℕ → Name → Head → Bool
is k n h = eqb h.kind k && same_name h.name n

unfoldable pub find : Scope → ℕ → Name → Found Scope
find end k n = missing
find (node i h b f) k n = cond (is k n h) (got i h b) (find f k n)

-- an open module: its number and what it shows, and what its parent holds before it
pub record Opened : Type 0 where
  pub id : ℕ
  pub shows : Head
  pub before : Scope

-- an open module is the last entry of its parent: `inner` is what the innermost open module holds, `outer` the open ones, innermost first
pub record Register : Type 0 where
  pub total : ℕ
  pub inner : Scope
  pub outer : List Opened

abbrev pub shut : Opened → Scope → Scope
shut o c = append o.before (node o.id o.shows c end)

-- the tree, its open modules shut
unfoldable pub whole : Scope → List Opened → Scope
whole c [] = c
whole c (o ∷ os) = whole (shut o c) os

unfoldable pub names : List Opened → List Name
names [] = []
names (o ∷ os) = names os ++ (o.shows.name ∷ [])

abbrev pub leave : ℕ → Scope → List Opened → Register
leave n c [] = record { total = n; inner = c; outer = [] }
leave n c (o ∷ os) = record { total = n; inner = shut o c; outer = os }

abbrev pub register : Model Register Scope
register =
    record {
      empty = end;
      root = λ r. whole r.inner r.outer;
      here = λ r. r.inner;
      find = find;
      names = λ r. names r.outer;
      count = λ r. r.total;
      add = λ r h c. record { total = suc r.total; inner = append r.inner (node r.total h c end); outer = r.outer };
      opened = λ r h. record { total = suc r.total; inner = end; outer = record { id = r.total; shows = h; before = r.inner } ∷ r.outer };
      closed = λ r. leave r.total r.inner r.outer;
    }

abbrev pub first_register : Register
first_register = record { total = 0; inner = end; outer = [] }

-- the register after the calls, and the answers
abbrev pub registered : List Call → Register × List Answer
registered cs = run register first_register cs

abbrev pub tree_of : Register → Scope
tree_of r = whole r.inner r.outer
