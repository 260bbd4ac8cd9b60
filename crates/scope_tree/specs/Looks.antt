-- What the lookups in a tree promise. Assumes nothing.
use Rattle.std.specs.Prelude.{ℕ, ◌≤◌, ◌<◌, ◌≡◌, ◌⊎◌, Bool, List, get_or, Option, Result, Ok, Err}
use Rattle.names.specs.declared.Name.{Name}
use Rattle.refusal.specs.declared.Cause.{Cause}
use Rattle.refusal.specs.declared.Cause.TheVariants.{TreeFull}
use Rattle.scope_tree.specs.declared.Tree.{Tree}
use Rattle.scope_tree.specs.declared.look.Place.{Place as Site}
use Rattle.scope_tree.specs.declared.look.Way.{Way}
use Rattle.scope_tree.specs.Rows.{Arrays, site}
use Rattle.scope_tree.specs.Index.{sought_at, look_up}
use Rattle.scope_tree.specs.Nav.{current_of, leads_on, Arrived}
use Rattle.scope_tree.specs.Views.{arrays_of}
use Rattle.scope_tree.specs.Trees.{part, index_of, doors_of, view}

-- the arrays that a tree's view has
abbrev pub arrays_in : Tree → Arrays
arrays_in t = arrays_of (view t)

-- the test of entry i in a lookup in a scope among the first u entries, of a kind and a name; and the lookup
abbrev pub sought_in : Tree → ℕ → ℕ → ℕ → Name → ℕ → Bool
sought_in t s u k n i = sought_at t.scopes (part 0 t.cells) t.n0 t.n1 t.n2 t.n3 s u k n i

abbrev pub found_in : Tree → ℕ → ℕ → ℕ → Name → Option ℕ
found_in t s u k n = look_up (arrays_in t) s u k n

-- what is inside entry i, among the first u entries
abbrev pub site_in : Tree → ℕ → ℕ → Site
site_in t i u =
    site i (get_or (part 0 t.cells) i 0) (get_or (part 1024 t.cells) i 0) (get_or (part 2048 t.cells) i 0) (get_or (part 3072 t.cells) i 0) u

-- whether a path still leads the open path after segment i
abbrev pub leads_in : Tree → Bool → ℕ → Name → Bool
leads_in t led i n = leads_on t.n0 t.n1 t.n2 t.n3 (doors_of t.opened) (get_or t.opened 10 0) led i n

-- where a path leads
abbrev pub Led : Tree → List ℕ → ℕ → ℕ → Result Way Cause → Type 0
Led t s at n r =
    Arrived (part 0 t.cells) t.visible t.scopes t.n0 t.n1 t.n2 t.n3 (part 1024 t.cells) (part 2048 t.cells) (part 3072 t.cells) (index_of t.cells) (get_or t.opened 9 0) (doors_of t.opened) (get_or t.opened 10 0) s at n r

-- the current module among all entries, of a record within the limits
pub record Stands (t : Tree) (p : Site) : Type 0 where
  pub few : get_or t.opened 9 0 ≤ 1024
  pub shallow : get_or t.opened 10 0 ≤ 9
  pub scope : p.scope ≡ current_of (doors_of t.opened) (get_or t.opened 10 0)
  pub time : p.time ≡ get_or t.opened 9 0

abbrev pub Here : Tree → Result Site Cause → Type 0
Here t (Ok p) = Stands t p
Here t (Err c) = (c ≡ TreeFull) × ((1024 < get_or t.opened 9 0) ⊎ (9 < get_or t.opened 10 0))
