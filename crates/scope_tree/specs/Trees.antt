-- The record of a tree: nine arrays, the tree that they are seen as, and what holds of it. Assumes nothing.
use Rattle.std.specs.Prelude.{ℕ, ◌≡◌, List, length, get_or, take, drop, replicate}
use Rattle.scope_tree.specs.Flat.{Flat}
use Rattle.scope_tree.specs.Views.{View}
use Rattle.scope_tree.specs.Views as views
use Rattle.scope_tree.specs.declared.Tree.{Tree}
use Rattle.scope_tree.specs.declared.look.View.{View as Lent}

-- A PART: 1,024 numbers from the place p on
unfoldable pub part : ℕ → List ℕ → List ℕ
part p xs = take 1024 (drop p xs)

-- the index: the numbers from the place 4,096 on
unfoldable pub index_of : List ℕ → List ℕ
index_of xs = drop 4096 xs

-- the open modules' scopes
unfoldable pub doors_of : List ℕ → List ℕ
doors_of o = take 9 o

-- THE VIEW: which part is what. Kinds, origins, targets and times of the entries, and the index; the open modules' scopes, then the
-- count of entries and the depth.
abbrev pub view : Tree → View
view t =
    record { count = get_or t.opened 9 0; kinds = part 0 t.cells; visible = t.visible; scopes = t.scopes; marks = t.marks; n0 = t.n0; n1 = t.n1; n2 = t.n2; n3 = t.n3; origins = part 1024 t.cells; targets = part 2048 t.cells; times = part 3072 t.cells; index = index_of t.cells; depth = get_or t.opened 10 0; stack = doors_of t.opened }

abbrev pub packed_in : List ℕ → List ℕ → List ℕ → List ℕ → List ℕ → List ℕ → List ℕ → List ℕ → List ℕ → Tree
packed_in opened cells visible scopes marks n0 n1 n2 n3 =
    record { opened = opened; cells = cells; visible = visible; scopes = scopes; marks = marks; n0 = n0; n1 = n1; n2 = n2; n3 = n3 }

-- the tree of arrays that are looked at
abbrev pub tree_in : Lent → Tree
tree_in v = packed_in v.opened.now v.cells.now v.visible.now v.scopes.now v.marks.now v.n0.now v.n1.now v.n2.now v.n3.now

-- THE FLAT TREE
abbrev pub flat_of : Tree → Flat
flat_of t = views.flat_of (view t)

-- 1,024 cleared places
abbrev pub cleared : Tree
cleared =
    record { opened = replicate 11 0; cells = replicate 7168 0; visible = replicate 1024 0; scopes = replicate 1024 0; marks = replicate 1024 0; n0 = replicate 1024 0; n1 = replicate 1024 0; n2 = replicate 1024 0; n3 = replicate 1024 0 }

-- the arrays have their lengths
pub record Sized (t : Tree) : Type 0 where
  pub opened : length t.opened ≡ 11
  pub cells : length t.cells ≡ 7168
  pub visible : length t.visible ≡ 1024
  pub scopes : length t.scopes ≡ 1024
  pub marks : length t.marks ≡ 1024
  pub n0 : length t.n0 ≡ 1024
  pub n1 : length t.n1 ≡ 1024
  pub n2 : length t.n2 ≡ 1024
  pub n3 : length t.n3 ≡ 1024

-- what holds of every tree that calls from the empty one left
pub record Good (t : Tree) : Type 0 where
  pub sized : Sized t
  pub good : views.Good (view t)
