-- What the writer is handed: an entry, and the nine arrays that a caller lends. Assumes nothing.
use Rattle.std.specs.Prelude.{◌≡◌}
use Rattle.std.proofs.Common.{◌∙◌}
use Rattle.scope_tree.specs.Kinds.{kind_number}
use Rattle.scope_tree.specs.Entries.{Entry}
use Rattle.scope_tree.specs.declared.Entry.{Entry as Numbers}
use Rattle.scope_tree.specs.Views.{bit_of}
use Rattle.scope_tree.specs.Trees.{packed_in}
use Rattle.scope_tree.specs.declared.Tree.{Tree}
use Rattle.commit.specs.declared.Entry.{Entry as Given}
use Rattle.commit.specs.declared.Lent.{Lent}

-- the entry in the numbers that the arrays hold
abbrev pub entry_told : Given → Entry
entry_told e =
    record { kind = kind_number e.staged.kind; visible = bit_of e.public; scope = e.scope; mark = e.staged.mark; name = e.staged.name; origin = e.staged.origin; target = e.staged.target; moment = e.staged.moment; opens = e.opens }

-- the same of one that is given in these numbers
abbrev pub numbers_told : Numbers → Entry
numbers_told e =
    record { kind = e.kind; visible = e.visible; scope = e.scope; mark = e.mark; name = e.name; origin = e.origin; target = e.target; moment = e.moment; opens = e.opens }

-- the tree of the arrays
abbrev pub lent_in : Lent → Tree
lent_in v = packed_in v.opened.now v.cells.now v.visible.now v.scopes.now v.marks.now v.n0.now v.n1.now v.n2.now v.n3.now

-- the arrays are the same that were lent
pub record Kept (s t : Lent) : Type 0 where
  pub opened : t.opened.ghost_name ≡ s.opened.ghost_name
  pub cells : t.cells.ghost_name ≡ s.cells.ghost_name
  pub visible : t.visible.ghost_name ≡ s.visible.ghost_name
  pub scopes : t.scopes.ghost_name ≡ s.scopes.ghost_name
  pub marks : t.marks.ghost_name ≡ s.marks.ghost_name
  pub n0 : t.n0.ghost_name ≡ s.n0.ghost_name
  pub n1 : t.n1.ghost_name ≡ s.n1.ghost_name
  pub n2 : t.n2.ghost_name ≡ s.n2.ghost_name
  pub n3 : t.n3.ghost_name ≡ s.n3.ghost_name

pub kept-after : {s t u : Lent} → Kept s t → Kept t u → Kept s u
kept-after p q =
    record { opened = q.opened ∙ p.opened; cells = q.cells ∙ p.cells; visible = q.visible ∙ p.visible; scopes = q.scopes ∙ p.scopes; marks = q.marks ∙ p.marks; n0 = q.n0 ∙ p.n0; n1 = q.n1 ∙ p.n1; n2 = q.n2 ∙ p.n2; n3 = q.n3 ∙ p.n3 }
