-- What a use stages, in this paper's numbers. Assumes nothing.
use Rattle.std.specs.Prelude.{ℕ, ◌-◌, ◌≤◌, ◌≡◌, Bool, false, ◌&&◌, eqb, List, ◌++◌, map, take, replicate, Result, Ok, Err}
use Rattle.std.specs.List.{AllWithin}
use Rattle.names.specs.declared.Name.{Name}
use Rattle.names.specs.Packed.{same_name}
use Rattle.refusal.specs.declared.Cause.{Cause}
use Rattle.refusal.specs.Numbers.{number_of}
use Rattle.scope_tree.specs.Kinds.{kind_number}
use Rattle.scope_tree.specs.Rows.{Arrays}
use Rattle.scope_tree.specs.Trees.{tree_in}
use Rattle.scope_tree.specs.Looks.{arrays_in}
use Rattle.scope_tree.specs.Staging.{Staged, Choice, no_choice, refusal}
use Rattle.decision.specs.declared.batch.Batch.{Batch}
use Rattle.decision.specs.declared.batch.Import.{Import}
use Rattle.decision.specs.declared.batch.Staged.{Staged as Entry}

-- a number of each of the first n entries, and 0 past them
unfoldable pub column : (Entry → ℕ) → ℕ → List Entry → List ℕ
column f n es = map f (take n es) ++ replicate (96 - n) 0

-- the first n entries, with the number 0
abbrev pub staged_in : ℕ → List Entry → Staged
staged_in n es =
    record {
      number = 0;
      count = n;
      kinds = column (λ (e : Entry). kind_number e.kind) n es;
      marks = column (λ (e : Entry). e.mark) n es;
      n0 = column (λ (e : Entry). e.name.w0) n es;
      n1 = column (λ (e : Entry). e.name.w1) n es;
      n2 = column (λ (e : Entry). e.name.w2) n es;
      n3 = column (λ (e : Entry). e.name.w3) n es;
      origins = column (λ (e : Entry). e.origin) n es;
      targets = column (λ (e : Entry). e.target) n es;
      times = column (λ (e : Entry). e.moment) n es;
    }

abbrev pub staged_of : Batch → Staged
staged_of b = staged_in b.count b.entries

-- whether an entry has a name, and a kind with it
abbrev pub has_name : Name → Entry → Bool
has_name n e = same_name e.name n

abbrev pub is_named : ℕ → Name → Entry → Bool
is_named k n e = eqb (kind_number e.kind) k && has_name n e

-- none of the first i entries has the name
abbrev pub Fresh : Name → ℕ → Batch → Type 0
Fresh n i b = (i ≤ b.count) × AllWithin (λ e. has_name n e ≡ false) b.entries 0 i

-- a definition at an import's tree, current module and module of the path
abbrev pub of_import : {X : Type 0} → (Arrays → ℕ → ℕ → ℕ → ℕ → X) → Import → X
of_import f m = f (arrays_in (tree_in m.tree.now)) m.here.time m.here.scope m.from.scope m.from.time

-- what an item copies, or its number
abbrev pub choice_told : Result Entry Cause → Choice
choice_told (Ok e) = record { number = 0; mark = e.mark; origin = e.origin; target = e.target; moment = e.moment }
choice_told (Err c) = no_choice (number_of c)

-- what is staged; or its number, whatever was staged before it
abbrev pub Stages : Result Batch Cause → Staged → Type 0
Stages (Ok b) s = staged_of b ≡ s
Stages (Err c) s = number_of c ≡ s.number

-- what a use comes to
abbrev pub batch_told : Result Batch Cause → Staged
batch_told (Ok b) = staged_of b
batch_told (Err c) = refusal (number_of c)
