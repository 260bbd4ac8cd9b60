-- What a commit makes of a tree. Assumes nothing.
use Rattle.std.specs.Prelude.{ℕ, zero, suc, ◌+◌, ◌≤◌, ◌<◌, ◌≡◌, false, List, length, take, map, get_or}
use Rattle.std.proofs.Common.{arith, add-one, sym, ◌∙◌}
use Rattle.std.proofs.Math.Path.{refl, ap}
use Rattle.std.proofs.lemmas.List.{get_or-map}
use Rattle.scope_tree.specs.Kinds.{kind_number}
use Rattle.scope_tree.specs.Staging.{Staged}
use Rattle.scope_tree.specs.Rows.{name_at}
use Rattle.scope_tree.specs.Views.{View, pushed, committed, commits}
use Rattle.scope_tree.specs.declared.Tree.{Tree}
use Rattle.scope_tree.specs.Entries.{Entry}
use Rattle.scope_tree.specs.declared.Entry.{Entry as Numbers}
use Rattle.scope_tree.specs.Trees.{view, Sized}
use Rattle.decision.specs.declared.batch.Staged.{Staged as Listed}
use Rattle.decision.specs.Batches.{column, staged_in}
use Rattle.decision.specs.BatchLaws.{column-get}
use Rattle.scope_tree.specs.Pack.{view-sized, added, added-sized, shut-view}

-- THE COMMIT: the first n staged entries, from the place c on
abbrev pub staged_entry : Staged → ℕ → ℕ → ℕ → Entry
staged_entry s h v n =
    record { kind = get_or s.kinds n 0; visible = v; scope = h; mark = get_or s.marks n 0; name = name_at s.n0 s.n1 s.n2 s.n3 n; origin = get_or s.origins n 0; target = get_or s.targets n 0; moment = get_or s.times n 0; opens = false }

unfoldable pub filled : ℕ → Tree → Staged → ℕ → ℕ → ℕ → Tree
filled c t s h v zero = t
filled c t s h v (suc n) = added (c + n) (filled c t s h v n) (staged_entry s h v n)

pub record Filled (c : ℕ) (t : Tree) (s : Staged) (h v n : ℕ) : Type 0 where
  pub sized : Sized (filled c t s h v n)
  pub same : view (filled c t s h v n) ≡ committed (view t) s h v n

pub fills : (c : ℕ) (t : Tree) (s : Staged) (h v n : ℕ) → c ≡ get_or t.opened 9 0 → Sized t → c + n ≤ 1024 → Filled c t s h v n
unfolding filled committed
fills c t s h v zero p z l = record { sized = z; same = refl }
fills c t s h v (suc n) p z l =
    let f = fills c t s h v n p z (omega arith) in
    let k = (commits (view t) s h v n (view-sized t z) (omega (arith, p))).count in
    let e : c + n ≡ get_or (filled c t s h v n).opened 9 0 = ap (λ (x : ℕ). x + n) p ∙ sym (ap (λ (x : View). x.count) f.same ∙ k) in
    record {
      sized = added-sized (c + n) (filled c t s h v n) (staged_entry s h v n) f.sized;
      same = shut-view (c + n) (filled c t s h v n) (staged_entry s h v n) e f.sized (omega arith) refl
          ∙ ap (λ (x : View). pushed x (get_or s.kinds n 0) v h (get_or s.marks n 0) (name_at s.n0 s.n1 s.n2 s.n3 n) (get_or s.origins n 0) (get_or s.targets n 0) (get_or s.times n 0)) f.same;
    }

-- AS THE CODE HAS IT: one more of the staged entries
pub fills_more : (c : ℕ) (t : Tree) (s : Staged) (h v i : ℕ) {u : Tree} → u ≡ filled c t s h v i → {e : Entry} → e ≡ staged_entry s h v i → added (c + i) u e ≡ filled c t s h v (i + 1)
unfolding filled
fills_more c t s h v i {u} p {e} q = (λ j. added (c + i) (p j) (q j)) ∙ ap (filled c t s h v) (sym (add-one i))

-- WHAT IS READ OF THEM: of columns that have a number of each entry
abbrev pub by_columns : ℕ → ((Numbers → ℕ) → List ℕ) → Staged
by_columns n column_of = record {
  number = 0;
  count = n;
  kinds = column_of (λ (e : Numbers). e.kind);
  marks = column_of (λ (e : Numbers). e.mark);
  n0 = column_of (λ (e : Numbers). e.name.w0);
  n1 = column_of (λ (e : Numbers). e.name.w1);
  n2 = column_of (λ (e : Numbers). e.name.w2);
  n3 = column_of (λ (e : Numbers). e.name.w3);
  origins = column_of (λ (e : Numbers). e.origin);
  targets = column_of (λ (e : Numbers). e.target);
  times = column_of (λ (e : Numbers). e.moment);
}

columns-read : (n : ℕ) (column_of : (Numbers → ℕ) → List ℕ) (i : ℕ) (e : Numbers) → ((f : Numbers → ℕ) → f e ≡ get_or (column_of f) i 0) → (h v : ℕ)
    → record { kind = e.kind; visible = v; scope = h; mark = e.mark; name = e.name; origin = e.origin; target = e.target; moment = e.moment; opens = false } ≡ staged_entry (by_columns n column_of) h v i
columns-read n column_of i e read h v j = record {
  kind = read (λ (e : Numbers). e.kind) j;
  visible = v;
  scope = h;
  mark = read (λ (e : Numbers). e.mark) j;
  name = record { w0 = read (λ (e : Numbers). e.name.w0) j; w1 = read (λ (e : Numbers). e.name.w1) j; w2 = read (λ (e : Numbers). e.name.w2) j; w3 = read (λ (e : Numbers). e.name.w3) j };
  origin = read (λ (e : Numbers). e.origin) j;
  target = read (λ (e : Numbers). e.target) j;
  moment = read (λ (e : Numbers). e.moment) j;
  opens = false;
}

-- an entry of a use, in numbers; its visibility and its scope are those of the commit
abbrev in_numbers : Listed → Numbers
in_numbers e = record { kind = kind_number e.kind; visible = 0; scope = 0; mark = e.mark; name = e.name; origin = e.origin; target = e.target; moment = e.moment; opens = false }

pub entry-read : (n : ℕ) (es : List Listed) (i : ℕ) (d : Listed) → i < length (take n es) → (h v : ℕ)
    → (let e = get_or (take n es) i d in record { kind = kind_number e.kind; visible = v; scope = h; mark = e.mark; name = e.name; origin = e.origin; target = e.target; moment = e.moment; opens = false }) ≡ staged_entry (staged_in n es) h v i
entry-read n es i d k =
    columns-read n (λ f. column (λ (e : Listed). f (in_numbers e)) n es) i (in_numbers (get_or (take n es) i d)) (λ f. sym (column-get (λ (e : Listed). f (in_numbers e)) n es i d k))

-- ENTRIES IN NUMBERS, staged as they stand: any number as a kind
abbrev pub numbers_staged : List Numbers → Staged
numbers_staged es = by_columns (length es) (λ f. map f es)

pub numbers-read : (es : List Numbers) (i : ℕ) (d : Numbers) → i < length es → (h v : ℕ)
    → (let e = get_or es i d in record { kind = e.kind; visible = v; scope = h; mark = e.mark; name = e.name; origin = e.origin; target = e.target; moment = e.moment; opens = false }) ≡ staged_entry (numbers_staged es) h v i
numbers-read es i d k = columns-read (length es) (λ f. map f es) i (get_or es i d) (λ f. sym (get_or-map f es i d 0 k))
