-- What the eight tree calls on a lent tree tell, and what they leave there. Assumes nothing.
use Rattle.std.specs.Prelude.{ℕ, ◌<◌, ◌≤◌, ◌≡◌, refl, true, false, cond, List, eqb, leb, get_or}
use Rattle.std.proofs.Common.{arith, ap, sym, ◌∙◌}
use Rattle.std.proofs.Math.ListN.{length}
use borrow.Author.Tests.{eq-eqb, ne_eqb, le-leb, lt-leb}
use Rattle.scope_tree.specs.declared.Tree.{Tree}
use Rattle.scope_tree.specs.Told.{Told, Done, Mark, Refused}
use Rattle.scope_tree.specs.Step.{Answer, ok, marked, refused, step}
use Rattle.scope_tree.specs.Flat.{flat}
use Rattle.scope_tree.specs.Form.{Request, call_of}
use Rattle.scope_tree.specs.Note.{accepted}
use Rattle.scope_tree.specs.Views.{told}
use Rattle.scope_tree.specs.Rows.{length-tab}
use Rattle.scope_tree.specs.Views.{rows as row_of}
use Rattle.scope_tree.specs.Trees.{Good, view, flat_of}
use Rattle.rows.specs.TreeRows.{Listed}
use Rattle.order.specs.Report.{small_buffer}
use Rattle.host.specs.LinkTold.{rows_length, entry_limit, rows_of}
use Rattle.host.specs.LinkLaws.{rows_whole}
use Rattle.scopes.specs.Meets.{Meets, Answers, number_of_told, left}

-- an answer's number: 0 where the call is accepted
abbrev pub number_of : Answer → ℕ
number_of ok = 0
number_of (marked m) = 0
number_of (refused n) = n

-- a mark that was found; where there is none, the number lent for it stays
abbrev pub mark_told : Answer → ℕ → ℕ
mark_told ok a = a
mark_told (marked m) a = m
mark_told (refused n) a = a

abbrev pub tree_full : ℕ
tree_full = 51

-- of a tree and a call: the number, and the tree that is left. On a tree that calls from the empty one left both are the definition's;
-- on any arrays a refusal leaves them as they were
pub record TreeTold (t : Tree) (q : Request) (n : ℕ) (u : Tree) : Type 0 where
  pub good : Good t → Good u
  pub tree : Good t → flat_of u ≡ (step flat (flat_of t) (call_of q)).0
  pub number : Good t → n ≡ number_of (step flat (flat_of t) (call_of q)).1
  pub taken : Good t → n ≡ 0 → accepted (step flat (flat_of t) (call_of q)).1 ≡ true
  pub kept : (n ≡ 0 → ⊥) → u ≡ t

-- of a tree and a call that only asks: the number n, and the mark m in the place of the number a that was lent for it
pub record FoundTold (t : Tree) (q : Request) (a n m : ℕ) : Type 0 where
  pub number : Good t → n ≡ number_of (step flat (flat_of t) (call_of q)).1
  pub mark : Good t → m ≡ mark_told (step flat (flat_of t) (call_of q)).1 a
  pub same : Good t → (step flat (flat_of t) (call_of q)).0 ≡ flat_of t
  pub kept : (n ≡ 0 → ⊥) → m ≡ a

-- THE ROWS of a tree: how many entries it counts, and whether they fit
abbrev pub count_of : Tree → ℕ
count_of t = get_or t.opened 9 0

unfoldable pub rows_number : Tree → List ℕ → ℕ
rows_number t l = cond (leb rows_length (length l)) (cond (leb (count_of t) entry_limit) 0 tree_full) small_buffer

-- the rows from the start on, and how many; where they don't fit all is as it was
unfoldable pub tree_rows : Tree → List ℕ → List ℕ
tree_rows t l = cond (eqb (rows_number t l) 0) (rows_of (flat_of t).entries l) l

unfoldable pub rows_count : Tree → List ℕ → ℕ → ℕ
rows_count t l n = cond (eqb (rows_number t l) 0) (length (flat_of t).entries) n

-- AS THE CODE HAS IT
abbrev pub number_in : Told → ℕ
number_in a = number_of (told a)

abbrev pub mark_in : Told → ℕ → ℕ
mark_in a l = mark_told (told a) l

number_in_lem : (a : Told) → number_of_told a ≡ number_in a
number_in_lem Done = refl
number_in_lem (Mark m) = refl
number_in_lem (Refused n) = refl

refusing : (a : Told) → (number_of_told a ≡ 0 → ⊥) → accepted (told a) ≡ false
refusing Done h = absurd (h refl)
refusing (Mark m) h = absurd (h refl)
refusing (Refused n) h = refl

pub tree-told : {t u : Tree} {q : Request} {a : Told} {n : ℕ} → Meets t q (left a u) → n ≡ number_of_told a → TreeTold t q n u
tree-told {t} {u} {q} {a} {n} m e =
    record {
      good = m.good;
      tree = m.tree;
      number = λ g. e ∙ number_in_lem a ∙ ap number_of (m.answer g);
      taken = λ g z. ap accepted (sym (m.answer g)) ∙ m.numbered (sym e ∙ z);
      kept = λ z. m.kept (refusing a (λ y. z (e ∙ y)));
    }

pub found-mark : (a : Told) (m w l : ℕ) → a ≡ Mark m → w ≡ m → (0 ≡ number_in a) × (w ≡ mark_in a l)
found-mark a m w l e f = rw e (refl, f)

mark-kept : (a : Told) (l : ℕ) → (number_in a ≡ 0 → ⊥) → mark_in a l ≡ l
mark-kept Done l h = refl
mark-kept (Mark m) l h = absurd (h refl)
mark-kept (Refused n) l h = refl

pub found-told : {t : Tree} {q : Request} {a : Told} {l m n : ℕ} → Answers t q a → n ≡ number_in a → m ≡ mark_in a l → FoundTold t q l n m
found-told {t} {q} {a} {l} {m} {n} h e f =
    record {
      number = λ g. e ∙ ap number_of (h.answer g);
      mark = λ g. f ∙ ap (λ (x : Answer). mark_told x l) (h.answer g);
      same = λ g. sym (h.tree g);
      kept = λ z. f ∙ mark-kept a l (λ y. z (e ∙ y));
    }

module _ (t : Tree) (l : List ℕ) (n : ℕ) where
  abbrev Rows : ℕ → List ℕ → ℕ → Type 0
  Rows r l' n' = (r ≡ rows_number t l) × ((l' ≡ tree_rows t l) × (n' ≡ rows_count t l n))

  rows_as : (r : ℕ) → r ≡ rows_number t l → (r ≡ 0 → ⊥) → Rows r l n
  unfolding tree_rows rows_count
  rows_as r e z = rw (ne_eqb (rows_number t l) 0 (λ y. z (e ∙ y))) (e, (refl, refl))

  short : length l < rows_length → 14 ≡ rows_number t l
  unfolding rows_number
  short h = rw (lt-leb rows_length (length l) h)

  full : rows_length ≤ length l → entry_limit < count_of t → 51 ≡ rows_number t l
  unfolding rows_number
  full h k = rw (le-leb rows_length (length l) h, lt-leb (count_of t) entry_limit k)

  fits : rows_length ≤ length l → count_of t ≤ entry_limit → 0 ≡ rows_number t l
  unfolding rows_number
  fits h k = rw (le-leb rows_length (length l) h, le-leb (count_of t) entry_limit k)

  pub rows_short : length l < rows_length → Rows 14 l n
  rows_short h = rows_as 14 (short h) (λ e. omega (arith, e))

  pub rows-full : rows_length ≤ length l → (c : ℕ) → c ≡ count_of t → entry_limit < c → Rows 51 l n
  rows-full h c e k = rows_as 51 (full h (omega (arith, e))) (λ y. omega (arith, y))

  pub rows_told : rows_length ≤ length l → (c : ℕ) → c ≡ count_of t → c ≤ entry_limit → (r : ℕ) (l' : List ℕ) → Listed (flat_of t).entries l r l' → Rows 0 l' r
  unfolding tree_rows rows_count
  rows_told h c e k r l' d =
      let b : count_of t ≤ entry_limit = omega (arith, e) in
      let z = fits h b in
      let s : length (flat_of t).entries ≤ 1024 = rw (length-tab (row_of (view t)) (count_of t)) b in
      rw (eq-eqb (rows_number t l) 0 (sym z)) (z, (d.out ∙ rows_whole (flat_of t).entries l s h, d.count))
