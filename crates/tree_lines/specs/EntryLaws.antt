-- LAWS for the code: what is printed of an entry, as the code has it, and the lines of one entry more. Assumes nothing.
use Rattle.std.specs.Prelude.{ℕ, zero, suc, ◌+◌, ◌-◌, ◌<◌, ◌≤◌, ◌≡◌, ◌⊎◌, refl, Bool, true, false, cond, eqb, List, [], ◌∷◌, ◌++◌, length, get_or, take}
use Rattle.std.proofs.Common.{arith, ⊎_elim, add-one, sym, ap, subst, ◌∙◌, append_assoc, append-nil, eq-eqb, ne_eqb, take-suc, length-take}
use Rattle.std.proofs.Math.Decide.{dec_lt}
use Rattle.std.proofs.Math.ListN.{get_or-eq_default}
use Rattle.names.specs.Bytes.{ascii}
use Rattle.text.specs.LineLaws.{lines-append}
use Rattle.names.specs.Decimal.{decimal}
use Rattle.text.specs.Words.{Text, line, lines, spelled}
use Rattle.scope_tree.specs.Flat.{Entry, none}
use Rattle.scope_tree.specs.Rows.{length-tab, get_d_tab}
use Rattle.scope_tree.specs.Trees.{part, view, flat_of}
use Rattle.scope_tree.specs.Views.{rows}
use Rattle.scope_tree.specs.declared.Tree.{Tree}
use Rattle.tree_lines.specs.Entries.{module_path, has_line, has_lines}
use Rattle.tree_lines.specs.declared.Shown.{Shown}

-- AN ENTRY
abbrev pub shown_of : Entry → Shown
shown_of e = record { scope = e.scope; kind = e.shows.kind; name = e.shows.name; mark = e.shows.mark }

-- the code reads arrays where the definition has a list: past the arrays' ends nothing is shown
pub shown_past : (t : Tree) (i : ℕ) → 1024 ≤ i → length t.scopes ≡ 1024 → length t.marks ≡ 1024 → length t.n0 ≡ 1024 → length t.n1 ≡ 1024 → length t.n2 ≡ 1024 → length t.n3 ≡ 1024 → shown_of none ≡ shown_of (get_or (flat_of t).entries i none)
unfolding part
shown_past t i h s m a b c d = go (dec_lt i (get_or t.opened 9 0))
  where
    go : Dec (i < get_or t.opened 9 0) → shown_of none ≡ shown_of (get_or (flat_of t).entries i none)
    go (no l) = ap shown_of (sym (get_or-eq_default (flat_of t).entries none {n = i} (omega (arith, length-tab (rows (view t)) (get_or t.opened 9 0)))))
    go (yes l) =
        rw (get_or-eq_default t.scopes 0 {n = i} (omega arith), get_or-eq_default t.marks 0 {n = i} (omega arith), get_or-eq_default t.n0 0 {n = i} (omega arith), get_or-eq_default t.n1 0 {n = i} (omega arith), get_or-eq_default t.n2 0 {n = i} (omega arith), get_or-eq_default t.n3 0 {n = i} (omega arith), get_or-eq_default (part 0 t.cells) 0 {n = i} (omega (arith, length-take 1024 t.cells)))
        at (ap shown_of (sym (get_d_tab (rows (view t)) (get_or t.opened 9 0) i none l)))

pub ruleset entries_at = (length-tab, get_d_tab, get_or-eq_default, shown_past)

-- A PATH
pub path_more : (d s : ℕ) (l : List Entry) → (d ≡ 0 → ⊥) → (s ≡ 0 → ⊥) → module_path d l s ≡ module_path (d - 1) l (get_or l (s - 1) none).scope ++ (58 ∷ 58 ∷ spelled (get_or l (s - 1) none).shows.name)
unfolding module_path ascii
path_more zero s l h k = absurd (h refl)
path_more (suc d) zero l h k = absurd (k refl)
path_more (suc d) (suc i) l h k =
    let z : suc d - 1 ≡ d = omega arith in
    let y : suc i - 1 ≡ i = omega arith in
    rw (z, y)

pub path_none : (d s : ℕ) (l : List Entry) → (s ≡ 0) ⊎ (d ≡ 0) → (99 ∷ 114 ∷ 97 ∷ 116 ∷ 101 ∷ []) ≡ module_path d l s
unfolding module_path ascii
path_none zero s l h = refl
path_none (suc d) zero l h = refl
path_none (suc d) (suc i) l h = absurd (⊎_elim (λ e. omega arith) (λ e. omega arith) h)

-- the modules around it, then its own name
pub path_told : (d s : ℕ) (l : List Entry) (x : Shown) → (d ≡ 0 → ⊥) → (s ≡ 0 → ⊥) → x ≡ shown_of (get_or l (s - 1) none)
    → (module_path (d - 1) l x.scope ++ (58 ∷ 58 ∷ [])) ++ spelled x.name ≡ module_path d l s
path_told d s l x h k e =
    subst (λ (y : Shown). (module_path (d - 1) l y.scope ++ (58 ∷ 58 ∷ [])) ++ spelled y.name ≡ module_path d l s) (sym e)
    (append_assoc (module_path (d - 1) l (get_or l (s - 1) none).scope) (58 ∷ 58 ∷ []) (spelled (get_or l (s - 1) none).shows.name) ∙ sym (path_more d s l h k))

-- AN ENTRY'S LINE, piece by piece; k bounds how deep a module lies
abbrev pieces : List Entry → Shown → ℕ → Text
pieces l x k =
    ((((((((104 ∷ 97 ∷ 115 ∷ 32 ∷ []) ++ module_path k l x.scope) ++ (32 ∷ [])) ++ decimal x.kind) ++ (32 ∷ [])) ++ spelled x.name) ++ (32 ∷ [])) ++ decimal x.mark) ++ (10 ∷ [])

line_pieces : (l : List Entry) (e : Entry) → (e.scope ≡ 0 → ⊥) → pieces l (shown_of e) (length l) ≡ lines (has_lines l (e ∷ []))
unfolding has_lines lines line ascii
line_pieces l e h = rw (ne_eqb e.scope 0 h) (simp (append_assoc, append-nil))

pub line_told : (l : List Entry) (e : Entry) (x : Shown) (k : ℕ) → x ≡ shown_of e → k ≡ length l → (x.scope ≡ 0 → ⊥) → pieces l x k ≡ lines (has_lines l (e ∷ []))
line_told l e x k is deep h =
    subst (λ (n : ℕ). pieces l x n ≡ lines (has_lines l (e ∷ []))) (sym deep)
    (subst (λ (y : Shown). (y.scope ≡ 0 → ⊥) → pieces l y (length l) ≡ lines (has_lines l (e ∷ []))) (sym is) (line_pieces l e) h)

-- a unit has none
pub unit_told : (l : List Entry) (e : Entry) (x : Shown) → x ≡ shown_of e → x.scope ≡ 0 → [] ≡ lines (has_lines l (e ∷ []))
unfolding has_lines lines
unit_told l e x is h = rw (eq-eqb e.scope 0 (sym (ap (λ (y : Shown). y.scope) is) ∙ h)) refl

-- ALL ENTRIES
has_append : (l a b : List Entry) → has_lines l (a ++ b) ≡ has_lines l a ++ has_lines l b
unfolding has_lines
has_append l [] b = refl
has_append l (e ∷ a) b = go (eqb e.scope 0) (has_append l a b)
  where
    go : (t : Bool) → has_lines l (a ++ b) ≡ has_lines l a ++ has_lines l b
        → cond t (has_lines l (a ++ b)) (has_line l e ∷ has_lines l (a ++ b)) ≡ cond t (has_lines l a) (has_line l e ∷ has_lines l a) ++ has_lines l b
    go true ih = ih
    go false ih = ap (λ (x : List (List Text)). has_line l e ∷ x) ih

pub entries_more : (l : List Entry) (i : ℕ) → i < length l → lines (has_lines l (take (i + 1) l)) ≡ lines (has_lines l (take i l)) ++ lines (has_lines l (get_or l i none ∷ []))
entries_more l i h =
    ap (λ (n : ℕ). lines (has_lines l (take n l))) (add-one i)
    ∙ (ap (λ (k : List Entry). lines (has_lines l k)) (take-suc l i none h)
    ∙ (ap lines (has_append l (take i l) (get_or l i none ∷ [])) ∙ lines-append (has_lines l (take i l)) (has_lines l (get_or l i none ∷ []))))
