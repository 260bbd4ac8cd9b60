-- What the linker answers, and the lines of it. Assumes nothing.
use Rattle.std.specs.Prelude.{ℕ, ◌<◌, ◌≤◌, ◌≡◌, List, [], ◌∷◌, ◌++◌, map, length, get_or, take}
use Rattle.std.proofs.Common.{sym, subst}
use Rattle.names.specs.Bytes.{ascii}
use Rattle.names.specs.Decimal.{decimal}
use Rattle.text.specs.Words.{Text, lines, no_line}
use Rattle.text.specs.Writing.{shown, reach}
use Rattle.bundle.specs.Decode.{decode}
use Rattle.order.specs.Run.{units_of}
use Rattle.assembly.specs.Given.{OneUnit}
use Rattle.order.specs.Report.{ring_met}
use Rattle.order.specs.Results.{Answer}
use Rattle.scope_tree.specs.Trees.{flat_of}
use Rattle.scope_tree.specs.declared.Tree.{Tree}
use Rattle.linker.specs.Call.{link_answer, link_report, LinkTree}
use Rattle.printing.specs.Lines.{unit_line}
use Rattle.tree_lines.specs.Entries.{has_lines}
use Rattle.printing.specs.Reports.{report_lines}

-- THE BUFFER o shows the lines, up to r
abbrev pub Shows : List (List Text) → List ℕ → List ℕ → ℕ → Type 0
Shows ls o o₁ r = (o₁ ≡ shown (lines ls) o) × (r ≡ reach (lines ls) o)

-- an answer with an image: its units are listed, and the lines are theirs and the tree's
pub record LinkedLines (s : List ℕ) (a : Answer) (u : Tree) (ls : List (List Text)) : Type 0 where
  pub fits : a.units ≤ length a.ids
  pub units : (j : ℕ) → j < a.units → OneUnit s a.files (get_or a.ids j 0)
  pub is : lines ((ascii "ok" ∷ decimal (length (take a.units a.ids)) ∷ []) ∷ map (unit_line (units_of (decode s))) (take a.units a.ids)) ++ lines (has_lines (flat_of u).entries (flat_of u).entries) ≡ lines ls

-- a report of n bytes, at the start of its buffer
pub record ReportLines (rep₁ : List ℕ) (n : ℕ) (ls : List (List Text)) : Type 0 where
  pub fits : n ≤ length rep₁
  -- one that begins as a ring's has a ring's four bytes at least
  pub whole : get_or rep₁ 0 0 ≡ ring_met → 4 ≤ n
  pub is : report_lines (take n rep₁) ≡ ls

-- THE LINES of an answer, of a report buffer and of a tree of which T holds: those of a linked program, of a report, or of a number
pub record Lined (s : List ℕ) (a : Answer) (rep₁ : List ℕ) (T : Tree → Type 0) (ls : List (List Text)) : Type 0 where
  pub linked : (a.image ≡ 0 → ⊥) → (u : Tree) → T u → LinkedLines s a u ls
  pub report : a.image ≡ 0 → (a.report ≡ 0 → ⊥) → ReportLines rep₁ a.report ls
  pub number : a.image ≡ 0 → a.report ≡ 0 → ls ≡ no_line a.number a.place ∷ []

-- of the linker's answer for these buffers
abbrev pub AnswerLines : List ℕ → List ℕ → List ℕ → Tree → List (List Text) → Type 0
AnswerLines s rep img t ls = Lined s (link_answer s rep img) (link_report s rep) (λ u. LinkTree s img t u) ls

-- as the linker tells it
pub lined : (s rep img : List ℕ) (t : Tree) (ls : List (List Text)) → AnswerLines s rep img t ls → (a : Answer) → a ≡ link_answer s rep img → (rep₁ : List ℕ) → rep₁ ≡ link_report s rep → Lined s a rep₁ (λ u. LinkTree s img t u) ls
lined s rep img t ls x a e rep₁ f =
    subst (λ (z : Answer). Lined s z rep₁ (λ u. LinkTree s img t u) ls) (sym e) (subst (λ (z : List ℕ). Lined s (link_answer s rep img) z (λ u. LinkTree s img t u) ls) (sym f) x)
