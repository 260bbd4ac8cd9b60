-- Demand 3, second half, of the tree calls on a lent tree: whatever calls are made one after another from zeros, refused ones included.
-- Assumes nothing.
use Rattle.std.specs.Prelude.{ℕ, ◌≡◌, refl, List, [], ◌∷◌, map}
use Rattle.std.proofs.Common.{ap, sym, subst, ◌∙◌}
use Rattle.scope_tree.specs.declared.Tree.{Tree}
use Rattle.scope_tree.specs.Step.{Answer, step, run}
use Rattle.scope_tree.specs.Flat.{Flat, flat, flattened}
use Rattle.scope_tree.specs.Form.{Request, call_of, calls_of}
use Rattle.scope_tree.specs.Trees.{cleared, Good, flat_of}
use Rattle.scopes.specs.Runs.{first-is, first_good}
use Rattle.scopes.specs.Demand.{Demand, demand}
use Rattle.host.specs.TreeTold.{number_of, TreeTold, FoundTold}

-- the tree u and the numbers that the calls qs, made one after another from the tree t, leave
pub data Calls : Tree → List Request → Tree → List ℕ → Type 0 where
  none : {t : Tree} → Calls t [] t []
  then : {t u w : Tree} {q : Request} {n : ℕ} {qs : List Request} {ns : List ℕ} → TreeTold t q n u → Calls u qs w ns → Calls t (q ∷ qs) w (n ∷ ns)
  asks : {t w : Tree} {q : Request} {l m n : ℕ} {qs : List Request} {ns : List ℕ} → FoundTold t q l n m → Calls t qs w ns → Calls t (q ∷ qs) w (n ∷ ns)

record Ran (x : Flat) (qs : List Request) (w : Tree) (ns : List ℕ) : Type 0 where
  pub tree : flat_of w ≡ (run flat x (calls_of qs)).0
  pub numbers : ns ≡ map number_of (run flat x (calls_of qs)).1

-- a call more ahead
ahead : (x y : Flat) (a : Answer) (q : Request) → (step flat x (call_of q)).0 ≡ y → (step flat x (call_of q)).1 ≡ a → (n : ℕ) → n ≡ number_of a → (qs : List Request) (w : Tree) (ns : List ℕ) → Ran y qs w ns → Ran x (q ∷ qs) w (n ∷ ns)
unfolding run calls_of
ahead x y a q e f n g qs w ns r =
    record {
      tree = r.tree ∙ ap (λ (z : Flat). (run flat z (calls_of qs)).0) (sym e);
      numbers = (λ j. g j ∷ r.numbers j) ∙ (λ j. number_of (sym f j) ∷ map number_of (run flat (sym e j) (calls_of qs)).1);
    }

ran : {t w : Tree} {qs : List Request} {ns : List ℕ} → Calls t qs w ns → Good t → Ran (flat_of t) qs w ns
unfolding run calls_of
ran none g = record { tree = refl; numbers = refl }
ran (then {t} {u} {w} {q} {n} {qs} {ns} h c) g = ahead (flat_of t) (flat_of u) _ q (sym (h.tree g)) refl n (h.number g) qs w ns (ran c (h.good g))
ran (asks {t} {w} {q} {l} {m} {n} {qs} {ns} h c) g = ahead (flat_of t) (flat_of t) _ q (h.same g) refl n (h.number g) qs w ns (ran c g)

-- THE THEOREM: the tree written out is the register's, with its chains, and the numbers are those of the definition's answers
pub tree-calls : (qs : List Request) {w : Tree} {ns : List ℕ} → Calls cleared qs w ns → Demand (calls_of qs) (flat_of w) (flattened (calls_of qs)).1 × (ns ≡ map number_of (flattened (calls_of qs)).1)
tree-calls qs {w} {ns} c =
    let r = ran c first_good in
    let t : flat_of w ≡ (flattened (calls_of qs)).0 = r.tree ∙ ap (λ (x : Flat). (run flat x (calls_of qs)).0) first-is in (
      subst (λ (x : Flat). Demand (calls_of qs) x (flattened (calls_of qs)).1) (sym t) (demand (calls_of qs)),
      r.numbers ∙ ap (λ (x : Flat). map number_of (run flat x (calls_of qs)).1) first-is,
    )
