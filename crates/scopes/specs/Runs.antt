-- Demand 3, second half, of the code's trees: whatever calls are made one after another from the empty tree, by value or over lent
-- arrays in any order, refused ones included. Assumes nothing.
use Rattle.std.proofs.Common.{arith, ap, sym, subst, ◌∙◌}
use Rattle.std.specs.Prelude.{ℕ, zero, ◌≡◌, refl, List, [], ◌∷◌, length, replicate}
use Rattle.std.proofs.lemmas.List.{length-replicate}
use Rattle.scope_tree.specs.declared.Tree.{Tree}
use Rattle.scope_tree.specs.Told.{Told}
use Rattle.scope_tree.specs.Step.{Answer, step, run}
use Rattle.scope_tree.specs.Flat.{Flat, flat, first_flat, flattened}
use Rattle.scope_tree.specs.Form.{Request, call_of, calls_of}
use Rattle.scope_tree.specs.Rows.{tab}
use Rattle.scope_tree.specs.Index.{walked_none}
use Rattle.scope_tree.specs.Nav.{stack_of}
use Rattle.scope_tree.specs.Views.{told}
use Rattle.scope_tree.specs.Views as views
use Rattle.scope_tree.specs.Trees.{cleared, Good, flat_of}
use Rattle.scope_tree.specs.Pack.{cleared-view, clear-get}
use Rattle.scopes.specs.Meets.{Outcome, Meets, Answers}
use Rattle.scopes.specs.Demand.{Demand, demand}

-- the tree u and the answers that the calls qs, made one after another from the tree t, leave: each call, by value or over lent arrays,
-- meets its contract
pub data Called : Tree → List Request → Tree → List Told → Type 0 where
  none : {t : Tree} → Called t [] t []
  then : {t u : Tree} {q : Request} {r : Outcome} {qs : List Request} {as' : List Told} → Meets t q r → Called r.tree qs u as' → Called t (q ∷ qs) u (r.answer ∷ as')
  asks : {t u : Tree} {q : Request} {a : Told} {qs : List Request} {as' : List Told} → Answers t q a → Called t qs u as' → Called t (q ∷ qs) u (a ∷ as')

unfoldable pub all_told : List Told → List Answer
all_told [] = []
all_told (a ∷ as') = told a ∷ all_told as'

-- the abstraction: the empty record is the empty flat tree
first-view : views.flat_of views.cleared ≡ first_flat
unfolding tab stack_of
first-view = refl

pub first-is : flat_of cleared ≡ first_flat
first-is = ap views.flat_of cleared-view ∙ first-view

good-view : views.Good views.cleared
good-view =
    record {
      small = omega arith;
      shallow = omega arith;
      doors = λ j h. absurd (omega arith);
      indexed = record { walked = walked_none _ _ _ (λ σ. clear-get 3072 σ) };
    }

pub first_good : Good cleared
first_good =
    let z : (n : ℕ) → length (replicate n zero) ≡ n = λ n. length-replicate {A = ℕ} n zero in
    record {
      sized = record { opened = z 11; cells = z 7168; visible = z 1024; scopes = z 1024; marks = z 1024; n0 = z 1024; n1 = z 1024; n2 = z 1024; n3 = z 1024 };
      good = subst views.Good (sym cleared-view) good-view;
    }

-- and each call is a step, so calls are the definition's run
pub record Ran (t : Tree) (qs : List Request) (u : Tree) (as' : List Told) : Type 0 where
  pub good : Good u
  pub tree : flat_of u ≡ (run flat (flat_of t) (calls_of qs)).0
  pub answers : all_told as' ≡ (run flat (flat_of t) (calls_of qs)).1

pub ran : {t u : Tree} {qs : List Request} {as' : List Told} → Called t qs u as' → Good t → Ran t qs u as'
unfolding run calls_of all_told
ran none g = record { good = g; tree = refl; answers = refl }
ran (then {t} {q} {r} {qs} m c) g =
    let i = ran c (m.good g) in
    record {
      good = i.good;
      tree = i.tree ∙ ap (λ (x : Flat). (run flat x (calls_of qs)).0) (m.tree g);
      answers = (λ j. m.answer g j ∷ i.answers j) ∙ ap (λ (x : Flat). (step flat (flat_of t) (call_of q)).1 ∷ (run flat x (calls_of qs)).1) (m.tree g);
    }
ran (asks {t} {q} {a} {qs} m c) g =
    let i = ran c g in
    record {
      good = i.good;
      tree = i.tree ∙ ap (λ (x : Flat). (run flat x (calls_of qs)).0) (m.tree g);
      answers = (λ j. m.answer g j ∷ i.answers j) ∙ ap (λ (x : Flat). (step flat (flat_of t) (call_of q)).1 ∷ (run flat x (calls_of qs)).1) (m.tree g);
    }

-- THE THEOREM: answers, tree written out, and chains, for every list of calls
pub demanded : (qs : List Request) {u : Tree} {as' : List Told} → Called cleared qs u as' → Demand (calls_of qs) (flat_of u) (all_told as')
demanded qs {u} {as'} c =
    let r = ran c first_good in
    let t : flat_of u ≡ (flattened (calls_of qs)).0 = r.tree ∙ ap (λ (x : Flat). (run flat x (calls_of qs)).0) first-is in
    let a : all_told as' ≡ (flattened (calls_of qs)).1 = r.answers ∙ ap (λ (x : Flat). (run flat x (calls_of qs)).1) first-is in
    subst (λ (x : Flat). Demand (calls_of qs) x (all_told as')) (sym t) (subst (λ (y : List Answer). Demand (calls_of qs) (flattened (calls_of qs)).0 y) (sym a) (demand (calls_of qs)))
