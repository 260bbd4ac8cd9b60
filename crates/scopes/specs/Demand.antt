-- Demand 3 as one statement. Assumes nothing.
use Rattle.std.specs.Prelude.{ℕ, ◌≡◌, true, List}
use Rattle.std.proofs.Common.{sym, subst, ◌∙◌}
use Rattle.scope_tree.specs.Step.{Alike, Head, used, Call, Answer}
use Rattle.scope_tree.specs.Register.{Scope, registered, tree_of}
use Rattle.scope_tree.specs.Flat.{Flat, flattened, write}
use Rattle.scope_tree.specs.Same.{same-answers, same-tree}
use Rattle.register.specs.Chain.{In, Chain, chains, chain-from, one_entry}
use Rattle.scope_tree.specs.Note.{register_of, written}
use Rattle.register.specs.Named.{Added}
use Rattle.register.specs.Imports.{Use, Imported, was, became, module_of, imported}
use Rattle.register.specs.NoRepeats.{Once, once}

-- f, the answers as': what the calls cs left of the empty flat tree, and told
pub record Demand (cs : List Call) (f : Flat) (as' : List Answer) : Type 0 where
  -- the answers are those of the definition over the register
  pub answers : as' ≡ (registered cs).1
  -- the tree written out is the register that took the calls and whether each was accepted
  pub tree : write f.entries 0 ≡ tree_of (register_of cs as')
  -- a number is one entry's, and in a module a name is held once in each kind
  pub entry : (i : ℕ) (h g : Head) → In i h (write f.entries 0) → In i g (write f.entries 0) → h ≡ g
  pub names : Once (write f.entries 0)
  -- what a use imported has its chain
  pub chain : (i j : ℕ) (h : Head) → In i h (write f.entries 0) → h.came ≡ used j
      → (g : Head) × Alike g h × Chain (write f.entries 0) j g
  -- "from the one its element names": whatever an accepted use of the list added, at its place, is a public entry that an element of it
  -- names in the module of its path, under the local name, with its mark and the use's visibility; the tree holds it, and a chain starts
  -- at the entry named
  pub imports : (u : Use cs as') → Added (Imported (write f.entries 0) (module_of u) u.visible u.elems) (was u) (became u)

pub demand : (cs : List Call) → Demand cs (flattened cs).0 (flattened cs).1
demand cs =
    let e : tree_of (registered cs).0 ≡ write (flattened cs).0.entries 0 = sym (same-tree cs) in
    record {
      answers = sym (same-answers cs);
      tree = written cs;
      entry = λ i h g a b. one_entry cs i h g (subst (In i h) (same-tree cs) a) (subst (In i g) (same-tree cs) b);
      names = subst Once e (once cs);
      chain = λ i j h a u.
          subst (λ (T : Scope). (g : Head) × Alike g h × Chain T j g) e (chains cs i j h (subst (In i h) (same-tree cs) a) u);
      imports = λ u.
          let as' = (flattened cs).1 in
          let w : tree_of (register_of cs as') ≡ write (flattened cs).0.entries 0 = sym (written cs) in
          subst (λ (T : Scope). Added (Imported T (module_of u) u.visible u.elems) (was u) (became u)) w
          (imported u (subst (λ (T : Scope). (i : ℕ) (h : Head) → In i h T → h.vis ≡ true → Chain T i h) (e ∙ written cs) (chain-from cs)));
    }
