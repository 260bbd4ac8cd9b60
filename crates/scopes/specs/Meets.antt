-- What a tree call promises, by value or over lent arrays. Assumes nothing.
use Rattle.std.specs.Prelude.{ℕ, ◌≡◌, refl, Option, Some, None, Result, Ok, Err, Bool, true, false, cond, List, [], eqb}
use Rattle.scope_tree.specs.Step.{step}
use Rattle.scope_tree.specs.Flat.{flat}
use Rattle.scope_tree.specs.Note.{accepted}
use Rattle.scope_tree.specs.Form.{Request, enters, exits, inserts_alias, inserts_enum, inserts_function, resolves_use, gets_alias, gets_function, call_of}
use Rattle.scope_tree.specs.Views.{told}
use Rattle.scope_tree.specs.Trees.{Good, flat_of}
use Rattle.scope_tree.specs.declared.Tree.{Tree}
use Rattle.refusal.specs.declared.Cause.{Cause}
use Rattle.scope_tree.specs.Forms.{fault}
use Rattle.scope_tree.specs.Told.{Told, Done, Mark, Refused, done_told, call_told}
use Rattle.scopes.specs.declared.Outcome.{Outcome as Given}
use Rattle.scopes.specs.declared.call.Call.{Call}
use Rattle.scopes.specs.declared.call.Call.TheVariants.{Enter, Exit, Alias, «Enum», Function, «Use», GetAlias, GetFunction}

-- the number that a refusal tells; 0 where the call was accepted
abbrev pub number_of_told : Told → ℕ
number_of_told Done = 0
number_of_told (Mark m) = 0
number_of_told (Refused n) = n

pub number-told : (r : Result (Option ℕ) Cause) → fault r ≡ number_of_told (call_told r)
number-told (Ok None) = refl
number-told (Ok (Some m)) = refl
number-told (Err c) = refl

pub number-done : {A : Type 0} (r : Result A Cause) → fault r ≡ number_of_told (done_told r)
number-done (Ok x) = refl
number-done (Err c) = refl

-- what a call tells, and the tree that it leaves
pub record Outcome : Type 0 where
  pub answer : Told
  pub tree : Tree

abbrev pub outcome_told : Given → Outcome
outcome_told r = record { answer = call_told r.answer; tree = r.tree }

-- a call: on a good tree the answer and the tree are the definition's, and on any record a refusal has a number and gives the same
-- record back
pub record Meets (t : Tree) (q : Request) (r : Outcome) : Type 0 where
  pub good : Good t → Good r.tree
  pub tree : Good t → flat_of r.tree ≡ (step flat (flat_of t) (call_of q)).0
  pub answer : Good t → told r.answer ≡ (step flat (flat_of t) (call_of q)).1
  pub kept : accepted (told r.answer) ≡ false → r.tree ≡ t
  pub numbered : number_of_told r.answer ≡ 0 → accepted (told r.answer) ≡ true

-- a call that only asks
pub record Answers (t : Tree) (q : Request) (a : Told) : Type 0 where
  pub tree : Good t → flat_of t ≡ (step flat (flat_of t) (call_of q)).0
  pub answer : Good t → told a ≡ (step flat (flat_of t) (call_of q)).1

-- the answer of a call over lent arrays, with what they were left as
abbrev pub left : Told → Tree → Outcome
left a t = record { answer = a; tree = t }

-- a call by its code: 1 enter, 2 exit, 3 type alias, 4 enum, 5 function, 6 use, 7 get_alias, else get_function
abbrev pub request : ℕ → List ℕ → Bool → ℕ → Request
request c s v m =
    cond (eqb c 1) (enters s v m)
    (cond (eqb c 2) exits
    (cond (eqb c 3) (inserts_alias s v m) (cond (eqb c 4) (inserts_enum s v m) (cond (eqb c 5) (inserts_function s v m) (cond (eqb c 6) (resolves_use s v) (cond (eqb c 7) (gets_alias s) (gets_function s)))))))

-- what a call asks
abbrev pub request_of : Call → Request
request_of (Enter i) = enters i.name.now i.public i.mark
request_of Exit = exits
request_of (Alias i) = inserts_alias i.name.now i.public i.mark
request_of (Enum i) = inserts_enum i.name.now i.public i.mark
request_of (Function i) = inserts_function i.name.now i.public i.mark
request_of (Use s v) = resolves_use s.now v
request_of (GetAlias s) = gets_alias s.now
request_of (GetFunction s) = gets_function s.now

-- the code of a call, and what is handed over with it: a call that has no place for a name, a visibility or a mark has none, is private
-- and has the mark 0
abbrev pub code_of : Call → ℕ
code_of (Enter i) = 1
code_of Exit = 2
code_of (Alias i) = 3
code_of (Enum i) = 4
code_of (Function i) = 5
code_of (Use s v) = 6
code_of (GetAlias s) = 7
code_of (GetFunction s) = 8

abbrev pub bytes_of : Call → List ℕ
bytes_of (Enter i) = i.name.now
bytes_of Exit = []
bytes_of (Alias i) = i.name.now
bytes_of (Enum i) = i.name.now
bytes_of (Function i) = i.name.now
bytes_of (Use s v) = s.now
bytes_of (GetAlias s) = s.now
bytes_of (GetFunction s) = s.now

abbrev pub public_of : Call → Bool
public_of (Enter i) = i.public
public_of Exit = false
public_of (Alias i) = i.public
public_of (Enum i) = i.public
public_of (Function i) = i.public
public_of (Use s v) = v
public_of (GetAlias s) = false
public_of (GetFunction s) = false

abbrev pub mark_of : Call → ℕ
mark_of (Enter i) = i.mark
mark_of Exit = 0
mark_of (Alias i) = i.mark
mark_of (Enum i) = i.mark
mark_of (Function i) = i.mark
mark_of (Use s v) = 0
mark_of (GetAlias s) = 0
mark_of (GetFunction s) = 0

-- what a call asks is what its code asks
pub request-code : (c : Call) → request_of c ≡ request (code_of c) (bytes_of c) (public_of c) (mark_of c)
request-code (Enter i) = refl
request-code Exit = refl
request-code (Alias i) = refl
request-code (Enum i) = refl
request-code (Function i) = refl
request-code (Use s v) = refl
request-code (GetAlias s) = refl
request-code (GetFunction s) = refl

-- an item's declaration by its kind in a bundle: 2 a function, 4 an enum, else a type alias
abbrev pub declares : ℕ → List ℕ → Bool → ℕ → Request
declares k s v m = cond (eqb k 2) (inserts_function s v m) (cond (eqb k 4) (inserts_enum s v m) (inserts_alias s v m))

-- an exit writes the open modules alone, whatever else the tree has
abbrev pub with_opened : Tree → List ℕ → Tree
with_opened t o = record { opened = o; cells = t.cells; visible = t.visible; scopes = t.scopes; marks = t.marks; n0 = t.n0; n1 = t.n1; n2 = t.n2; n3 = t.n3 }

abbrev pub Leaves : List ℕ → Told → List ℕ → Type 0
Leaves o a p = (t : Tree) → Meets (with_opened t o) exits (left a (with_opened t p))
