-- What a declaration comes to, before anything is written. Assumes nothing.
use Rattle.std.specs.Prelude.{ℕ, ◌≤◌, ◌<◌, ◌≡◌, Bool, List, eqb, leb, Result, Ok, Err}
use Rattle.std.proofs.Common.{arith}
use Rattle.std.proofs.Math.Path.{refl}
use Rattle.std.proofs.Math.Bool.{true, false, cond}
use Rattle.std.proofs.Math.Dec.{ltb}
use borrow.Author.Tests.{eq-eqb, ne_eqb, lt-ltb, le-ltb, le-leb, lt-leb, ltb-false}
use Rattle.names.specs.declared.Name.{Name}
use Rattle.names.specs.Packed.{packed}
use Rattle.names.specs.Identifier.{is_identifier}
use Rattle.scope_tree.specs.Staging.{is_at}
use Rattle.scope_tree.specs.Views.{View, Added, bit_of, pushed, here_of, current_spot, no_entry, added_of}
use Rattle.refusal.specs.declared.Cause.{Cause}
use Rattle.refusal.specs.Numbers.{number_of}
use Rattle.decision.specs.declared.decide.Plan.{Plan as Made}
use Rattle.scope_tree.specs.declared.Tree.{Tree}
use Rattle.scope_tree.specs.Trees.{view}

-- what a declaration comes to: number 0 with the scope and the name of the entry, or a number
pub record Plan : Type 0 where
  pub number : ℕ
  pub scope : ℕ
  pub name : Name

abbrev pub no_name : Name
no_name = record { w0 = 0; w1 = 0; w2 = 0; w3 = 0 }

abbrev pub no_plan : ℕ → Plan
no_plan n = record { number = n; scope = 0; name = no_name }

abbrev pub plan_told : Result Made Cause → Plan
plan_told (Ok p) = record { number = 0; scope = p.scope; name = p.name }
plan_told (Err c) = no_plan (number_of c)

-- name form, record, held name, place
unfoldable pub plan_of : View → List ℕ → ℕ → ℕ → ℕ → Plan
plan_of t s k twice deepest =
    cond (is_identifier s)
    (cond (ltb 1024 t.count) (no_plan 51)
    (cond (ltb 9 t.depth) (no_plan 51)
    (cond (is_at (current_spot t k (packed s))) (no_plan twice)
    (cond (leb 1024 t.count) (no_plan 51)
    (cond (ltb deepest t.depth) (no_plan 51) (record { number = 0; scope = here_of t; name = packed s }))))))
    (no_plan 5)

-- what is then added
unfoldable pub carried : View → ℕ → Bool → ℕ → Plan → Added
carried t k v m p = cond (eqb p.number 0) (no_entry 0 (pushed t k (bit_of v) p.scope m p.name 0 0 0)) (no_entry p.number t)

pub carried_no : (t : View) (k : ℕ) (v : Bool) (m : ℕ) (p : Plan) → (p.number ≡ 0 → ⊥) → carried t k v m p ≡ no_entry p.number t
unfolding carried
carried_no t k v m p z = rw (ne_eqb p.number 0 z)

pub carried_yes : (t : View) (k : ℕ) (v : Bool) (m : ℕ) (p : Plan) → p.number ≡ 0 → carried t k v m p ≡ no_entry 0 (pushed t k (bit_of v) p.scope m p.name 0 0 0)
unfolding carried
carried_yes t k v m p z = rw (eq-eqb p.number 0 z)

pub plan_added : (t : View) (s : List ℕ) (k twice : ℕ) (v : Bool) (m deepest : ℕ) → (twice ≡ 0 → ⊥) → carried t k v m (plan_of t s k twice deepest) ≡ added_of t s k twice v m deepest
unfolding plan_of carried added_of
plan_added t s k twice v m deepest z =
    go (is_identifier s) (ltb 1024 t.count) (ltb 9 t.depth) (is_at (current_spot t k (packed s))) (leb 1024 t.count) (ltb deepest t.depth)
  where
    go : (a b c d e f : Bool)
        → carried t k v m (cond a (cond b (no_plan 51) (cond c (no_plan 51) (cond d (no_plan twice) (cond e (no_plan 51) (cond f (no_plan 51) (record { number = 0; scope = here_of t; name = packed s })))))) (no_plan 5))
        ≡ cond a (cond b (no_entry 51 t) (cond c (no_entry 51 t) (cond d (no_entry twice t) (cond e (no_entry 51 t) (cond f (no_entry 51 t) (no_entry 0 (pushed t k (bit_of v) (here_of t) m (packed s) 0 0 0))))))) (no_entry 5 t)
    go false b c d e f = refl
    go true true c d e f = refl
    go true false true d e f = refl
    go true false false true e f = carried_no t k v m (no_plan twice) z
    go true false false false true f = refl
    go true false false false false true = refl
    go true false false false false false = refl

-- with a plan there is place
pub record Room (t : View) (deepest : ℕ) : Type 0 where
  pub count : t.count < 1024
  pub depth : t.depth ≤ deepest

pub plan_room : (t : View) (s : List ℕ) (k twice deepest : ℕ) → (twice ≡ 0 → ⊥) → (plan_of t s k twice deepest).number ≡ 0 → Room t deepest
unfolding plan_of
plan_room t s k twice deepest z q =
    go (is_identifier s) (ltb 1024 t.count) (ltb 9 t.depth) (is_at (current_spot t k (packed s))) (leb 1024 t.count) (ltb deepest t.depth) refl refl q
  where
    go : (a b c d e f : Bool) → leb 1024 t.count ≡ e → ltb deepest t.depth ≡ f
        → (cond a (cond b (no_plan 51) (cond c (no_plan 51) (cond d (no_plan twice) (cond e (no_plan 51) (cond f (no_plan 51) (record { number = 0; scope = here_of t; name = packed s })))))) (no_plan 5)).number ≡ 0 → Room t deepest
    go false b c d e f y x h = absurd (omega arith)
    go true true c d e f y x h = absurd (omega arith)
    go true false true d e f y x h = absurd (omega arith)
    go true false false true e f y x h = absurd (z h)
    go true false false false true f y x h = absurd (omega arith)
    go true false false false false true y x h = absurd (omega arith)
    go true false false false false false y x h = record { count = omega (arith, borrow.Author.Tests.leb-false 1024 t.count y); depth = omega (arith, borrow.Author.Tests.ltb-false deepest t.depth x) }

-- AS THE CODE HAS IT
unfoldable pub planned_of : Tree → List ℕ → ℕ → ℕ → ℕ → Plan
planned_of t s k twice deepest = plan_of (view t) s k twice deepest

pub planned_plan : (t : Tree) (s : List ℕ) (k twice deepest : ℕ) → planned_of t s k twice deepest ≡ plan_of (view t) s k twice deepest
unfolding planned_of
planned_plan t s k twice deepest = refl
