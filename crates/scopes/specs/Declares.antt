-- A declaration, a get and an exit, as the code makes them. Assumes nothing.
use Rattle.std.specs.Prelude.{ℕ, ◌-◌, ◌<◌, ◌≡◌, Bool, true, false, cond, List, ltb, get_or, set, take, Option, Some, None}
use Rattle.std.proofs.Common.{arith, ap, sym, subst, ◌∙◌, length-set, get_or-set_same, get_or-set_other}
use Rattle.std.proofs.Math.Path.{refl}
use Rattle.std.proofs.lemmas.List.{take-set-le}
use Rattle.names.specs.Packed.{packed}
use Rattle.names.specs.Identifier.{is_identifier}
use Rattle.scope_tree.specs.Told.{Told, Done, Refused}
use Rattle.scope_tree.specs.declared.Tree.{Tree}
use Rattle.scope_tree.specs.Entries.{Entry}
use Rattle.scope_tree.specs.Note.{accepted}
use Rattle.scope_tree.specs.Form.{Request, enters, exits, inserts_alias, inserts_enum, inserts_function, gets_alias, gets_function}
use Rattle.scope_tree.specs.Views.{View, ViewOutcome, ViewMeets, told, bit_of, no_entry, pushed, added_of, ended, ended_no, ended_yes, opened_last, current_spot, mark_at, got_of}
use Rattle.decision.specs.Calls.{popped, exit-root, exit_module, alias_meets, enum_meets, function_meets, enter_meets, got-alias, got-function}
use Rattle.scope_tree.specs.Trees.{part, index_of, doors_of, view, Sized}
use Rattle.scopes.specs.Meets.{Meets, Answers, number_of_told, left, with_opened}
use Rattle.scope_tree.specs.Pack.{view-sized, added, added-sized, shut-view, opened_view}
use Rattle.decision.specs.Plan.{Plan, planned_of, planned_plan, carried, carried_no, carried_yes, plan_added, plan_room, Room}

abbrev of_view : Told → View → ViewOutcome
of_view a t = record { answer = a; tree = t }

-- what is known of the view is known of the tree
pub bridge : {t u : Tree} {q : Request} {a : Told} (x : ViewOutcome) → (Sized t → ViewMeets (view t) q x) → (Sized t → Sized u) → (Sized t → of_view a (view u) ≡ x) → (accepted (told a) ≡ false → u ≡ t) → (number_of_told a ≡ 0 → accepted (told a) ≡ true) → Meets t q (left a u)
bridge {t} {u} {q} {a} x m z e k n' =
    let n : Sized t → ViewMeets (view t) q (of_view a (view u)) = λ s. subst (ViewMeets (view t) q) (sym (e s)) (m s) in
    record {
      good = λ g. record { sized = z g.sized; good = (n g.sized).good g.good };
      tree = λ g. (n g.sized).tree g.good;
      answer = λ g. (n g.sized).answer g.good;
      kept = k;
      numbered = n';
    }

-- A DECLARATION, as the code makes it: the request is the one of the kind
pub record Declares (t : Tree) (s : List ℕ) (k twice deepest : ℕ) (v : Bool) (m : ℕ) (o : Bool) (a : Told) (u : Tree) : Type 0 where
  pub sized : Sized t → Sized u
  pub same : Sized t → of_view a (view u) ≡ ended (λ x. cond o (opened_last x) x) (added_of (view t) s k twice v m deepest)
  pub kept : accepted (told a) ≡ false → u ≡ t
  pub numbered : number_of_told a ≡ 0 → accepted (told a) ≡ true

-- the entry of a plan
abbrev pub entry_planned : ℕ → ℕ → ℕ → Bool → Plan → Entry
entry_planned k v m o p = record { kind = k; visible = v; scope = p.scope; mark = m; name = p.name; origin = 0; target = 0; moment = 0; opens = o }

abbrev pub entry_of : ℕ → Bool → ℕ → Bool → Plan → Entry
entry_of k v m o p = entry_planned k (bit_of v) m o p

pub declare_room : (t : Tree) (s : List ℕ) (k twice deepest : ℕ) (p : Plan) → p ≡ planned_of t s k twice deepest → (twice ≡ 0 → ⊥) → p.number ≡ 0 → Room (view t) deepest
declare_room t s k twice deepest p e nz z = plan_room (view t) s k twice deepest nz (ap (λ (x : Plan). x.number) (sym (e ∙ planned_plan t s k twice deepest)) ∙ z)

pub declare_ready : (t : Tree) (s : List ℕ) (k twice deepest : ℕ) (p : Plan) → p ≡ planned_of t s k twice deepest → (twice ≡ 0 → ⊥) → p.number ≡ 0 → {o : Bool} → (o ≡ true → deepest ≡ 8) → (c : ℕ) → c ≡ get_or t.opened 9 0
    → {x : Bool} → x ≡ o → (c < 1024) × (x ≡ true → get_or t.opened 10 0 < 9)
declare_ready t s k twice deepest p e nz z l c q f = let r = declare_room t s k twice deepest p e nz z in (omega (arith, r.count, q), λ y. omega (arith, r.depth, l (sym f ∙ y)))

module _ (t : Tree) (s : List ℕ) (k twice deepest : ℕ) (v : Bool) (m : ℕ) (o : Bool) (p : Plan) (e : p ≡ planned_of t s k twice deepest) (nz : twice ≡ 0 → ⊥) where
  planned_same : carried (view t) k v m p ≡ added_of (view t) s k twice v m deepest
  planned_same = rw (e, planned_plan) (plan_added (view t) s k twice v m deepest nz)

  pub declare_no : (p.number ≡ 0 → ⊥) → Declares t s k twice deepest v m o (Refused p.number) t
  declare_no z =
      record {
        sized = λ y. y;
        same = λ y. ended_no (λ x. cond o (opened_last x) x) (no_entry p.number (view t)) z ∙ ap (ended (λ x. cond o (opened_last x) x)) (sym (carried_no (view t) k v m p z) ∙ planned_same);
        kept = λ q. refl;
        numbered = λ q. absurd (z q);
      }

  pub declare_yes : p.number ≡ 0 → (o ≡ true → deepest ≡ 8) → (b : ℕ) → b ≡ bit_of v → (c : ℕ) → c ≡ get_or t.opened 9 0 → (x : Entry) → x ≡ entry_planned k b m o p → (u : Tree) → u ≡ added c t x → Declares t s k twice deepest v m o Done u
  declare_yes z l b w c y₀ x f u q =
      let r = declare_room t s k twice deepest p e nz z in
      let q' : u ≡ added c t (entry_of k v m o p) = q ∙ ap (added c t) (f ∙ ap (λ (i : ℕ). entry_planned k i m o p) w) in
      record {
        sized = λ y. subst Sized (sym q') (added-sized c t (entry_of k v m o p) y);
        same = λ y. ap (λ (x : Tree). of_view Done (view x)) q' ∙ ap (of_view Done) (shown y r o refl) ∙ ended_yes (λ x. cond o (opened_last x) x) (no_entry 0 (pushed (view t) k (bit_of v) p.scope m p.name 0 0 0)) refl
            ∙ ap (ended (λ x. cond o (opened_last x) x)) (sym (carried_yes (view t) k v m p z) ∙ planned_same);
        kept = λ x. let c : ◌≡◌ {A = ℕ} 0 1 = cc in absurd (omega arith);
        numbered = λ x. refl;
      }
    where
      shown : Sized t → Room (view t) deepest → (b : Bool) → o ≡ b → view (added c t (entry_of k v m o p)) ≡ cond o (opened_last (pushed (view t) k (bit_of v) p.scope m p.name 0 0 0)) (pushed (view t) k (bit_of v) p.scope m p.name 0 0 0)
      shown y r true f = opened_view c t (entry_of k v m o p) y₀ y (omega (arith, r.count)) (omega (arith, r.depth, l f)) f ∙ rw f
      shown y r false f = shut-view c t (entry_of k v m o p) y₀ y (omega (arith, r.count)) f ∙ rw f

-- the four declarations
module _ {t u : Tree} {s : List ℕ} {v : Bool} {m : ℕ} {a : Told} where
  pub meets_alias : Declares t s 1 48 9 v m false a u → Meets t (inserts_alias s v m) (left a u)
  meets_alias d = bridge _ (λ z. alias_meets (view t) s v m (view-sized t z)) d.sized d.same d.kept d.numbered

  pub meets_enum : Declares t s 1 48 9 v m false a u → Meets t (inserts_enum s v m) (left a u)
  meets_enum d = bridge _ (λ z. enum_meets (view t) s v m (view-sized t z)) d.sized d.same d.kept d.numbered

  pub meets_function : Declares t s 2 49 9 v m false a u → Meets t (inserts_function s v m) (left a u)
  meets_function d = bridge _ (λ z. function_meets (view t) s v m (view-sized t z)) d.sized d.same d.kept d.numbered

  pub meets_enter : Declares t s 3 47 8 v m true a u → Meets t (enters s v m) (left a u)
  meets_enter d = bridge _ (λ z. enter_meets (view t) s v m (view-sized t z)) d.sized d.same d.kept d.numbered

-- A GET
pub answers-alias : (t : Tree) (s : List ℕ) (a : Told) → a ≡ got_of (view t) s 1 → Answers t (gets_alias s) a
answers-alias t s a q = let w = got-alias (view t) s in record { tree = λ g. w.tree g.good; answer = λ g. ap told q ∙ w.answer g.good }

pub answers-function : (t : Tree) (s : List ℕ) (a : Told) → a ≡ got_of (view t) s 2 → Answers t (gets_function s) a
answers-function t s a q = let w = got-function (view t) s in record { tree = λ g. w.tree g.good; answer = λ g. ap told q ∙ w.answer g.good }

-- a get over lent arrays leaves them
got-numbered : (t : Tree) (s : List ℕ) (k : ℕ) {a : Told} → a ≡ got_of (view t) s k → number_of_told a ≡ 0 → accepted (told a) ≡ true
unfolding got_of
got-numbered t s k q = subst (λ (x : Told). number_of_told x ≡ 0 → accepted (told x) ≡ true) (sym q) (go (is_identifier s) (ltb 1024 (view t).count) (ltb 9 (view t).depth) (current_spot (view t) k (packed s)))
  where
    go : (a b c : Bool) (d : Option ℕ) → number_of_told (cond a (cond b (Refused 51) (cond c (Refused 51) (mark_at (view t) d))) (Refused 5)) ≡ 0 → accepted (told (cond a (cond b (Refused 51) (cond c (Refused 51) (mark_at (view t) d))) (Refused 5))) ≡ true
    go false b c d z = absurd (omega arith)
    go true true c d z = absurd (omega arith)
    go true false true d z = absurd (omega arith)
    go true false false None z = absurd (omega arith)
    go true false false (Some i) z = refl

pub meets_get-alias : (t : Tree) (s : List ℕ) {x : Tree} → x ≡ t → {a : Told} → a ≡ got_of (view x) s 1 → Meets t (gets_alias s) (left a t)
meets_get-alias t s f {a} e =
    let q : a ≡ got_of (view t) s 1 = e ∙ ap (λ (y : Tree). got_of (view y) s 1) f in
    let w = answers-alias t s a q in
    record { good = λ g. g; tree = w.tree; answer = w.answer; kept = λ e. refl; numbered = got-numbered t s _ q }

pub meets_get-function : (t : Tree) (s : List ℕ) {x : Tree} → x ≡ t → {a : Told} → a ≡ got_of (view x) s 2 → Meets t (gets_function s) (left a t)
meets_get-function t s f {a} e =
    let q : a ≡ got_of (view t) s 2 = e ∙ ap (λ (y : Tree). got_of (view y) s 2) f in
    let w = answers-function t s a q in
    record { good = λ g. g; tree = w.tree; answer = w.answer; kept = λ e. refl; numbered = got-numbered t s _ q }

-- AN EXIT
pub leave-root : (t : Tree) (o : List ℕ) → get_or o 10 0 ≡ 0 → Meets (with_opened t o) exits (left (Refused 50) (with_opened t o))
leave-root t o z = bridge _ (λ s. exit-root (view (with_opened t o)) z) (λ s. s) (λ s. refl) (λ e. refl) (λ e. absurd (omega arith))

pub leave_module : (t : Tree) (o : List ℕ) → (get_or o 10 0 ≡ 0 → ⊥) → Meets (with_opened t o) exits (left Done (with_opened t (set o 10 (get_or o 10 0 - 1))))
unfolding doors_of
leave_module t o z =
    bridge _ (λ s. exit_module (view (with_opened t o)) z)
    (λ s. record { opened = simp length-set s.opened; cells = s.cells; visible = s.visible; scopes = s.scopes; marks = s.marks; n0 = s.n0; n1 = s.n1; n2 = s.n2; n3 = s.n3 })
    (λ s. same s) (λ e. let c : ◌≡◌ {A = ℕ} 0 1 = cc in absurd (omega arith)) (λ e. refl)
  where
    same : Sized (with_opened t o) → of_view Done (view (with_opened t (set o 10 (get_or o 10 0 - 1)))) ≡ of_view Done (popped (view (with_opened t o)))
    same s =
        let d = get_or o 10 0 - 1 in
        let count : get_or (set o 10 d) 9 0 ≡ get_or o 9 0 = get_or-set_other o 10 9 d 0 (λ q. omega arith) in
        let depth : get_or (set o 10 d) 10 0 ≡ d = get_or-set_same o 10 d 0 (omega (arith, s.opened)) in
        let stack : take 9 (set o 10 d) ≡ take 9 o = take-set-le 9 o 10 d (omega arith) in
        λ i. of_view Done (record { count = count i; kinds = part 0 t.cells; visible = t.visible; scopes = t.scopes; marks = t.marks; n0 = t.n0; n1 = t.n1; n2 = t.n2; n3 = t.n3; origins = part 1024 t.cells; targets = part 2048 t.cells; times = part 3072 t.cells; index = index_of t.cells; depth = depth i; stack = stack i })

-- the laws of an exit, for the tactics
pub ruleset exit_steps = (leave-root, leave_module)
