-- What a use stages, over the arrays: item by item, element by element. Assumes nothing.
use Prim.Native.Nat.{ℕ, zero, suc, ◌+◌, ◌-◌, ◌≤◌, ◌<◌}
use native.Mathlib.Omega.{arith}
use Rattle.std.proofs.Common.{◌∙◌}
use Rattle.std.proofs.Math.Path.{◌≡◌, refl, ap, sym}
use Rattle.std.specs.Prelude.{Bool, ◌||◌, List, get_or, set, replicate, Option, Some, None}
use Rattle.std.proofs.Math.Bool.{true, false, cond}
use Rattle.std.proofs.Math.Dec.{eqb}
use borrow.Author.Tests.{eq-eqb, ne_eqb}
use Rattle.names.specs.declared.Name.{Name}
use Rattle.names.specs.Packed.{packed}
use Rattle.scope_tree.specs.declared.look.Place.{Place as Site}
use Rattle.scope_tree.specs.Form.{string, local_name, after_element}
use Rattle.scope_tree.specs.Rows.{Arrays, name_at, is_row, site}
use Rattle.scope_tree.specs.Index.{look_up}

abbrev pub is_at : Option ℕ → Bool
is_at None = false
is_at (Some i) = true

-- whether p holds of a number below n
unfoldable pub any_to : (ℕ → Bool) → ℕ → Bool
any_to p zero = false
any_to p (suc n) = any_to p n || p n

-- entries that a use adds, all in one scope and of one visibility; or a number
pub record Staged : Type 0 where
  pub number : ℕ
  pub count : ℕ
  pub kinds : List ℕ
  pub marks : List ℕ
  pub n0 : List ℕ
  pub n1 : List ℕ
  pub n2 : List ℕ
  pub n3 : List ℕ
  pub origins : List ℕ
  pub targets : List ℕ
  pub times : List ℕ

-- what an item of a use copies: number 0 and the entry's mark, its number plus one, and what is inside it; or a number
pub record Choice : Type 0 where
  pub number : ℕ
  pub mark : ℕ
  pub origin : ℕ
  pub target : ℕ
  pub moment : ℕ

-- nothing staged, with a number
abbrev pub refusal : ℕ → Staged
refusal n =
    record { number = n; count = 0; kinds = replicate 96 0; marks = replicate 96 0; n0 = replicate 96 0; n1 = replicate 96 0; n2 = replicate 96 0; n3 = replicate 96 0; origins = replicate 96 0; targets = replicate 96 0; times = replicate 96 0 }

abbrev pub numbered : ℕ → Staged → Staged
numbered n s =
    record { number = n; count = s.count; kinds = s.kinds; marks = s.marks; n0 = s.n0; n1 = s.n1; n2 = s.n2; n3 = s.n3; origins = s.origins; targets = s.targets; times = s.times }

-- one entry more: kind, mark, name, origin, and what is inside
abbrev pub put : Staged → ℕ → ℕ → Name → ℕ → ℕ → ℕ → Staged
put s k m n o t u =
    record {
      number = 0;
      count = s.count + 1;
      kinds = set s.kinds s.count k;
      marks = set s.marks s.count m;
      n0 = set s.n0 s.count n.w0;
      n1 = set s.n1 s.count n.w1;
      n2 = set s.n2 s.count n.w2;
      n3 = set s.n3 s.count n.w3;
      origins = set s.origins s.count o;
      targets = set s.targets s.count t;
      times = set s.times s.count u;
    }

-- whether a staged entry has the kind and the name: all stand in the scope `here`
unfoldable pub staged_test : List ℕ → List ℕ → List ℕ → List ℕ → List ℕ → ℕ → ℕ → Name → ℕ → Bool
staged_test ks a b c d here k n i = is_row here (get_or ks i 0) (name_at a b c d i) here k n

abbrev pub staged_held : Staged → ℕ → ℕ → Name → Bool
staged_held s here k n = any_to (staged_test s.kinds s.n0 s.n1 s.n2 s.n3 here k n) s.count

-- one success is enough, else the first number that isn't 43
unfoldable pub verdict_of : ℕ → ℕ → ℕ → ℕ
verdict_of a b c = cond (eqb a 0) 0 (cond (eqb b 0) 0 (cond (eqb c 0) 0 (cond (eqb a 43) (cond (eqb b 43) c b) a)))

-- the same, kind by kind
unfoldable pub verdict_so_far : ℕ → ℕ → ℕ
verdict_so_far v n = cond (eqb v 0) 0 (cond (eqb n 0) 0 (cond (eqb v 43) n v))

pub verdict_fold : (a b c : ℕ) → verdict_of a b c ≡ verdict_so_far (verdict_so_far (verdict_so_far 43 a) b) c
unfolding verdict_of verdict_so_far
verdict_fold a b c = go (eqb a 0) refl
  where
    third : (e f g : Bool) → eqb a 0 ≡ false → eqb a 43 ≡ e → eqb b 0 ≡ false → eqb b 43 ≡ f → eqb c 0 ≡ g
        → cond g 0 (cond e (cond f c b) a) ≡ cond (eqb (cond e b a) 0) 0 (cond g 0 (cond (eqb (cond e b a) 43) c (cond e b a)))
    third true true g p q r s t = rw (r, s)
    third true false g p q r s t = rw (r, s)
    third false f g p q r s t = rw (p, q)

    second : (e d : Bool) → eqb a 0 ≡ false → eqb a 43 ≡ e → eqb b 0 ≡ d
        → cond d 0 (cond (eqb c 0) 0 (cond e (cond (eqb b 43) c b) a)) ≡ cond (eqb (cond d 0 (cond e b a)) 0) 0 (cond (eqb c 0) 0 (cond (eqb (cond d 0 (cond e b a)) 43) c (cond d 0 (cond e b a))))
    second e true p q r = refl
    second e false p q r = third e (eqb b 43) (eqb c 0) p q r refl refl

    go : (d : Bool) → eqb a 0 ≡ d
        → cond d 0 (cond (eqb b 0) 0 (cond (eqb c 0) 0 (cond (eqb a 43) (cond (eqb b 43) c b) a)))
        ≡ cond (eqb (cond (eqb (cond d 0 a) 0) 0 (cond (eqb b 0) 0 (cond (eqb (cond d 0 a) 43) b (cond d 0 a)))) 0) 0 (cond (eqb c 0) 0 (cond (eqb (cond (eqb (cond d 0 a) 0) 0 (cond (eqb b 0) 0 (cond (eqb (cond d 0 a) 43) b (cond d 0 a)))) 43) c (cond (eqb (cond d 0 a) 0) 0 (cond (eqb b 0) 0 (cond (eqb (cond d 0 a) 43) b (cond d 0 a))))))
    go true q = refl
    go false q = rw q (second (eqb a 43) (eqb b 0) q refl refl)

abbrev pub no_choice : ℕ → Choice
no_choice n = record { number = n; mark = 0; origin = 0; target = 0; moment = 0 }

-- an item staged: 45 where an earlier element holds the local name
unfoldable pub with_choice : Staged → ℕ → ℕ → Name → Choice → Staged
with_choice s here k l c =
    cond (eqb c.number 0) (cond (staged_held s here k l) (numbered 45 s) (put s k c.mark l c.origin c.target c.moment)) (numbered c.number s)

module _ (A : Arrays) (total here scope time : ℕ) where
  -- the entry of that name in the module of the path
  unfoldable pub sought : ℕ → Name → Option ℕ
  sought k n = look_up A scope time k n

  -- whether the current module holds the name
  unfoldable pub occupied : ℕ → Name → Bool
  occupied k n = is_at (look_up A here total k n)

  abbrev pub inside_of : ℕ → Site
  inside_of e = site e (get_or A.kinds e 0) (get_or A.origins e 0) (get_or A.targets e 0) (get_or A.times e 0) time

  -- the entry that an item copies, or its number: 43, 44, or 45 where the current module holds the local name
  unfoldable pub chosen : ℕ → Name → Option ℕ → Choice
  chosen k l None = no_choice 43
  chosen k l (Some e) =
      cond (eqb (get_or A.visible e 0) 1)
      (cond (occupied k l) (no_choice 45) (record { number = 0; mark = get_or A.marks e 0; origin = e + 1; target = (inside_of e).scope; moment = (inside_of e).time }))
      (no_choice 44)

  unfoldable pub choice_of : ℕ → Name → Name → Choice
  choice_of k n l = chosen k l (sought k n)

  -- one kind of one element
  abbrev pub staged_item : Staged → ℕ → Name → Name → Staged
  staged_item s k n l = with_choice s here k l (choice_of k n l)

  -- one element: type, function, module
  unfoldable pub staged_element : Staged → Name → Name → Staged
  staged_element s n l =
      let a = staged_item s 1 n l in
      let b = staged_item a 2 n l in
      let c = staged_item b 3 n l in
      numbered (verdict_of a.number b.number c.number) c

  -- the elements one after another, up to the first that is refused
  unfoldable pub staged_all : List ℕ → ℕ → ℕ → Staged → Staged
  staged_all d zero p s = s
  staged_all d (suc n) p s =
      let x = staged_element s (packed (string d p)) (local_name d p) in
      cond (eqb x.number 0) (staged_all d n (after_element d p) x) x

-- an item adds one at most
pub item_count_within : (s : Staged) (here k : ℕ) (l : Name) (c : Choice) → (with_choice s here k l c).count ≤ s.count + 1
unfolding with_choice
item_count_within s here k l c = go (eqb c.number 0) (staged_held s here k l)
  where
    go : (a b : Bool) → (cond {A = Staged} a (cond {A = Staged} b (numbered 45 s) (put s k c.mark l c.origin c.target c.moment)) (numbered c.number s)).count ≤ s.count + 1
    go true true = omega arith
    go true false = omega arith
    go false b = omega arith

pub element-count : (A : Arrays) (total here scope time : ℕ) (s : Staged) (n l : Name) → (staged_element A total here scope time s n l).count ≤ s.count + 3
unfolding staged_element
element-count A total here scope time s n l =
    let a = staged_item A total here scope time s 1 n l in
    let b = staged_item A total here scope time a 2 n l in
    omega (arith, item_count_within s here 1 l (choice_of A total here scope time 1 n l), item_count_within a here 2 l (choice_of A total here scope time 2 n l), item_count_within b here 3 l (choice_of A total here scope time 3 n l))

-- an entry more, with the number as it was
abbrev pub stored : Staged → ℕ → ℕ → Name → ℕ → ℕ → ℕ → Staged
stored s k m n o t u = numbered s.number (put s k m n o t u)

module _ (A : Arrays) (total here scope time : ℕ) (n l : Name) where
  unfoldable pub kinds_from : ℕ → ℕ → ℕ → Staged → Staged
  kinds_from zero k v s = numbered v s
  kinds_from (suc m) k v s =
      kinds_from m (k + 1) (verdict_so_far v (staged_item A total here scope time s k n l).number) (numbered 0 (staged_item A total here scope time s k n l))

  -- before the kind k: v is what is told of the kinds before it, s what is staged
  pub record Kinding (s₀ : Staged) (k v : ℕ) (s : Staged) : Type 0 where
    pub small : s.count + 1 ≤ s₀.count + k
    pub fine : s.number ≡ 0
    pub same : staged_element A total here scope time s₀ n l ≡ kinds_from (4 - k) k v s

  pub kinding_start : (s₀ : Staged) → s₀.number ≡ 0 → Kinding s₀ 1 43 s₀
  unfolding staged_element kinds_from with_choice
  kinding_start s₀ z =
      let a = staged_item A total here scope time s₀ 1 n l in
      let b = staged_item A total here scope time a 2 n l in
      let c = staged_item A total here scope time b 3 n l in
      record { small = omega arith; fine = z; same = ap (λ (m : ℕ). numbered m c) (verdict_fold a.number b.number c.number) }

  module _ {s₀ : Staged} {k v : ℕ} {s : Staged} (w : Kinding s₀ k v s) where
    pub kinding_turn : k < 4 → {q : ℕ} → q ≡ (staged_item A total here scope time s k n l).number → {v' : ℕ} → v' ≡ verdict_so_far v q → {s' : Staged} → s' ≡ numbered 0 (staged_item A total here scope time s k n l) → Kinding s₀ (k + 1) v' s'
    unfolding kinds_from
    kinding_turn h {q} e {v'} f {s'} g =
        let x = staged_item A total here scope time s k n l in
        let d : 4 - k ≡ suc (4 - (k + 1)) = omega arith in
        let u : v' ≡ verdict_so_far v x.number = f ∙ ap (verdict_so_far v) e in
        record {
          small = omega (arith, w.small, ap (λ (m : Staged). m.count) g, item_count_within s here k l (choice_of A total here scope time k n l));
          fine = ap (λ (m : Staged). m.number) g;
          same = w.same ∙ ap (λ (m : ℕ). kinds_from m k v s) d ∙ (λ j. kinds_from (4 - (k + 1)) (k + 1) (sym u j) (sym g j));
        }

    ended : 4 ≤ k → numbered v s ≡ staged_element A total here scope time s₀ n l
    unfolding kinds_from
    ended h = let e : 4 - k ≡ 0 = omega arith in sym (w.same ∙ rw e)

    -- an element's number, and what is staged with it
    pub kinding_told : 4 ≤ k → v ≡ (staged_element A total here scope time s₀ n l).number
    kinding_told h = ap (λ (m : Staged). m.number) (ended h)

    pub kinding_left : 4 ≤ k → s ≡ numbered 0 (staged_element A total here scope time s₀ n l)
    kinding_left h = ap (λ (m : ℕ). numbered m s) w.fine ∙ ap (numbered 0) (ended h)

-- the loop over the elements: at the turn i of n the element stands at p, and s is staged
module _ (A : Arrays) (total here scope time : ℕ) (d : List ℕ) (at n : ℕ) where
  abbrev pub everything : Staged
  everything = staged_all A total here scope time d n at (refusal 0)

  pub record Staging (p i : ℕ) (s : Staged) : Type 0 where
    pub within : i ≤ n
    pub below : p ≤ at + Prim.Native.Nat.◌*◌ 512 i
    pub small : s.count ≤ Prim.Native.Nat.◌*◌ 3 i
    pub fine : s.number ≡ 0
    pub same : everything ≡ staged_all A total here scope time d (n - i) p s

  pub staging_start : (s : Staged) → s ≡ refusal 0 → Staging at 0 s
  staging_start s q =
      let e : n ≡ n - 0 = omega arith in
      rw q (record { within = omega arith; below = omega arith; small = omega arith; fine = refl; same = ap (λ (m : ℕ). staged_all A total here scope time d m at (refusal 0)) e })

  module _ {p i : ℕ} {s : Staged} (w : Staging p i s) where
    module _ (h : i < n) {x y : Name} (u : x ≡ packed (string d p)) (v : y ≡ local_name d p) where
      turned : let r = staged_element A total here scope time s x y in everything ≡ cond (eqb r.number 0) (staged_all A total here scope time d (n - (i + 1)) (after_element d p) r) r
      unfolding staged_all
      turned = let e : n - i ≡ suc (n - (i + 1)) = omega arith in w.same ∙ rw (e, ← u, ← v)

      pub staging_stop : {f : ℕ} → f ≡ (staged_element A total here scope time s x y).number → (f ≡ 0 → ⊥) → f ≡ everything.number
      staging_stop e z =
          let r = staged_element A total here scope time s x y in
          let t : everything ≡ r = turned ∙ rw (ne_eqb r.number 0 (λ k. z (e ∙ k))) in
          e ∙ sym (ap (λ (m : Staged). m.number) t)

      pub staging_turn : 0 ≡ (staged_element A total here scope time s x y).number → {r : Staged} → r ≡ numbered 0 (staged_element A total here scope time s x y)
          → {a : ℕ} → (a ≡ Rattle.scope_tree.specs.Form.after_string d p) × (a ≤ p + 256) → {b : ℕ} → (b ≡ Rattle.scope_tree.specs.Form.after_string d a) × (b ≤ a + 256) → Staging b (i + 1) r
      staging_turn z {r} q {a} f {b} g =
          let t : b ≡ after_element d p = g.0 ∙ ap (λ (m : ℕ). Rattle.scope_tree.specs.Form.after_string d m) f.0 in
          let k : r ≡ staged_element A total here scope time s x y = q ∙ ap (λ (m : ℕ). numbered m (staged_element A total here scope time s x y)) z in
          record {
            within = omega arith;
            below = omega (arith, w.below, f.1, g.1);
            small = omega (arith, w.small, ap (λ (m : Staged). m.count) k, element-count A total here scope time s x y);
            fine = ap (λ (m : Staged). m.number) q;
            same = rw (t, k) (turned ∙ rw (eq-eqb _ 0 (sym z)));
          }

    pub staging_end : n ≤ i → s ≡ everything
    unfolding staged_all
    staging_end h = let e : n - i ≡ 0 = omega arith in sym (w.same ∙ rw e)

-- the loops' laws, for the tactics
pub ruleset kinding_steps = (kinding_start, kinding_turn, kinding_told, kinding_left)

pub ruleset staging_steps = (staging_start, staging_stop, staging_turn, staging_end)
