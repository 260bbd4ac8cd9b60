-- Facts of the tests of a graph given directly. Assumes nothing.
use Rattle.std.specs.Prelude.{◌≡◌, refl, Bool, true, false, cond, ◌&&◌, ℕ, zero, suc, ◌<◌, ◌≤◌, ◌+◌, get_or, eqb, leb, ltb, Some, None}
use Rattle.std.proofs.Common.{sym, ap, ◌∙◌, ⊎_elim, add-one, arith}
use Rattle.std.specs.List.{list_all}
use Rattle.std.proofs.Math.Path.{subst}
use mathlib.Core.List.Memᴰ
use mathlib.Core.List.{List, [], ◌∷◌, Memᴰ}
use borrow.Author.Tests.{leb-true, ltb-true, eqb-true, eqb-false, le-leb, lt-leb, eq-eqb, ne_eqb}
use Rattle.refusal.specs.declared.Cause.{Cause}
use Rattle.refusal.specs.Numbers.{number_of, cause_of, causes, cause-number}
use Rattle.graph.specs.declared.Graph.{Graph}
use Rattle.graph.specs.Limits.{unit_limit, id_limit}
use Rattle.graph.specs.Given.{deps_of, below, all, counted, fits, knows, fitting, known, refusal, answer, numbered, linearize_given}
use Rattle.graph.specs.Linearize.{linearize}
use Rattle.graph.specs.Order.{Within}
use Rattle.graph.specs.State.{Sound}

and_left : (a b : Bool) → a && b ≡ true → a ≡ true
and_left true b e = refl
and_left false b e = e

and_right : (a b : Bool) → a && b ≡ true → b ≡ true
and_right true b e = e
and_right false b e = let z : ◌≡◌ {A = ℕ} 0 1 = cc in absurd (omega arith)

-- EACH NUMBER BELOW n

pub below_none : (f : ℕ → Bool) → below 0 f ≡ true
unfolding below
below_none f = refl

pub below_more : (f : ℕ → Bool) (n : ℕ) → below n f ≡ true → f n ≡ true → below (n + 1) f ≡ true
unfolding below
below_more f n e h = rw (add-one, e, h)

stop : (b : Bool) → b && false ≡ false
stop true = refl
stop false = refl

pub below_fails : (f : ℕ → Bool) (n u : ℕ) → u < n → f u ≡ false → below n f ≡ false
unfolding below
below_fails f zero u h e = absurd (omega arith)
below_fails f (suc n) u h e = go (eqb u n) refl (λ k. below_fails f n u k e)
  where
    go : (b : Bool) → eqb u n ≡ b → (u < n → below n f ≡ false) → below n f && f n ≡ false
    go true q ih = let x : f n ≡ false = rw (← eqb-true u n q) e in rw x (stop (below n f))
    go false q ih =
        let ne = eqb-false u n q in
        let k : below n f ≡ false = ih (omega arith) in
        rw k

pub below_each : (f : ℕ → Bool) (n u : ℕ) → below n f ≡ true → u < n → f u ≡ true
unfolding below
below_each f zero u e h = absurd (omega arith)
below_each f (suc n) u e h = go (eqb u n) refl (λ k. below_each f n u (and_left (below n f) (f n) e) k)
  where
    go : (b : Bool) → eqb u n ≡ b → (u < n → f u ≡ true) → f u ≡ true
    go true q ih = rw (eqb-true u n q) (and_right (below n f) (f n) e)
    go false q ih = let ne = eqb-false u n q in ih (omega arith)

-- EACH OF A LIST

pub all_is : (f : ℕ → Bool) (l : List ℕ) → all f l ≡ list_all f l
unfolding all
all_is f [] = refl
all_is f (x ∷ l) = ap (λ (b : Bool). f x && b) (all_is f l)

pub all-each : (f : ℕ → Bool) (l : List ℕ) {d : ℕ} → all f l ≡ true → Memᴰ d l → f d ≡ true
unfolding all
all-each f [] e m = absurd (Memᴰ.not-nil m)
all-each f (x ∷ l) {d} e m =
    ⊎_elim (λ q. rw q (and_left (f x) (all f l) e)) (λ k. all-each f l (and_right (f x) (all f l) e) k) (Memᴰ.cases_cons m)

-- A GRAPH THAT IS NOT REFUSED

module _ (g : Graph) (u : ℕ) where
  pub fits_more : below u (fits g) ≡ true → get_or g.start u 0 + get_or g.len u 0 ≤ g.count → below (u + 1) (fits g) ≡ true
  fits_more e h = below_more (fits g) u e (le-leb _ g.count h)

  pub fits_not : u < g.units → g.count < get_or g.start u 0 + get_or g.len u 0 → fitting g ≡ false
  unfolding fitting
  fits_not k h = below_fails (fits g) g.units u k (lt-leb _ g.count h)

  pub fits_all : below u (fits g) ≡ true → u ≡ g.units → fitting g ≡ true
  unfolding fitting
  fits_all e q = rw (← q) e

  pub knows_more : below u (knows g) ≡ true → list_all (λ d. ltb d g.units) (deps_of g u) ≡ true → below (u + 1) (knows g) ≡ true
  knows_more e h = below_more (knows g) u e (all_is (λ d. ltb d g.units) (deps_of g u) ∙ h)

  pub knows_not : u < g.units → list_all (λ d. ltb d g.units) (deps_of g u) ≡ false → known g ≡ false
  unfolding known
  knows_not k h = below_fails (knows g) g.units u k (all_is (λ d. ltb d g.units) (deps_of g u) ∙ h)

  pub knows_all : below u (knows g) ≡ true → u ≡ g.units → known g ≡ true
  unfolding known
  knows_all e q = subst (λ (n : ℕ). below n (knows g) ≡ true) q e

pub counts : (g : Graph) → counted g ≡ true → (0 < g.units) × (g.units ≤ unit_limit) × (g.count ≤ id_limit)
unfolding counted
counts g e =
    let r = and_right (leb 1 g.units) _ e in
    let a = leb-true 1 g.units (and_left (leb 1 g.units) _ e) in
    (omega arith, leb-true g.units unit_limit (and_left (leb g.units unit_limit) (leb g.count id_limit) r), leb-true g.count id_limit (and_right (leb g.units unit_limit) (leb g.count id_limit) r))

pub list_fits : (g : Graph) (u : ℕ) → fitting g ≡ true → u < g.units → get_or g.start u 0 + get_or g.len u 0 ≤ g.count
unfolding fitting
list_fits g u e h = leb-true _ _ (below_each (fits g) g.units u e h)

list-known : (g : Graph) (u d : ℕ) → known g ≡ true → u < g.units → Memᴰ d (deps_of g u) → d < g.units
unfolding known
list-known g u d e h m =
    ltb-true d g.units
    (all-each (λ d. ltb d g.units) (deps_of g u) (below_each (knows g) g.units u e h) m)

accepted : (a b c : Bool) → ◌≡◌ {A = ℕ} (cond a (cond b (cond c 0 29) 1) 3) 0 → (a ≡ true) × (b ≡ true) × (c ≡ true)
accepted true true true e = (refl, refl, refl)
accepted true true false e = absurd (omega arith)
accepted true false c e = absurd (omega arith)
accepted false b c e = absurd (omega arith)

module _ (g : Graph) (e : refusal g ≡ 0) where
  tests : (counted g ≡ true) × (fitting g ≡ true) × (known g ≡ true)
  unfolding refusal
  tests = accepted (counted g) (fitting g) (known g) e

  pub within_of : Within (deps_of g) g.units
  within_of = record { some = (counts g tests.0).0; lists = λ u d h m. list-known g u d tests.2 h m }

  pub sound-of : Sound g
  sound-of =
      let n = counts g tests.0 in
      record {
        small = n.1;
        within = within_of;
        rooms = λ u h. let f = list_fits g u tests.1 h in let k = n.2 in omega arith;
      }

pub no_zero : (c : Cause) → number_of c ≡ 0 → ⊥
unfolding cause_of causes
no_zero c e = let f : None ≡ Some c = sym (ap cause_of e) ∙ cause-number c in cc

module _ (g : Graph) where
  pub is-accepted : 0 < g.units → g.units ≤ unit_limit → g.count ≤ id_limit → fitting g ≡ true → known g ≡ true → 0 ≡ refusal g
  unfolding refusal counted
  is-accepted some small few e h = rw (le-leb 1 g.units (omega arith), le-leb g.units unit_limit small, le-leb g.count id_limit few, e, h)

  pub is-unknown : 0 < g.units → g.units ≤ unit_limit → g.count ≤ id_limit → fitting g ≡ true → known g ≡ false → 29 ≡ refusal g
  unfolding refusal counted
  is-unknown some small few e h = rw (le-leb 1 g.units (omega arith), le-leb g.units unit_limit small, le-leb g.count id_limit few, e, h)

  pub given-refused : (refusal g ≡ 0 → ⊥) → answer (refusal g) [] ≡ linearize_given g
  unfolding linearize_given
  given-refused f = rw (ne_eqb (refusal g) 0 f)

  -- what refuses it has a number that is not 0
  pub given-cause : (c : Cause) → number_of c ≡ refusal g → answer (number_of c) [] ≡ linearize_given g
  given-cause c e = ap (λ (k : ℕ). answer k []) e ∙ given-refused (λ z. no_zero c (e ∙ z))

  pub given-accepted : refusal g ≡ 0 → numbered (linearize (deps_of g) g.units) ≡ linearize_given g
  unfolding linearize_given
  given-accepted e = rw (eq-eqb (refusal g) 0 e)

-- what the code's tests of one unit after another come to
pub ruleset checks = (below_none, fits_more, fits_not, fits_all, list_fits, knows_more, knows_not, knows_all)
