-- The indices of a chain, one after the other: a lookup passes these. Assumes nothing.
use Rattle.std.specs.Prelude.{ℕ, zero, suc, ◌<◌, ◌≤◌, Bool, true, false, cond, ◌≡◌, refl, List, [], ◌∷◌}
use Rattle.std.proofs.Common.{arith, ap, sym, subst, ◌∙◌}
use Rattle.std.proofs.Math.Dec.{eqb}
use Rattle.std.proofs.Math.ListN.{length}
use borrow.Author.Tests.{eq-eqb, ne_eqb, eqb-true, eqb-false}
use Rattle.bundle.specs.Bundle.{Text}
use Rattle.card.specs.declared.parts.Card.{Card}
use Rattle.card.specs.Layout.{node_limit, next_at}
use Rattle.card.specs.Index.{last-below}
use Rattle.card.specs.Card.{IndexOf, bucket_at}

-- from index i down to the last one before 0. The first number bounds how many there are
unfoldable pub down_by : ℕ → Card → ℕ → List ℕ
down_by zero c i = []
down_by (suc k) c i = cond (eqb i 0) [] (i ∷ down_by k c (next_at c i))

abbrev pub down : Card → ℕ → List ℕ
down c i = down_by i c i

-- each leads to one before it
pub record Falls (c : Card) (i : ℕ) : Type 0 where
  pub within : i < node_limit
  pub less : (j : ℕ) → (j ≡ 0 → ⊥) → j ≤ i → next_at c j < j

pub falls-of : {s : List ℕ} {ps : List Text} {c : Card} → IndexOf s ps c → (i : ℕ) → i < length ps → Falls c i
falls-of {c = c} I i h = record {
  within = omega (arith, I.count);
  less = λ j z o. let l : j < length _ = omega arith in rw (I.chains.links j l) (last-below (bucket_at c) (bucket_at c j) j z);
}

module _ (c : Card) where
  pub falls_on : (i : ℕ) → Falls c i → (i ≡ 0 → ⊥) → (m : ℕ) → m ≡ next_at c i → Falls c m
  falls_on i f z m e =
      let l : m < i = rw e (f.less i z (omega arith)) in
      record { within = omega (arith, f.within); less = λ j y o. f.less j y (omega arith) }

  by_bound : (k j i : ℕ) → Falls c i → i ≤ k → i ≤ j → down_by k c i ≡ down_by j c i
  unfolding down_by
  by_bound zero zero i f p q = refl
  by_bound zero (suc j) i f p q = let z : i ≡ 0 = omega arith in rw (eq-eqb i 0 z)
  by_bound (suc k) zero i f p q = let z : i ≡ 0 = omega arith in rw (eq-eqb i 0 z)
  by_bound (suc k) (suc j) i f p q = go (eqb i 0) refl (λ z. let l = f.less i z (omega arith) in by_bound k j (next_at c i) (falls_on i f z _ refl) (omega arith) (omega arith))
    where
      go : (u : Bool) → eqb i 0 ≡ u → ((i ≡ 0 → ⊥) → down_by k c (next_at c i) ≡ down_by j c (next_at c i)) → cond u [] (i ∷ down_by k c (next_at c i)) ≡ cond u [] (i ∷ down_by j c (next_at c i))
      go true e h = refl
      go false e h = ap (λ r. i ∷ r) (h (eqb-false i 0 e))

  -- NONE, or one and those behind it
  pub down_none : (i : ℕ) → i ≡ 0 → down c i ≡ []
  unfolding down_by
  down_none i z = rw z

  pub down_more : (i : ℕ) → Falls c i → (i ≡ 0 → ⊥) → (m : ℕ) → m ≡ next_at c i → down c i ≡ i ∷ down c m
  unfolding down_by
  down_more zero f z m e = absurd (z refl)
  down_more (suc k) f z m e =
      let l = f.less (suc k) z (omega arith) in
      rw (e, ne_eqb (suc k) 0 z) (ap (λ r. suc k ∷ r) (by_bound k (next_at c (suc k)) (next_at c (suc k)) (falls_on (suc k) f z _ refl) (omega arith) (omega arith)))

  -- what a list of them shows
  abbrev Shown : ℕ → List ℕ → Type 0
  Shown i [] = i ≡ 0
  Shown i (x ∷ r) = (i ≡ 0 → ⊥) × ((x ≡ i) × (r ≡ down c (next_at c i)))

  shown : (i : ℕ) → Falls c i → Shown i (down c i)
  shown i f = go (eqb i 0) refl
    where
      go : (u : Bool) → eqb i 0 ≡ u → Shown i (down c i)
      go true e = subst (Shown i) (sym (down_none i (eqb-true i 0 e))) (eqb-true i 0 e)
      go false e = let z = eqb-false i 0 e in subst (Shown i) (sym (down_more i f z _ refl)) (z, (refl, refl))

-- A WALK down a chain: what is known of the index that is next, the first of the list l
pub record Going (c : Card) (w : ℕ → Type 0) (l : List ℕ) : Type 0 where
  pub at : ℕ
  pub rest : l ≡ down c at
  pub walk : w at

-- it stands at x
pub record Stands (c : Card) (w : ℕ → Type 0) (x : ℕ) (r : List ℕ) : Type 0 where
  pub some : x ≡ 0 → ⊥
  pub within : x < node_limit
  pub walk : w x
  pub rest : r ≡ down c (next_at c x)

module _ {c : Card} {w : ℕ → Type 0} (F : (i : ℕ) → w i → Falls c i) {l : List ℕ} (g : Going c w l) where
  pub stands : (x : ℕ) (r : List ℕ) → l ≡ x ∷ r → Stands c w x r
  stands x r e =
      let h = subst (Shown c g.at) (sym g.rest ∙ e) (shown c g.at (F g.at g.walk)) in
      subst (λ y. Stands c w y r) (sym h.1.0) (record { some = h.0; within = (F g.at g.walk).within; walk = g.walk; rest = h.1.1 })

  pub going-end : l ≡ [] → w 0
  going-end e = subst w (subst (Shown c g.at) (sym g.rest ∙ e) (shown c g.at (F g.at g.walk))) g.walk

-- for the iterator's step
pub ruleset one_index = (down_none, down_more, falls_on)
