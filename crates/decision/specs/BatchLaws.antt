-- Laws of what a use stages: an entry put, and read. Assumes nothing.
use Rattle.std.specs.Prelude.{ℕ, zero, suc, ◌+◌, ◌-◌, ◌≤◌, ◌<◌, ◌≡◌, Bool, List, ◌++◌, length, map, take, drop, get_or, set, replicate, ◌&&◌, Option, Some, None}
use Rattle.std.specs.List.{list_any, AllWithin, HoldsAt}
use Rattle.std.specs.Option.{MatchOption, unwrap_or}
use Rattle.std.proofs.Common.{arith, ap, sym, ◌∙◌, eq-eqb, subst, length-take, get_or-take, get_or-set_other, add-one, append_assoc}
use Rattle.std.proofs.Math.Path.{refl}
use Rattle.std.proofs.Math.Bool.{true, false}
use Rattle.std.proofs.Math.ListN.{get_or-append}
use Rattle.std.proofs.lemmas.List.{get_or-map, take_more_set, set-append_right, length-map, map-append, take-append-drop, take-take, drop-take}
use Rattle.std.proofs.lemmas.List.Folds.{list_any_more, list_any_none, list_any-append}
use Rattle.names.specs.declared.Name.{Name}
use Rattle.scope_tree.specs.Kinds.{kind_number}
use Rattle.scope_tree.specs.Rows.{Arrays, is_row}
use Rattle.scope_tree.specs.Staging.{Choice, refusal, numbered, put, stored, staged_held, any_to, staged_test, choice_of, with_choice, staged_item}
use Rattle.decision.specs.declared.batch.Staged.{Staged as Entry}
use Rattle.decision.specs.Batches.{column, has_name, is_named, staged_in}

-- NOTHING STAGED
pub none-staged : (es : List Entry) → staged_in 0 es ≡ refusal 0
unfolding column
none-staged es = refl

module _ (f : Entry → ℕ) (n : ℕ) (es : List Entry) where
  column-length : n ≤ length es → length (map f (take n es)) ≡ n
  column-length h = rw (length-map, length-take) (omega arith)

  -- AN ENTRY MORE
  column-put : (e : Entry) → n < 96 → n < length es → column f (n + 1) (set es n e) ≡ set (column f n es) n (f e)
  unfolding column
  column-put e h l =
      let m : 96 - n ≡ suc (96 - (n + 1)) = omega arith in
      let r : set (map f (take n es) ++ replicate (96 - n) 0) n (f e) ≡ map f (take n es) ++ set (replicate (96 - n) 0) (n - n) (f e) =
      set-append_right (map f (take n es)) (replicate (96 - n) 0) n n (f e) (column-length (omega arith)) (omega arith) in
      let z : n - n ≡ 0 = omega arith in
      rw (take_more_set es n e l, map-append, append_assoc) (sym (r ∙ rw (z, m)))

  -- AN ENTRY READ
  pub column-get : (i : ℕ) (d : Entry) → i < length (take n es) → get_or (column f n es) i 0 ≡ f (get_or (take n es) i d)
  unfolding column
  column-get i d h =
      let k : i < length (map f (take n es)) = rw length-map h in
      get_or-append (map f (take n es)) (replicate (96 - n) 0) 0 i k ∙ get_or-map f (take n es) i d 0 h

pub batch_put : (n : ℕ) (es : List Entry) (e : Entry) → n < 96 → length es ≡ 96 → staged_in (n + 1) (set es n e) ≡ stored (staged_in n es) (kind_number e.kind) e.mark e.name e.origin e.target e.moment
batch_put n es e h l =
    let put : (f : Entry → ℕ) → column f (n + 1) (set es n e) ≡ set (column f n es) n (f e) = λ f. column-put f n es e h (omega arith) in
    λ i. record {
      number = 0;
      count = n + 1;
      kinds = put (λ (e : Entry). kind_number e.kind) i;
      marks = put (λ (e : Entry). e.mark) i;
      n0 = put (λ (e : Entry). e.name.w0) i;
      n1 = put (λ (e : Entry). e.name.w1) i;
      n2 = put (λ (e : Entry). e.name.w2) i;
      n3 = put (λ (e : Entry). e.name.w3) i;
      origins = put (λ (e : Entry). e.origin) i;
      targets = put (λ (e : Entry). e.target) i;
      times = put (λ (e : Entry). e.moment) i;
    }

-- WHETHER AN ENTRY HAS A KIND AND A NAME
module _ (n : ℕ) (es : List Entry) (l : n ≤ length es) (here k : ℕ) (x : Name) where
  held-to : (m : ℕ) → m ≤ n → any_to (let s = staged_in n es in staged_test s.kinds s.n0 s.n1 s.n2 s.n3 here k x) m ≡ list_any (is_named k x) (take m es)
  unfolding any_to staged_test is_row
  held-to zero h = refl
  held-to (suc m) h =
      let small : m < length (take n es) = rw length-take (omega arith) in
      let get : (f : Entry → ℕ) → get_or (column f n es) m 0 ≡ f (get_or es m none) = λ f. column-get f n es m none small ∙ ap f (get_or-take n es m none (omega arith)) in
      rw (held-to m (omega arith), get (λ (e : Entry). kind_number e.kind), get (λ (e : Entry). e.name.w0), get (λ (e : Entry). e.name.w1), get (λ (e : Entry). e.name.w2), get (λ (e : Entry). e.name.w3), eq-eqb here here refl, ← add-one)
      (sym (list_any_more (is_named k x) es m none (omega arith)))
    where
      none : Entry
      none = record { kind = Rattle.scope_tree.specs.declared.Kind.TheVariants.Module; name = record { w0 = 0; w1 = 0; w2 = 0; w3 = 0 }; mark = 0; origin = 0; target = 0; moment = 0 }

  pub batch-held : staged_held (staged_in n es) here k x ≡ list_any (is_named k x) (take n es)
  batch-held = held-to n (omega arith)

-- THE FIRST OF A NAME, and what is looked for from it on
module _ (x : Name) (es : List Entry) where
  abbrev Others : List Entry → ℕ → Type 0
  Others l i = AllWithin (λ e. has_name x e ≡ false) l 0 i

  pub fresh_first : (n : ℕ) → n ≤ length es → (r : Option ℕ) → MatchOption r (Others (take n es) (length (take n es))) (λ i. (i < length (take n es)) × HoldsAt (λ e. has_name x e ≡ true) (take n es) i × Others (take n es) i)
      → (unwrap_or r n ≤ n) × Others es (unwrap_or r n)
  fresh_first n l None h =
      (omega arith, λ k d a b. subst (λ (e : Entry). has_name x e ≡ false) (get_or-take n es k d b) (h k d a (rw length-take (omega arith))))
  fresh_first n l (Some i) h =
      let f : i < n = omega (arith, h.0, length-take n es) in
      (omega arith, λ k d a b. subst (λ (e : Entry). has_name x e ≡ false) (get_or-take n es k d (omega arith)) (h.2 k d a b))

  pub fresh_put : {i n : ℕ} (e : Entry) → i ≤ n → Others es i → Others (set es n e) i
  fresh_put {i} {n} e l h k d a b = subst (λ (y : Entry). has_name x y ≡ false) (sym (get_or-set_other es n k e d (λ q. omega arith))) (h k d a b)

  module _ (k : ℕ) {i n : ℕ} (l : i ≤ n) (h : Others es i) where
    unnamed : list_any (is_named k x) (take i es) ≡ false
    unnamed = list_any_none (is_named k x) (take i es) (λ j d b. let f : j < i = omega (arith, b, length-take i es) in neither _ _ (ap (has_name x) (get_or-take i es j d f) ∙ h j d (omega arith) f))
      where
        neither : (a b : Bool) → b ≡ false → (a && b) ≡ false
        neither true b e = e
        neither false b e = refl

    pub held_from : {r : Bool} → r ≡ list_any (is_named k x) (take (n - i) (drop i es)) → r ≡ list_any (is_named k x) (take n es)
    held_from q =
        let m : i + (n - i) ≡ n = omega arith in
        let s : take n es ≡ take i es ++ take (n - i) (drop i es) =
        sym (take-append-drop i (take n es)) ∙ (λ j. take-take i n es l j ++ (ap (λ (z : ℕ). drop i (take z es)) (sym m) ∙ drop-take i (n - i) es) j) in
        q ∙ sym (ap (list_any (is_named k x)) s ∙ list_any-append (is_named k x) (take i es) (take (n - i) (drop i es)) ∙ rw unnamed refl)

-- ONE KIND OF ONE ELEMENT, as the code stages it
module _ (A : Arrays) (total here scope time n : ℕ) (es : List Entry) (l : n ≤ length es) (k : ℕ) (x y : Name) {c : Choice} (q : c ≡ choice_of A total here scope time k x y) (z : c.number ≡ 0) {b : Bool} (u : b ≡ list_any (is_named k y) (take n es)) where
  pub item-clash : b ≡ true → staged_item A total here scope time (staged_in n es) k x y ≡ numbered 45 (staged_in n es)
  unfolding with_choice
  item-clash e = rw (← q, z, batch-held n es l here k y, ← u, e)

  pub item-put : b ≡ false → staged_item A total here scope time (staged_in n es) k x y ≡ put (staged_in n es) k c.mark y c.origin c.target c.moment
  unfolding with_choice
  item-put e = rw (← q, z, batch-held n es l here k y, ← u, e)
