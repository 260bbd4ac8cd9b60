-- How deep a walk through a tree's index goes: an entry met at a depth has the bits that the walk took to it, so that a walk meets 383
-- entries at most. Assumes nothing.
use Prim.Native.Nat.{ℕ, zero, suc, pred, ◌+◌, ◌*◌, ◌≤◌, ◌<◌}
use Rattle.std.proofs.Common.{arith, add-one, ap, sym, ◌∙◌, length-set, get_or-set_same, get_or-set_other, eq-eqb, ne_eqb, eqb-true}
use Rattle.std.proofs.Math.Decide.{dec_lt}
use Rattle.std.specs.Prelude.{◌≡◌, Bool, List, eqb, ltb, set, length}
use Rattle.std.proofs.Math.Path.{refl, subst}
use Rattle.std.proofs.Math.Bool.{true, false, cond}
use Rattle.std.proofs.Math.ListN.{get_or}
use Rattle.std.proofs.lemmas.List.{length-replicate}
use Rattle.std.proofs.lemmas.Bool.{eqb-false}
use Rattle.names.specs.declared.Name.{Name}
use Rattle.scope_tree.specs.Rows.{name_at}
use Rattle.scope_tree.specs.Index.{bucket, bucket-below, mix, turn, turn_below, place_in, below, reach, reach_old, free_slot, start_at, way_at, Walked, walked_none, walked_more}
use Rattle.scope_tree.specs.Routes.{Key, route_one}
use Rattle.scope_tree.specs.Views.{View, Sized, cleared, pushed, start_after, way_after, start-kept, way-kept, start-last, way-last}
use Rattle.scope_tree.specs.Trees.{view, Sized as TreeSized}
use Rattle.scope_tree.specs.Pack.{clear-get, view-sized, added, shut-view, opened_view}
use Rattle.scope_tree.specs.declared.Tree.{Tree}
use Rattle.scope_tree.specs.Entries.{Entry}

-- AN INDEX AS ADDITIONS MAKE IT: entry n goes to the slot that its own walk ends at
module _ (start : ℕ → ℕ) (way : ℕ → ℕ → ℕ) where
  pub data Grown : List ℕ → ℕ → Type 0 where
    none : {xs : List ℕ} → length xs ≡ 3072 → ((σ : ℕ) → get_or xs σ 0 ≡ 0) → Grown xs 0
    more : {xs : List ℕ} {n : ℕ} → Grown xs n → n < 1024 → start n < 1024 → ((d : ℕ) → way n d < 2) → Grown (set xs (reach xs (way n) 1024 0 (start n)) (suc n)) (suc n)

  grown-long : {xs : List ℕ} {n : ℕ} → Grown xs n → length xs ≡ 3072
  grown-long (none l w) = l
  grown-long (more g h sb wb) = simp length-set (grown-long g)

  grown-walked : {xs : List ℕ} {n : ℕ} → Grown xs n → Walked xs start way n
  grown-walked (none {xs} l w) = walked_none xs start way w
  grown-walked (more {xs} {n} g h sb wb) = walked_more xs start way n (grown-long g) h sb wb (grown-walked g)

  -- entry i stands in the slot σ, at the depth `dep i`: in the slot of its hash, or below entry j, with j's bits and one more
  record Hangs (dep : ℕ → ℕ) (σ i : ℕ) : Type 0 where
    root : σ < 1024 → (start i ≡ σ) × (dep i ≡ 0)
    under : (j x : ℕ) → x < 2 → σ ≡ 1024 + 2 * j + x → (dep i ≡ suc (dep j)) × ((start i ≡ start j) × (((e : ℕ) → e < dep j → way i e ≡ way j e) × (way i (dep j) ≡ x)))

  record Hung (xs : List ℕ) : Type 0 where
    dep : ℕ → ℕ
    held : (σ i : ℕ) → get_or xs σ 0 ≡ suc i → Hangs dep σ i

  -- A WALK from the slot b by the bits f
  module _ (dep : ℕ → ℕ) (b : ℕ) (f : ℕ → ℕ) where
    -- an entry met at a depth
    record Met (d i : ℕ) : Type 0 where
      deep : dep i ≡ d
      begins : start i ≡ b
      bits : (e : ℕ) → e < d → way i e ≡ f e

    -- a slot come to at a depth
    data Come (d σ : ℕ) : Type 0 where
      first : d ≡ 0 → σ ≡ b → Come d σ
      later : (c j : ℕ) → d ≡ suc c → σ ≡ 1024 + 2 * j + f c → Met c j → Come d σ

    module _ (xs : List ℕ) (held : (σ i : ℕ) → get_or xs σ 0 ≡ suc i → Hangs dep σ i) (bb : b < 1024) (fb : (d : ℕ) → f d < 2) where
      meets : (d σ i : ℕ) → Come d σ → get_or xs σ 0 ≡ suc i → Met d i
      meets d σ i (first e q) h =
          let r = (held σ i h).root (rw q bb) in
          record { deep = r.1 ∙ sym e; begins = r.0 ∙ q; bits = λ j l. absurd (omega arith) }
      meets d σ i (later c j e q m) h =
          let u = (held σ i h).under j (f c) (fb c) q in
          let k : dep j ≡ c = m.deep in
          record { deep = u.0 ∙ ap suc k ∙ sym e; begins = u.1.0 ∙ m.begins; bits = λ a l. go a l (dec_lt a c) u k }
        where
          go : (a : ℕ) → a < d → Dec (a < c) → (dep i ≡ suc (dep j)) × ((start i ≡ start j) × (((e : ℕ) → e < dep j → way i e ≡ way j e) × (way i (dep j) ≡ f c))) → dep j ≡ c → way i a ≡ f a
          go a l (yes y) u k = u.1.1.0 a (omega arith) ∙ m.bits a y
          go a l (no y) u k = let z : a ≡ c = omega arith in let w : a ≡ dep j = z ∙ sym k in ap (way i) w ∙ u.1.1.1 ∙ ap f (sym z)

      goes : (d σ i : ℕ) → Come d σ → get_or xs σ 0 ≡ suc i → Come (suc d) (below f d i)
      unfolding below
      goes d σ i w h = later d i refl refl (meets d σ i w h)

      -- the slot that a walk ends at was come to
      reached : (m d σ : ℕ) → Come d σ → (c : ℕ) × Come c (reach xs f m d σ)
      unfolding reach place_in
      reached zero d σ w = (d, w)
      reached (suc m) d σ w = go (place_in (get_or xs σ 0) 1024) refl (λ i. reached m (suc d) (below f d i))
        where
          real : (i : ℕ) → place_in (get_or xs σ 0) 1024 ≡ suc i → get_or xs σ 0 ≡ suc i
          real i = pick (ltb 1024 (get_or xs σ 0))
            where
              pick : (t : Bool) → cond t 0 (get_or xs σ 0) ≡ suc i → get_or xs σ 0 ≡ suc i
              pick true e = absurd (omega arith)
              pick false e = e

          go : (p : ℕ) → place_in (get_or xs σ 0) 1024 ≡ p → ((i : ℕ) → Come (suc d) (below f d i) → (c : ℕ) × Come c (reach xs f m (suc d) (below f d i))) → (c : ℕ) × Come c (Rattle.scope_tree.specs.Index.past σ (λ i. reach xs f m (suc d) (below f d i)) p)
          go zero e ih = (d, w)
          go (suc i) e ih = ih i (goes d σ i w (real i e))

  -- ONE MORE ENTRY
  module _ (xs : List ℕ) (n : ℕ) (long : length xs ≡ 3072) (W : Walked xs start way n) (l : n < 1024) (sb : start n < 1024) (wb : (d : ℕ) → way n d < 2) (H : Hung xs) where
    abbrev E : ℕ
    E = reach xs (way n) 1024 0 (start n)

    old : E < 1024 + 2 * n
    old = reach_old xs (way n) n wb W.small (omega arith) 1024 0 (start n) (omega arith)

    end : (c : ℕ) × Come H.dep (start n) (way n) c E
    end = reached H.dep (start n) (way n) xs H.held sb wb 1024 0 (start n) (first refl refl)

    abbrev dep' : ℕ → ℕ
    dep' i = cond (eqb i n) end.0 (H.dep i)

    dep-new : dep' n ≡ end.0
    dep-new = rw (eq-eqb n n refl)

    dep_old : (i : ℕ) → i < n → dep' i ≡ H.dep i
    dep_old i h = rw (ne_eqb i n (λ z. omega arith))

    hangs_new : Hangs dep' E n
    hangs_new = record { root = λ h. at_root h end.1; under = λ j x h q. below-entry j x h q end.1 }
      where
        at_root : E < 1024 → Come H.dep (start n) (way n) end.0 E → (start n ≡ E) × (dep' n ≡ 0)
        at_root h (first e q) = (sym q, dep-new ∙ e)
        at_root h (later c j e q m) = absurd (omega arith)

        below-entry : (j x : ℕ) → x < 2 → E ≡ 1024 + 2 * j + x → Come H.dep (start n) (way n) end.0 E
            → (dep' n ≡ suc (dep' j)) × ((start n ≡ start j) × (((e : ℕ) → e < dep' j → way n e ≡ way j e) × (way n (dep' j) ≡ x)))
        below-entry j x h q (first e p) = absurd (omega arith)
        below-entry j x h q (later c i e p m) =
            let y = wb c in
            let z : i ≡ j = omega arith in
            let k : dep' j ≡ c = dep_old j (omega (arith, old)) ∙ ap H.dep (sym z) ∙ m.deep in
            (dep-new ∙ e ∙ ap suc (sym k), (sym m.begins ∙ ap start z, ((λ a r. sym (m.bits a (rw k at r)) ∙ ap (λ (v : ℕ). way v a) z), ap (way n) k ∙ (omega arith))))

    hangs_old : (σ i : ℕ) → get_or xs σ 0 ≡ suc i → Hangs dep' σ i
    hangs_old σ i h =
        let s = W.small σ in
        let o = dep_old i (omega arith) in
        let w = H.held σ i h in
        record {
          root = λ r. ((w.root r).0, o ∙ (w.root r).1);
          under = λ j x r q.
              let u = w.under j x r q in
              let k : dep' j ≡ H.dep j = dep_old j (lower j x (dec_lt j n) q) in
              (o ∙ u.0 ∙ ap suc (sym k), (u.1.0, ((λ a v. u.1.1.0 a (rw k at v)), ap (way i) k ∙ u.1.1.1)));
        }
      where
        lower : (j x : ℕ) → Dec (j < n) → σ ≡ 1024 + 2 * j + x → j < n
        lower j x (yes v) q = v
        lower j x (no v) q = let z = W.fresh σ (omega arith) in absurd (omega arith)

    hangs_all : Hung (set xs E (suc n))
    hangs_all = record { dep = dep'; held = λ σ i h. go σ i (eqb σ E) refl h }
      where
        go : (σ i : ℕ) (t : Bool) → eqb σ E ≡ t → get_or (set xs E (suc n)) σ 0 ≡ suc i → Hangs dep' σ i
        go σ i true y h =
            let z = eqb-true σ E y in
            let s : get_or (set xs E (suc n)) E 0 ≡ suc n = get_or-set_same xs E (suc n) 0 (omega (arith, old)) in
            let v : i ≡ n = omega (arith, ap (λ (x : ℕ). get_or (set xs E (suc n)) x 0) z) in
            subst (λ (x : ℕ). Hangs dep' x i) (sym z) (subst (Hangs dep' E) (sym v) hangs_new)
        go σ i false y h = hangs_old σ i (sym (get_or-set_other xs E σ (suc n) 0 (eqb-false σ E y)) ∙ h)

  hung : {xs : List ℕ} {n : ℕ} → Grown xs n → Hung xs
  hung (none {xs} l w) = record { dep = λ i. 0; held = λ σ i h. let z = w σ in absurd (omega arith) }
  hung (more {xs} {n} g l sb wb) = hangs_all xs n (grown-long g) (grown-walked g) l sb wb (hung g)

  -- THE SLOT of a walk at a depth, while it meets entries
  unfoldable pub slot_at : List ℕ → ℕ → (ℕ → ℕ) → ℕ → ℕ
  slot_at xs b f zero = b
  slot_at xs b f (suc d) = below f d (pred (get_or xs (slot_at xs b f d) 0))

  module _ {xs : List ℕ} {n : ℕ} (g : Grown xs n) (b : ℕ) (f : ℕ → ℕ) (bb : b < 1024) (fb : (d : ℕ) → f d < 2) where
    come : (d : ℕ) → ((e : ℕ) → e < d → 0 < get_or xs (slot_at xs b f e) 0) → Come (hung g).dep b f d (slot_at xs b f d)
    unfolding slot_at
    come zero w = first refl refl
    come (suc d) w =
        let h = w d (omega arith) in
        goes (hung g).dep b f xs (hung g).held bb fb d (slot_at xs b f d) (pred (get_or xs (slot_at xs b f d) 0)) (come d (λ e l. w e (omega arith))) (omega arith)

    met_at : (d i : ℕ) → ((e : ℕ) → e < d → 0 < get_or xs (slot_at xs b f e) 0) → get_or xs (slot_at xs b f d) 0 ≡ suc i → Met (hung g).dep b f d i
    met_at d i w h = meets (hung g).dep b f xs (hung g).held bb fb d (slot_at xs b f d) i (come d w) h

    -- THE THEOREM: an entry that a walk meets at a depth has the walk's hash and the bits that the walk took to it
    pub shares : (d i : ℕ) → ((e : ℕ) → e < d → 0 < get_or xs (slot_at xs b f e) 0) → get_or xs (slot_at xs b f d) 0 ≡ suc i → (start i ≡ b) × ((e : ℕ) → e < d → way i e ≡ f e)
    shares d i w h = let m = met_at d i w h in (m.begins, m.bits)

    -- and is met at no other
    pub once : (c d i : ℕ) → ((e : ℕ) → e < c → 0 < get_or xs (slot_at xs b f e) 0) → get_or xs (slot_at xs b f c) 0 ≡ suc i
        → ((e : ℕ) → e < d → 0 < get_or xs (slot_at xs b f e) 0) → get_or xs (slot_at xs b f d) 0 ≡ suc i → c ≡ d
    once c d i v h w k = sym (met_at c i v h).deep ∙ (met_at d i w k).deep

-- THE BOUND: where no two entries have one scope, kind and name, a walk for a scope, a kind and a name meets 383 entries at most
module _ (ss ks a b c d : List ℕ) {xs : List ℕ} {total : ℕ} (g : Grown (start_at ss ks a b c d) (way_at ss ks a b c d) xs total)
    (fit : (i : ℕ) → i < total → Key (get_or ss i 0) (get_or ks i 0) (name_at a b c d i))
    (apart : (i j : ℕ) → i < total → j < total → get_or ss i 0 ≡ get_or ss j 0 → get_or ks i 0 ≡ get_or ks j 0 → name_at a b c d i ≡ name_at a b c d j → i ≡ j)
    (s k : ℕ) (n : Name) (key : Key s k n) where
  abbrev walk_slot : ℕ → ℕ
  walk_slot = slot_at (start_at ss ks a b c d) (way_at ss ks a b c d) xs (bucket s k n) (turn s k n)

  module _ (w : (e : ℕ) → e < 384 → 0 < get_or xs (walk_slot e) 0) where
    one : (e : ℕ) → 382 ≤ e → e < 384 → (i : ℕ) → get_or xs (walk_slot e) 0 ≡ suc i → (i < total) × ((get_or ss i 0 ≡ s) × ((get_or ks i 0 ≡ k) × (name_at a b c d i ≡ n)))
    one e h l i q =
        let m = (grown-walked (start_at ss ks a b c d) (way_at ss ks a b c d) g).small (walk_slot e) in
        let z = shares (start_at ss ks a b c d) (way_at ss ks a b c d) g (bucket s k n) (turn s k n) (bucket-below s k n) (turn_below (mix s k n) s k n) e i (λ j r. w j (omega arith)) q in
        let y : i < total = omega arith in
        (y, route_one (get_or ss i 0) (get_or ks i 0) (name_at a b c d i) s k n (λ j r. z.1 j (omega arith)) (fit i y) key)

    pub few-met : ⊥
    few-met =
        let u = w 382 (omega arith) in
        let v = w 383 (omega arith) in
        let i = pred (get_or xs (walk_slot 382) 0) in
        let j = pred (get_or xs (walk_slot 383) 0) in
        let p : get_or xs (walk_slot 382) 0 ≡ suc i = omega arith in
        let q : get_or xs (walk_slot 383) 0 ≡ suc j = omega arith in
        let x = one 382 (omega arith) (omega arith) i p in
        let y = one 383 (omega arith) (omega arith) j q in
        let z : i ≡ j = apart i j x.0 y.0 (x.1.0 ∙ sym y.1.0) (x.1.1.0 ∙ sym y.1.1.0) (x.1.1.1 ∙ sym y.1.1.1) in
        let o = once (start_at ss ks a b c d) (way_at ss ks a b c d) g (bucket s k n) (turn s k n) (bucket-below s k n) (turn_below (mix s k n) s k n) 382 383 i (λ e r. w e (omega arith)) p (λ e r. w e (omega arith)) (q ∙ ap suc (sym z)) in
        omega arith

-- OF A TREE: additions to the cleared one make its index
abbrev pub GrownOf : View → Type 0
GrownOf t = Grown (start_at t.scopes t.kinds t.n0 t.n1 t.n2 t.n3) (way_at t.scopes t.kinds t.n0 t.n1 t.n2 t.n3) t.index t.count

-- the same entries
grown_agree : {start : ℕ → ℕ} {way : ℕ → ℕ → ℕ} (start' : ℕ → ℕ) (way' : ℕ → ℕ → ℕ) {xs : List ℕ} {n : ℕ} → ((i : ℕ) → i < n → start' i ≡ start i) → ((i : ℕ) → i < n → way' i ≡ way i) → Grown start way xs n → Grown start' way' xs n
grown_agree start' way' p r (none l w) = none l w
grown_agree start' way' p r (more {xs} {n} g l sb wb) =
    let e = p n (omega arith) in
    let f = r n (omega arith) in
    subst (λ (x : ℕ). Grown start' way' (set xs x (suc n)) (suc n)) (λ j. reach xs (f j) 1024 0 (e j))
    (more (grown_agree start' way' (λ i h. p i (omega arith)) (λ i h. r i (omega arith)) g) l (rw e sb) (rw f wb))

pub cleared-grown : GrownOf cleared
cleared-grown = none (length-replicate {A = ℕ} 3072 0) (clear-get 3072)

module _ (t : View) (k v s m : ℕ) (n : Name) (o a u : ℕ) (z : Sized t) (l : t.count < 1024) where
  pub pushed-grown : GrownOf t → GrownOf (pushed t k v s m n o a u)
  unfolding free_slot
  pushed-grown g =
      let e = start-last t k v s m n o a u z l in
      let f = way-last t k v s m n o a u z l in
      let start = start_after t k v s m n o a u in
      let way = way_after t k v s m n o a u in
      let h = more (grown_agree start way (start-kept t k v s m n o a u) (way-kept t k v s m n o a u) g) l (rw e (bucket-below s k n)) (rw f (turn_below (mix s k n) s k n)) in
      let i : Grown start way (set t.index (reach t.index (turn s k n) 1024 0 (bucket s k n)) (suc t.count)) (suc t.count) =
      subst (λ (x : ℕ). Grown start way (set t.index x (suc t.count)) (suc t.count)) (λ j. reach t.index (f j) 1024 0 (e j)) h in
      subst (λ (x : ℕ). Grown start way (set t.index (reach t.index (turn s k n) 1024 0 (bucket s k n)) x) x) (sym (add-one t.count)) i

-- an entry as the writer adds it, whether or not a module opens
pub added-grown : (c : ℕ) (t : Tree) (e : Entry) → c ≡ get_or t.opened 9 0 → TreeSized t → c < 1024 → (e.opens ≡ true → get_or t.opened 10 0 < 9) → GrownOf (view t) → GrownOf (view (added c t e))
added-grown c t e q z l o g = go e.opens refl (pushed-grown (view t) e.kind e.visible e.scope e.mark e.name e.origin e.target e.moment (view-sized t z) (omega arith) g)
  where
    go : (b : Bool) → e.opens ≡ b → GrownOf (pushed (view t) e.kind e.visible e.scope e.mark e.name e.origin e.target e.moment) → GrownOf (view (added c t e))
    go true f h = subst GrownOf (sym (opened_view c t e q z l (o f) f)) h
    go false f h = subst GrownOf (sym (shut-view c t e q z l f)) h
