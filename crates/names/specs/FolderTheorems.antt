-- Folders and what lies directly in them. Assumes nothing.
use Rattle.std.specs.Prelude.{ℕ, suc, ◌≤◌, ◌<◌, Bool, true, false, cond, ◌&&◌, ◌≡◌, refl, List, [], ◌∷◌, ◌++◌, eqb, leb, length, get_or, take, drop}
use Rattle.std.proofs.Common.{arith, sym, ap, ◌∙◌, append_assoc, length-append, eq-eqb, eqb-true, le-leb, leb-true}
use Rattle.std.proofs.Math.Seq.{take-append_seam}
use Rattle.names.specs.Bytes.{slash, same, same_refl, same-eq, different, all, and_left, and_right, false_true}
use Rattle.names.specs.Path.{split, components, led, render, root, is_component, well_formed, is_path, component_limit}
use Rattle.names.specs.Prefix.{begins, starts_with, depth, directly_in, init, parent, stem_of, child}
use Rattle.names.specs.Split.{split_one, split_join, init_snoc}
use Rattle.names.specs.PathTheorems.{form, render-components, components-render}

-- a name that can be a component: a byte, and no slash
pub record Plain (n : List ℕ) : Type 0 where
  pub some_byte : 1 ≤ length n
  pub no_slash : (k : ℕ) → k < length n → get_or n k 0 ≡ slash → ⊥

dropped : (p t : List ℕ) → get_or p 0 0 ≡ slash → drop 1 (p ++ t) ≡ drop 1 p ++ t
dropped [] t e = absurd (omega arith)
dropped (a ∷ p) t e = refl

-- the components of a name below a folder are the folder's and the name
pub components-child : (d n : List ℕ) → is_path d ≡ true → Plain n → components (child d n) ≡ components d ++ (n ∷ [])
unfolding components child stem_of
components-child d n h p = go (same d root) refl
  where
    some_bytes : (b : List ℕ) → same (b ++ (slash ∷ n)) root ≡ false
    some_bytes b = different _ _ (λ e. omega (arith, ap length e, length-append b (slash ∷ n), p.some_byte))

    go : (t : Bool) → same d root ≡ t
        → cond (same (cond t [] d ++ (slash ∷ n)) root) [] (split (drop 1 (cond t [] d ++ (slash ∷ n)))) ≡ cond t [] (split (drop 1 d)) ++ (n ∷ [])
    go true e = rw (some_bytes []) (split_one n p.no_slash)
    go false e =
        rw (some_bytes d, dropped d (slash ∷ n) (form d h).led_by) (split_join (drop 1 d) n ∙ rw (split_one n p.no_slash))

-- the parent of what lies directly below a folder is the folder
pub parent-child : (d n : List ℕ) → is_path d ≡ true → Plain n → parent (child d n) ≡ d
unfolding parent
parent-child d n h p = rw (components-child d n h p, init_snoc) (render-components d h)

-- LISTS OF COMPONENTS

begins-append : (cs ds : List (List ℕ)) → begins (cs ++ ds) cs ≡ true
unfolding begins
begins-append [] ds = refl
begins-append (c ∷ cs) ds = rw (same_refl c, begins-append cs ds)

begins-rest : (cs ds : List (List ℕ)) → begins cs ds ≡ true → (r : List (List ℕ)) × (cs ≡ ds ++ r)
unfolding begins
begins-rest cs [] h = (cs, refl)
begins-rest [] (d ∷ ds) h = absurd (false_true h)
begins-rest (c ∷ cs) (d ∷ ds) h =
    let x : c ≡ d = same-eq c d (and_left (same c d) (begins cs ds) h) in
    let r = begins-rest cs ds (and_right (same c d) (begins cs ds) h) in
    (r.0, cc (x, r.1))

-- one component more
one_more : (ds r : List (List ℕ)) → length (ds ++ r) ≡ suc (length ds) → (c : List ℕ) × (r ≡ c ∷ [])
one_more ds [] h = absurd (omega (arith, simp length-append at h))
one_more ds (c ∷ []) h = (c, refl)
one_more ds (c ∷ (e ∷ r)) h = absurd (omega (arith, simp length-append at h))

last_of : (c : List ℕ) (cs : List (List ℕ)) → (e : List ℕ) × (c ∷ cs ≡ init (c ∷ cs) ++ (e ∷ []))
unfolding init
last_of c [] = (c, refl)
last_of c (d ∷ cs) = let l = last_of d cs in (l.0, ap (λ (x : List (List ℕ)). c ∷ x) l.1)

led-append : (cs ds : List (List ℕ)) → led (cs ++ ds) ≡ led cs ++ led ds
unfolding led
led-append [] ds = refl
led-append (c ∷ cs) ds = rw (led-append cs ds) (ap (λ (l : List ℕ). slash ∷ l) (sym (append_assoc c (led cs) (led ds))))

-- a name below a folder lies below it
pub child-below : (d n : List ℕ) → is_path d ≡ true → Plain n → starts_with (child d n) d ≡ true
unfolding starts_with
child-below d n h p = rw (components-child d n h p) (begins-append (components d) (n ∷ []))

-- and directly in it
pub child_directly_in : (d n : List ℕ) → is_path d ≡ true → Plain n → directly_in (child d n) d ≡ true
unfolding directly_in
child_directly_in d n h p =
    let l : length (components d ++ (n ∷ [])) ≡ suc (length (components d)) = simp length-append (omega arith) in
    rw (child-below d n h p, components-child d n h p) (eq-eqb _ _ l)

-- what lies directly in a folder has it for its parent
pub directly_in_parent : (f d : List ℕ) → is_path d ≡ true → directly_in f d ≡ true → parent f ≡ d
unfolding directly_in starts_with parent
directly_in_parent f d h k =
    let r = begins-rest (components f) (components d) (and_left (begins (components f) (components d)) _ k) in
    let n = eqb-true _ _ (and_right (begins (components f) (components d)) (eqb (depth f) (suc (depth d))) k) in
    let o = one_more (components d) r.0 (sym (ap length r.1) ∙ n) in
    rw (r.1, o.1, init_snoc) (render-components d h)

all-front : (f : List ℕ → Bool) (cs ds : List (List ℕ)) → all f (cs ++ ds) ≡ true → all f cs ≡ true
unfolding all
all-front f [] ds h = refl
all-front f (c ∷ cs) ds h =
    rw (and_left (f c) (all f (cs ++ ds)) h, all-front f cs ds (and_right (f c) (all f (cs ++ ds)) h))

init_well_formed : (cs : List (List ℕ)) → well_formed cs ≡ true → well_formed (init cs) ≡ true
unfolding well_formed init
init_well_formed [] h = h
init_well_formed (c ∷ cs) h =
    let l = last_of c cs in
    let n : length (c ∷ cs) ≤ component_limit = leb-true _ _ (and_left (leb (length (c ∷ cs)) component_limit) (all is_component (c ∷ cs)) h) in
    let a = and_right (leb (length (c ∷ cs)) component_limit) (all is_component (c ∷ cs)) h in
    let m : length (init (c ∷ cs)) ≤ component_limit = omega (arith, simp length-append at (ap length l.1)) in
    rw (le-leb _ _ m) (all-front is_component (init (c ∷ cs)) (l.0 ∷ []) (rw l.1 at a))

-- and what has a folder for its parent, and isn't `/`, lies directly in it
pub parent_directly_in : (f d : List ℕ) → is_path f ≡ true → (f ≡ root → ⊥) → parent f ≡ d → directly_in f d ≡ true
unfolding parent directly_in starts_with render
parent_directly_in f d h n e = go (components f) refl
  where
    go : (cs : List (List ℕ)) → components f ≡ cs → (begins (components f) (components d) && eqb (depth f) (suc (depth d))) ≡ true
    go [] q = absurd (n (sym (render-components f h) ∙ ap render q))
    go (c ∷ cs) q =
        let l = last_of c cs in
        let w : well_formed (c ∷ cs) ≡ true = rw q at (form f h).parts in
        let i : components d ≡ init (c ∷ cs) = ap components (sym e) ∙ rw q (components-render (init (c ∷ cs)) (init_well_formed (c ∷ cs) w)) in
        let m : length (init (c ∷ cs) ++ (l.0 ∷ [])) ≡ suc (length (init (c ∷ cs))) = simp length-append (omega arith) in
        let x : components f ≡ init (c ∷ cs) ++ (l.0 ∷ []) = q ∙ l.1 in
        rw (i, x, begins-append (init (c ∷ cs)) (l.0 ∷ [])) (eq-eqb _ _ m)

-- a path's parent is the path's own first bytes
pub parent-prefix : (s : List ℕ) → is_path s ≡ true → take (length (parent s)) s ≡ parent s
unfolding parent render led init
parent-prefix s h = go (components s) (render-components s h)
  where
    front : (cs : List (List ℕ)) (t : List ℕ) → take (length (render cs)) (led cs ++ (slash ∷ t)) ≡ render cs
    front [] t = refl
    front (c ∷ cs) t = take-append_seam (led (c ∷ cs)) (slash ∷ t)

    go : (cs : List (List ℕ)) → render cs ≡ s → take (length (render (init cs))) s ≡ render (init cs)
    go [] q = rw (← q)
    go (c ∷ cs) q =
        let l = last_of c cs in
        let e : s ≡ led (init (c ∷ cs)) ++ (slash ∷ (l.0 ++ [])) =
        sym q ∙ ap led l.1 ∙ led-append (init (c ∷ cs)) (l.0 ∷ []) in
        rw e (front (init (c ∷ cs)) (l.0 ++ []))
