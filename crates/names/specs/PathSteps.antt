-- Steps of the functions on paths: a component test after the other, and lengths. Assumes nothing.
use Rattle.std.specs.Prelude.{ℕ, suc, ◌+◌, ◌-◌, ◌≤◌, ◌<◌, Bool, cond, ◌&&◌, ◌||◌, not, ◌≡◌, eqb, leb, ltb, get_or, take, drop}
use Rattle.std.proofs.Common.{arith, ◌∙◌, append_assoc, drop-drop, get_or-drop, length-take-le}
use Rattle.std.proofs.Math.Bool.{true, false, and-false}
use Rattle.std.proofs.Math.Path.{refl, sym, ap}
use mathlib.Core.List.{List, [], ◌∷◌, ◌++◌}
use Rattle.std.proofs.Math.Dec.{eqb-suc-suc, leb-suc-suc, leb-suc-zero, leb-zero}
use Rattle.std.proofs.Math.ListN.{length, length-drop}
use borrow.Author.Tests.{eq-eqb, ne_eqb, eqb-true, le-leb}
use Rattle.std.proofs.lemmas.Bool.Decides.{nat_tests}
use Rattle.std.specs.List.{list_any}
use Rattle.std.specs.Cmp.Lexicographic.{pointwise}
use Rattle.names.specs.Bytes.{after_first, length_rest, ascii, slash, same, same-eq, same-append, different, has_prefix, same_is, same_ended, front_but, back, all}
use Rattle.names.specs.Path.{split, components, render, root, is_component, well_formed, is_path, component_limit, path_limit}
use Rattle.names.specs.Prefix.{begins, starts_with, init, parent, depth, directly_in, stem_of, child}
use Rattle.names.specs.Pieces.{first_slash, later, split-is, leads, begins-leads, not_root}
use Rattle.names.specs.Split.{slashes, length-split, init-split, init-none, render-split}

-- at most n components
unfoldable pub fits : ℕ → List (List ℕ) → Bool
fits n cs = leb (length cs) n && all is_component cs

fits-cons : (n : ℕ) (c : List ℕ) (cs : List (List ℕ)) → fits (suc n) (c ∷ cs) ≡ (is_component c && fits n cs)
unfolding fits all
fits-cons n c cs = rw leb-suc-suc (swap (leb (length cs) n) (is_component c) (all is_component cs))
  where
    swap : (a b d : Bool) → (a && (b && d)) ≡ (b && (a && d))
    swap true b d = refl
    swap false b d = sym (and-false b)

-- what follows the first piece
fits-later : (n : ℕ) (s : List ℕ) → fits n (later s) ≡ cond (ltb (first_slash s) (length s)) (fits n (split (drop 1 (drop (first_slash s) s)))) true
unfolding later fits all
fits-later n s = go (ltb (first_slash s) (length s))
  where
    go : (t : Bool) → fits n (cond t (split (drop (first_slash s + 1) s)) []) ≡ cond t (fits n (split (drop 1 (drop (first_slash s) s)))) true
    go true = simp drop-drop
    go false = simp leb-zero

-- one piece after i components
pub fits_step : (s : List ℕ) (i : ℕ) → i < component_limit → fits (component_limit - i) (split s) ≡
    (is_component (take (first_slash s) s) && cond (ltb (first_slash s) (length s)) (fits (component_limit - (i + 1)) (split (drop 1 (drop (first_slash s) s)))) true)
fits_step s i h =
    let n = component_limit - (i + 1) in
    let e : component_limit - i ≡ suc n = omega arith in
    rw (e, split-is s) (fits-cons n _ _) ∙ ap (λ (t : Bool). is_component (take (first_slash s) s) && t) (fits-later n s)

pub fits_none : (s : List ℕ) (i : ℕ) → component_limit ≤ i → fits (component_limit - i) (split s) ≡ false
unfolding fits
fits_none s i h = let e : component_limit - i ≡ 0 = omega arith in rw (e, split-is s, leb-suc-zero)

pub fits-first : (s : List ℕ) → well_formed (split s) ≡ fits (component_limit - 0) (split s)
unfolding fits well_formed
fits-first s = refl

pub ruleset piece_by_piece = (fits-first, fits_step, fits_none, after_first, nat_tests)

-- HOW MANY COMPONENTS

pub depth-root : (s : List ℕ) → same s root ≡ true → depth s ≡ 0
unfolding components
depth-root s h = rw h

pub depth_is : (s : List ℕ) → same s root ≡ false → depth s ≡ suc (slashes (drop 1 s))
unfolding components
depth_is s h = rw h (length-split (drop 1 s))

-- THE PARENT'S LENGTH

module _ (s : List ℕ) where
  parent_of : same s root ≡ false → parent s ≡ render (init (split (drop 1 s)))
  unfolding parent components
  parent_of h = rw h

  -- the last slash but the leading one
  pub parent-at : (i : ℕ) → 1 ≤ i → i < length s → get_or s i 0 ≡ slash → ((k : ℕ) → i < k → k < length s → get_or s k 0 ≡ slash → ⊥)
      → length (parent s) ≡ i
  parent-at i p h e f =
      let j : 1 + (i - 1) ≡ i = omega arith in
      let n : length (drop 1 s) ≡ length s - 1 = length-drop 1 s in
      let at : get_or (drop 1 s) (i - 1) 0 ≡ slash = get_or-drop 1 s (i - 1) 0 ∙ rw j e in
      let no : same s root ≡ false = not_root s (λ l. omega arith) in
      let cut : init (split (drop 1 s)) ≡ split (take (i - 1) (drop 1 s)) =
      init-split (drop 1 s) (i - 1) (omega arith) at (λ k a b q. f (1 + k) (omega arith) (omega arith) (sym (get_or-drop 1 s k 0) ∙ q)) in
      ap length (parent_of no ∙ ap render cut ∙ render-split _) ∙ ap suc (length-take-le (i - 1) (drop 1 s) (omega arith)) ∙ omega arith

  pub parent-none : ((k : ℕ) → 1 ≤ k → k < length s → get_or s k 0 ≡ slash → ⊥) → length (parent s) ≡ 1
  unfolding parent components init render
  parent-none f = go (same s root) refl
    where
      go : (t : Bool) → same s root ≡ t → length (render (init (cond t [] (split (drop 1 s))))) ≡ 1
      go true h = refl
      go false h =
          let n : length (drop 1 s) ≡ length s - 1 = length-drop 1 s in
          rw (init-none (drop 1 s) (λ k l q. f (1 + k) (omega arith) (omega arith) (sym (get_or-drop 1 s k 0) ∙ q)))

pub ruleset last_slash = (parent-at, parent-none)

-- STARTS WITH

-- the root first, then the pieces
pub starts_with_is : (f p : List ℕ) → starts_with f p ≡ (same p root || (not (same f root) && begins (split (drop 1 f)) (split (drop 1 p))))
unfolding starts_with components begins
starts_with_is f p = go (same p root) (same f root)
  where
    go : (t u : Bool) → begins (cond u [] (split (drop 1 f))) (cond t [] (split (drop 1 p))) ≡ (t || (not u && begins (split (drop 1 f)) (split (drop 1 p))))
    go true u = refl
    go false true = rw split-is
    go false false = refl

pub ruleset root_or_pieces = (starts_with_is, nat_tests)

-- THE FORM OF A PATH

root_is : (s : List ℕ) → get_or s 0 0 ≡ slash → same s root ≡ eqb (length s) 1
unfolding same
root_is [] e = absurd (omega arith)
root_is (b ∷ []) e = rw (eq-eqb b slash e)
root_is (b ∷ (d ∷ s)) e = rw (and-false (eqb b slash)) (sym (ne_eqb (suc (suc (length s))) 1 (λ z. omega arith)))

-- a slash, and the bytes after it
pub path_is : (s : List ℕ) → is_path s ≡ (eqb (get_or s 0 0) slash && (leb (length s) path_limit && (eqb (length s) 1 || well_formed (split (drop 1 s)))))
unfolding is_path components well_formed all
path_is s = go (eqb (get_or s 0 0) slash) refl
  where
    root_or : (t : Bool) → well_formed (cond t [] (split (drop 1 s))) ≡ (t || well_formed (split (drop 1 s)))
    root_or true = refl
    root_or false = refl

    go : (t : Bool) → eqb (get_or s 0 0) slash ≡ t → (t && (leb (length s) path_limit && well_formed (cond (same s root) [] (split (drop 1 s)))))
        ≡ (t && (leb (length s) path_limit && (eqb (length s) 1 || well_formed (split (drop 1 s)))))
    go true h = rw (root_is s (eqb-true _ _ h)) (ap (λ (t : Bool). leb (length s) path_limit && t) (root_or (eqb (length s) 1)))
    go false h = refl

pub root_path : (s : List ℕ) → length s ≡ 1 → get_or s 0 0 ≡ slash → is_path s ≡ true
root_path s h e = path_is s ∙ rw (eq-eqb _ _ e, h, le-leb 1 path_limit (omega arith))

pub ruleset slash_and_rest = (path_is, length_rest, after_first, nat_tests)

-- BELOW A FOLDER

-- from the end on: the ending, the name, the slash and the folder
abbrev pub child_test : List ℕ → List ℕ → List ℕ → List ℕ → Bool
child_test p base name ending =
    let q = front_but (length ending) p in
    let r = front_but (length name) q in
    pointwise eqb (back (length ending) p) ending
    && (pointwise eqb (back (length name) q) name && (pointwise eqb (back 1 r) root && same (front_but 1 r) base))

pub child_is : (p d name ending : List ℕ) → same p (child d (name ++ ending)) ≡ child_test p (stem_of d) name ending
unfolding child
child_is p d name ending =
    let e : stem_of d ++ (slash ∷ (name ++ ending)) ≡ ((stem_of d ++ root) ++ name) ++ ending = simp append_assoc in
    rw (e, same_ended p ((stem_of d ++ root) ++ name) ending, same_ended (front_but (length ending) p) (stem_of d ++ root) name)
    (rw (same_ended (front_but (length name) (front_but (length ending) p)) (stem_of d) root))

pub ruleset from_the_end = (child_is, nat_tests)

-- DIRECTLY IN A FOLDER

in_pieces : (a b : List ℕ) → (leads a b && eqb (suc (slashes a)) (suc (suc (slashes b)))) ≡ (has_prefix a b && (has_prefix (drop (length b) a) root && eqb (slashes (drop 1 (drop (length b) a))) 0))
unfolding leads slashes has_prefix same
in_pieces [] [] = refl
in_pieces (x ∷ a) [] = go (eqb x slash)
  where
    go : (t : Bool) → (t && eqb (suc (cond t (suc (slashes a)) (slashes a))) 2) ≡ ((t && true) && eqb (slashes a) 0)
    go true = eqb-suc-suc (suc (slashes a)) 1 ∙ eqb-suc-suc (slashes a) 0
    go false = refl
in_pieces [] (y ∷ b) = refl
in_pieces (x ∷ a) (y ∷ b) = go (eqb x y) refl (in_pieces a b)
  where
    more : (t : Bool) (m n : ℕ) → eqb (suc (cond t (suc m) m)) (suc (suc (cond t (suc n) n))) ≡ eqb (suc m) (suc (suc n))
    more true m n = eqb-suc-suc (suc m) (suc (suc n))
    more false m n = refl

    go : (t : Bool) → eqb x y ≡ t → (leads a b && eqb (suc (slashes a)) (suc (suc (slashes b)))) ≡ (has_prefix a b && (has_prefix (drop (length b) a) root && eqb (slashes (drop 1 (drop (length b) a))) 0))
        → ((t && leads a b) && eqb (suc (cond (eqb x slash) (suc (slashes a)) (slashes a))) (suc (suc (cond (eqb y slash) (suc (slashes b)) (slashes b)))))
        ≡ ((t && has_prefix a b) && (has_prefix (drop (length b) a) root && eqb (slashes (drop 1 (drop (length b) a))) 0))
    go true h e = rw (eqb-true x y h, more (eqb y slash) (slashes a) (slashes b)) e
    go false h e = refl

-- std's word for a search for a slash
no_slash : (s : List ℕ) → eqb (slashes s) 0 ≡ not (list_any (λ b. eqb b slash) s)
unfolding slashes
no_slash [] = refl
no_slash (b ∷ s) = go (eqb b slash) (no_slash s)
  where
    go : (t : Bool) → eqb (slashes s) 0 ≡ not (list_any (λ b. eqb b slash) s)
        → eqb (cond t (suc (slashes s)) (slashes s)) 0 ≡ not (t || list_any (λ b. eqb b slash) s)
    go true e = ne_eqb (suc (slashes s)) 0 (λ z. omega arith)
    go false e = e

-- what stands below the folder holds no slash
abbrev pub name_test : Bool → List ℕ → List ℕ → Bool
name_test u a b =
    cond u (not (list_any (λ c. eqb c slash) a))
    (pointwise eqb (take (length b) a) b
    && (pointwise eqb (take 1 (drop (length b) a)) root && not (list_any (λ c. eqb c slash) (drop 1 (drop (length b) a)))))

pub directly_in_is : (f d : List ℕ) → directly_in f d ≡ (not (same f root) && name_test (same d root) (drop 1 f) (drop 1 d))
unfolding directly_in has_prefix
directly_in_is f d = go (same f root) (same d root) refl refl
  where
    go : (t u : Bool) → same f root ≡ t → same d root ≡ u → (starts_with f d && eqb (depth f) (suc (depth d))) ≡ (not t && name_test u (drop 1 f) (drop 1 d))
    go true u h k = rw (depth-root f h, ne_eqb 0 (suc (depth d)) (λ z. omega arith), and-false)
    go false true h k = rw (starts_with_is f d, k, depth_is f h, depth-root d k, eqb-suc-suc) (no_slash (drop 1 f))
    go false false h k =
        rw (starts_with_is f d, h, k, depth_is f h, depth_is d k, begins-leads, in_pieces (drop 1 f) (drop 1 d), no_slash)
        (rw (same_is (take (length (drop 1 d)) (drop 1 f)) (drop 1 d), same_is (take 1 (drop (length (drop 1 d)) (drop 1 f))) root))

pub ruleset below_folder = (directly_in_is, nat_tests)
