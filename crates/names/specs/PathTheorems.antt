-- Paths as bytes and as lists of components, and what lies below what. Assumes nothing.
use Rattle.std.specs.Prelude.{ℕ, ◌≤◌, ◌<◌, Bool, cond, ◌&&◌, not, ◌⊎◌, ◌≡◌, refl, eqb, leb, length, get_or, take, drop}
use Rattle.std.proofs.Common.{arith, inl, inr, ⊎_elim, ap, ◌∙◌, length-append, length-drop}
use Rattle.std.proofs.Math.Bool.{true, false}
use Rattle.std.proofs.Math.Path.{sym}
use mathlib.Core.List.{List, [], ◌∷◌, ◌++◌, append-nil}
use borrow.Author.Tests.{eq-eqb, ne_eqb, eqb-true, le-leb, leb-true}
use Rattle.names.specs.Bytes.{slash, same, same_refl, same-eq, same_differs, different, not_true, all, all-each, and_left, and_right, false_true}
use Rattle.names.specs.Identifier.{name_limit, between}
use Rattle.names.specs.Path.{split, components, led, render, root, printable, is_component, well_formed, is_path, component_limit, path_limit}
use Rattle.names.specs.Prefix.{begins, starts_with}
use Rattle.names.specs.Pieces.{leads, begins-leads, split-is}
use Rattle.names.specs.Split.{split_one, split_join, render-split}

-- THE FORM, TAKEN APART

-- what a path is
pub record Form (s : List ℕ) : Type 0 where
  pub led_by : get_or s 0 0 ≡ slash
  pub short : length s ≤ path_limit
  pub parts : well_formed (components s) ≡ true

pub form : (s : List ℕ) → is_path s ≡ true → Form s
unfolding is_path
form s h =
    let a = eqb (get_or s 0 0) slash in
    let b = leb (length s) path_limit in
    let r = and_right a (b && well_formed (components s)) h in
    record {
      led_by = eqb-true _ _ (and_left a (b && well_formed (components s)) h);
      short = leb-true _ _ (and_left b (well_formed (components s)) r);
      parts = and_right b (well_formed (components s)) r;
    }

-- a component has a byte, and no slash
module _ (c : List ℕ) (h : is_component c ≡ true) where
  some_byte : 1 ≤ length c
  unfolding is_component
  some_byte = leb-true _ _ (and_left (leb 1 (length c)) _ h)

  all-printable : all printable c ≡ true
  unfolding is_component
  all-printable =
      and_left (all printable c) _ (and_right (leb (length c) name_limit) _ (and_right (leb 1 (length c)) _ h))

  no_slash : (k : ℕ) → k < length c → get_or c k 0 ≡ slash → ⊥
  no_slash k l e =
      let p : not (eqb (get_or c k 0) slash) ≡ true =
      and_right (between 0x21 0x7e (get_or c k 0)) _ (all-each printable c all-printable k l) in
      false_true (sym (rw (eq-eqb (get_or c k 0) slash e)) ∙ p)

  not-empty : (t : List ℕ) → same (slash ∷ (c ++ t)) root ≡ false
  not-empty t = different _ _ (λ e. omega (arith, ap length e, length-append c t, some_byte))

-- the components of a path are those that it is made of
split-led : (c : List ℕ) (cs : List (List ℕ)) → all is_component (c ∷ cs) ≡ true → split (c ++ led cs) ≡ c ∷ cs
unfolding all led
split-led c [] h = rw append-nil (split_one c (no_slash c (and_left (is_component c) true h)))
split-led c (d ∷ ds) h =
    split_join c (d ++ led ds)
    ∙ rw (split_one c (no_slash c (and_left (is_component c) (all is_component (d ∷ ds)) h)), split-led d ds (and_right (is_component c) (all is_component (d ∷ ds)) h))

module _ (cs : List (List ℕ)) (h : well_formed cs ≡ true) where
  all-components : all is_component cs ≡ true
  unfolding well_formed
  all-components = and_right (leb (length cs) component_limit) _ h

pub components-render : (cs : List (List ℕ)) → well_formed cs ≡ true → components (render cs) ≡ cs
unfolding components render led same all
components-render [] h = refl
components-render (c ∷ cs) h =
    let p = all-components (c ∷ cs) h in
    rw (not-empty c (and_left (is_component c) (all is_component cs) p) (led cs)) (split-led c cs p)

-- a path is made of its components
pub render-components : (s : List ℕ) → is_path s ≡ true → render (components s) ≡ s
unfolding components render
render-components s h = go (same s root) refl (form s h).led_by
  where
    whole : (t : List ℕ) → (same t root ≡ false) → get_or t 0 0 ≡ slash → slash ∷ drop 1 t ≡ t
    whole [] n e = absurd (omega arith)
    whole (b ∷ t) n e = rw e

    go : (t : Bool) → same s root ≡ t → get_or s 0 0 ≡ slash → render (cond t [] (split (drop 1 s))) ≡ s
    go true e l = sym (same-eq s root e)
    go false e l = render-split (drop 1 s) ∙ whole s e l

render-led : (cs : List (List ℕ)) → eqb (get_or (render cs) 0 0) slash ≡ true
unfolding render led
render-led [] = refl
render-led (c ∷ cs) = refl

-- well-formed components of at most 255 bytes make a path
pub render-path : (cs : List (List ℕ)) → well_formed cs ≡ true → length (render cs) ≤ path_limit → is_path (render cs) ≡ true
unfolding is_path
render-path cs h l = rw (render-led cs, le-leb _ _ l, components-render cs h, h)

-- BELOW

pub begins-refl : (cs : List (List ℕ)) → begins cs cs ≡ true
unfolding begins
begins-refl [] = refl
begins-refl (c ∷ cs) = rw (same_refl c, begins-refl cs)

pub begins_trans : (cs ds es : List (List ℕ)) → begins cs ds ≡ true → begins ds es ≡ true → begins cs es ≡ true
unfolding begins
begins_trans cs ds [] h k = refl
begins_trans cs [] (e ∷ es) h k = absurd (false_true k)
begins_trans [] (d ∷ ds) (e ∷ es) h k = absurd (false_true h)
begins_trans (c ∷ cs) (d ∷ ds) (e ∷ es) h k =
    let x = same-eq c d (and_left (same c d) (begins cs ds) h) in
    let y = same-eq d e (and_left (same d e) (begins ds es) k) in
    let t = begins_trans cs ds es (and_right (same c d) (begins cs ds) h) (and_right (same d e) (begins ds es) k) in
    rw (x, y, same_refl e, t)

-- every path lies below itself
pub starts_with_refl : (s : List ℕ) → starts_with s s ≡ true
unfolding starts_with
starts_with_refl s = begins-refl (components s)

pub starts_with_trans : (f p q : List ℕ) → starts_with f p ≡ true → starts_with p q ≡ true → starts_with f q ≡ true
unfolding starts_with
starts_with_trans f p q = begins_trans (components f) (components p) (components q)

-- and below `/`
pub starts_with_root : (s : List ℕ) → starts_with s root ≡ true
unfolding starts_with components begins same
starts_with_root s = refl

-- THE BYTES OF A PREFIX

leads-take : (f p : List ℕ) → leads f p ≡ true → take (length p) f ≡ p
unfolding leads
leads-take f [] h = refl
leads-take [] (b ∷ p) h = absurd (false_true h)
leads-take (a ∷ f) (b ∷ p) h =
    let x = eqb-true a b (and_left (eqb a b) (leads f p) h) in
    rw (x, leads-take f p (and_right (eqb a b) (leads f p) h))

leads-rest : (f p : List ℕ) → leads f p ≡ true → (f ≡ p) ⊎ ((r : List ℕ) × (f ≡ p ++ (slash ∷ r)))
unfolding leads
leads-rest [] [] h = inl refl
leads-rest (a ∷ f) [] h = inr (f, rw (eqb-true a slash h))
leads-rest [] (b ∷ p) h = absurd (false_true h)
leads-rest (a ∷ f) (b ∷ p) h =
    let x : a ≡ b = eqb-true a b (and_left (eqb a b) (leads f p) h) in
    ⊎_elim (λ e. inl (cc)) (λ e. inr (e.0, cc (x, e.1))) (leads-rest f p (and_right (eqb a b) (leads f p) h))

leads-more : (p t : List ℕ) (b : ℕ) → (b ≡ slash → ⊥) → leads (p ++ (b ∷ t)) p ≡ false
unfolding leads
leads-more [] t b n = ne_eqb b slash n
leads-more (a ∷ p) t b n = rw (eq-eqb a a refl, leads-more p t b n)

-- a byte string that is led by a slash
whole : (t : List ℕ) → get_or t 0 0 ≡ slash → slash ∷ drop 1 t ≡ t
whole [] e = absurd (omega arith)
whole (b ∷ t) e = rw e

one_byte : (s : List ℕ) → get_or s 0 0 ≡ slash → length s ≡ 1 → s ≡ root
one_byte [] e h = absurd (omega arith)
one_byte (b ∷ []) e h = rw e
one_byte (b ∷ (d ∷ s)) e h = absurd (omega arith)

-- below a path that is not `/`, by bytes
module _ (f p : List ℕ) (n : p ≡ root → ⊥) where
  below-leads : starts_with f p ≡ true → leads (drop 1 f) (drop 1 p) ≡ true
  unfolding starts_with components begins
  below-leads h = go (same f root) (rw (different p root n) at h)
    where
      go : (t : Bool) → begins (cond t [] (split (drop 1 f))) (split (drop 1 p)) ≡ true → leads (drop 1 f) (drop 1 p) ≡ true
      go true h = absurd (false_true (rw split-is at h))
      go false h = sym (begins-leads (drop 1 f) (drop 1 p)) ∙ h

-- two prefixes of a path that have the same length are equal
pub equal-prefixes : (f p q : List ℕ) → is_path p ≡ true → is_path q ≡ true → starts_with f p ≡ true → starts_with f q ≡ true → length p ≡ length q → p ≡ q
equal-prefixes f p q hp hq sp sq l = go (same p root) (same q root) refl refl
  where
    go : (t u : Bool) → same p root ≡ t → same q root ≡ u → p ≡ q
    go true u e k =
        let x = same-eq p root e in
        x ∙ sym (one_byte q (form q hq).led_by (sym l ∙ ap length x))
    go false true e k =
        let y = same-eq q root k in
        one_byte p (form p hp).led_by (l ∙ ap length y) ∙ sym y
    go false false e k =
        let a = leads-take (drop 1 f) (drop 1 p) (below-leads f p (same_differs p root e) sp) in
        let b = leads-take (drop 1 f) (drop 1 q) (below-leads f q (same_differs q root k) sq) in
        let m : length (drop 1 p) ≡ length (drop 1 q) = omega (arith, length-drop 1 p, length-drop 1 q) in
        let c : drop 1 p ≡ drop 1 q = sym a ∙ rw m b in
        sym (whole p (form p hp).led_by) ∙ rw c (whole q (form q hq).led_by)

-- C1 in general: a prefix that is not `/` and not the whole is followed by `/`
pub followed : (f p : List ℕ) → is_path f ≡ true → is_path p ≡ true → (p ≡ root → ⊥) → starts_with f p ≡ true
    → (f ≡ p) ⊎ ((r : List ℕ) × (f ≡ p ++ (slash ∷ r)))
followed f p hf hp n h =
    ⊎_elim (λ e. inl (wf ∙ ap (λ (l : List ℕ). slash ∷ l) e ∙ wp)) (λ e. inr (e.0, wf ∙ ap (λ (l : List ℕ). slash ∷ l) e.1 ∙ ap (λ (l : List ℕ). l ++ (slash ∷ e.0)) wp))
    (leads-rest (drop 1 f) (drop 1 p) (below-leads f p n h))
  where
    wf : f ≡ slash ∷ drop 1 f
    wf = sym (whole f (form f hf).led_by)

    wp : slash ∷ drop 1 p ≡ p
    wp = whole p (form p hp).led_by

-- C1's case: more bytes in the last component are no part of the prefix
pub not-below : (p t : List ℕ) (b : ℕ) → is_path p ≡ true → (p ≡ root → ⊥) → (b ≡ slash → ⊥) → starts_with (p ++ (b ∷ t)) p ≡ false
not-below p t b h n m = not_true _ (λ e. false_true (sym (rw z (leads-more (drop 1 p) t b m)) ∙ below-leads (p ++ (b ∷ t)) p n e))
  where
    z : drop 1 (p ++ (b ∷ t)) ≡ drop 1 p ++ (b ∷ t)
    z = dropped p (form p h).led_by
      where
        dropped : (p : List ℕ) → get_or p 0 0 ≡ slash → drop 1 (p ++ (b ∷ t)) ≡ drop 1 p ++ (b ∷ t)
        dropped [] e = absurd (omega arith)
        dropped (a ∷ p) e = refl
