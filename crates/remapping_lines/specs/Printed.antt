-- Remappings printed as lines are read back as themselves. Assumes nothing.
use Rattle.std.specs.Prelude.{ℕ, suc, ◌+◌, ◌≤◌, ◌<◌, Bool, true, false, cond, ◌⊎◌, ◌≡◌, refl, List, [], ◌∷◌, ◌++◌, map, eqb, leb, length}
use Rattle.std.proofs.Common.{arith, inl, inr, sym, ap, subst, ◌∙◌, length-append, ne_eqb, eqb-true}
use Rattle.names.specs.Bytes.{slash, same, all, same-eq, same_differs, false_true, and_left, and_right}
use Rattle.names.specs.Path.{component_limit, root, split, components, is_component, well_formed, is_path}
use Rattle.names.specs.PathTheorems.{form as path-form}
use Rattle.names.specs.Split.{split_join}
use Rattle.bundle.specs.Bundle.{Text, Remapping}
use Rattle.bundle.specs.Limits.{remapping_limit}
use Rattle.bundle.specs.Encode.{remapping}
use Rattle.bundle.specs.Encode.{counted as byte-list}
use Rattle.bundle.specs.Form.{Every, FormedRemapping}
use Rattle.remapping_lines.specs.Lines.{line_feed, equals, colon, has, pieces, dropped, placed, content, lines_of, context_in, prefix_in, name_in, target_in, remapping_of, remappings_of, section}
use Rattle.remapping_lines.specs.SplitTheorems.{split-only, glued, Without, pieces-only, slash-dropped}
use Rattle.remapping_lines.specs.Testing.{Passes}
use Rattle.remapping_lines.specs.Writing.{AllPass, Accepted}
use Rattle.remapping_lines.specs.Theorems.{passes_always}

-- one slash more behind a name that would lose one
unfoldable pub guarded : Text → Text
guarded t = cond (same (dropped t) t) t (t ++ (slash ∷ []))

-- context, `:`, name, `=`, target
unfoldable pub printed : Remapping → Text
printed r = (r.context ++ (colon ∷ guarded r.name)) ++ (equals ∷ r.target)

abbrev pub printed_list : List Remapping → Text
printed_list rs = glued line_feed (map printed rs)

-- what can be written as a line: no `:` or `=` in the context, no `=` in the name, no line feed, and what every remapping of a bundle has
pub record Writable (r : Remapping) : Type 0 where
  pub context : has colon r.context ≡ false
  pub left_half : has equals (r.context ++ (colon ∷ guarded r.name)) ≡ false
  pub one_line : has line_feed (printed r) ≡ false
  pub formed : FormedRemapping r

guarded-dropped : (t : Text) → dropped (guarded t) ≡ t
unfolding guarded
guarded-dropped t = go (same (dropped t) t) refl
  where
    go : (q : Bool) → same (dropped t) t ≡ q → dropped (cond q t (t ++ (slash ∷ []))) ≡ t
    go true e = same-eq (dropped t) t e
    go false e = slash-dropped t

-- A PATH but `/` does not end in a slash
all-last : (f : Text → Bool) (xs : List Text) (x : Text) → all f (xs ++ (x ∷ [])) ≡ true → f x ≡ true
unfolding all
all-last f [] x h = and_left (f x) true h
all-last f (y ∷ xs) x h = all-last f xs x (and_right (f y) (all f (xs ++ (x ∷ []))) h)

no_empty : is_component [] ≡ true → ⊥
unfolding is_component
no_empty h = false_true h

alone : (u : Text) → is_path (u ++ (slash ∷ [])) ≡ true → u ≡ []
unfolding components well_formed split
alone [] h = refl
alone (b ∷ v) h = absurd (no_empty (all-last is_component (split v) [] last))
  where
    long : same (b ∷ (v ++ (slash ∷ []))) root ≡ true → ⊥
    long e = omega (arith, ap length (same-eq (b ∷ (v ++ (slash ∷ []))) root e), length-append v (slash ∷ []))

    other : same (b ∷ (v ++ (slash ∷ []))) root ≡ false
    other = go (same (b ∷ (v ++ (slash ∷ []))) root) refl
      where
        go : (q : Bool) → same (b ∷ (v ++ (slash ∷ []))) root ≡ q → q ≡ false
        go true e = absurd (long e)
        go false e = refl

    whole : all is_component (split (v ++ (slash ∷ []))) ≡ true
    whole = let f = rw other at (path-form (b ∷ (v ++ (slash ∷ []))) h).parts in and_right (leb (length (split (v ++ (slash ∷ [])))) component_limit) (all is_component (split (v ++ (slash ∷ [])))) f

    last : all is_component (split v ++ ([] ∷ [])) ≡ true
    last = rw (split_join v []) at whole

-- nothing is dropped, or one slash
ends : (t : Text) → (dropped t ≡ t) ⊎ ((u : Text) × (t ≡ u ++ (slash ∷ [])))
unfolding dropped
ends [] = inl refl
ends (b ∷ []) = go (eqb b slash) refl
  where
    go : (q : Bool) → eqb b slash ≡ q → (cond q [] (b ∷ []) ≡ b ∷ []) ⊎ ((u : Text) × (b ∷ [] ≡ u ++ (slash ∷ [])))
    go true e = inr ([], ap (λ (a : ℕ). a ∷ []) (eqb-true b slash e))
    go false e = inl refl
ends (b ∷ (d ∷ t)) = go (ends (d ∷ t))
  where
    go : (dropped (d ∷ t) ≡ d ∷ t) ⊎ ((u : Text) × (d ∷ t ≡ u ++ (slash ∷ []))) → (b ∷ dropped (d ∷ t) ≡ b ∷ (d ∷ t)) ⊎ ((u : Text) × (b ∷ (d ∷ t) ≡ u ++ (slash ∷ [])))
    go (inl e) = inl (ap (λ (l : Text). b ∷ l) e)
    go (inr e) = inr (b ∷ e.0, ap (λ (l : Text). b ∷ l) e.1)

target-kept : (t : Text) → is_path t ≡ true → target_in t ≡ t
unfolding target_in
target-kept t h = go (same t root) refl
  where
    go : (q : Bool) → same t root ≡ q → cond q root (dropped t) ≡ t
    go true e = sym (same-eq t root e)
    go false e = by (ends t)
      where
        by : (dropped t ≡ t) ⊎ ((u : Text) × (t ≡ u ++ (slash ∷ []))) → dropped t ≡ t
        by (inl k) = k
        by (inr k) =
            let n = alone k.0 (subst (λ (x : Text). is_path x ≡ true) k.1 h) in
            absurd (same_differs t root e (k.1 ∙ ap (λ (u : Text). u ++ (slash ∷ [])) n))

-- ONE LINE
pub read_back : (r : Remapping) → Writable r → remapping_of (printed r) ≡ r
unfolding printed remapping_of context_in name_in prefix_in
read_back r w =
    let half = r.context ++ (colon ∷ guarded r.name) in
    let a = split-only equals (half ++ (equals ∷ r.target)) half r.target (record { joins = refl; first = w.left_half }) in
    let b = split-only colon half r.context (guarded r.name) (record { joins = refl; first = w.context }) in
    rw (a.left, a.right, b.has_one, b.left, b.right, guarded-dropped r.name, target-kept r.target w.formed.1.1)

some_byte : (r : Remapping) → 0 < length (printed r)
unfolding printed
some_byte r = omega (arith, length-append (r.context ++ (colon ∷ guarded r.name)) (equals ∷ r.target))

split-line : (r : Remapping) → Writable r → has equals (printed r) ≡ true
unfolding printed
split-line r w = (split-only equals ((r.context ++ (colon ∷ guarded r.name)) ++ (equals ∷ r.target)) (r.context ++ (colon ∷ guarded r.name)) r.target (record { joins = refl; first = w.left_half })).has_one

-- ALL LINES
lines-kept : (p : ℕ) (rs : List Remapping) → Every Writable rs → (remappings_of (content (placed p (map printed rs))) ≡ rs) × (AllPass (content (placed p (map printed rs))) × (length (content (placed p (map printed rs))) ≡ length rs))
unfolding content placed remappings_of Every
lines-kept p [] w = (refl, (tt, refl))
lines-kept p (r ∷ rs) w =
    let k = lines-kept (p + length (printed r) + 1) rs w.1 in
    let b = some_byte r in
    let n = ne_eqb (length (printed r)) 0 (λ e. omega arith) in
    let q : Passes (printed r) = record { split = split-line r w.0; formed = subst FormedRemapping (sym (read_back r w.0)) w.0.formed } in
    rw n (rw (read_back r w.0, k.0), ((q, k.1.0), ap suc k.1.1))

lines-without : (rs : List Remapping) → Every Writable rs → Every (Without line_feed) (map printed rs)
unfolding Every
lines-without [] w = tt
lines-without (r ∷ rs) w = (w.0.one_line, lines-without rs w.1)

printed-lines : (rs : List Remapping) → Every Writable rs → lines_of (printed_list rs) ≡ content (placed 0 (map printed rs))
unfolding glued pieces content placed
printed-lines [] w = refl
printed-lines (r ∷ rs) w = ap (λ (ts : List Text). content (placed 0 ts)) (pieces-only line_feed (printed r) (map printed rs) (lines-without (r ∷ rs) w))

-- at most 32 of them, printed, pass, and their section is the encoder's of themselves
pub record ReadBack (rs : List Remapping) : Type 0 where
  pub passes : Accepted (printed_list rs)
  pub meant : remappings_of (lines_of (printed_list rs)) ≡ rs
  pub bytes : section (printed_list rs) ≡ byte-list remapping rs

pub list-read-back : (rs : List Remapping) → length rs ≤ remapping_limit → Every Writable rs → ReadBack rs
unfolding section
list-read-back rs h w =
    let k = lines-kept 0 rs w in
    let e = printed-lines rs w in
    let n = k.1.1 in
    let m : remappings_of (lines_of (printed_list rs)) ≡ rs = ap remappings_of e ∙ k.0 in
    record {
      passes = passes_always (printed_list rs) (record { count = let z = ap length e in omega arith; lines = subst AllPass (sym e) k.1.0 });
      meant = m;
      bytes = ap (byte-list remapping) m;
    }
