-- A tree, entry by entry as eleven numbers. Assumes nothing.
use Rattle.std.specs.Prelude.{ℕ, zero, suc, ◌+◌, ◌*◌, ◌≤◌, ◌<◌, ◌≡◌, refl, Bool, true, false, cond, ltb, get_or, set}
use native.Mathlib.Omega.{arith}
use Rattle.std.proofs.Common.{add-one, ◌∙◌, drop_of_length-le, length-set}
use Rattle.std.proofs.Math.Path.{ap, sym}
use mathlib.Core.List.{List, [], ◌∷◌, ◌++◌}
use Rattle.std.proofs.Math.ListN.{length, drop}
use Rattle.std.proofs.Math.Seq.{drop-cons}
use Rattle.scope_tree.specs.Step.{Came, declared, used}
use Rattle.scope_tree.specs.Flat.{Body, own, copy, Entry, none}
use Rattle.scope_tree.specs.Rows.{length-tab, get_d_tab, came_of}
use Rattle.scope_tree.specs.Views.{View, rows, entries_of}
use Rattle.rows.specs.Written.{put_at, put-inside, put-outside, written}

-- 0 for a declaration, else the number of the entry copied, plus one
abbrev pub origin_of : Came → ℕ
origin_of declared = 0
origin_of (used i) = suc i

-- what a copy shows: a scope, and among how many entries; 0 for a module's own
abbrev pub scope_of : Body → ℕ
scope_of own = 0
scope_of (copy a u) = a

abbrev pub time_of : Body → ℕ
time_of own = 0
time_of (copy a u) = u

-- kind, visibility, scope, mark, origin, what a copy shows, and the name's words
abbrev pub numbers : Entry → List ℕ
numbers e =
    e.shows.kind ∷ cond e.shows.vis 1 0 ∷ e.scope ∷ e.shows.mark ∷ origin_of e.shows.came ∷ scope_of e.body ∷ time_of e.body
    ∷ e.shows.name.w0 ∷ e.shows.name.w1 ∷ e.shows.name.w2 ∷ e.shows.name.w3 ∷ []

unfoldable pub all_numbers : List Entry → List ℕ
all_numbers [] = []
all_numbers (e ∷ es) = numbers e ++ all_numbers es

-- of a tree's entries and the lent numbers o₀: how many entries there are, and their numbers written from the start on, as far as there is place
pub record Listed (es : List Entry) (o₀ : List ℕ) (r : ℕ) (o : List ℕ) : Type 0 where
  pub count : r ≡ length es
  pub out : o ≡ written o₀ 0 (all_numbers es)

-- LAWS
pub listed_as : (es fs : List Entry) → es ≡ fs → (o₀ : List ℕ) (r : ℕ) (o : List ℕ) → Listed es o₀ r o → Listed fs o₀ r o
listed_as es fs e o₀ r o h = record { count = h.count ∙ ap length e; out = h.out ∙ ap (λ (x : List Entry). written o₀ 0 (all_numbers x)) e }

written-append : (o : List ℕ) (i : ℕ) (xs ys : List ℕ) → written o i (xs ++ ys) ≡ written (written o i xs) (i + length xs) ys
unfolding written
written-append o i [] ys = let e : i ≡ i + 0 = omega arith in ap (λ (j : ℕ). written o j ys) e
written-append o i (x ∷ xs) ys =
    let e : i + 1 + length xs ≡ i + suc (length xs) = omega arith in
    written-append (put_at o i x) (i + 1) xs ys ∙ ap (λ (j : ℕ). written (written (put_at o i x) (i + 1) xs) j ys) e

written-length : (o : List ℕ) (i : ℕ) (xs : List ℕ) → length (written o i xs) ≡ length o
unfolding written
written-length o i [] = refl
written-length o i (x ∷ xs) = written-length (put_at o i x) (i + 1) xs ∙ go (ltb i (length o))
  where
    go : (b : Bool) → length (cond b (set o i x) o) ≡ length o
    go true = length-set o i x
    go false = refl

-- THE LOOP over a row's numbers: those before i are written
module _ (o₀ : List ℕ) (at : ℕ) (xs : List ℕ) where
  pub record Putting (o : List ℕ) (i : ℕ) : Type 0 where
    pub within : i ≤ 11
    pub long : length o ≡ length o₀
    pub same : written o₀ at xs ≡ written o (at + i) (drop i xs)

  pub putting_start : Putting o₀ 0
  putting_start =
      let e : at ≡ at + 0 = omega arith in
      record { within = omega arith; long = refl; same = ap (λ (j : ℕ). written o₀ j xs) e }

  module _ (o : List ℕ) (i : ℕ) (w : Putting o i) where
    pub putting_turn : length xs ≡ 11 → i < 11 → (o' : List ℕ) → (o' ≡ put_at o (at + i) (get_or xs i 0)) × (length o' ≡ length o) → Putting o' (i + 1)
    unfolding written
    putting_turn z h o' (q, l) =
        let e : at + i + 1 ≡ at + (i + 1) = omega arith in
        record {
          within = omega arith;
          long = l ∙ w.long;
          same =
              w.same ∙ ap (written o (at + i)) (drop-cons xs i 0 (omega arith))
              ∙ ap (λ (x : List ℕ). written x (at + i + 1) (drop (suc i) xs)) (sym q)
              ∙ ap (λ (j : ℕ). written o' j (drop (suc i) xs)) e
              ∙ ap (λ (j : ℕ). written o' (at + (i + 1)) (drop j xs)) (sym (add-one i));
        }

    -- where there is place, and where there is none
    pub putting_in : length xs ≡ 11 → i < 11 → at + i < length o → {o' : List ℕ} → o' ≡ set o (at + i) (get_or xs i 0) → Putting o' (i + 1)
    putting_in z h l {o'} q =
        let p = put-inside o (at + i) (get_or xs i 0) l in
        putting_turn z h o' (q ∙ p.0, ap length q ∙ p.1)

    pub putting_out : length xs ≡ 11 → i < 11 → length o ≤ at + i → {o' : List ℕ} → o' ≡ o → Putting o' (i + 1)
    putting_out z h l {o'} q =
        let p = put-outside o (at + i) (get_or xs i 0) l in
        putting_turn z h o' (q ∙ p.0, ap length q)

    pub putting_end : length xs ≡ 11 → 11 ≤ i → o ≡ written o₀ at xs
    unfolding written
    putting_end z h =
        let b : length xs ≤ i = omega arith in
        sym (w.same ∙ ap (written o (at + i)) (drop_of_length-le xs b))

-- THE LOOP over the entries: the rows before i are written
module _ (o₀ : List ℕ) (t : View) where
  pub record Listing (o : List ℕ) (i : ℕ) : Type 0 where
    pub within : i ≤ t.count
    pub long : length o ≡ length o₀
    pub same : written o₀ 0 (all_numbers (entries_of t)) ≡ written o (i * 11) (all_numbers (drop i (entries_of t)))

  pub listing_start : Listing o₀ 0
  listing_start = record { within = omega arith; long = refl; same = refl }

  module _ (o : List ℕ) (i : ℕ) (w : Listing o i) where
    pub listing_turn : i < t.count → {r : List ℕ} → r ≡ numbers (rows t i) → {o' : List ℕ} → o' ≡ written o (i * 11) r → Listing o' (i + 1)
    unfolding all_numbers
    listing_turn h {r} u {o'} v =
        let q : o' ≡ written o (i * 11) (numbers (rows t i)) = v ∙ ap (written o (i * 11)) u in
        let b : i < length (entries_of t) = rw length-tab h in
        let e : drop i (entries_of t) ≡ rows t i ∷ drop (suc i) (entries_of t) = drop-cons (entries_of t) i none b ∙ ap (λ (x : Entry). x ∷ drop (suc i) (entries_of t)) (get_d_tab (rows t) t.count i none h) in
        let n : i * 11 + 11 ≡ (i + 1) * 11 = omega arith in
        record {
          within = omega arith;
          long = ap length q ∙ written-length o (i * 11) (numbers (rows t i)) ∙ w.long;
          same =
              w.same
              ∙ ap (λ (x : List Entry). written o (i * 11) (all_numbers x)) e
              ∙ written-append o (i * 11) (numbers (rows t i)) (all_numbers (drop (suc i) (entries_of t)))
              ∙ ap (λ (x : List ℕ). written x (i * 11 + 11) (all_numbers (drop (suc i) (entries_of t)))) (sym q)
              ∙ ap (λ (j : ℕ). written o' j (all_numbers (drop (suc i) (entries_of t)))) n
              ∙ ap (λ (j : ℕ). written o' ((i + 1) * 11) (all_numbers (drop j (entries_of t)))) (sym (add-one i));
        }

    pub listing_end : t.count ≤ i → {r : ℕ} → r ≡ t.count → Listed (entries_of t) o₀ r o
    unfolding all_numbers written
    listing_end h {r} k =
        let b : length (entries_of t) ≤ i = rw length-tab h in
        record {
          count = k ∙ sym (length-tab (rows t) t.count);
          out = sym (w.same ∙ ap (λ (x : List Entry). written o (i * 11) (all_numbers x)) (drop_of_length-le (entries_of t) b));
        }

pub origin_came : (o : ℕ) → origin_of (came_of o) ≡ o
origin_came zero = refl
origin_came (suc o) = refl
