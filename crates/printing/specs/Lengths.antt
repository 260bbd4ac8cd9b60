-- How long a printed line is at most: numbers, names, paths of modules, and the lines of each kind. Assumes nothing.
use Rattle.std.specs.Prelude.{ℕ, zero, suc, ◌+◌, ◌*◌, ◌/◌, ◌%◌, ◌^◌, ◌≤◌, ◌<◌, Bool, true, false, cond, ◌≡◌, refl, eqb, length, get_or}
use Rattle.std.proofs.Common.{pow-suc, arith, ⊎_elim, sym, subst, length-append}
use Rattle.std.proofs.Math.Decide.{dec_lt}
use mathlib.Core.List.Memᴰ
use mathlib.Core.List.{List, [], ◌∷◌, ◌++◌, map, Memᴰ}
use Rattle.std.proofs.lemmas.List.{length-map}
use Rattle.bundle.specs.Limits.{file_limit}
use Rattle.names.specs.Bytes.{ascii}
use Rattle.names.specs.Decimal.{decimal, width, width_one, width-more}
use Rattle.names.specs.declared.Name.{Name}
use Rattle.text.specs.Words.{Text, line, lines, no_line, bytes_of, spelled}
use Rattle.discovery.specs.Discovery.{Fault}
use Rattle.scope_tree.specs.Flat.{Entry, none}
use Rattle.printing.specs.Lines.{unit_line, fault_line, ring_lines, linked_lines}
use Rattle.tree_lines.specs.Entries.{module_path, has_line, has_lines}
use Rattle.printing.specs.DepthTheorems.{Within}

-- NUMBERS
pub width_fits : (k n : ℕ) → n < 10 ^ suc k → width n ≤ suc k
width_fits zero n h = let l : n < 10 = h in omega (arith, width_one n l)
width_fits (suc k) n h = go (dec_lt n 10) (width_fits k (n / 10))
  where
    go : Dec (n < 10) → (n / 10 < 10 ^ suc k → width (n / 10) ≤ suc k) → width n ≤ suc (suc k)
    go (yes l) f = omega (arith, width_one n l)
    go (no l) f =
        let p : 10 ^ suc (suc k) ≡ 10 ^ suc k * 10 = pow-suc 10 (suc k) in
        let r = f (omega arith) in
        omega (arith, width-more n (omega arith))

pub one-digit : (n : ℕ) → n < 10 → width n ≤ 1
one-digit n h = width_fits 0 n h

pub two_digits : (n : ℕ) → n < 100 → width n ≤ 2
two_digits n h = width_fits 1 n h

pub five_digits : (n : ℕ) → n < 65536 → width n ≤ 5
five_digits n h = let l : n < 100000 = omega arith in width_fits 4 n l

-- NAMES
bytes-short : (k w : ℕ) → length (bytes_of k w) ≤ k
unfolding bytes_of
bytes-short zero w = omega arith
bytes-short (suc k) w = go (eqb (w / 256 ^ k % 256) 0) (bytes-short k w)
  where
    go : (t : Bool) → length (bytes_of k w) ≤ k → length (cond t [] (w / 256 ^ k % 256 ∷ bytes_of k w)) ≤ suc k
    go true h = omega arith
    go false h = omega arith

four_short : (a b c d : Text) → length a ≤ 8 → length b ≤ 8 → length c ≤ 8 → length d ≤ 8 → length (a ++ b ++ c ++ d) ≤ 32
four_short a b c d p q r s = omega (arith, length-append (a ++ b ++ c) d, length-append (a ++ b) c, length-append a b)

pub spelled-short : (n : Name) → length (spelled n) ≤ 32
unfolding spelled
spelled-short n = four_short (bytes_of 8 n.w0) (bytes_of 8 n.w1) (bytes_of 8 n.w2) (bytes_of 8 n.w3) (bytes-short 8 n.w0) (bytes-short 8 n.w1) (bytes-short 8 n.w2) (bytes-short 8 n.w3)

-- WORDS
line-last : (w : Text) → length (line (w ∷ [])) ≡ length w + 1
unfolding line
line-last w = length-append w (10 ∷ [])

line-more : (w x : Text) (ws : List Text) → length (line (w ∷ x ∷ ws)) ≡ length w + 1 + length (line (x ∷ ws))
unfolding line
line-more w x ws = omega (arith, length-append w (32 ∷ line (x ∷ ws)))

has-length : length (ascii "has") ≡ 3
unfolding ascii
has-length = refl

no_length : length (ascii "no") ≡ 2
unfolding ascii
no_length = refl

ok-length : length (ascii "ok") ≡ 2
unfolding ascii
ok-length = refl

unit-length : length (ascii "unit") ≡ 4
unfolding ascii
unit-length = refl

ring-length : length (ascii "ring") ≡ 4
unfolding ascii
ring-length = refl

crate_length : length (ascii "crate") ≡ 5
unfolding ascii
crate_length = refl

colons_length : length (ascii "::") ≡ 2
unfolding ascii
colons_length = refl

-- lines of at most n bytes each
pub lines-length : (n : ℕ) (ls : List (List Text)) → ((l : List Text) → Memᴰ l ls → length (line l) ≤ n) → length (lines ls) ≤ length ls * n
unfolding lines
lines-length n [] f = omega arith
lines-length n (l ∷ ls) f =
    let h = lines-length n ls (λ k m. f k (Memᴰ.tail m)) in
    let k = f l (Memᴰ.head refl) in
    omega (arith, length-append (line l) (lines ls))

-- MODULES: at most d deep
pub path-short : (k d : ℕ) (l : List Entry) (s : ℕ) → Within d l s → length (module_path k l s) ≤ 5 + d * 34
unfolding module_path Within
path-short zero d l s w = omega (arith, crate_length)
path-short (suc k) d l zero w = omega (arith, crate_length)
path-short (suc k) zero l (suc i) w = absurd w
path-short (suc k) (suc d) l (suc i) w =
    let h = path-short k d l (get_or l i none).scope w.1 in
    omega (
      arith,
      h,
      length-append (module_path k l (get_or l i none).scope) (ascii "::" ++ spelled (get_or l i none).shows.name),
      length-append (ascii "::") (spelled (get_or l i none).shows.name),
      colons_length,
      spelled-short (get_or l i none).shows.name,
    )

-- THE LINES OF EACH KIND
-- `no`: a number below 100, a place of at most 20 digits
pub no_short : (n p : ℕ) → n < 100 → width p ≤ 20 → length (line (no_line n p)) ≤ 27
no_short n p h k =
    omega (arith, line-more (ascii "no") (decimal n) (decimal p ∷ []), line-more (decimal n) (decimal p) [], line-last (decimal p), no_length, two_digits n h)

pub has_short : (l : List Entry) (e : Entry) → Within 9 l e.scope → e.shows.kind < 10 → e.shows.mark < 65536 → length (line (has_line l e)) ≤ 357
has_short l e w k m =
    let path = module_path (length l) l e.scope in
    let kind = decimal e.shows.kind in
    let name = spelled e.shows.name in
    let mark = decimal e.shows.mark in
    omega (
      arith,
      line-more (ascii "has") path (kind ∷ name ∷ mark ∷ []),
      line-more path kind (name ∷ mark ∷ []),
      line-more kind name (mark ∷ []),
      line-more name mark [],
      line-last mark,
      has-length,
      path-short (length l) 9 l e.scope w,
      one-digit e.shows.kind k,
      spelled-short e.shows.name,
      five_digits e.shows.mark m,
    )

pub has-from : (l es : List Entry) (w : List Text) → Memᴰ w (has_lines l es) → (e : Entry) × (Memᴰ e es × (w ≡ has_line l e))
unfolding has_lines
has-from l [] w m = absurd (Memᴰ.not-nil m)
has-from l (e ∷ es) w m = go (eqb e.scope 0) (has-from l es w) m
  where
    later : (x : Entry) × (Memᴰ x es × (w ≡ has_line l x)) → (x : Entry) × (Memᴰ x (e ∷ es) × (w ≡ has_line l x))
    later r = (r.0, (Memᴰ.tail r.1.0, r.1.1))

    go : (t : Bool) → (Memᴰ w (has_lines l es) → (x : Entry) × (Memᴰ x es × (w ≡ has_line l x))) → Memᴰ w (cond t (has_lines l es) (has_line l e ∷ has_lines l es)) → (x : Entry) × (Memᴰ x (e ∷ es) × (w ≡ has_line l x))
    go true f k = later (f k)
    go false f k = ⊎_elim (λ q. (e, (Memᴰ.head refl, q))) (λ j. later (f j)) (Memᴰ.cases_cons k)

pub has-few : (l es : List Entry) → length (has_lines l es) ≤ length es
unfolding has_lines
has-few l [] = omega arith
has-few l (e ∷ es) = go (eqb e.scope 0) (has-few l es)
  where
    go : (t : Bool) → length (has_lines l es) ≤ length es → length (cond t (has_lines l es) (has_line l e ∷ has_lines l es)) ≤ suc (length es)
    go true h = omega arith
    go false h = omega arith

pub unit-short : (paths : List Text) (u : ℕ) → u < 100 → length (get_or paths u []) ≤ 255 → length (line (unit_line paths u)) ≤ 357
unit-short paths u h k =
    omega (arith, line-more (ascii "unit") (decimal u) (get_or paths u [] ∷ []), line-more (decimal u) (get_or paths u []) [], line-last (get_or paths u []), unit-length, two_digits u h)

ok-short : (n : ℕ) → n < 100 → length (line (ascii "ok" ∷ decimal n ∷ [])) ≤ 357
ok-short n h = omega (arith, line-more (ascii "ok") (decimal n) [], line-last (decimal n), ok-length, two_digits n h)

-- LINKED
pub linked-fits : (paths : List Text) (o : List ℕ) (l : List Entry) → length o ≤ file_limit → ((u : ℕ) → Memᴰ u o → (u < file_limit) × (length (get_or paths u []) ≤ 255)) → length l ≤ 1024
    → ((e : Entry) → Memᴰ e l → Within 9 l e.scope × ((e.shows.kind < 10) × (e.shows.mark < 65536))) → length (lines (linked_lines paths o l)) ≤ 400000
linked-fits paths o l few units most entries =
    let n = lines-length 357 (linked_lines paths o l) each in
    omega (arith, length-append (map (unit_line paths) o) (has_lines l l), length-map o (unit_line paths), has-few l l)
  where
    of_units : (w : List Text) → Memᴰ w (map (unit_line paths) o) → length (line w) ≤ 357
    of_units w m = let t = Memᴰ.of_map (unit_line paths) o m in let u = units t.0 t.1 in subst (λ (x : List Text). length (line x) ≤ 357) t.2 (unit-short paths t.0 (omega (arith, u.0)) u.1)

    of-entries : (w : List Text) → Memᴰ w (has_lines l l) → length (line w) ≤ 357
    of-entries w m = let t = has-from l l w m in let u = entries t.0 t.1.0 in subst (λ (x : List Text). length (line x) ≤ 357) (sym t.1.1) (has_short l t.0 u.0 u.1.0 u.1.1)

    each : (w : List Text) → Memᴰ w (linked_lines paths o l) → length (line w) ≤ 357
    each w m =
        ⊎_elim (λ q. subst (λ (x : List Text). length (line x) ≤ 357) (sym q) (ok-short (length o) (omega arith)))
        (λ k. ⊎_elim (of_units w) (of-entries w) (Memᴰ.append_cases (map (unit_line paths) o) k)) (Memᴰ.cases_cons m)

-- FAULTS, at most 2,000
pub faults-fit : (l : List Fault) → length l ≤ 2000 → ((f : Fault) → Memᴰ f l → (f.number < 100) × (f.place < 65536)) → length (lines (map fault_line l)) ≤ 400000
faults-fit l few small = let n = lines-length 27 (map fault_line l) each in omega (arith, length-map l fault_line)
  where
    each : (w : List Text) → Memᴰ w (map fault_line l) → length (line w) ≤ 27
    each w m =
        let t = Memᴰ.of_map fault_line l m in
        let u = small t.0 t.1 in
        subst (λ (x : List Text). length (line x) ≤ 27) t.2 (no_short t.0.number t.0.place u.0 (let d = five_digits t.0.place u.1 in omega arith))

-- A RING
ids_short : (w : Text) (r : List ℕ) → ((u : ℕ) → Memᴰ u r → u < file_limit) → length (line (w ∷ map decimal r)) ≤ length w + 1 + length r * 3
ids_short w [] h = omega (arith, line-last w)
ids_short w (u ∷ r) h = omega (arith, line-more w (decimal u) (map decimal r), two_digits u (omega (arith, h u (Memᴰ.head refl))), ids_short (decimal u) r (λ x m. h x (Memᴰ.tail m)))

pub ring-fits : (r : List ℕ) → length r ≤ file_limit → ((u : ℕ) → Memᴰ u r → u < file_limit) → length (lines (ring_lines r)) ≤ 400000
ring-fits r few small =
    lines-short (lines-length 357 (ring_lines r) (λ w m.
    ⊎_elim (λ q. subst (λ (x : List Text). length (line x) ≤ 357) (sym q) (let k = no_short 26 0 (omega arith) (let d = one-digit 0 (omega arith) in omega arith) in omega arith))
    (λ j. ⊎_elim (λ q. subst (λ (x : List Text). length (line x) ≤ 357) (sym q) (omega (arith, ids_short (ascii "ring") r small, ring-length))) (λ i. absurd (Memᴰ.not-nil i)) (Memᴰ.cases_cons j))
    (Memᴰ.cases_cons m)))
  where
    lines-short : length (lines (ring_lines r)) ≤ 2 * 357 → length (lines (ring_lines r)) ≤ 400000
    lines-short h = omega arith

-- ONE LINE
pub one-fits : (n p : ℕ) → n < 100 → width p ≤ 20 → length (lines (no_line n p ∷ [])) ≤ 400000
unfolding lines
one-fits n p h k = omega (arith, length-append (line (no_line n p)) [], no_short n p h k)
