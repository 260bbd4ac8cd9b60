-- The image of a program: its bytes, its length, and what a lent buffer holds afterwards. Items are written in the bundle's item
-- form, which has no marks. Assumes nothing.
use Rattle.std.specs.Prelude.{ℕ, suc, ◌+◌, ◌-◌, ◌<◌, ◌≤◌, Bool, List, [], ◌∷◌, ◌++◌, take, drop}
use Rattle.std.proofs.Common.{arith, length-append, length-drop, take_at, drop_at}
use Rattle.std.proofs.Math.Bool.{true, false, cond}
use Rattle.std.proofs.Math.Path.{◌≡◌, refl}
use Rattle.std.proofs.Math.Dec.{leb}
use Rattle.std.proofs.Math.ListN.{length}
use borrow.Author.Tests.{leb-true, leb-false, le-leb, lt-leb}
use Rattle.bundle.specs.Bundle.{Text, Element, Head, Items, none, named, use_of, module_of, ignored}
use Rattle.bundle.specs.Encode.{two, string, joined, counted, sized, element, encode_head, items}
use Rattle.bundle.specs.Limits.{version, header, capacity, use_kind, module_kind, ignored_kind}
use Rattle.bundle.specs.declared.Width.TheVariants.{Word}
use Rattle.assembly.specs.Results.{Imaged}
use Rattle.assembly.specs.Results as imaged

-- the specification's numbers
abbrev pub small_buffer : ℕ
small_buffer = 14

abbrev pub long_image : ℕ
long_image = 15

-- the most bytes after the header
abbrev pub image_limit : ℕ
image_limit = capacity Word - 1

-- one byte more than that: a sum of lengths that passes it stays there
abbrev pub length_cap : ℕ
length_cap = suc image_limit

-- BYTES
-- version 1, a 2-byte length, and the unit items
unfoldable pub image_bytes : Items → List ℕ
image_bytes p = version ∷ sized (items p)

-- how many bytes the items take
unfoldable pub segments_length : List Text → ℕ
segments_length [] = 0
segments_length (s ∷ l) = 1 + length s + segments_length l

unfoldable pub elements_length : List Element → ℕ
elements_length [] = 0
elements_length (e ∷ l) = 2 + length e.name + length e.alias + elements_length l

-- a named item's own: its length and its head
abbrev pub head_length : Head → ℕ
head_length h = 5 + length h.name

unfoldable pub items_length : Items → ℕ
items_length none = 0
items_length (named head rest) = head_length head + items_length rest
items_length (use_of m v segments elements rest) = 6 + segments_length segments + elements_length elements + items_length rest
items_length (module_of m v name inner rest) = 5 + length name + items_length inner + items_length rest
items_length (ignored m v rest) = 4 + items_length rest

abbrev pub image_length : Items → ℕ
image_length p = header + items_length p

-- THE LENT BUFFER
-- the answer for a buffer of n bytes: 15 comes before 14
unfoldable pub imaging : Items → ℕ → Imaged
imaging p n =
    cond (leb (items_length p) image_limit)
    (cond (leb (image_length p) n) (imaged.Image (image_length p)) (imaged.Refused small_buffer 0))
    (imaged.Refused long_image 0)

-- what it holds afterwards: the image at its start and the rest as it was where all of it fits, and otherwise what it held
unfoldable pub lent_image : Items → List ℕ → List ℕ
lent_image p out =
    cond (leb (items_length p) image_limit)
    (cond (leb (image_length p) (length out)) (image_bytes p ++ drop (image_length p) out) out)
    out

-- LAWS
segments-length : (l : List Text) → length (joined string l) ≡ segments_length l
unfolding joined string segments_length
segments-length [] = refl
segments-length (s ∷ l) = omega (arith, segments-length l, length-append (length s ∷ s) (joined string l))

elements-length : (l : List Element) → length (joined element l) ≡ elements_length l
unfolding joined element string elements_length
elements-length [] = refl
elements-length (e ∷ l) =
    omega (arith, elements-length l, length-append (element e) (joined element l), length-append (string e.name) (string e.alias))

pub sized-length : (s : List ℕ) → length (sized s) ≡ 2 + length s
unfolding sized two
sized-length s = omega arith

head-length : (h : Head) → length (sized (encode_head h)) ≡ head_length h
unfolding string
head-length h = omega (arith, sized-length (encode_head h))

-- the counted length is that of the bytes
pub items-length : (p : Items) → length (items p) ≡ items_length p
unfolding items items_length string counted
items-length none = refl
items-length (named head rest) = omega (arith, items-length rest, length-append (sized (encode_head head)) (items rest), head-length head)
items-length (use_of m v segments elements rest) =
    let body = counted string segments ++ counted element elements in
    omega (arith, items-length rest, length-append (sized (use_kind ∷ v ∷ body)) (items rest), sized-length (use_kind ∷ v ∷ body), length-append (counted string segments) (counted element elements), segments-length segments, elements-length elements)
items-length (module_of m v name inner rest) =
    let body = string name ++ items inner in
    omega (arith, items-length rest, items-length inner, length-append (sized (module_kind ∷ v ∷ body)) (items rest), sized-length (module_kind ∷ v ∷ body), length-append (string name) (items inner))
items-length (ignored m v rest) =
    omega (arith, items-length rest, length-append (sized (ignored_kind ∷ v ∷ [])) (items rest), sized-length (ignored_kind ∷ v ∷ []))

pub image-length : (p : Items) → length (image_bytes p) ≡ image_length p
unfolding image_bytes
image-length p = omega (arith, items-length p, sized-length (items p))

-- where it fits: the image's bytes, then the bytes that were there; the answer is the length
pub record Fits (p : Items) (out : List ℕ) : Type 0 where
  pub answered : imaging p (length out) ≡ imaged.Image (image_length p)
  pub written : take (image_length p) (lent_image p out) ≡ image_bytes p
  pub rest : drop (image_length p) (lent_image p out) ≡ drop (image_length p) out

-- where it doesn't: the number at place 0, and not a byte is changed
pub record Exceeds (p : Items) (out : List ℕ) (number : ℕ) : Type 0 where
  pub answered : imaging p (length out) ≡ imaged.Refused number 0
  pub untouched : lent_image p out ≡ out

module _ (p : Items) (out : List ℕ) where
  pub fits : items_length p ≤ image_limit → image_length p ≤ length out → Fits p out
  unfolding imaging lent_image
  fits h k = record {
    answered = rw (le-leb (items_length p) image_limit h, le-leb (image_length p) (length out) k);
    written = rw (le-leb (items_length p) image_limit h, le-leb (image_length p) (length out) k) (take_at (image_bytes p) (drop (image_length p) out) (image_length p) (image-length p));
    rest = rw (le-leb (items_length p) image_limit h, le-leb (image_length p) (length out) k) (drop_at (image_bytes p) (drop (image_length p) out) (image_length p) (image-length p));
  }

  -- 14
  pub small : items_length p ≤ image_limit → length out < image_length p → Exceeds p out small_buffer
  unfolding imaging lent_image
  small h k = record {
    answered = rw (le-leb (items_length p) image_limit h, lt-leb (image_length p) (length out) k);
    untouched = rw (le-leb (items_length p) image_limit h, lt-leb (image_length p) (length out) k);
  }

  -- 15, however large the buffer is
  pub long : image_limit < items_length p → Exceeds p out long_image
  unfolding imaging lent_image
  long h = record {
    answered = rw (lt-leb (items_length p) image_limit h);
    untouched = rw (lt-leb (items_length p) image_limit h);
  }

  -- the numbers are answered only there
  pub long-only : imaging p (length out) ≡ imaged.Refused long_image 0 → image_limit < items_length p
  unfolding imaging
  long-only e = go (leb (items_length p) image_limit) (leb (image_length p) (length out)) refl e
    where
      go : (t u : Bool) → leb (items_length p) image_limit ≡ t
          → cond t (cond u (imaged.Image (image_length p)) (imaged.Refused small_buffer 0)) (imaged.Refused long_image 0) ≡ imaged.Refused long_image 0 → image_limit < items_length p
      go true true h k = let z : ◌≡◌ {A = ℕ} 0 1 = cc in absurd (omega arith)
      go true false h k = let z : ◌≡◌ {A = ℕ} 14 15 = cc in absurd (omega arith)
      go false u h k = leb-false (items_length p) image_limit h

  pub small-only : imaging p (length out) ≡ imaged.Refused small_buffer 0 → length out < image_length p
  unfolding imaging
  small-only e = go (leb (items_length p) image_limit) (leb (image_length p) (length out)) refl e
    where
      go : (t u : Bool) → leb (image_length p) (length out) ≡ u
          → cond t (cond u (imaged.Image (image_length p)) (imaged.Refused small_buffer 0)) (imaged.Refused long_image 0) ≡ imaged.Refused small_buffer 0 → length out < image_length p
      go true true h k = let z : ◌≡◌ {A = ℕ} 0 1 = cc in absurd (omega arith)
      go true false h k = leb-false (image_length p) (length out) h
      go false u h k = let z : ◌≡◌ {A = ℕ} 14 15 = cc in absurd (omega arith)

-- MARKS ARE NOT IN THE IMAGE
-- a head without its mark
abbrev pub unmarked_head : Head → Head
unmarked_head h = record { kind = h.kind; mark = 0; visibility = h.visibility; name = h.name }

unfoldable pub unmarked : Items → Items
unmarked none = none
unmarked (named head rest) = named (unmarked_head head) (unmarked rest)
unmarked (use_of m v segments elements rest) = use_of 0 v segments elements (unmarked rest)
unmarked (module_of m v name inner rest) = module_of 0 v name (unmarked inner) (unmarked rest)
unmarked (ignored m v rest) = ignored 0 v (unmarked rest)

items-unmarked : (p : Items) → items (unmarked p) ≡ items p
unfolding items unmarked
items-unmarked none = refl
items-unmarked (named head rest) = rw (items-unmarked rest)
items-unmarked (use_of m v segments elements rest) = rw (items-unmarked rest)
items-unmarked (module_of m v name inner rest) = rw (items-unmarked rest, items-unmarked inner)
items-unmarked (ignored m v rest) = rw (items-unmarked rest)

pub image-unmarked : (p q : Items) → unmarked p ≡ unmarked q → image_bytes p ≡ image_bytes q
unfolding image_bytes
image-unmarked p q e = rw (← items-unmarked p, ← items-unmarked q, e)

-- the buffer keeps its length
pub same_length : (p : Items) (out : List ℕ) → length (lent_image p out) ≡ length out
unfolding lent_image
same_length p out = go (leb (items_length p) image_limit) (leb (image_length p) (length out)) refl
  where
    go : (t u : Bool) → leb (image_length p) (length out) ≡ u
        → length (cond t (cond u (image_bytes p ++ drop (image_length p) out) out) out) ≡ length out
    go true true h =
        let l = leb-true (image_length p) (length out) h in
        omega (arith, length-append (image_bytes p) (drop (image_length p) out), image-length p, length-drop (image_length p) out)
    go true false h = refl
    go false u h = refl
