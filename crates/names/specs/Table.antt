-- A table of words as rows of one width, filled up with zeros, and the words' lengths. Assumes nothing.
use Rattle.std.specs.Prelude.{ℕ, zero, suc, ◌<◌, ◌≤◌, ◌-◌, ◌≡◌, refl, get_or, take, replicate}
use Rattle.std.proofs.Common.{not-suc-le-zero, le_of_suc-le-suc, arith}
use mathlib.Core.List.{List, [], ◌∷◌, ◌++◌, map}
use Rattle.std.proofs.Math.ListN.{length, length-append}
use Rattle.std.proofs.Math.Seq.{take-append_seam}

get_d_map : {A B : Type 0} (f : A → B) (l : List A) (k : ℕ) (d : B) (e : A) → k < length l → get_or (map f l) k d ≡ f (get_or l k e)
get_d_map f [] k d e h = absurd (not-suc-le-zero h)
get_d_map f (a ∷ l) zero d e h = refl
get_d_map f (a ∷ l) (suc k) d e h = get_d_map f l k d e (le_of_suc-le-suc h)

-- a word as a row
unfoldable pub padded : ℕ → List ℕ → List ℕ
padded width w = w ++ replicate (width - length w) 0

abbrev pub rows : ℕ → List (List ℕ) → List (List ℕ)
rows width words = map (padded width) words

abbrev pub lengths : List (List ℕ) → List ℕ
lengths words = map length words

module _ (width : ℕ) (words : List (List ℕ)) (k : ℕ) (h : k < length words) where
  pub row_fits : get_or (lengths words) k 0 ≤ length (get_or (rows width words) k [])
  unfolding padded
  row_fits =
      rw (get_d_map length words k 0 [] h, get_d_map (padded width) words k [] [] h)
      (simp length-append (omega arith))

  pub row_is : take (get_or (lengths words) k 0) (get_or (rows width words) k []) ≡ get_or words k []
  unfolding padded
  row_is = rw (get_d_map length words k 0 [] h, get_d_map (padded width) words k [] [] h) (take-append_seam _ _)
