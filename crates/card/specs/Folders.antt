-- A folder's path and its index. Assumes nothing.
use Prim.Native.Nat.{ℕ, suc, ◌<◌}
use Rattle.std.proofs.Common.{arith, ◌∙◌}
use Rattle.std.specs.Prelude.{Bool, false, ◌≡◌, Option, Some, None}
use Rattle.std.proofs.Math.Bool.{true}
use Rattle.std.proofs.Math.Path.{sym}
use mathlib.Core.List.{List, [], ◌∷◌, map}
use Rattle.std.proofs.Math.Dec.{leb}
use Rattle.std.proofs.Math.ListN.{length, get_or, length-append}
use borrow.Author.Tests.{le-leb, leb-true}
use Rattle.names.specs.Bytes.{same, same-eq, equal-same, different, member, member-none, and_left, and_right, false_true}
use Rattle.names.specs.Path.{root}
use Rattle.bundle.specs.Bundle.{Text, Bundle, File}
use Rattle.bundle.specs.Decode.{decode}
use Rattle.card.specs.Index.{Looked}
use Rattle.card.specs.Card.{nodes_of, is_up_to, InFolder}
use Rattle.card.specs.Laws.{node-folder}

abbrev paths : Bundle → List Text
paths b = map (λ (f : File). f.path) b.files

module _ (s : List ℕ) (t : Text) where
  abbrev b : Bundle
  b = decode s

  pub folder-root : (u : Bool) → u ≡ same t root → u ≡ true → InFolder b t (Some 0)
  folder-root u q e = record { folder = omega arith; path = sym (same-eq t root (sym q ∙ e)) }

  pub folder-found : (folders : ℕ) → folders ≡ length b.folders → same t root ≡ false → (r : Option ℕ) → Looked (is_up_to (nodes_of b) t folders) (length (nodes_of b)) r → InFolder b t r
  unfolding member
  folder-found folders k e (Some r) L = record {
    folder = omega (arith, leb-true r folders (and_left (leb r folders) _ L.holds));
    path = same-eq _ _ (and_right (leb r folders) (same (get_or (nodes_of b) r []) t) L.holds);
  }
  folder-found folders k e None L = none
    where
      other : (j : ℕ) → j < length b.folders → t ≡ get_or b.folders j [] → ⊥
      other j h x =
          let l : suc j < length (nodes_of b) = omega (arith, length-append b.folders (paths b)) in
          let m = L (suc j) (λ y. omega arith) l in
          let y : same (get_or (nodes_of b) (suc j) []) t ≡ true = equal-same _ _ (node-folder b.folders (paths b) j h ∙ sym x) in
          let o : leb (suc j) folders ≡ true = le-leb (suc j) folders (omega arith) in
          false_true (sym m ∙ rw (o, y))

      none : member t (root ∷ b.folders) ≡ false
      none = rw e (member-none t b.folders (λ j h. different t (get_or b.folders j []) (λ x. absurd (other j h x))))
