-- A use as the image has it: its count and segments, its count and elements. Assumes nothing.
use Prim.Native.Nat.{ℕ, suc, ◌+◌, ◌-◌, ◌*◌, ◌≤◌}
use native.Mathlib.Omega.{arith}
use Rattle.std.specs.Prelude.{◌≡◌, Option, Some, None, drop}
use Rattle.std.proofs.Math.Path.{refl, ap}
use Rattle.std.proofs.Common.{sym, ◌∙◌, length-drop, length-append}
use mathlib.Core.List.{List, [], ◌∷◌, ◌++◌}
use Rattle.std.proofs.Math.ListN.{length}
use Rattle.names.specs.Bytes.{ascii}
use Rattle.names.specs.Decimal.{unit_name}
use Rattle.bundle.specs.Bundle.{Text}
use Rattle.bundle.specs.Encode.{string, joined, counted, element}
use Rattle.bundle.specs.Scan.{text}
use Rattle.bundle.specs.Decode.{each, after, after_element, element_at, decode}
use Rattle.bundle.specs.ListLaws.{each-length}
use Rattle.assembly.specs.Assemble.{rewrite_use}
use Rattle.encoder.specs.Strings.{strings_at, element-bytes}
use Rattle.assembly.specs.Targets.{path_by}
use Rattle.assembly.specs.Walk.{segments_at, elements_at, use_bytes}
use Rattle.assembly.specs.declared.targets.Target.{Target}

module _ (s : List ℕ) (mark : ℕ) where
  pub elements-form : (first n : ℕ) → each (after_element s) (element_at s) n first ≡ elements_at s mark → counted element (elements_at s mark) ≡ n ∷ joined string (strings_at s (2 * n) first)
  unfolding counted
  elements-form first n e =
      ap (counted element) (sym e)
      ∙ (ap (λ (k : ℕ). k ∷ joined element (each (after_element s) (element_at s) n first)) (each-length (after_element s) (element_at s) n first)
      ∙ ap (λ (l : List ℕ). n ∷ l) (element-bytes s n first))

  -- the last segments
  module _ (first n : ℕ) (read : strings_at s n first ≡ segments_at s mark) where
    pub count-is : length (segments_at s mark) ≡ n
    count-is = ap length (sym read) ∙ each-length (after s) (text s) n first

  -- a path that keeps the last `left` segments
  pub path-form : (t : Target) → t.left ≤ length (segments_at s mark)
      → counted string (path_by (segments_at s mark) (Some t)) ≡ (t.left + 2) ∷ (string (ascii "crate") ++ (string (unit_name t.id) ++ joined string (drop (length (segments_at s mark) - t.left) (segments_at s mark))))
  unfolding counted joined
  path-form t le =
      let l = length-drop (length (segments_at s mark) - t.left) (segments_at s mark) in
      let n : suc (suc (length (drop (length (segments_at s mark) - t.left) (segments_at s mark)))) ≡ t.left + 2 = omega arith in
      ap (λ (m : ℕ). m ∷ (string (ascii "crate") ++ (string (unit_name t.id) ++ joined string (drop (length (segments_at s mark) - t.left) (segments_at s mark))))) n

  pub no_path : counted string (path_by (segments_at s mark) None) ≡ 0 ∷ []
  unfolding counted joined
  no_path = refl

  -- path and elements
  pub use_form : (file : Text) (t : Option Target) → rewrite_use (decode s) file (segments_at s mark) ≡ path_by (segments_at s mark) t
      → use_bytes s file mark ≡ counted string (path_by (segments_at s mark) t) ++ counted element (elements_at s mark)
  unfolding use_bytes
  use_form file t e = ap (λ (p : List Text). counted string p ++ counted element (elements_at s mark)) e

  pub path_room : (file : Text) (t : Option Target) → rewrite_use (decode s) file (segments_at s mark) ≡ path_by (segments_at s mark) t → (out : List ℕ)
      → length (use_bytes s file mark) ≤ length out → length (counted string (path_by (segments_at s mark) t)) ≤ length out
  path_room file t e out h = let l = ap length (use_form file t e) in omega (arith, length-append (counted string (path_by (segments_at s mark) t)) (counted element (elements_at s mark)))
