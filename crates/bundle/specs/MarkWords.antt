-- The marks of a bundle, and the bytes that stand at them. Assumes nothing.
use Rattle.std.specs.Prelude.{ℕ, ◌≡◌, List, [], ◌∷◌, ◌++◌, drop}
use Rattle.bundle.specs.Bundle.{Items, none, named, use_of, module_of, ignored, File}
use Rattle.bundle.specs.Limits.{use_kind, module_kind, ignored_kind}
use Rattle.bundle.specs.Encode.{string, sized, element, encode_head, items}
use Rattle.bundle.specs.Encode.{counted as count-list}

-- the marks of items, each before those inside it
unfoldable pub marks_of : Items → List ℕ
marks_of none = []
marks_of (named head rest) = head.mark ∷ marks_of rest
marks_of (use_of m v segments elements rest) = m ∷ marks_of rest
marks_of (module_of m v name inner rest) = m ∷ (marks_of inner ++ marks_of rest)
marks_of (ignored m v rest) = m ∷ marks_of rest

unfoldable pub file_marks : List File → List ℕ
file_marks [] = []
file_marks (f ∷ l) = marks_of f.items ++ file_marks l

-- THE BYTES AT A MARK
pub record Begins (s : List ℕ) (at : ℕ) (x : List ℕ) : Type 0 where
  pub rest : List ℕ
  pub bytes : drop at s ≡ x ++ rest

-- at each mark the item's bytes stand
unfoldable pub Found : List ℕ → Items → Type 0
Found s none = Unit {0}
Found s (named head rest) = Begins s head.mark (sized (encode_head head)) × Found s rest
Found s (use_of m v segments elements rest) = Begins s m (sized (use_kind ∷ v ∷ (count-list string segments ++ count-list element elements))) × Found s rest
Found s (module_of m v name inner rest) = Begins s m (sized (module_kind ∷ v ∷ (string name ++ items inner))) × (Found s inner × Found s rest)
Found s (ignored m v rest) = Begins s m (sized (ignored_kind ∷ v ∷ [])) × Found s rest

unfoldable pub FoundFiles : List ℕ → List File → Type 0
FoundFiles s [] = Unit {0}
FoundFiles s (f ∷ l) = Found s f.items × FoundFiles s l
