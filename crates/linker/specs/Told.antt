-- Which tree comes back with an answer of the code. Assumes nothing.
use Rattle.std.specs.Prelude.{Bool, true, false, cond, Result, Ok, Err}
use Rattle.refusal.specs.declared.Refusal.{Refusal}
use Rattle.scope_tree.specs.declared.Tree.{Tree}
use Rattle.program.specs.declared.assembled.Assembled.{Assembled}
use Rattle.program.specs.declared.assembled.Assembled.TheVariants.{Report, Image}

abbrev pub is_image : Assembled → Bool
is_image (Report n) = false
is_image (Image u n) = true

abbrev pub has_image : Result Assembled Refusal → Bool
has_image (Ok x) = is_image x
has_image (Err e) = false

-- the one made where there is an image, and otherwise the one given
abbrev pub tree_with : Result Assembled Refusal → Tree → Tree → Tree
tree_with r made given = cond (has_image r) made given
