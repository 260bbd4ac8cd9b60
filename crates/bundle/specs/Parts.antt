-- The parts of items: what accessors answer. Assumes nothing.
use Rattle.std.specs.Prelude.{ℕ, List, []}
use Rattle.bundle.specs.Bundle.{Text, Element, Head, Items, none, named, use_of, module_of, ignored}
use Rattle.bundle.specs.Limits.{use_kind, module_kind, ignored_kind}

-- a head by its parts
abbrev pub headed : (kind mark visibility : ℕ) (name : Text) → Head
headed k m v name = record { kind = k; mark = m; visibility = v; name = name }

-- OF THE FIRST ITEM: its head; a use's segments and elements; a module's items; and the items after it
unfoldable pub head_of : Items → Head
head_of none = headed 0 0 0 []
head_of (named head rest) = head
head_of (use_of m v segments elements rest) = headed use_kind m v []
head_of (module_of m v name inner rest) = headed module_kind m v name
head_of (ignored m v rest) = headed ignored_kind m v []

-- its kind, mark, visibility, name
unfoldable pub kind_of : Items → ℕ
kind_of x = (head_of x).kind

unfoldable pub mark_of : Items → ℕ
mark_of x = (head_of x).mark

unfoldable pub visibility_of : Items → ℕ
visibility_of x = (head_of x).visibility

unfoldable pub name_of : Items → Text
name_of x = (head_of x).name

unfoldable pub segments_of : Items → List Text
segments_of none = []
segments_of (named head rest) = []
segments_of (use_of m v segments elements rest) = segments
segments_of (module_of m v name inner rest) = []
segments_of (ignored m v rest) = []

unfoldable pub elements_of : Items → List Element
elements_of none = []
elements_of (named head rest) = []
elements_of (use_of m v segments elements rest) = elements
elements_of (module_of m v name inner rest) = []
elements_of (ignored m v rest) = []

unfoldable pub inner_of : Items → Items
inner_of none = none
inner_of (named head rest) = none
inner_of (use_of m v segments elements rest) = none
inner_of (module_of m v name inner rest) = inner
inner_of (ignored m v rest) = none

unfoldable pub rest_of : Items → Items
rest_of none = none
rest_of (named head rest) = rest
rest_of (use_of m v segments elements rest) = rest
rest_of (module_of m v name inner rest) = rest
rest_of (ignored m v rest) = rest
