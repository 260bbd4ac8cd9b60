-- What bytes stand for, read without a test: the value of a bundle that is not refused. Assumes nothing.
use Rattle.std.specs.Prelude.{ℕ, zero, suc, ◌+◌, ◌-◌, cond, List, [], ◌∷◌, eqb, ltb}
use Rattle.bundle.specs.Bundle.{Element, Head, Items, none, named, use_of, module_of, ignored, Remapping, File, Bundle}
use Rattle.bundle.specs.Limits.{folder_width, file_width, header, depth_limit, use_kind, module_kind, ignored_kind}
use Rattle.bundle.specs.Scan.{byte, word, text, version_of, count, past_count}
use Rattle.bundle.specs.declared.Width.{Width}
use Rattle.bundle.specs.declared.Width.TheVariants.{Byte}

-- n values, one after the other; where they end
unfoldable pub each : {A : Type 0} → (ℕ → ℕ) → (ℕ → A) → ℕ → ℕ → List A
each skip get zero at = []
each skip get (suc n) at = get at ∷ each skip get n (skip at)

unfoldable pub far : (ℕ → ℕ) → ℕ → ℕ → ℕ
far skip zero at = at
far skip (suc n) at = far skip n (skip at)

-- a counted list; `counted` has a count of one byte
abbrev pub counted_by : {A : Type 0} → Width → (ℕ → ℕ) → (ℕ → A) → List ℕ → ℕ → List A
counted_by w skip get s at = each skip get (count w s at) (past_count w at)

abbrev pub counted : {A : Type 0} → (ℕ → ℕ) → (ℕ → A) → List ℕ → ℕ → List A
counted = counted_by Byte

-- past a string, an element, a remapping, a file, and a counted list of them
abbrev pub after : List ℕ → ℕ → ℕ
after s at = at + 1 + byte s at

abbrev pub after_element : List ℕ → ℕ → ℕ
after_element s at = after s (after s at)

abbrev pub after_remapping : List ℕ → ℕ → ℕ
after_remapping s at = after s (after s (after s at))

abbrev pub after_length : List ℕ → ℕ → ℕ
after_length s at = at + 2 + word s at

abbrev pub after_file : List ℕ → ℕ → ℕ
after_file s at = after_length s (after s at)

abbrev pub after_list_by : Width → (ℕ → ℕ) → List ℕ → ℕ → ℕ
after_list_by w skip s at = far skip (count w s at) (past_count w at)

abbrev pub after_list : (ℕ → ℕ) → List ℕ → ℕ → ℕ
after_list = after_list_by Byte

unfoldable pub element_at : List ℕ → ℕ → Element
element_at s at = record { name = text s at; alias = text s (after s at) }

unfoldable pub remapping_at : List ℕ → ℕ → Remapping
remapping_at s at = record { context = text s at; name = text s (after s at); target = text s (after s (after s at)) }

-- the head of the item at `at`
abbrev pub head_at : List ℕ → ℕ → Head
head_at s at = record { kind = byte s (at + 2); mark = at; visibility = byte s (at + 3); name = text s (at + 4) }

-- the item at `at`, with the items after it; `inside` reads a module's items, to its end
unfoldable pub item_at : (ℕ → ℕ → Items) → List ℕ → ℕ → Items → Items
item_at inside s at rest =
    let kind = byte s (at + 2) in
    let visibility = byte s (at + 3) in
    let nested = module_of at visibility (text s (at + 4)) (inside (after_length s at) (after s (at + 4))) rest in
    let use_item = use_of at visibility (counted (after s) (text s) s (at + 4))
    (counted (after_element s) (element_at s) s (after_list (after s) s (at + 4))) rest in
    cond (eqb kind module_kind) nested
    (cond (eqb kind use_kind) use_item
    (cond (eqb kind ignored_kind) (ignored at visibility rest) (named (head_at s at) rest)))

-- items to the end. The first number bounds how many there are
unfoldable pub items_by : ℕ → (ℕ → ℕ → Items) → List ℕ → ℕ → ℕ → Items
items_by zero inside s end at = none
items_by (suc k) inside s end at =
    let some = item_at inside s at (items_by k inside s end (after_length s at)) in
    cond (ltb at end) some none

-- the first number is how deep modules may nest
unfoldable pub items_at : ℕ → List ℕ → ℕ → ℕ → Items
items_at zero s end at = items_by (end - at) (λ _ _. none) s end at
items_at (suc depth) s end at = items_by (end - at) (items_at depth s) s end at

unfoldable pub file_at : List ℕ → ℕ → File
file_at s at = record { path = text s at; items = items_at depth_limit s (after_file s at) (after s at + 2) }

-- where the folders', the remappings' and the files' counts stand
abbrev pub folders_at : List ℕ → ℕ
folders_at s = after s header

abbrev pub remappings_at : List ℕ → ℕ
remappings_at s = after_list_by (folder_width (version_of s)) (after s) s (folders_at s)

abbrev pub files_at : List ℕ → ℕ
files_at s = after_list (after_remapping s) s (remappings_at s)

-- the counts of the three lists, and where the first of each stands
abbrev pub folder_count : List ℕ → ℕ
folder_count s = count (folder_width (version_of s)) s (folders_at s)

abbrev pub folder_first : List ℕ → ℕ
folder_first s = past_count (folder_width (version_of s)) (folders_at s)

abbrev pub remapping_count : List ℕ → ℕ
remapping_count s = count Byte s (remappings_at s)

abbrev pub remapping_first : List ℕ → ℕ
remapping_first s = past_count Byte (remappings_at s)

abbrev pub file_count : List ℕ → ℕ
file_count s = count (file_width (version_of s)) s (files_at s)

abbrev pub file_first : List ℕ → ℕ
file_first s = past_count (file_width (version_of s)) (files_at s)

unfoldable pub decode : List ℕ → Bundle
decode s = record {
  version = version_of s;
  root = text s header;
  folders = counted_by (folder_width (version_of s)) (after s) (text s) s (folders_at s);
  remappings = counted (after_remapping s) (remapping_at s) s (remappings_at s);
  files = counted_by (file_width (version_of s)) (after_file s) (file_at s) s (files_at s);
}
