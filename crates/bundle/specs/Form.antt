-- The form and the limits of a bundle as data. Assumes nothing.
use Rattle.std.specs.Prelude.{ℕ, ◌+◌, ◌-◌, ◌≤◌, ◌<◌, Bool, true, ◌&&◌, ◌||◌, not, ◌≡◌, List, [], ◌∷◌, ◌++◌, map, eqb, length}
use Rattle.names.specs.Bytes.{same, member}
use Rattle.names.specs.Path.{is_path}
use Rattle.names.specs.Path.{root as slash-path}
use Rattle.names.specs.Prefix.{directly_in}
use Rattle.names.specs.Identifier.{is_identifier}
use Rattle.names.specs.Keywords.{is_keyword, is_crate}
use Rattle.bundle.specs.Bundle.{Text, Element, Head, Items, none, named, use_of, module_of, ignored, Remapping, File, Bundle, with_slash}
use Rattle.bundle.specs.Limits.{defined, header, width, capacity, folder_width, file_width, most_folders, remapping_limit, most_files, item_limit, most_uses, segment_limit, element_limit, depth_limit, use_kind, module_kind, ignored_kind}
use Rattle.bundle.specs.declared.Width.TheVariants.{Byte, Word}
use Rattle.bundle.specs.Encode.{string, counted_by, counted, sized, element, encode_head, items, remapping, file, fields}
use Rattle.bundle.specs.Conflicts.{any}

-- what holds of every element
unfoldable pub Every : {A : Type 0} → (A → Type 0) → List A → Type 0
Every P [] = Unit {0}
Every P (a ∷ l) = P a × Every P l

abbrev pub IsPath : Text → Type 0
IsPath t = is_path t ≡ true

abbrev pub IsName : Text → Type 0
IsName t = is_identifier t ≡ true

-- none, or a name
abbrev pub IsAlias : Text → Type 0
IsAlias t = (eqb (length t) 0 || is_identifier t) ≡ true

-- a length byte counts it
abbrev pub Short : Text → Type 0
Short t = length t < capacity Byte

abbrev pub FormedElement : Element → Type 0
FormedElement e = IsName e.name × IsAlias e.alias

-- a remapping name may be any string
abbrev pub FormedRemapping : Remapping → Type 0
FormedRemapping r = IsPath r.context × (Short r.name × IsPath r.target)

-- a type alias, a function, an enum
abbrev pub NamedKind : ℕ → Type 0
NamedKind k = (1 ≤ k) × ((k ≤ 4) × (k ≡ use_kind → ⊥))

-- the head of a named item
pub record FormedHead (h : Head) : Type 0 where
  pub kind : NamedKind h.kind
  pub visibility : h.visibility ≤ 1
  pub name : IsName h.name

-- items in form, with modules at most so deep
unfoldable pub Formed : Items → ℕ → Type 0
Formed none depth = Unit {0}
Formed (named head rest) depth = FormedHead head × Formed rest depth
Formed (use_of m v segments elements rest) depth =
    (v ≤ 1) × (((length segments ≤ segment_limit) × Every IsName segments) × (((length elements ≤ element_limit) × Every FormedElement elements) × Formed rest depth))
Formed (module_of m v name inner rest) depth = (v ≤ 1) × (IsName name × (((0 < depth) × Formed inner (depth - 1)) × Formed rest depth))
Formed (ignored m v rest) depth = (v ≤ 1) × Formed rest depth

-- every mark is the offset of its item; the first item's is the number
unfoldable pub Marked : Items → ℕ → Type 0
Marked none at = Unit {0}
Marked (named head rest) at = (head.mark ≡ at) × Marked rest (at + length (sized (encode_head head)))
Marked (use_of m v segments elements rest) at =
    (m ≡ at) × Marked rest (at + length (sized (use_kind ∷ v ∷ (counted string segments ++ counted element elements))))
Marked (module_of m v name inner rest) at =
    (m ≡ at) × (Marked inner (at + 4 + length (string name)) × Marked rest (at + length (sized (module_kind ∷ v ∷ (string name ++ items inner)))))
Marked (ignored m v rest) at = (m ≡ at) × Marked rest (at + length (sized (ignored_kind ∷ v ∷ [])))

-- how many items, and how many uses, nested ones too
unfoldable pub item_count : Items → ℕ
item_count none = 0
item_count (named head rest) = 1 + item_count rest
item_count (use_of m v segments elements rest) = 1 + item_count rest
item_count (module_of m v name inner rest) = 1 + item_count inner + item_count rest
item_count (ignored m v rest) = 1 + item_count rest

unfoldable pub use_count : Items → ℕ
use_count none = 0
use_count (named head rest) = use_count rest
use_count (use_of m v segments elements rest) = 1 + use_count rest
use_count (module_of m v name inner rest) = use_count inner + use_count rest
use_count (ignored m v rest) = use_count rest

-- files, the first at the offset
abbrev pub FormedFile : File → Type 0
FormedFile f = IsPath f.path × Formed f.items depth_limit

unfoldable pub MarkedFiles : List File → ℕ → Type 0
MarkedFiles [] at = Unit {0}
MarkedFiles (f ∷ fs) at = Marked f.items (at + length (string f.path) + 2) × MarkedFiles fs (at + length (file f))

unfoldable pub file_items : List File → ℕ
file_items [] = 0
file_items (f ∷ fs) = item_count f.items + file_items fs

unfoldable pub file_uses : List File → ℕ
file_uses [] = 0
file_uses (f ∷ fs) = use_count f.items + file_uses fs

-- where the files start
abbrev pub first_file : Bundle → ℕ
first_file b =
    header + length (string b.root) + length (counted_by (folder_width b.version) string b.folders) + length (counted remapping b.remappings) + width (file_width b.version)

-- THE FORM AND THE LIMITS, 1 to 6
pub record InForm (b : Bundle) : Type 0 where
  pub version : defined b.version ≡ true
  pub root : IsPath b.root
  pub folder_count_within : length b.folders ≤ most_folders b.version
  pub folders : Every IsPath b.folders
  pub remapping_count_within : length b.remappings ≤ remapping_limit
  pub remappings : Every FormedRemapping b.remappings
  pub some_file : 1 ≤ length b.files
  pub file_count_within : length b.files ≤ most_files b.version
  pub files : Every FormedFile b.files
  pub item_count_within : file_items b.files ≤ item_limit
  pub use_count_within : file_uses b.files ≤ most_uses b.version
  pub marks : MarkedFiles b.files (first_file b)
  -- the header's length counts it
  pub size : length (fields b) < capacity Word

-- NO CONFLICTS, 7 to 13
-- no path is listed before, and each lies directly in a folder
unfoldable pub fresh : List Text → List Text → List Text → Bool
fresh seen folders [] = true
fresh seen folders (p ∷ ps) = not (member p seen) && (any (directly_in p) folders && fresh (seen ++ (p ∷ [])) folders ps)

-- a remapping name that is usable: an identifier and no keyword, `crate` among them
unfoldable pub usable : Text → Bool
usable t = not (is_crate t) && (is_identifier t && not (is_keyword t))

-- one context and one name
unfoldable pub alike : Remapping → Remapping → Bool
alike r q = same r.context q.context && same r.name q.name

-- contexts and targets are folders, names are usable, and no context has a name twice
unfoldable pub usable_all : List Text → List Remapping → List Remapping → Bool
usable_all folders seen [] = true
usable_all folders seen (r ∷ rs) =
    member r.context folders && (member r.target folders && (usable r.name && (not (any (alike r) seen) && usable_all folders (seen ++ (r ∷ [])) rs)))

pub record Unconflicted (b : Bundle) : Type 0 where
  pub paths : fresh (slash-path ∷ []) (with_slash b.folders) (b.folders ++ map (λ f. f.path) b.files) ≡ true
  pub remappings : usable_all (with_slash b.folders) [] b.remappings ≡ true
  pub root : member b.root (with_slash b.folders) ≡ true

pub record WellFormed (b : Bundle) : Type 0 where
  pub form : InForm b
  pub free : Unconflicted b
