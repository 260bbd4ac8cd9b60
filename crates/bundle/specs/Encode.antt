-- How a bundle is written as bytes: docs/SPECIFICATION.md 1. The image's items have the same form. Assumes nothing.
use Rattle.std.specs.Prelude.{ℕ, ◌/◌, ◌%◌, List, [], ◌∷◌, ◌++◌, length}
use Rattle.bundle.specs.Bundle.{Text, Element, Head, Items, none, named, use_of, module_of, ignored, Remapping, File, Bundle}
use Rattle.bundle.specs.Limits.{folder_width, file_width, use_kind, module_kind, ignored_kind}
use Rattle.bundle.specs.declared.Width.{Width}
use Rattle.bundle.specs.declared.Width.TheVariants.{Byte, Word}

-- numbers are big-endian
unfoldable pub two : ℕ → List ℕ
two n = (n / 256) ∷ (n % 256) ∷ []

-- a string is one length byte, then its bytes
unfoldable pub string : Text → List ℕ
string t = length t ∷ t

-- one after the other
unfoldable pub joined : {A : Type 0} → (A → List ℕ) → List A → List ℕ
joined f [] = []
joined f (a ∷ l) = f a ++ joined f l

-- a count of a width
abbrev pub count_bytes : Width → ℕ → List ℕ
count_bytes Byte n = n ∷ []
count_bytes Word n = two n

-- a count, and as many
abbrev pub counted_by : {A : Type 0} → Width → (A → List ℕ) → List A → List ℕ
counted_by w f l = count_bytes w (length l) ++ joined f l

unfoldable pub counted : {A : Type 0} → (A → List ℕ) → List A → List ℕ
counted f l = counted_by Byte f l

-- a 2-byte length of what follows
unfoldable pub sized : List ℕ → List ℕ
sized bytes = two (length bytes) ++ bytes

-- a name and an alias
unfoldable pub element : Element → List ℕ
element e = string e.name ++ string e.alias

-- kind, visibility, name
abbrev pub encode_head : Head → List ℕ
encode_head h = h.kind ∷ h.visibility ∷ string h.name

-- an item is a 2-byte length of what follows, kind, visibility, and what its kind has
unfoldable pub items : Items → List ℕ
items none = []
items (named head rest) = sized (encode_head head) ++ items rest
items (use_of m v segments elements rest) =
    sized (use_kind ∷ v ∷ (counted string segments ++ counted element elements)) ++ items rest
items (module_of m v name inner rest) = sized (module_kind ∷ v ∷ (string name ++ items inner)) ++ items rest
items (ignored m v rest) = sized (ignored_kind ∷ v ∷ []) ++ items rest

-- context, name, target
unfoldable pub remapping : Remapping → List ℕ
remapping r = string r.context ++ (string r.name ++ string r.target)

-- path, 2-byte item length, items
unfoldable pub file : File → List ℕ
file f = string f.path ++ sized (items f.items)

-- package root of the entry; folder count, folders; remapping count, remappings; file count, files
unfoldable pub fields : Bundle → List ℕ
fields b =
    string b.root
    ++ (counted_by (folder_width b.version) string b.folders
    ++ (counted remapping b.remappings ++ counted_by (file_width b.version) file b.files))

-- byte 0 is the version; bytes 1 and 2 count all bytes after them
unfoldable pub encode : Bundle → List ℕ
encode b = b.version ∷ sized (fields b)
