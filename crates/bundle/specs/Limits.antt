-- The versions, the limits and the widths of a bundle, in one place. What a version sets is a function of it; the
-- plain names are the most of any version, for arrays and bounds. Assumes nothing.
use Rattle.std.specs.Prelude.{ℕ, ◌+◌, ◌*◌, Bool, ◌&&◌, leb}
use Rattle.bundle.specs.declared.Width.{Width}
use Rattle.bundle.specs.declared.Width.TheVariants.{Byte, Word}

-- the first version; byte 0 of an image
abbrev pub version : ℕ
version = 1

-- THE VERSIONS that are defined: 1 to the newest
abbrev pub newest : ℕ
newest = version

abbrev pub defined : ℕ → Bool
defined v = leb 1 v && leb v newest

-- bytes before the first field: the version, and the count of the bytes after it
abbrev pub header : ℕ
header = 3

-- A COUNT is a byte or two: how many bytes it takes, and what it stays below
abbrev pub width : Width → ℕ
width Byte = 1
width Word = 2

abbrev pub capacity : Width → ℕ
capacity Byte = 256
capacity Word = 65536

-- no count of any version reaches it
abbrev pub count_limit : ℕ
count_limit = capacity Byte

-- THE MOST BYTES of a string with its length byte; of a 2-byte length with what it counts; of an element, a remapping, a file
abbrev pub string_size : ℕ
string_size = capacity Byte

abbrev pub length_size : ℕ
length_size = 1 + capacity Word

abbrev pub element_size : ℕ
element_size = 2 * string_size

abbrev pub remapping_size : ℕ
remapping_size = 3 * string_size

abbrev pub file_size : ℕ
file_size = string_size + length_size

-- the most folders, remappings and files
abbrev pub folder_limit : ℕ
folder_limit = 64

abbrev pub remapping_limit : ℕ
remapping_limit = 32

abbrev pub file_limit : ℕ
file_limit = 64

-- the most items and uses in a bundle, nested ones too
abbrev pub item_limit : ℕ
item_limit = 1024

abbrev pub use_limit : ℕ
use_limit = 256

-- the most segments and elements of a use
abbrev pub segment_limit : ℕ
segment_limit = 16

abbrev pub element_limit : ℕ
element_limit = 32

-- how deep modules nest
abbrev pub depth_limit : ℕ
depth_limit = 8

-- WHAT A VERSION SETS: the width of the counts of folders and of files, and the most folders, files and uses. Counts of
-- remappings, segments and elements are one byte in every version
abbrev pub folder_width : ℕ → Width
folder_width v = Byte

abbrev pub file_width : ℕ → Width
file_width v = Byte

abbrev pub most_folders : ℕ → ℕ
most_folders v = folder_limit

abbrev pub most_files : ℕ → ℕ
most_files v = file_limit

abbrev pub most_uses : ℕ → ℕ
most_uses v = use_limit

-- an item's kinds with a body of their own; 1, 2 and 4 have a name
abbrev pub use_kind : ℕ
use_kind = 3

abbrev pub module_kind : ℕ
module_kind = 5

abbrev pub ignored_kind : ℕ
ignored_kind = 6
