-- The sizes of the program's arrays, and how much of a text and of a file is enough. Assumes nothing.
use Rattle.std.specs.Prelude.{ℕ, ◌+◌}
use Rattle.bundle.specs.Limits.{header}
use Rattle.assembly.specs.Image.{image_limit}

-- its report: room for the longest
abbrev pub report_size : ℕ
report_size = 4096

-- its image: the longest
abbrev pub image_size : ℕ
image_size = header + image_limit

-- a buffer for the text: room for the longest
abbrev pub text_size : ℕ
text_size = 440000

-- what it reads of a file: more than the longest bundle
abbrev pub read_size : ℕ
read_size = 66048
