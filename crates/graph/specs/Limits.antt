-- The limits of a graph: the same numbers as UNITS and IDS of src/lib.rt. Assumes nothing.
use Rattle.std.specs.Prelude.{ℕ}

-- the most units
abbrev pub unit_limit : ℕ
unit_limit = 64

-- the most ids in all lists
abbrev pub id_limit : ℕ
id_limit = 256
