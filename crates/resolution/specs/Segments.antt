-- The segments that are left of a use. Assumes nothing.
use Rattle.std.specs.Prelude.{◌+◌, ◌*◌, ◌<◌, ◌^◌, List}
use Rattle.bundle.specs.Bundle.{Text}
use Rattle.bundle.specs.Limits.{string_size}
use Rattle.bundle.specs.Form.{Every, IsName}
use Rattle.bundle.specs.Scan.{text}
use Rattle.bundle.specs.Decode.{each, after}
use Rattle.resolution.specs.declared.segments.Segments.TheInside.{Inside}

abbrev pub left_of : Inside → List Text
left_of a = each (after a.bytes.now) (text a.bytes.now) a.count a.at

-- names, at positions that the sums of the code cannot pass
pub record AreNames (a : Inside) : Type 0 where
  pub names : Every IsName (left_of a)
  pub near : a.at + a.count * string_size < 2 ^ 62
