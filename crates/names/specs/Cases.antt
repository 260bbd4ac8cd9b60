-- Cases of paths and names, computed over the definitions. Assumes nothing.
use Prim.Native.Nat.{ℕ}
use Prim.Native.String.{String}
use Rattle.std.specs.Prelude.{Bool, true, not, ◌≡◌, refl, List, [], ◌∷◌, ◌++◌, eqb, length, replicate}
use Rattle.names.specs.Bytes.{ascii, same, member, all}
use Rattle.names.specs.Keywords.{keywords, is_keyword}
use Rattle.names.specs.Identifier.{letter, digit, class, is_identifier}
use Rattle.names.specs.Decimal.{digits, decimal, unit_name}
use Rattle.names.specs.Path.{onto, split, components, led, render, root, is_component, well_formed, is_path}
use Rattle.names.specs.Prefix.{begins, starts_with, directly_in, init, parent, stem_of, child, child_file}

abbrev below : String → String → Bool
below f p = starts_with (ascii f) (ascii p)

abbrev path : String → Bool
path s = is_path (ascii s)

abbrev identifier : String → Bool
identifier s = is_identifier (ascii s)

-- a path of n components
unfoldable pub repeated : ℕ → List ℕ
repeated Prim.Native.Nat.zero = []
repeated (Prim.Native.Nat.suc n) = ascii "/a" ++ repeated n

-- a path of n components of k bytes
unfoldable pub wide : ℕ → ℕ → List ℕ
wide k Prim.Native.Nat.zero = []
wide k (Prim.Native.Nat.suc n) = root ++ (replicate k 97 ++ wide k n)

-- each row is a test that has to hold
unfoldable pub rows : List Bool
rows =
    -- C1: a path is a prefix of another by whole components
    not (below "/r/payroll/m.simf" "/r/pay") ∷ below "/r/pay" "/r/pay" ∷ below "/r/pay/m.simf" "/r/pay" ∷ below "/r/pay" "/"
    ∷ not (below "/r" "/r/pay") ∷ not (below "/" "/r")
    -- the path form
    ∷ path "/" ∷ path "/r/a.simf" ∷ not (path "") ∷ not (path "r") ∷ not (path "/r/") ∷ not (path "//r") ∷ not (path "/.")
    ∷ not (path "/r/..") ∷ path "/..." ∷ not (path "/a b") ∷ path "/~!" ∷ is_path (repeated 16) ∷ not (is_path (repeated 17))
    ∷ is_path (root ++ replicate 32 97) ∷ not (is_path (root ++ replicate 33 97))
    -- 16 components and 255 bytes, and 256
    ∷ eqb (length (wide 15 15 ++ wide 14 1)) 255 ∷ is_path (wide 15 15 ++ wide 14 1) ∷ eqb (length (wide 15 16)) 256 ∷ not (is_path (wide 15 16))
    -- the identifier form
    ∷ identifier "_" ∷ identifier "a9" ∷ not (identifier "9a") ∷ not (identifier "") ∷ not (identifier "a-b")
    ∷ is_identifier (replicate 32 97) ∷ not (is_identifier (replicate 33 97))
    -- the reserved words
    ∷ is_keyword (ascii "simc") ∷ is_keyword (ascii "crate") ∷ not (is_keyword (ascii "main")) ∷ not (is_keyword (ascii "pu"))
    -- folders
    ∷ same (parent (ascii "/a/b")) (ascii "/a") ∷ same (parent (ascii "/a")) root ∷ directly_in (ascii "/m.simf") root
    ∷ not (directly_in (ascii "/r/a/b") (ascii "/r")) ∷ same (child root (ascii "a")) (ascii "/a")
    ∷ same (child_file (ascii "/r") (ascii "a")) (ascii "/r/a.simf")
    -- units
    ∷ same (unit_name 0) (ascii "unit_0") ∷ same (unit_name 63) (ascii "unit_63") ∷ same (unit_name 512) (ascii "unit_512") ∷ []

pub cases : all (λ (t : Bool). t) rows ≡ true
unfolding all rows repeated wide ascii same member keywords is_keyword letter digit class is_identifier digits decimal unit_name onto split components led render is_component well_formed is_path begins starts_with directly_in init parent stem_of child child_file
cases = refl
