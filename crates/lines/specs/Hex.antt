-- Bytes in hexadecimal. Assumes nothing.
use Rattle.std.specs.Prelude.{ℕ, ◌/◌, ◌%◌, ◌-◌, ◌^◌, ◌<◌, ◌≡◌, false, List, [], ◌∷◌}
use Rattle.std.specs.List.{flat_map}
use Rattle.std.specs.Fmt.{digit_glyph, digits, format_spec, padded_integral}
use Rattle.std.proofs.lemmas.Fmt.{hex_byte}

-- what `{:02x}` writes of a byte
abbrev pub pair : ℕ → List ℕ
pair b = padded_integral (format_spec 32 0 4 2 (2 ^ 64 - 1)) false [] (digits 16 false b)

abbrev pub hex : List ℕ → List ℕ
hex = flat_map pair

-- two digits, the high one first
pub pair-digits : (b : ℕ) → b < 256 → pair b ≡ digit_glyph false (b / 16) ∷ digit_glyph false (b % 16) ∷ []
pair-digits b h = hex_byte false b h
