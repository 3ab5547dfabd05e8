-- The finite values from +0 up as whole numbers: by their bit patterns, and by their size in units of the format's
-- smallest value.
use Rattle.std.specs.Prelude.{ℕ, zero, suc, ◌+◌, ◌*◌, ◌/◌, ◌%◌, ◌^◌, ℤ}
use Rattle.std.specs.Float.{Format}
use Rattle.std.specs.Float.Ieee.{low, up, down, hid, ones}

-- how many patterns they have: all below the infinity's
abbrev pub patterns : Format → ℕ
patterns f = ones f * hid f

-- m * 2 ^ e in units; if the format holds that value, the division leaves no remainder
unfoldable pub units_of : Format → ℕ → ℤ → ℕ
units_of f m e = m * up e * 2 ^ low f / down e

-- the value with the exponent's field x and the digits t in units; h is the weight of the field
unfoldable pub field_units : ℕ → ℕ → ℕ → ℕ
field_units h zero t = t
field_units h (suc x) t = (h + t) * 2 ^ x

-- the value with the pattern p in units
unfoldable pub pattern_units : Format → ℕ → ℕ
unfolding field_units
pattern_units f p = field_units (hid f) (p / hid f) (p % hid f)
