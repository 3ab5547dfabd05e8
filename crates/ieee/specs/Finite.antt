-- Which values are numbers, and how a product shows it for its factors.
use Rattle.std.specs.Prelude.{◌≡◌, Bool, true, false, cond, Float}
use Rattle.std.specs.Float.{nan, inf, fin}
use Rattle.ieee.specs.Numbers.{f0}
use Rattle.ieee.specs.Signs.{unsigned_zero}

-- not a NaN and not an infinity
unfoldable pub is_finite : Float → Bool
is_finite nan = false
is_finite (inf s) = false
is_finite (fin s m e) = true

-- a zero of either sign where b holds, NaN elsewhere: a product that begins with 0 is a zero if all its factors are
-- finite, and NaN if not
abbrev pub ZeroIf : Bool → Float → Type 0
ZeroIf b z = unsigned_zero z ≡ cond b f0 nan
