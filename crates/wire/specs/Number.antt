-- How one test finds a NaN among many bit patterns: their combination has 0 as its highest bit if none is a NaN.
use Rattle.std.specs.Prelude.{ℕ, Bool, ltb}
use Rattle.std.specs.Float.{Format, binary32, binary64}

-- the sign bit as a number
abbrev pub sign_bit : Format → ℕ
sign_bit binary32 = 0x8000_0000
sign_bit binary64 = 0x8000_0000_0000_0000

-- whether the highest bit of the combination is 0
abbrev pub high_bit_zero : Format → ℕ → Bool
high_bit_zero f n = ltb n (sign_bit f)
