-- The NaN and its patterns, in every format. Assumes nothing.
use Prim.Native.Nat.{ℕ}
use mathlib.Core.Path.{◌≡◌, refl, sym, subst}
use mathlib.Core.Bool.{true}
use lib.Dec.{T}
use lib.Ieee.{Float, nan, inf, fin, Format, binary32, binary64, of_bits, to_bits, div, is_nan}

pub zero-over-zero : (f : Format) → div f (of_bits f 0) (of_bits f 0) ≡ nan
unfolding div of_bits
zero-over-zero binary32 = refl
zero-over-zero binary64 = refl

pub the_nan : (x : Float) → is_nan x ≡ true → x ≡ nan
unfolding is_nan
the_nan nan e = refl
the_nan (inf s) e = absurd (subst T (sym e) tt)
the_nan (fin s m k) e = absurd (subst T (sym e) tt)

-- the pattern that a NaN is written as
abbrev pub nan_pattern : Format → ℕ
nan_pattern binary32 = 0x7fc0_0000
nan_pattern binary64 = 0x7ff8_0000_0000_0000

pub nan_pattern_lem : (f : Format) → to_bits f nan ≡ nan_pattern f
unfolding to_bits
nan_pattern_lem binary32 = refl
nan_pattern_lem binary64 = refl
