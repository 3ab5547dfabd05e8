-- The arm of the coefficients at Δ: 1 to 4 are the series, in rising order of Δ, and 5 is the closed arm, which a NaN
-- takes too. The code names the arms, and each name has its number.
use Rattle.std.specs.Prelude.{ℕ, Bool, false, cond, eqb, ltb, Float}
use Rattle.std.specs.Float.{Format, binary32, binary64}
use Rattle.std.specs.Float.Ieee.{lt}
use Rattle.ieee.specs.Infix.{operations}
use Rattle.arms.specs.Limits.{short_below, mid_below, upper_below, series_below, w0_below}
use Rattle.arms.specs.declared.limits.SeriesArm.{SeriesArm}
use Rattle.arms.specs.declared.limits.SeriesArm.TheVariants as by
use Rattle.arms.specs.declared.limits.Arm.{Arm}
use Rattle.arms.specs.declared.limits.Arm.TheVariants as arm

abbrev pub series_number : SeriesArm → ℕ
series_number by.Short = 1
series_number by.Mid = 2
series_number by.Upper = 3
series_number by.Long = 4

abbrev pub arm_number : Arm → ℕ
arm_number (arm.Series a) = series_number a
arm_number arm.Closed = 5

unfoldable pub coeffs_arm : Format → Float → ℕ
coeffs_arm f delta =
    cond (lt delta (short_below f)) 1
    (cond (lt delta (mid_below f)) 2 (cond (lt delta (upper_below f)) 3 (cond (lt delta (series_below f)) 4 5)))

-- the term count k of the series on the arms 1 to 4
abbrev pub arm_terms : Format → ℕ → ℕ
arm_terms binary32 arm = cond (eqb arm 1) 4 (cond (eqb arm 2) 7 (cond (eqb arm 3) 9 11))
arm_terms binary64 arm = cond (eqb arm 1) 6 (cond (eqb arm 2) 11 (cond (eqb arm 3) 14 19))

module _ (f : Format) where
  infixl 70 ◌⊗◌
  open operations f use {◌⊗◌}

  -- whether v₀ and w₀ come from their own series: on the closed arm only, and there if σ·σ is below its limit
  unfoldable pub arm_ends : Float → ℕ → Bool
  arm_ends sigma arm = cond (ltb arm 5) false (lt (sigma ⊗ sigma) (w0_below f))
