-- The arm: Δ, the arm and whether v₀ and w₀ come from their own series are even in σ; the last on either kind of arm;
-- and a series arm's number. Assumes nothing.
use mathlib.Core.Path.{◌≡◌, refl, ap}
use Prim.Native.Nat.{ℕ}
use mathlib.Core.Bool.{true, false}
use lib.Dec.{ltb}
use lib.Ieee.{Float, Format, neg, mul, lt}
use Rattle.ieee.proofs.Sign.{mul-neg-neg}
use Rattle.arms.specs.Limits.{coeffs_delta, w0_below}
use Rattle.arms.specs.Arm.{coeffs_arm, arm_ends, series_number}
use Rattle.arms.specs.declared.limits.SeriesArm.{SeriesArm}
use Rattle.arms.specs.declared.limits.SeriesArm.TheVariants as by

pub delta_even : (f : Format) (sigma z : Float) → coeffs_delta f (neg sigma) z ≡ coeffs_delta f sigma z
unfolding coeffs_delta
delta_even f sigma z = rw (mul-neg-neg f sigma sigma) refl

pub arm_even : (f : Format) (sigma z : Float) → coeffs_arm f (coeffs_delta f (neg sigma) z)
    ≡ coeffs_arm f (coeffs_delta f sigma z)
arm_even f sigma z = ap (coeffs_arm f) (delta_even f sigma z)

pub ends_even : (f : Format) (sigma : Float) (arm : ℕ) → arm_ends f (neg sigma) arm ≡ arm_ends f sigma arm
unfolding arm_ends
ends_even f sigma arm = rw (mul-neg-neg f sigma sigma) refl

pub ends-series : (f : Format) (sigma : Float) (arm : ℕ) → ltb arm 5 ≡ true → arm_ends f sigma arm ≡ false
unfolding arm_ends
ends-series f sigma arm t = rw t refl

pub ends-closed : (f : Format) (sigma : Float) (arm : ℕ) → ltb arm 5 ≡ false →
    arm_ends f sigma arm ≡ lt (mul f sigma sigma) (w0_below f)
unfolding arm_ends
ends-closed f sigma arm t = rw t refl

pub series-below : (a : SeriesArm) → ltb (series_number a) 5 ≡ true
series-below by.Short = refl
series-below by.Mid = refl
series-below by.Upper = refl
series-below by.Long = refl
