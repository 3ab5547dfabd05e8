-- The definition where the call is refused and where it is accepted. Assumes nothing.
use mathlib.Core.Path.{◌≡◌, refl, ap}
use Prim.Native.Nat.{ℕ}
use mathlib.Core.Bool.{true, false, ◌&&◌}
use lib.Ieee.{Float, Format, to_bits, lt}
use Rattle.ieee.specs.Finite.{is_finite}
use Rattle.ieee.specs.Numbers.{f0}
use Rattle.ieee.specs.Patterns.{patterns}
use Rattle.ieee.specs.Signs.{unsigned_zero}
use Rattle.linalg.specs.Answer.{answers, refuses}
use Rattle.nearest.specs.Nearest.{Way, nearest_from, arm_at, nearest_of}

module _ (f : Format) (first : Way) (sigma z : Float) where
  pub below-zero : lt z f0 ≡ true → refuses 1 ≡ nearest_of f first sigma z
  unfolding nearest_of
  below-zero a = rw a refl

  pub not_finite : lt z f0 ≡ false → is_finite sigma && is_finite z ≡ false → refuses 8 ≡ nearest_of f first sigma z
  unfolding nearest_of
  not_finite a b = rw (a, b) refl

  pub accepted : (p : ℕ) → lt z f0 ≡ false → is_finite sigma && is_finite z ≡ true → p ≡ to_bits f (unsigned_zero z)
      → answers (nearest_from (arm_at f sigma) (patterns f) first p) ≡ nearest_of f first sigma z
  unfolding nearest_of
  accepted p a b e = rw (a, b) (ap (λ (n : ℕ). answers (nearest_from (arm_at f sigma) (patterns f) first n)) e)
