-- What a test of the computed Δ = σ σ + z tells of σ and z.
use Rattle.std.specs.Prelude.{ℕ, suc, ◌+◌, ◌-◌, ◌*◌, ◌/◌, ◌^◌, ◌≡◌, Float}
use Rattle.std.specs.Float.{Format}
use Rattle.std.specs.Float.Ieee.{prec, low}
use Rattle.rounding.specs.Value.{plus, times, value_of, AtMost}
use Rattle.rounding.specs.Roundoff.{rounding_error}
use Rattle.rounding.specs.Leaves.{Bounded}

-- a number that was rounded to at most x / w was at most this
abbrev pub before : Format → ℕ → ℕ → ℕ
before f w x = suc ((2 * (2 ^ prec f * (2 ^ low f * x)) + 2 ^ prec f * w) / ((2 * 2 ^ prec f - 2) * 2 ^ low f))

-- σ² + z, where the computed Δ is at most x / w
abbrev pub delta_most : Format → ℕ → ℕ → ℕ
delta_most f w x = before f w x + rounding_error f w (before f w (before f w x))

-- |σ| is at most r / w, z is from 0 to y / w, and σ² + z at most (r / w)²
pub record InDomain (w r y : ℕ) (s t : Float) : Type 0 where
  pub sigma : Bounded w s r
  pub z : Bounded w t y
  pub nonnegative : (value_of t).n ≡ 0
  pub delta : AtMost (w * w) (plus (times (value_of s) (value_of s)) (value_of t)) (r * r)
