-- What the private functions of the arms compute; only private contracts cite it.
use Rattle.std.specs.Prelude.{ℕ, Bool, false, Float}
use Rattle.std.specs.Float.{Format}
use Rattle.std.specs.Float.Ieee.{lt, le}
use Rattle.ieee.specs.Numbers.{f0}
use Rattle.series.specs.Series.{series_full}
use Rattle.circle.specs.Floats.{SincABD}
use Rattle.arms.specs.Limits.{form_b_below}
use Rattle.arms.specs.Arm.{arm_terms}
use Rattle.arms.specs.Floats.{Values}
use Rattle.coeffs.specs.ClosedForm.{closed_from}
use Rattle.coeffs.specs.Floats.{Scaled}

-- the closed arm at Δ, with v₀ and w₀ by their series where `small`
unfoldable pub closed_one : Format → Float → Float → Float → Bool → SincABD → Values → Scaled
closed_one f sigma z delta small t v =
    record { c = closed_from f sigma z t v.e v.m (le (form_b_below f) delta) small; scaled = lt f0 sigma }

-- what a series arm forms, by its number
unfoldable pub series_arm : Format → Float → Float → ℕ → Scaled
series_arm f sigma z arm = record { c = series_full f sigma z (arm_terms f arm); scaled = false }
