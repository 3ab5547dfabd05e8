-- The answers of the public functions: refusal 1 for a squared angle below zero, else the coefficients.
use Rattle.std.specs.Prelude.{Float}
use Rattle.std.specs.Float.{Format}
use Rattle.linalg.specs.Answer.{Answer}
use Rattle.circle.specs.Kernel.{not_below_zero}
use Rattle.series.specs.Floats.{Sim3Coeffs}
use Rattle.series.specs.Floats.{Coeffs4}
use Rattle.coeffs.specs.Group.{coeffs_scaled, coeffs_armed, coeffs_unscaled, coeffs_v, coeffs_v_scaled}
use Rattle.arms.specs.Floats.{Values}
use Rattle.coeffs.specs.Floats.{Scaled}
use Rattle.coeffs.specs.Floats.{VScaled}
use Rattle.coeffs.specs.Floats.{Armed}

-- refusal 1 exactly where z < 0: not at -0, not at a NaN
unfoldable pub scaled_answer : Format → Float → Float → Values → Answer Scaled
scaled_answer f sigma z v = not_below_zero z (coeffs_scaled f sigma z v)

unfoldable pub coeffs_answer : Format → Float → Float → Values → Answer Sim3Coeffs
coeffs_answer f sigma z v = not_below_zero z (coeffs_unscaled f sigma z v)

unfoldable pub v_answer : Format → Float → Float → Values → Answer Coeffs4
v_answer f sigma z v = not_below_zero z (coeffs_v f sigma z v)

unfoldable pub v_scaled_answer : Format → Float → Float → Values → Answer VScaled
v_scaled_answer f sigma z v = not_below_zero z (coeffs_v_scaled f sigma z v)

unfoldable pub armed_answer : Format → Float → Float → Values → Answer Armed
armed_answer f sigma z v = not_below_zero z (coeffs_armed f sigma z v)
