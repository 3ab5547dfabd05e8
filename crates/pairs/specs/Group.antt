-- The coefficients at both signs: at σ on the values, and at -σ on the mirrored values.
use Rattle.std.specs.Prelude.{Float}
use Rattle.std.specs.Float.{Format}
use Rattle.std.specs.Float.Ieee.{neg}
use Rattle.arms.specs.Values.{mirrored}
use Rattle.arms.specs.Floats.{Values}
use Rattle.coeffs.specs.Group.{coeffs_scaled, coeffs_armed}
use Rattle.pairs.specs.Floats.{ScaledPair}
use Rattle.pairs.specs.Floats.{ArmedPair}

unfoldable pub coeffs_pair : Format → Float → Float → Values → ScaledPair
coeffs_pair f sigma z v =
    record { pos = coeffs_scaled f sigma z v; neg = coeffs_scaled f (neg sigma) z (mirrored sigma v) }

unfoldable pub coeffs_armed_pair : Format → Float → Float → Values → ArmedPair
coeffs_armed_pair f sigma z v =
    record { pos = coeffs_armed f sigma z v; neg = coeffs_armed f (neg sigma) z (mirrored sigma v) }
