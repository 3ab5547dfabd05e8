-- The block pair: left and its inverse are the one-sign block and inverse of the tangent, right and its inverse those
-- of the negative, on the mirrored values and the transposed matrices.
use Rattle.std.specs.Prelude.{Bool}
use Rattle.std.specs.Float.{Format}
use Rattle.std.specs.Float.Ieee.{neg}
use Rattle.linalg.specs.Vector.{vec_norm_sq, vec_neg}
use Rattle.linalg.specs.Matrix.{mat_transpose}
use Rattle.linalg.specs.Floats.{Mat3}
use Rattle.arms.specs.Values.{mirrored}
use Rattle.arms.specs.Floats.{Values}
use Rattle.coeffs.specs.Group.{coeffs_scaled}
use Rattle.coeffs.specs.Floats.{Scaled}
use Rattle.sim3.specs.Tangent.{tangent_neg}
use Rattle.sim3.specs.Floats.{Sim3Tangent}
use Rattle.side_jacobians.specs.Blocks.{jl_and_inverse_from, jl_and_inverse}
use Rattle.side_jacobians.specs.Floats.{BlockPair}

unfoldable pub block_pair : Format → Sim3Tangent → Values → Mat3 → Mat3 → BlockPair
block_pair f tau v jl jlInv =
    let l = jl_and_inverse f tau v jl jlInv in
    let r = jl_and_inverse f (tangent_neg tau) (mirrored tau.sigma v) (mat_transpose jl) (mat_transpose jlInv) in
    record { left = l.j; left_inv = l.inv; right = r.j; right_inv = r.inv }

-- the same from the flags by which the coefficients at σ and at −σ are scaled: the block is multiplied by e^σ if the
-- flag is set and by 1 if not, its inverse by e^−σ or 1; at −σ these two change places
unfoldable pub block_pair_scaled : Format → Sim3Tangent → Values → Mat3 → Mat3 → Bool → Bool → BlockPair
block_pair_scaled f tau v jl jlInv pos minus =
    let z = vec_norm_sq f tau.phi in
    let s : Scaled = record { c = (coeffs_scaled f tau.sigma z v).c; scaled = pos } in
    let m : Scaled = record { c = (coeffs_scaled f (neg tau.sigma) z (mirrored tau.sigma v)).c; scaled = minus } in
    let l = jl_and_inverse_from f tau.phi tau.rho z s jl jlInv v.up v.down in
    let r = jl_and_inverse_from f (vec_neg tau.phi) (vec_neg tau.rho) z m (mat_transpose jl)
    (mat_transpose jlInv) v.down v.up in
    record { left = l.j; left_inv = l.inv; right = r.j; right_inv = r.inv }
