-- The flags by which the block pair scales are those of the coefficients at the tangent's σ and |φ|², on any values.
-- Over any format. Assumes nothing.
use mathlib.Core.Path.{◌≡◌}
use lib.Ieee.{Format, neg}
use Rattle.linalg.specs.Vector.{vec_norm_sq}
use Rattle.linalg.specs.Floats.{Mat3}
use Rattle.linalg.proofs.Even.{norm_sq_even}
use Rattle.arms.specs.Values.{mirrored}
use Rattle.arms.specs.Floats.{Values}
use Rattle.coeffs.specs.Group.{coeffs_scaled}
use Rattle.coeffs.proofs.Arms.{flag_same}
use Rattle.sim3.specs.Tangent.{tangent_neg}
use Rattle.sim3.specs.Floats.{Sim3Tangent}
use Rattle.side_jacobians.specs.Blocks.{jl_and_inverse}
use Rattle.side_jacobians.specs.Pair.{block_pair, block_pair_scaled}

pub pair_by_flags :
    (f : Format) (tau : Sim3Tangent) (v w : Values) (jl jlInv : Mat3) →
    block_pair f tau w jl jlInv
    ≡ block_pair_scaled f tau w jl jlInv
    (coeffs_scaled f tau.sigma (vec_norm_sq f tau.phi) v).scaled
    (coeffs_scaled f (neg tau.sigma) (vec_norm_sq f tau.phi) (mirrored tau.sigma v)).scaled
unfolding block_pair block_pair_scaled jl_and_inverse tangent_neg mirrored
pair_by_flags f tau v w jl jlInv =
    let p = flag_same f tau.sigma (vec_norm_sq f tau.phi) w v in
    let n = flag_same f (neg tau.sigma) (vec_norm_sq f tau.phi) (mirrored tau.sigma w) (mirrored tau.sigma v) in
    rw (norm_sq_even f tau.phi) (λ i. block_pair_scaled f tau w jl jlInv (p i) (n i))
