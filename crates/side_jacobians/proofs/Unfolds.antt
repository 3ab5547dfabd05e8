-- For each function named here, the definitions that its proof unfolds.
use Rattle.std.specs.Prelude.{⊤}
use Rattle.side_jacobians.specs.Pair.{block_pair}
use Rattle.side_jacobians.specs.Blocks.{jl_and_inverse, jac_jl}
use Rattle.sim3.specs.Tangent.{tangent_neg}
use Rattle.coeffs.specs.Group.{coeffs_armed, coeffs_v}
use Rattle.pairs.specs.Group.{coeffs_armed_pair}
use Rattle.arms.specs.Values.{mirrored}
use Rattle.side_jacobians.specs.Side.{exp_and_jl}
use Rattle.sim3.specs.Exp.{pose_exp}
use Rattle.series.specs.Series.{coeffs4}

unfoldable pub block_pair_unfolds : ⊤
unfolding block_pair jl_and_inverse tangent_neg coeffs_armed_pair coeffs_armed mirrored
block_pair_unfolds = tt

unfoldable pub exp_and_jl_unfolds : ⊤
unfolding exp_and_jl jac_jl pose_exp coeffs_v coeffs4
exp_and_jl_unfolds = tt
