-- The armed pair's flags are those by which the block pair scales (02, K1). For any seven numbers as tangent, any ten
-- values for the one and any ten for the other, and any two 3×3 matrices, related to each other or not, NaN and
-- infinities included, at any format: the flags depend on σ and z alone.
use Rattle.std.specs.Prelude.{◌≡◌}
use Rattle.std.specs.Float.{Format}
use Rattle.linalg.specs.Answer.{Answer, answers}
use Rattle.linalg.specs.Floats.{Mat3}
use Rattle.arms.specs.Floats.{Values}
use Rattle.pairs.specs.Floats.{ArmedPair}
use Rattle.sim3.specs.Floats.{Sim3Tangent}
use Rattle.side_jacobians.specs.Pair.{block_pair_scaled}
use Rattle.side_jacobians.specs.Floats.{BlockPair}

-- view is the armed pair's answer at the tangent's σ and z = |φ|², on any values; block is the block pair of the
-- tangent on the values v
pub record FlagsScale (f : Format) (tau : Sim3Tangent) (v : Values) (jl jlInv : Mat3) (view : Answer ArmedPair)
    (block : BlockPair) : Type 0 where
  -- it is not refused: |φ|² is not below zero
  pub armed : ArmedPair
  pub answered : view ≡ answers armed
  -- left and its inverse are scaled by the flag at σ, right and its inverse by that at −σ
  pub scales : block ≡ block_pair_scaled f tau v jl jlInv armed.pos.s.scaled armed.neg.s.scaled
