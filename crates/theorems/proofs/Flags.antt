-- The armed pair's flags are the block pair's, from what the two calls ensure, at any format. Assumes nothing.
use mathlib.Core.Path.{◌≡◌, refl, ◌∙◌}
use lib.Ieee.{Format}
use Rattle.linalg.specs.Answer.{Answer, answers}
use Rattle.linalg.specs.Vector.{vec_norm_sq}
use Rattle.linalg.specs.Floats.{Mat3}
use Rattle.circle.proofs.Angle.{norm_not_below}
use Rattle.coeffs.specs.Group.{coeffs_armed}
use Rattle.coeffs.specs.Entries.{armed_answer}
use Rattle.pairs.specs.Group.{coeffs_armed_pair}
use Rattle.pairs.specs.Entries.{beside_armed, armed_pair_answer}
use Rattle.arms.specs.Floats.{Values}
use Rattle.pairs.specs.Floats.{ArmedPair}
use Rattle.sim3.specs.Floats.{Sim3Tangent}
use Rattle.side_jacobians.specs.Pair.{block_pair, block_pair_scaled}
use Rattle.side_jacobians.specs.Floats.{BlockPair}
use Rattle.side_jacobians.proofs.Flags.{pair_by_flags}
use Rattle.theorems.specs.Flags.{FlagsScale}

module _ (f : Format) (tau : Sim3Tangent) (v w : Values) (jl jlInv : Mat3) where
  abbrev armed : ArmedPair
  armed = coeffs_armed_pair f tau.sigma (vec_norm_sq f tau.phi) v

  answered : armed_pair_answer f tau.sigma (vec_norm_sq f tau.phi) v ≡ answers armed
  unfolding armed_pair_answer beside_armed armed_answer coeffs_armed_pair
  answered = rw (norm_not_below f tau.phi) refl

  by_flags : block_pair f tau w jl jlInv ≡ block_pair_scaled f tau w jl jlInv armed.pos.s.scaled armed.neg.s.scaled
  unfolding coeffs_armed_pair coeffs_armed
  by_flags = pair_by_flags f tau v w jl jlInv

  -- each premise is what one call ensures
  pub flags_scale :
      (view : Answer ArmedPair) (block : BlockPair) →
      view ≡ armed_pair_answer f tau.sigma (vec_norm_sq f tau.phi) v → block ≡ block_pair f tau w jl jlInv →
      FlagsScale f tau w jl jlInv view block
  flags_scale view block t b = record { armed = armed; answered = t ∙ answered; scales = b ∙ by_flags }
