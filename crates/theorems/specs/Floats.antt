-- The structs over floats that the definitions use, and each struct of the code as one of them: `h` maps a number to
-- its float.
use Rattle.std.specs.Prelude.{Float}
use Rattle.theorems.specs.declared.rho_negated.BothRhos as CodeBothWays
use Rattle.theorems.specs.declared.rho_negated.FiveCalls as CodeOneWay
use Rattle.side_jacobians.specs.Floats.{as_block_pair, as_exp_and_jl, as_jac_and_inverse}
use Rattle.frames.specs.Floats.{as_pose}
use Rattle.jacobian.specs.Floats.{as_sim3_jac}

abbrev pub FiveCalls : Type 0
FiveCalls = CodeOneWay.FiveCalls Float

abbrev pub as_five_calls : {T : Type 0} → (T → Float) → CodeOneWay.FiveCalls T → FiveCalls
as_five_calls h a =
    record {
      exp = as_pose h a.exp;
      left = as_sim3_jac h a.left;
      together = as_exp_and_jl h a.together;
      inverted =
          as_jac_and_inverse h a.inverted;
      pair = as_block_pair h a.pair;
    }

abbrev pub BothRhos : Type 0
BothRhos = CodeBothWays.BothRhos Float

abbrev pub as_both_rhos : {T : Type 0} → (T → Float) → CodeBothWays.BothRhos T → BothRhos
as_both_rhos h a = record { at_rho = as_five_calls h a.at_rho; at_negated_rho = as_five_calls h a.at_negated_rho }
