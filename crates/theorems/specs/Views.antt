-- The view of the struct of the eight calls.
use Rattle.std.specs.Prelude.{Float}
use Rattle.linalg.specs.Answer.{view}
use Rattle.coeffs.specs.Floats.{as_scaled}
use Rattle.pairs.specs.Floats.{as_scaled_pair}
use Rattle.side_jacobians.specs.Floats.{as_block_pair, as_jac_and_inverse}
use Rattle.sim3.specs.Floats.{as_sim3}
use Rattle.theorems.specs.Demand3.{Signs}
use Rattle.theorems.specs.declared.BothSigns.{BothSigns}

abbrev pub signs_view : {T : Type 0} → (T → Float) → BothSigns T → Signs
signs_view h r =
    record {
      pair = view (as_scaled_pair h) r.pair;
      plus = view (as_scaled h) r.plus.coeffs;
      minus = view (as_scaled h) r.minus.coeffs;
      block = as_block_pair h r.block;
      left = as_jac_and_inverse h r.plus.left;
      right = as_jac_and_inverse h r.minus.left;
      exp = as_sim3 h r.plus.exp;
      exp_neg = as_sim3 h r.minus.exp;
    }
