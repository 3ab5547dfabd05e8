-- Demand 3, whole: for both signs the paired evaluation equals the definitions for one sign, and the exponential's
-- quaternion at the negative is the conjugate. For any seven numbers as tangent, any z, any ten values and any two 3×3
-- matrices, related to each other or not, NaN and infinities included, at any format. The definitions on the right of
-- each equation are demand 2's, which do not mention pairs.
use Rattle.std.specs.Prelude.{◌≡◌, true, false, Float}
use Rattle.std.specs.Float.{Format}
use Rattle.std.specs.Float.Ieee.{neg, lt}
use Rattle.ieee.specs.Numbers.{f0}
use Rattle.linalg.specs.Answer.{Answer, answers, refuses}
use Rattle.linalg.specs.Matrix.{mat_transpose}
use Rattle.linalg.specs.Floats.{Mat3}
use Rattle.so3.specs.Quat.{quat_conjugate}
use Rattle.arms.specs.Values.{mirrored}
use Rattle.coeffs.specs.Group.{coeffs_scaled}
use Rattle.arms.specs.Floats.{Values}
use Rattle.coeffs.specs.Floats.{Scaled}
use Rattle.pairs.specs.Entries.{beside}
use Rattle.pairs.specs.Floats.{ScaledPair}
use Rattle.sim3.specs.Tangent.{tangent_neg}
use Rattle.sim3.specs.Exp.{pose_exp}
use Rattle.sim3.specs.Floats.{Sim3}
use Rattle.sim3.specs.Floats.{Sim3Tangent}
use Rattle.side_jacobians.specs.Blocks.{jl_and_inverse}
use Rattle.side_jacobians.specs.Floats.{JacAndInverse}
use Rattle.side_jacobians.specs.Floats.{BlockPair}

-- the results of the eight calls: the pair of coefficients and each sign's, the pair of blocks and each sign's, the
-- exponential of the tangent and of its negative
pub record Signs : Type 0 where
  pub pair : Answer ScaledPair
  pub plus : Answer Scaled
  pub minus : Answer Scaled
  pub block : BlockPair
  pub left : JacAndInverse
  pub right : JacAndInverse
  pub exp : Sim3
  pub exp_neg : Sim3

pub record Demand3 (f : Format) (tau : Sim3Tangent) (z : Float) (v : Values) (jl jlInv : Mat3)
    (r : Signs) : Type 0 where
  -- CO: the pair's answer is the two one-sign answers side by side, for every z
  pub co : r.pair ≡ beside r.plus r.minus
  -- if z is not below zero, or is a NaN, these are the nine coefficients and the flag at σ, and those at −σ on the
  -- mirrored values
  pub co_answered :
      lt z f0 ≡ false →
      (r.pair ≡ answers (record {
        pos = coeffs_scaled f tau.sigma z v;
        neg =
            coeffs_scaled f (neg tau.sigma) z (mirrored tau.sigma v);
      }))
      × (r.plus ≡ answers (coeffs_scaled f tau.sigma z v))
      × (r.minus ≡ answers (coeffs_scaled f (neg tau.sigma) z (mirrored tau.sigma v)))
  -- below zero all three refuse, by 1
  pub co_refused : lt z f0 ≡ true → (r.pair ≡ refuses 1) × (r.plus ≡ refuses 1) × (r.minus ≡ refuses 1)
  -- PA: left and its inverse are those of the tangent, right and its inverse those of the negative, on mirrored values
  -- and transposed matrices
  pub pa : r.block ≡ record { left = r.left.j; left_inv = r.left.inv; right = r.right.j; right_inv = r.right.inv }
  pub pa_left : r.left ≡ jl_and_inverse f tau v jl jlInv
  pub pa_right : r.right ≡ jl_and_inverse f (tangent_neg tau) (mirrored tau.sigma v) (mat_transpose jl)
      (mat_transpose jlInv)
  -- EX: the quaternion at the negative is (w, −x, −y, −z) of that at the tangent, and both poses are the one
  -- definition's
  pub ex : r.exp_neg.q ≡ quat_conjugate r.exp.q
  pub ex_plus : r.exp ≡ pose_exp f tau v
  pub ex_minus : r.exp_neg ≡ pose_exp f (tangent_neg tau) (mirrored tau.sigma v)
