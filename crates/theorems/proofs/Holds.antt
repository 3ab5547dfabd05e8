-- Demand 3 follows from what the eight calls ensure, at any format. Assumes nothing.
use mathlib.Core.Path.{◌≡◌, refl, sym, ap, ◌∙◌}
use mathlib.Core.Bool.{true, false}
use lib.Ieee.{Float, Format, neg, lt}
use Rattle.ieee.specs.Numbers.{f0}
use Rattle.linalg.specs.Answer.{answers, refuses}
use Rattle.linalg.specs.Matrix.{mat_transpose}
use Rattle.linalg.specs.Floats.{Mat3}
use Rattle.so3.specs.Quat.{quat_conjugate}
use Rattle.so3.proofs.Even.{exp_conjugate}
use Rattle.arms.specs.Values.{mirrored}
use Rattle.coeffs.specs.Group.{coeffs_scaled}
use Rattle.coeffs.specs.Entries.{scaled_answer}
use Rattle.pairs.specs.Entries.{beside, pair_answer}
use Rattle.arms.specs.Floats.{Values}
use Rattle.sim3.specs.Tangent.{tangent_neg}
use Rattle.sim3.specs.Exp.{pose_exp}
use Rattle.sim3.specs.Floats.{Sim3}
use Rattle.sim3.specs.Floats.{Sim3Tangent}
use Rattle.side_jacobians.specs.Blocks.{jl_and_inverse}
use Rattle.side_jacobians.specs.Pair.{block_pair}
use Rattle.theorems.specs.Demand3.{Signs, Demand3}

-- the exponential's quaternion reads none of the values that are mirrored
exp-neg-is : (f : Format) (tau : Sim3Tangent) (v : Values) →
    (pose_exp f (tangent_neg tau) (mirrored tau.sigma v)).q ≡ quat_conjugate (pose_exp f tau v).q
unfolding pose_exp tangent_neg mirrored
exp-neg-is f tau v = exp_conjugate f tau.phi v.root v.sin_half v.cos_half

-- ---- one sign, below zero and not
one-refused : (f : Format) (sigma z : Float) (v : Values) → lt z f0 ≡ true → scaled_answer f sigma z v ≡ refuses 1
unfolding scaled_answer
one-refused f sigma z v t = rw t refl

one-answered : (f : Format) (sigma z : Float) (v : Values) → lt z f0 ≡ false →
    scaled_answer f sigma z v ≡ answers (coeffs_scaled f sigma z v)
unfolding scaled_answer
one-answered f sigma z v t = rw t refl

-- ---- both
pair-refused : (f : Format) (sigma z : Float) (v : Values) → lt z f0 ≡ true → pair_answer f sigma z v ≡ refuses 1
unfolding pair_answer beside
pair-refused f sigma z v t = rw (one-refused f sigma z v t) refl

pair-answered :
    (f : Format) (sigma z : Float) (v : Values) → lt z f0 ≡ false →
    pair_answer f sigma z v
    ≡ answers (record { pos = coeffs_scaled f sigma z v; neg = coeffs_scaled f (neg sigma) z (mirrored sigma v) })
unfolding pair_answer beside
pair-answered f sigma z v t = rw (one-answered f sigma z v t, one-answered f (neg sigma) z (mirrored sigma v) t) refl

module _ (f : Format) (tau : Sim3Tangent) (z : Float) (v : Values) (jl jlInv : Mat3) (r : Signs) where
  -- each premise is what one call ensures
  pub demand_3 :
      r.pair ≡ pair_answer f tau.sigma z v →
      r.plus ≡ scaled_answer f tau.sigma z v →
      r.minus ≡ scaled_answer f (neg tau.sigma) z (mirrored tau.sigma v) →
      r.block ≡ block_pair f tau v jl jlInv →
      r.left ≡ jl_and_inverse f tau v jl jlInv →
      r.right ≡ jl_and_inverse f (tangent_neg tau) (mirrored tau.sigma v) (mat_transpose jl) (mat_transpose jlInv) →
      r.exp ≡ pose_exp f tau v →
      r.exp_neg ≡ pose_exp f (tangent_neg tau) (mirrored tau.sigma v) →
      Demand3 f tau z v jl jlInv r
  unfolding pair_answer block_pair
  demand_3 pair plus minus block left right exp exp-neg =
      let back = neg tau.sigma in
      let other = mirrored tau.sigma v in
      record {
        co = pair ∙ sym (λ i. beside (plus i) (minus i));
        co_answered = λ t. (
          pair ∙ pair-answered f tau.sigma z v t,
          plus ∙ one-answered f tau.sigma z v t,
          minus
              ∙ one-answered f back z other t,
        );
        co_refused = λ t. (
          pair ∙ pair-refused f tau.sigma z v t,
          plus ∙ one-refused f tau.sigma z v t,
          minus
              ∙ one-refused f back z other t,
        );
        pa =
            block ∙ sym (λ i. record {
              left = (left i).j;
              left_inv = (left i).inv;
              right = (right i).j;
              right_inv =
                  (right i).inv;
            });
        pa_left = left;
        pa_right = right;
        ex = ap (λ (x : Sim3). x.q) exp-neg ∙ exp-neg-is f tau v ∙ ap (λ (x : Sim3). quat_conjugate x.q) (sym exp);
        ex_plus = exp;
        ex_minus = exp-neg;
      }
