-- Each statement follows from what its call ensures, at any format. Assumes nothing.
use mathlib.Core.Path.{◌≡◌, refl, sym, subst}
use mathlib.Core.Bool.{Bool, true, false}
use lib.Ieee.{Float, Format, lt}
use Rattle.ieee.specs.Numbers.{f0}
use Rattle.linalg.specs.Answer.{Answer}
use Rattle.linalg.specs.Vector.{vec_norm_sq}
use Rattle.linalg.specs.Floats.{Vec3}
use Rattle.arms.specs.Floats.{Values}
use Rattle.coeffs.specs.Entries.{scaled_answer}
use Rattle.coeffs.specs.Floats.{Scaled}
use Rattle.sim3.specs.Pose.{pose_act, pose_mul, pose_inverse, pose_renormalized}
use Rattle.sim3.specs.Exp.{pose_exp}
use Rattle.sim3.specs.Floats.{Sim3}
use Rattle.sim3.specs.Floats.{Sim3Tangent}
use Rattle.accuracy.specs.Action.{ActionAccurate}
use Rattle.accuracy.specs.Norm.{NormAccurate, NormRelative}
use Rattle.accuracy.specs.Rotation.{TrueActionAccurate}
use Rattle.accuracy.specs.Exponential.{ExponentialAccurate}
use Rattle.accuracy.proofs.Action.{act_accurate}
use Rattle.accuracy.proofs.Norm.{norm_accurate, norm}
use Rattle.accuracy.proofs.Rotation.{true_accurate, true-inverse_accurate}
use Rattle.accuracy.proofs.Quaternions.{product_accurate, renormalized_accurate, inverse_accurate}
use Rattle.accuracy.proofs.Coefficients.{coefficients}
use Rattle.accuracy.proofs.ClosedForm.{closed_accurate}
use Rattle.accuracy.proofs.ClosedArm.{closed_arm_accurate}
use Rattle.accuracy.proofs.Exponential.{exponential}
use Rattle.error_bounds.specs.Poses.{MulAccurate, InversePoseAccurate, RenormalizedPoseAccurate, CoefficientsAnswered}

pub act_holds : (f : Format) (x : Sim3) (up : Float) (p r : Vec3) → r ≡ pose_act f x up p → ActionAccurate f x up p r
act_holds f x up p r e = subst (λ (y : Vec3). ActionAccurate f x up p y) (sym e) (act_accurate f x up p)

pub similarity-holds : (f : Format) (x : Sim3) (up : Float) (p r : Vec3) → r ≡ pose_act f x up p →
    TrueActionAccurate f x up p r
similarity-holds f x up p r e = subst (λ (y : Vec3). TrueActionAccurate f x up p y) (sym e) (true_accurate f x up p)

pub norm-holds : (f : Format) (v : Vec3) (r : Float) → r ≡ vec_norm_sq f v → NormAccurate f v r
norm-holds f v r e = subst (λ (y : Float). NormAccurate f v y) (sym e) (norm_accurate f v)

pub relative-holds : (f : Format) (v : Vec3) (r : Float) → r ≡ vec_norm_sq f v → NormRelative f v r
relative-holds f v r e = subst (λ (y : Float). NormRelative f v y) (sym e) (norm.relative f v)

mul_accurate : (f : Format) (x y : Sim3) (up : Float) → MulAccurate f x y up (pose_mul f x y up)
unfolding pose_mul
mul_accurate f x y up = record {
  rotation = product_accurate f x.q y.q;
  translation = act_accurate f x up y.t;
  similarity = true_accurate f x up y.t;
  sigma = refl;
}

pub mul_holds : (f : Format) (x y : Sim3) (up : Float) (r : Sim3) → r ≡ pose_mul f x y up → MulAccurate f x y up r
mul_holds f x y up r e = subst (λ (z : Sim3). MulAccurate f x y up z) (sym e) (mul_accurate f x y up)

pose-inverse_accurate : (f : Format) (x : Sim3) (down : Float) → InversePoseAccurate f x down (pose_inverse f x down)
pose-inverse_accurate f x down = record {
  rotation = unfold pose_inverse in refl;
  translation = inverse_accurate f x
      down;
  similarity = true-inverse_accurate f x down;
  sigma = unfold pose_inverse in refl;
}

pub inverse-holds : (f : Format) (x : Sim3) (down : Float) (r : Sim3) → r ≡ pose_inverse f x down →
    InversePoseAccurate f x down r
inverse-holds f x down r e =
    subst (λ (z : Sim3). InversePoseAccurate f x down z) (sym e) (pose-inverse_accurate f x down)

pose-renormalized_accurate : (f : Format) (x : Sim3) → RenormalizedPoseAccurate f x (pose_renormalized f x)
unfolding pose_renormalized
pose-renormalized_accurate f x = record { rotation = renormalized_accurate f x.q; translation = refl; sigma = refl }

pub renormalized-holds : (f : Format) (x r : Sim3) → r ≡ pose_renormalized f x → RenormalizedPoseAccurate f x r
renormalized-holds f x r e =
    subst (λ (z : Sim3). RenormalizedPoseAccurate f x z) (sym e) (pose-renormalized_accurate f x)

pub exp-holds : (f : Format) (tau : Sim3Tangent) (v : Values) (r : Sim3) → r ≡ pose_exp f tau v →
    ExponentialAccurate f tau r
exp-holds f tau v r e = subst (λ (z : Sim3). ExponentialAccurate f tau z) (sym e) ((exponential f).exponential tau v)

answer_accurate : (f : Format) (sigma z : Float) (v : Values) (b : Bool)
    → lt z f0 ≡ b → CoefficientsAnswered f sigma z v (scaled_answer f sigma z v)
unfolding scaled_answer
answer_accurate f sigma z v true e = rw e e
answer_accurate f sigma z v false e =
    rw e ((coefficients f).scaled sigma z v, closed_accurate f sigma z v, closed_arm_accurate f sigma z v)

pub coefficients_hold : (f : Format) (sigma z : Float) (v : Values) (r : Answer Scaled)
    → r ≡ scaled_answer f sigma z v → CoefficientsAnswered f sigma z v r
coefficients_hold f sigma z v r e =
    subst (λ (a : Answer Scaled). CoefficientsAnswered f sigma z v a) (sym e)
    (answer_accurate f sigma z v (lt z f0) refl)
