-- What is proved of the errors of whole poses and of the coefficients' answer.
use Rattle.std.specs.Prelude.{◌≡◌, true, Float}
use Rattle.std.specs.Float.{Format}
use Rattle.std.specs.Float.Ieee.{add, lt, neg}
use Rattle.ieee.specs.Numbers.{f0}
use Rattle.linalg.specs.Answer.{Answer, answers, refuses}
use Rattle.so3.specs.Quat.{quat_conjugate}
use Rattle.arms.specs.Floats.{Values}
use Rattle.coeffs.specs.Floats.{Scaled}
use Rattle.sim3.specs.Floats.{Sim3}
use Rattle.accuracy.specs.Action.{ActionAccurate}
use Rattle.accuracy.specs.Rotation.{TrueActionAccurate, TrueInverseAccurate}
use Rattle.accuracy.specs.Quaternions.{ProductAccurate, RenormalizedAccurate, InverseAccurate}
use Rattle.accuracy.specs.Series.{CoefficientsAccurate}
use Rattle.accuracy.specs.ClosedForm.{ClosedAccurate}
use Rattle.accuracy.specs.ClosedArm.{ClosedArmAccurate}

-- r is X Y: the rotation is the product's, the translation the action on Y's, also beside the true one, and σ one sum
pub record MulAccurate (f : Format) (x y : Sim3) (up : Float) (r : Sim3) : Type 0 where
  pub rotation : ProductAccurate f x.q y.q r.q
  pub translation : ActionAccurate f x up y.t r.t
  pub similarity : TrueActionAccurate f x up y.t r.t
  pub sigma : r.sigma ≡ add f x.sigma y.sigma

-- r is X⁻¹: rotation and σ have no error, being opposites of numbers
pub record InversePoseAccurate (f : Format) (x : Sim3) (down : Float) (r : Sim3) : Type 0 where
  pub rotation : r.q ≡ quat_conjugate x.q
  pub translation : InverseAccurate f x down r.t
  pub similarity : TrueInverseAccurate f x down r.t
  pub sigma : r.sigma ≡ neg x.sigma

-- r is X renormalised: translation and σ are X's
pub record RenormalizedPoseAccurate (f : Format) (x r : Sim3) : Type 0 where
  pub rotation : RenormalizedAccurate f x.q r.q
  pub translation : r.t ≡ x.t
  pub sigma : r.sigma ≡ x.sigma

-- where coefficients are answered they are accurate, below the limit of the series and on the closed arm, and they are
-- refused only where z is below zero
abbrev pub CoefficientsAnswered : Format → Float → Float → Values → Answer Scaled → Type 0
CoefficientsAnswered f sigma z v (answers s) =
    CoefficientsAccurate f sigma z s.c × ClosedAccurate f sigma z v s.c × ClosedArmAccurate f sigma z v s.c
CoefficientsAnswered f sigma z v (refuses e) = lt z f0 ≡ true
