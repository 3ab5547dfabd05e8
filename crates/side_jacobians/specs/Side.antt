-- The Jacobians of the exponential, the action, composition and inverse on both sides, each with the values and
-- matrices that the scope names for it.
use Rattle.std.specs.Prelude.{Float}
use Rattle.std.specs.Float.{Format}
use Rattle.ieee.specs.Numbers.{f0, f1}
use Rattle.linalg.specs.Vector.{vec_neg}
use Rattle.linalg.specs.Matrix.{mat_identity, mat_neg, mat_hat, mat_mul_hat, mat_hat_mul, mat_operations}
use Rattle.linalg.specs.Floats.{Vec3}
use Rattle.linalg.specs.Floats.{Mat3}
use Rattle.so3.specs.Quat.{quat_to_matrix}
use Rattle.arms.specs.Floats.{Values}
use Rattle.sim3.specs.Tangent.{tangent_neg}
use Rattle.sim3.specs.Pose.{pose_inverse, pose_act}
use Rattle.sim3.specs.Exp.{pose_exp}
use Rattle.sim3.specs.Floats.{Sim3}
use Rattle.sim3.specs.Floats.{Sim3Tangent}
use Rattle.jacobian.specs.Jac.{blocks, jac_identity, jac_neg}
use Rattle.side_jacobians.specs.Blocks.{jac_jl, jl_and_inverse}
use Rattle.jacobian.specs.Floats.{Sim3Jac}
use Rattle.side_jacobians.specs.Floats.{ActJacobians}
use Rattle.side_jacobians.specs.Floats.{TwoJacobians}
use Rattle.side_jacobians.specs.Floats.{ExpAndJl}

module _ (f : Format) where
  infixl 60 ◌⊞ᵐ◌
  infixl 70 ◌⊡ᵐ◌ ◌⊠ᵛ◌
  open mat_operations f use {◌⊞ᵐ◌, ◌⊡ᵐ◌, ◌⊠ᵛ◌}

  -- Ad_X = [R 0 0; hat(t) R  sR  −t; 0 0 1]
  unfoldable pub pose_adjoint : Sim3 → Float → Sim3Jac
  pose_adjoint x up =
      let r = quat_to_matrix f x.q in
      blocks r (mat_hat_mul f x.t r) (r ⊡ᵐ up) (vec_neg x.t) f1

  -- ad_τ = [W 0 0; Ξ  W + σI  −ρ; 0 0 0]
  unfoldable pub tangent_ad : Sim3Tangent → Sim3Jac
  tangent_ad tau =
      let w = mat_hat tau.phi in
      blocks w (mat_hat tau.rho) (w ⊞ᵐ mat_identity ⊡ᵐ tau.sigma) (vec_neg tau.rho) f0

  -- ---- the exponential's Jacobians; the right ones are the left ones of the negative, with its values and matrices
  unfoldable pub jac_jr : Sim3Tangent → Values → Mat3 → Sim3Jac
  jac_jr tau v jl = jac_jl f (tangent_neg tau) v jl

  unfoldable pub jac_jl_inv : Sim3Tangent → Values → Mat3 → Mat3 → Sim3Jac
  jac_jl_inv tau v jl jlInv = (jl_and_inverse f tau v jl jlInv).inv

  unfoldable pub jac_jr_inv : Sim3Tangent → Values → Mat3 → Mat3 → Sim3Jac
  jac_jr_inv tau v jl jlInv = jac_jl_inv (tangent_neg tau) v jl jlInv

  unfoldable pub exp_and_jl : Sim3Tangent → Values → Mat3 → ExpAndJl
  exp_and_jl tau v jl = record { x = pose_exp f tau v; jl = jac_jl f tau v jl }

  unfoldable pub lplus_jacobians : Sim3Tangent → Values → Mat3 → TwoJacobians
  lplus_jacobians tau v jl = record { first = pose_adjoint (pose_exp f tau v) v.up; second = jac_jl f tau v jl }

  unfoldable pub rplus_jacobians : Sim3Tangent → Values → Mat3 → TwoJacobians
  rplus_jacobians tau v jl = lplus_jacobians (tangent_neg tau) v jl

  -- ---- the action: right [−sR hat(p), sR, sRp], left [−hat(Xp), I, Xp], and sR
  unfoldable pub act_jacobians_right : Sim3 → Float → Vec3 → ActJacobians
  act_jacobians_right x up p =
      let sr = quat_to_matrix f x.q ⊡ᵐ up in
      record { rot = mat_neg (mat_mul_hat f sr p); trans = sr; scale = sr ⊠ᵛ p; point = sr }

  unfoldable pub act_jacobians_left : Sim3 → Float → Vec3 → ActJacobians
  act_jacobians_left x up p =
      let xp = pose_act f x up p in
      record { rot = mat_neg (mat_hat xp); trans = mat_identity; scale = xp; point = quat_to_matrix f x.q ⊡ᵐ up }

  -- ---- composition: right (Ad_Y⁻¹, I) with Y's e^-σ, left (I, Ad_X) with X's e^σ
  unfoldable pub pose_inverse_adjoint : Sim3 → Float → Sim3Jac
  pose_inverse_adjoint x down = pose_adjoint (pose_inverse f x down) down

  unfoldable pub compose_jacobians_right : Sim3 → Float → TwoJacobians
  compose_jacobians_right y down = record { first = pose_inverse_adjoint y down; second = jac_identity }

  unfoldable pub compose_jacobians_left : Sim3 → Float → TwoJacobians
  compose_jacobians_left x up = record { first = jac_identity; second = pose_adjoint x up }

  -- ---- the inverse: right −Ad_X, left −Ad_X⁻¹
  unfoldable pub inverse_jacobian_right : Sim3 → Float → Sim3Jac
  inverse_jacobian_right x up = jac_neg (pose_adjoint x up)

  unfoldable pub inverse_jacobian_left : Sim3 → Float → Sim3Jac
  inverse_jacobian_left x down = jac_neg (pose_inverse_adjoint x down)
