-- Poses (q, t, σ), in the operations of a format f. The caller passes the scale e^σ or its inverse wherever it is read.
use Rattle.std.specs.Prelude.{Float}
use Rattle.std.specs.Float.{Format}
use Rattle.std.specs.Float.Ieee.{neg}
use Rattle.ieee.specs.Numbers.{f0}
use Rattle.ieee.specs.Infix.{operations}
use Rattle.linalg.specs.Vector.{vec, vec_neg, vec_operations}
use Rattle.linalg.specs.Floats.{Vec3}
use Rattle.so3.specs.Quat.{quat_identity, quat_conjugate, quat_mul, quat_renormalized}
use Rattle.so3.specs.So3.{so3_act}
use Rattle.so3.specs.Floats.{Quat}
use Rattle.sim3.specs.Floats.{Sim3}

abbrev pub pose : Quat → Vec3 → Float → Sim3
pose q t sigma = record { q = q; t = t; sigma = sigma }

unfoldable pub pose_identity : Sim3
pose_identity = pose quat_identity (vec f0 f0 f0) f0

module _ (f : Format) where
  infixl 60 ◌⊕◌ ◌⊖◌ ◌⊞◌ ◌⊟◌
  infixl 70 ◌⊡◌
  open operations f use {◌⊕◌, ◌⊖◌}
  open vec_operations f use {◌⊞◌, ◌⊟◌, ◌⊡◌}

  -- X⁻¹ = (R⁻¹, −e^-σ R⁻¹ t, −σ)
  unfoldable pub pose_inverse : Sim3 → Float → Sim3
  pose_inverse x down =
      let r = quat_conjugate x.q in
      pose r (vec_neg (so3_act f r x.t ⊡ down)) (neg x.sigma)

  -- X p = s R p + t
  unfoldable pub pose_act : Sim3 → Float → Vec3 → Vec3
  pose_act x up p = so3_act f x.q p ⊡ up ⊞ x.t

  -- X Y = (R_X R_Y, s_X R_X t_Y + t_X, σ_X + σ_Y)
  unfoldable pub pose_mul : Sim3 → Sim3 → Float → Sim3
  pose_mul x y up = pose (quat_mul f x.q y.q) (pose_act x up y.t) (x.sigma ⊕ y.sigma)

  -- X Y⁻¹, ds the exponential of σ_X − σ_Y
  unfoldable pub pose_mul_inv : Sim3 → Sim3 → Float → Sim3
  pose_mul_inv x y ds =
      let q = quat_mul f x.q (quat_conjugate y.q) in
      pose q (x.t ⊟ so3_act f q y.t ⊡ ds) (x.sigma ⊖ y.sigma)

  -- Y⁻¹ X, down the exponential of −σ_Y
  unfoldable pub pose_inv_mul : Sim3 → Sim3 → Float → Sim3
  pose_inv_mul x y down =
      let c = quat_conjugate y.q in
      pose (quat_mul f c x.q) (so3_act f c (x.t ⊟ y.t) ⊡ down) (x.sigma ⊖ y.sigma)

  -- the rotation's Newton step, with t and σ as they are
  unfoldable pub pose_renormalized : Sim3 → Sim3
  pose_renormalized x = pose (quat_renormalized f x.q) x.t x.sigma
