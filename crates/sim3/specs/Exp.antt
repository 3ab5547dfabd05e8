-- The exponential of a tangent: (Exp φ, V ρ, σ), and the composition with it on either side.
use Rattle.std.specs.Prelude.{cond, Float}
use Rattle.std.specs.Float.{Format}
use Rattle.std.specs.Float.Ieee.{lt}
use Rattle.ieee.specs.Infix.{operations}
use Rattle.linalg.specs.Vector.{vec_dot, vec_norm_sq, vec_operations}
use Rattle.linalg.specs.Floats.{Vec3}
use Rattle.so3.specs.So3.{so3_exp}
use Rattle.tables.specs.Tables.{b_row}
use Rattle.circle.specs.Limits.{row_limit}
use Rattle.series.specs.Floats.{Coeffs4, Sim3Coeffs}
use Rattle.arms.specs.Limits.{coeffs_delta}
use Rattle.coeffs.specs.Group.{coeffs_v}
use Rattle.arms.specs.Floats.{Values}
use Rattle.sim3.specs.Pose.{pose, pose_mul}
use Rattle.sim3.specs.Floats.{Sim3}
use Rattle.sim3.specs.Floats.{Sim3Tangent}
use Rattle.sim3.specs.Floats.{Three}

-- the coefficients of V
abbrev pub three_of : Coeffs4 → Three
three_of c = record { x0 = c.v0; x1 = c.v1; x2 = c.v2 }

abbrev pub three_v : Sim3Coeffs → Three
three_v c = record { x0 = c.v0; x1 = c.v1; x2 = c.v2 }

module _ (f : Format) where
  infixl 60 ◌⊞◌
  infixl 70 ◌⊗◌ ◌⊘◌ ◌⊡◌
  infixl 80 ◌⨯◌
  open operations f use {◌⊗◌, ◌⊘◌}
  open vec_operations f use {◌⊞◌, ◌⊡◌, ◌⨯◌}

  -- x₀ a + x₁ b + x₂ c
  abbrev pub combined : Vec3 → Vec3 → Vec3 → Float → Float → Float → Vec3
  combined a b c x0 x1 x2 = a ⊡ x0 ⊞ b ⊡ x1 ⊞ c ⊡ x2

  -- x₀ v + x₁ φ×v + x₂ φ×(φ×v)
  unfoldable pub poly_apply : Vec3 → Float → Float → Float → Vec3 → Vec3
  poly_apply phi x0 x1 x2 v =
      let mu = phi ⨯ v in
      combined v mu (phi ⨯ mu) x0 x1 x2

  -- V ρ: by χ = χΔ/Δ if z = |φ|² is not below b's limit, or is a NaN; else by two cross products
  unfoldable pub v_apply : Vec3 → Float → Coeffs4 → Vec3 → Vec3
  v_apply phi sigma c rho =
      let z = vec_norm_sq f phi in
      cond (lt z (row_limit f b_row))
      (poly_apply phi c.v0 c.v1 c.v2 rho)
      (rho ⊡ (c.chi_delta ⊘ coeffs_delta f sigma z) ⊞ phi ⨯ rho ⊡ c.v1 ⊞ phi ⊡ (c.v2 ⊗ vec_dot f phi rho))

  unfoldable pub pose_exp : Sim3Tangent → Values → Sim3
  pose_exp tau v =
      pose
      (so3_exp f tau.phi v.root v.sin_half v.cos_half)
      (v_apply tau.phi tau.sigma (coeffs_v f tau.sigma (vec_norm_sq f tau.phi) v) tau.rho)
      tau.sigma

  -- X Exp(τ), which reads X's e^σ; and Exp(τ) X, which reads τ's
  unfoldable pub pose_rplus : Sim3 → Float → Sim3Tangent → Values → Sim3
  pose_rplus x up tau v = pose_mul f x (pose_exp tau v) up

  unfoldable pub pose_lplus : Sim3 → Sim3Tangent → Values → Sim3
  pose_lplus x tau v = pose_mul f (pose_exp tau v) x v.up
