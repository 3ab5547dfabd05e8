-- The left Jacobian of the exponential and its inverse, for one sign, as `jl_blocks_with` and `jl_and_inverse_from`
-- round them. The caller passes the rotation Jacobian of φ and its inverse.
use Rattle.std.specs.Prelude.{cond, Float}
use Rattle.std.specs.Float.{Format}
use Rattle.std.specs.Float.Ieee.{neg}
use Rattle.ieee.specs.Numbers.{f1, f2}
use Rattle.ieee.specs.Infix.{operations}
use Rattle.linalg.specs.Vector.{vec_norm_sq, vec_neg, vec_operations}
use Rattle.linalg.specs.Matrix.{mat, mat_identity, mat_neg, mat_hat, mat_mul_hat, mat_hat_mul, mat_operations}
use Rattle.linalg.specs.Floats.{Vec3}
use Rattle.linalg.specs.Floats.{Mat3}
use Rattle.series.specs.Floats.{Sim3Coeffs}
use Rattle.coeffs.specs.Group.{coeffs_scaled, coeffs_unscale, coeffs_unscaled}
use Rattle.arms.specs.Floats.{Values}
use Rattle.coeffs.specs.Floats.{Scaled}
use Rattle.sim3.specs.Exp.{combined, three_v}
use Rattle.sim3.specs.Floats.{Sim3Tangent}
use Rattle.sim3.specs.Floats.{Three}
use Rattle.jacobian.specs.Jac.{blocks}
use Rattle.jacobian.specs.Floats.{Sim3Jac}
use Rattle.side_jacobians.specs.Floats.{JacAndInverse}

module _ (f : Format) where
  infixl 60 ◌⊕◌ ◌⊖◌ ◌⊞◌ ◌⊞ᵐ◌ ◌⊟ᵐ◌
  infixl 70 ◌⊗◌ ◌⊘◌ ◌⊡◌ ◌⊡ᵐ◌ ◌⊠◌ ◌⊠ᵛ◌
  infixl 80 ◌⨯◌
  open operations f use {◌⊕◌, ◌⊖◌, ◌⊗◌, ◌⊘◌}
  open vec_operations f use {◌⊞◌, ◌⊡◌, ◌⨯◌}
  open mat_operations f use {◌⊞ᵐ◌, ◌⊟ᵐ◌, ◌⊡ᵐ◌, ◌⊠◌, ◌⊠ᵛ◌}

  -- u vᵀ
  unfoldable pub mat_outer : Vec3 → Vec3 → Mat3
  mat_outer u v = mat (u ⊡ v.x) (u ⊡ v.y) (u ⊡ v.z)

  -- x₀ I + x₁ W + x₂ W², W = hat φ
  unfoldable pub poly_matrix : Vec3 → Three → Mat3
  poly_matrix phi x =
      let w = mat_hat phi in
      mat_identity ⊡ᵐ x.x0 ⊞ᵐ w ⊡ᵐ x.x1 ⊞ᵐ mat_mul_hat f w phi ⊡ᵐ x.x2

  -- the coefficients of V⁻¹ from those of V: χ = v₀ − z v₂, Λ = χ² + z v₁²
  unfoldable pub inv_coeffs : Three → Float → Three
  inv_coeffs v z =
      let chi = v.x0 ⊖ z ⊗ v.x2 in
      let lambda = chi ⊗ chi ⊕ z ⊗ (v.x1 ⊗ v.x1) in
      record {
        x0 = f1 ⊘ v.x0;
        x1 = neg (v.x1 ⊘ lambda);
        x2 = (v.x1 ⊗ v.x1 ⊖ v.x2 ⊗ chi) ⊘ (v.x0 ⊗ lambda);
      }

  -- Q = hat(Vρ) J_l(φ) + 2(∂v₁ μ + ∂v₂ ν) φᵀ − v₁ Ξ + v₂ (Ξ W − 2 W Ξ), with μ = φ×ρ, ν = φ×μ, Ξ = hat ρ
  unfoldable pub jl_q : Vec3 → Vec3 → Sim3Coeffs → Mat3 → Mat3
  jl_q phi rho c jl =
      let w = mat_hat phi in
      let xi = mat_hat rho in
      let mu = phi ⨯ rho in
      let nu = phi ⨯ mu in
      let y = combined f rho mu nu c.v0 c.v1 c.v2 in
      let dy = mu ⊡ (f2 ⊗ c.dv1) ⊞ nu ⊡ (f2 ⊗ c.dv2) in
      mat_hat_mul f y jl ⊞ᵐ mat_outer dy phi ⊟ᵐ xi ⊡ᵐ c.v1 ⊞ᵐ (xi ⊠ w ⊟ᵐ w ⊠ xi ⊡ᵐ f2) ⊡ᵐ c.v2

  -- [J_l(φ) 0 0; Q V −Γρ; 0 0 1] from the unscaled coefficients
  unfoldable pub jl_blocks : Vec3 → Vec3 → Sim3Coeffs → Mat3 → Sim3Jac
  jl_blocks phi rho c jl =
      let mu = phi ⨯ rho in
      let nu = phi ⨯ mu in
      blocks jl (jl_q phi rho c jl) (poly_matrix phi (three_v c)) (vec_neg (combined f rho mu nu c.w0 c.w1 c.w2)) f1

  -- J_l(τ) and its inverse from the scaled coefficients s at z, J_l(φ) and its inverse, e^σ and e^-σ. The inverse's c
  -- is formed from the scaled v and e^-σ last, so that nothing overflows before the answer does; its b and f from the
  -- unscaled blocks
  unfoldable pub jl_and_inverse_from : Vec3 → Vec3 → Float → Scaled → Mat3 → Mat3 → Float → Float → JacAndInverse
  jl_and_inverse_from phi rho z s jl jlInv up down =
      let j = jl_blocks phi rho (coeffs_unscale f s.c up s.scaled) jl in
      let ci = poly_matrix phi (inv_coeffs (three_v s.c) z) ⊡ᵐ cond s.scaled down f1 in
      record { j = j; inv = blocks jlInv (mat_neg (ci ⊠ j.b ⊠ jlInv)) ci (vec_neg (ci ⊠ᵛ j.f)) f1 }

  -- the one-sign block and inverse of a tangent, with values and matrices as passed
  unfoldable pub jl_and_inverse : Sim3Tangent → Values → Mat3 → Mat3 → JacAndInverse
  jl_and_inverse tau v jl jlInv =
      let z = vec_norm_sq f tau.phi in
      jl_and_inverse_from tau.phi tau.rho z (coeffs_scaled f tau.sigma z v) jl jlInv v.up v.down

  -- the block alone, from the unscaled coefficients
  unfoldable pub jac_jl : Sim3Tangent → Values → Mat3 → Sim3Jac
  jac_jl tau v jl = jl_blocks tau.phi tau.rho (coeffs_unscaled f tau.sigma (vec_norm_sq f tau.phi) v) jl
