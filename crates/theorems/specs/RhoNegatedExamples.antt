-- The sign of a zero does not change with ρ, so no more than `RhoNegated` holds: at the zero tangent t, b and f have
-- the same bits at ρ and at −ρ. And numbers that are negated.
use Rattle.std.specs.Prelude.{◌≡◌, List, [], ◌∷◌, ℕ}
use Rattle.std.specs.Float.{Format, binary32, binary64}
use Rattle.std.specs.Float.Ieee.{to_bits, neg}
use Rattle.ieee.specs.Numbers.{f0, f1, f2, f3}
use Rattle.linalg.specs.Vector.{vec}
use Rattle.linalg.specs.Matrix.{mat_identity}
use Rattle.linalg.specs.Floats.{Vec3}
use Rattle.arms.specs.Floats.{Values}
use Rattle.sim3.specs.Tangent.{tangent, tangent_zero}
use Rattle.sim3.specs.Exp.{pose_exp}
use Rattle.sim3.specs.Floats.{Sim3Tangent}
use Rattle.side_jacobians.specs.Blocks.{jac_jl}
use Rattle.theorems.specs.RhoNegated.{rho_negated}

-- at the zero tangent the first number of t and of b is +0 at ρ and at −ρ, and that of f is -0, whatever the values; so
-- y ≡ −x, bit for bit, holds for none of them
pub record ZerosStay (f : Format) (v : Values) : Type 0 where
  pub t_zeros : ((pose_exp f tangent_zero v).t.x ≡ f0) × ((pose_exp f (rho_negated tangent_zero) v).t.x ≡ f0)
  pub b_zeros : ((jac_jl f tangent_zero v mat_identity).b.c0.x ≡ f0)
      × ((jac_jl f (rho_negated tangent_zero) v mat_identity).b.c0.x ≡ f0)
  pub f_zeros : ((jac_jl f tangent_zero v mat_identity).f.x ≡ neg f0)
      × ((jac_jl f (rho_negated tangent_zero) v mat_identity).f.x ≡ neg f0)
  pub t_exact : (pose_exp f (rho_negated tangent_zero) v).t.x ≡ neg (pose_exp f tangent_zero v).t.x → ⊥
  pub b_exact : (jac_jl f (rho_negated tangent_zero) v mat_identity).b.c0.x
      ≡ neg (jac_jl f tangent_zero v mat_identity).b.c0.x → ⊥
  pub f_exact : (jac_jl f (rho_negated tangent_zero) v mat_identity).f.x
      ≡ neg (jac_jl f tangent_zero v mat_identity).f.x → ⊥

-- ---- φ = 0, ρ = (1, 2, 3), σ = 0, the rotation Jacobian the identity: t, the columns of b, f
abbrev three : Format → Vec3 → List ℕ → List ℕ
three f v rest = to_bits f v.x ∷ to_bits f v.y ∷ to_bits f v.z ∷ rest

abbrev bits_of : Format → Sim3Tangent → Values → List ℕ
bits_of f tau v =
    let j = jac_jl f tau v mat_identity in
    three f (pose_exp f tau v).t (three f j.b.c0 (three f j.b.c1 (three f j.b.c2 (three f j.f []))))

abbrev at_rho : Sim3Tangent
at_rho = tangent (vec f0 f0 f0) (vec f1 f2 f3) f0

pub record StepNegated (v : Values) : Type 0 where
  pub doubles :
      bits_of binary64 at_rho v
      ≡ 0x3ff0000000000000 ∷ 0x4000000000000000 ∷ 0x4008000000000000
      ∷ 0x0000000000000000 ∷ 0x3ff8000000000000 ∷ 0xbff0000000000000
      ∷ 0xbff8000000000000 ∷ 0x0000000000000000 ∷ 0x3fe0000000000000
      ∷ 0x3ff0000000000000 ∷ 0xbfe0000000000000 ∷ 0x0000000000000000
      ∷ 0xbfe0000000000000 ∷ 0xbff0000000000000 ∷ 0xbff8000000000000 ∷ []
  pub doubles_negated :
      bits_of binary64 (rho_negated at_rho) v
      ≡ 0xbff0000000000000 ∷ 0xc000000000000000 ∷ 0xc008000000000000
      ∷ 0x0000000000000000 ∷ 0xbff8000000000000 ∷ 0x3ff0000000000000
      ∷ 0x3ff8000000000000 ∷ 0x0000000000000000 ∷ 0xbfe0000000000000
      ∷ 0xbff0000000000000 ∷ 0x3fe0000000000000 ∷ 0x0000000000000000
      ∷ 0x3fe0000000000000 ∷ 0x3ff0000000000000 ∷ 0x3ff8000000000000 ∷ []
  pub singles :
      bits_of binary32 at_rho v
      ≡ 0x3f800000 ∷ 0x40000000 ∷ 0x40400000
      ∷ 0x00000000 ∷ 0x3fc00000 ∷ 0xbf800000
      ∷ 0xbfc00000 ∷ 0x00000000 ∷ 0x3f000000
      ∷ 0x3f800000 ∷ 0xbf000000 ∷ 0x00000000
      ∷ 0xbf000000 ∷ 0xbf800000 ∷ 0xbfc00000 ∷ []
  pub singles_negated :
      bits_of binary32 (rho_negated at_rho) v
      ≡ 0xbf800000 ∷ 0xc0000000 ∷ 0xc0400000
      ∷ 0x00000000 ∷ 0xbfc00000 ∷ 0x3f800000
      ∷ 0x3fc00000 ∷ 0x00000000 ∷ 0xbf000000
      ∷ 0xbf800000 ∷ 0x3f000000 ∷ 0x00000000
      ∷ 0x3f000000 ∷ 0x3f800000 ∷ 0x3fc00000 ∷ []

-- what `rho_negated_examples` proves
pub record RhoNegatedExamples : Type 0 where
  pub zeros_doubles : (v : Values) → ZerosStay binary64 v
  pub zeros_singles : (v : Values) → ZerosStay binary32 v
  pub at_negated_rho : (v : Values) → StepNegated v
