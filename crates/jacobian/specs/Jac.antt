-- Block Jacobians with the rows (a, 0, 0), (b, c, f), (0, 0, e), in the operations of a format f.
use Rattle.std.specs.Prelude.{cond, ◌&&◌, Float}
use Rattle.std.specs.Float.{Format}
use Rattle.std.specs.Float.Ieee.{neg, le}
use Rattle.ieee.specs.Numbers.{f0, f1}
use Rattle.ieee.specs.Infix.{operations}
use Rattle.linalg.specs.Answer.{Answer, answers, refuses}
use Rattle.linalg.specs.Vector.{vec, vec_dot, vec_neg, vec_operations}
use Rattle.linalg.specs.Matrix.{mat, mat_transpose, mat_identity, mat_neg, mat_inverse_adj, mat_operations}
use Rattle.linalg.specs.Floats.{Vec3}
use Rattle.linalg.specs.Floats.{Mat3}
use Rattle.sim3.specs.Tangent.{tangent}
use Rattle.sim3.specs.Floats.{Sim3Tangent}
use Rattle.jacobian.specs.Floats.{Sim3Jac}

abbrev pub blocks : Mat3 → Mat3 → Mat3 → Vec3 → Float → Sim3Jac
blocks a b c f e = record { a = a; b = b; c = c; f = f; e = e }

unfoldable pub jac_identity : Sim3Jac
jac_identity = blocks mat_identity (mat (vec f0 f0 f0) (vec f0 f0 f0) (vec f0 f0 f0)) mat_identity (vec f0 f0 f0) f1

unfoldable pub jac_neg : Sim3Jac → Sim3Jac
jac_neg j = blocks (mat_neg j.a) (mat_neg j.b) (mat_neg j.c) (vec_neg j.f) (neg j.e)

module _ (f : Format) where
  infixl 60 ◌⊕◌ ◌⊞◌ ◌⊞ᵐ◌
  infixl 70 ◌⊗◌ ◌⊘◌ ◌⊡◌ ◌⊡ᵐ◌ ◌⊠◌ ◌⊠ᵛ◌
  open operations f use {◌⊕◌, ◌⊗◌, ◌⊘◌}
  open vec_operations f use {◌⊞◌, ◌⊡◌}
  open mat_operations f use {◌⊞ᵐ◌, ◌⊡ᵐ◌, ◌⊠◌, ◌⊠ᵛ◌}

  unfoldable pub jac_mul : Sim3Jac → Sim3Jac → Sim3Jac
  jac_mul j o = blocks (j.a ⊠ o.a) (j.b ⊠ o.a ⊞ᵐ j.c ⊠ o.b) (j.c ⊠ o.c) (j.c ⊠ᵛ o.f ⊞ j.f ⊡ o.e) (j.e ⊗ o.e)

  -- (A⁻¹, −C⁻¹BA⁻¹, C⁻¹, −C⁻¹f/e, 1/e)
  unfoldable pub jac_inverse : Sim3Jac → Sim3Jac
  jac_inverse j =
      let ai = (mat_inverse_adj f j.a).inv in
      let ci = (mat_inverse_adj f j.c).inv in
      let ei = f1 ⊘ j.e in
      blocks ai (mat_neg (ci ⊠ j.b ⊠ ai)) ci (vec_neg (ci ⊠ᵛ j.f ⊡ ei)) ei

  -- refusal 2 exactly where e is +0 or -0
  unfoldable pub jac_inverse_answer : Sim3Jac → Answer Sim3Jac
  jac_inverse_answer j = cond (le j.e f0 && le f0 j.e) (refuses 2) (answers (jac_inverse j))

  unfoldable pub jac_add : Sim3Jac → Sim3Jac → Sim3Jac
  jac_add j o = blocks (j.a ⊞ᵐ o.a) (j.b ⊞ᵐ o.b) (j.c ⊞ᵐ o.c) (j.f ⊞ o.f) (j.e ⊕ o.e)

  unfoldable pub jac_scale : Sim3Jac → Float → Sim3Jac
  jac_scale j k = blocks (j.a ⊡ᵐ k) (j.b ⊡ᵐ k) (j.c ⊡ᵐ k) (j.f ⊡ k) (j.e ⊗ k)

  -- J τ
  unfoldable pub jac_apply : Sim3Jac → Sim3Tangent → Sim3Tangent
  jac_apply j t = tangent (j.a ⊠ᵛ t.phi) (j.b ⊠ᵛ t.phi ⊞ j.c ⊠ᵛ t.rho ⊞ j.f ⊡ t.sigma) (j.e ⊗ t.sigma)

  -- Jᵀ τ = (Aᵀφ + Bᵀρ, Cᵀρ, f·ρ + eσ)
  unfoldable pub jac_apply_transpose : Sim3Jac → Sim3Tangent → Sim3Tangent
  jac_apply_transpose j t =
      tangent
      (mat_transpose j.a ⊠ᵛ t.phi ⊞ mat_transpose j.b ⊠ᵛ t.rho)
      (mat_transpose j.c ⊠ᵛ t.rho)
      (vec_dot f j.f t.rho ⊕ j.e ⊗ t.sigma)
