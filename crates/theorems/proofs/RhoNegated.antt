-- With ρ negated, t, b and f are negated: each is a sum of products with exactly one factor from ρ, and no test,
-- divisor or coefficient reads ρ; the rest does not depend on ρ. Assumes nothing.
use mathlib.Core.Path.{refl}
use mathlib.Core.Bool.{Bool, true, false, cond}
use lib.Ieee.{Float, Format, mul, lt}
use Rattle.ieee.specs.Numbers.{f2}
use Rattle.linalg.specs.Vector.{vec_norm_sq, vec_cross}
use Rattle.linalg.specs.Matrix.{mat_hat}
use Rattle.linalg.specs.Floats.{Vec3}
use Rattle.linalg.specs.Floats.{Mat3}
use Rattle.tables.specs.Tables.{b_row}
use Rattle.circle.specs.Limits.{row_limit}
use Rattle.series.specs.Floats.{Coeffs4}
use Rattle.series.specs.Floats.{Sim3Coeffs}
use Rattle.arms.specs.Floats.{Values}
use Rattle.sim3.specs.Exp.{combined, poly_apply, v_apply, pose_exp}
use Rattle.sim3.specs.Floats.{Sim3Tangent}
use Rattle.side_jacobians.specs.Blocks.{jl_q, jl_blocks, jac_jl, jl_and_inverse_from, jl_and_inverse}
use Rattle.side_jacobians.specs.Side.{exp_and_jl}
use Rattle.side_jacobians.specs.Pair.{block_pair}
use Rattle.frames.specs.Pose.{framed_exp}
use Rattle.theorems.specs.RhoNegated.{rho_negated, OppositeVec, OppositeMat, RhoNegatedSim3, RhoNegatedBlock}
use Rattle.theorems.specs.RhoNegated.{five_calls_of, both_rhos_of, RhoNegatedTheorem}
use Rattle.theorems.proofs.Opposite.{neg-vec, vec-neg, vec-add, vec-scale, scale_by, dot_by, by_opposite, cross_by}
use Rattle.theorems.proofs.Opposite.{hat_opposite, mat-add, mat-sub, mat-scale, mat_by, mat-times, hat_mul, outer}

-- ---- the exponential
module _ (f : Format) (phi r s : Vec3) (h : OppositeVec r s) where
  abbrev sums : Vec3 → Float → Float → Float → Vec3
  sums u x0 x1 x2 = combined f u (vec_cross f phi u) (vec_cross f phi (vec_cross f phi u)) x0 x1 x2

  sums_turned : (x0 x1 x2 : Float) → OppositeVec (sums r x0 x1 x2) (sums s x0 x1 x2)
  sums_turned x0 x1 x2 =
      let mu = cross_by f phi r s h in
      let nu = cross_by f phi _ _ mu in
      vec-add f _ _ _ _ (vec-add f _ _ _ _ (vec-scale f r s x0 h) (vec-scale f _ _ x1 mu)) (vec-scale f _ _ x2 nu)

  poly-at_negated_rho : (x0 x1 x2 : Float) → OppositeVec (poly_apply f phi x0 x1 x2 r) (poly_apply f phi x0 x1 x2 s)
  unfolding poly_apply
  poly-at_negated_rho x0 x1 x2 = sums_turned x0 x1 x2

  pick_turned : (b : Bool) (u v u' v' : Vec3) → OppositeVec u u' → OppositeVec v v' →
      OppositeVec (cond b u v) (cond b u' v')
  pick_turned true u v u' v' p q = p
  pick_turned false u v u' v' p q = q

  apply_turned : (sigma : Float) (c : Coeffs4) → OppositeVec (v_apply f phi sigma c r) (v_apply f phi sigma c s)
  unfolding v_apply
  apply_turned sigma c =
      pick_turned (lt (vec_norm_sq f phi) (row_limit f b_row)) _ _ _ _ (poly-at_negated_rho c.v0 c.v1 c.v2)
      (vec-add f _ _ _ _ (vec-add f _ _ _ _ (vec-scale f r s _ h) (vec-scale f _ _ _ (cross_by f phi r s h)))
      (scale_by f phi _ _ (by_opposite f _ _ _ (dot_by f phi r s h))))

  -- ---- the left Jacobian
  q-at_negated_rho : (c : Sim3Coeffs) (jl : Mat3) → OppositeMat (jl_q f phi r c jl) (jl_q f phi s c jl)
  unfolding jl_q
  q-at_negated_rho c jl =
      let mu = cross_by f phi r s h in
      let nu = cross_by f phi _ _ mu in
      let xi = hat_opposite r s h in
      let y = sums_turned c.v0 c.v1 c.v2 in
      let dy = vec-add f _ _ _ _ (vec-scale f _ _ (mul f f2 c.dv1) mu) (vec-scale f _ _ (mul f f2 c.dv2) nu) in
      mat-add f _ _ _ _
      (mat-sub f _ _ _ _ (mat-add f _ _ _ _ (hat_mul f _ _ jl y) (outer f _ _ phi dy)) (mat-scale f _ _ c.v1 xi))
      (mat-scale f _ _ c.v2 (mat-sub f _ _ _ _ (mat-times f _ _ (mat_hat phi) xi)
      (mat-scale f _ _ f2 (mat_by f (mat_hat phi) _ _ xi))))

  pub blocks-at_negated_rho : (c : Sim3Coeffs) (jl : Mat3) →
      RhoNegatedBlock (jl_blocks f phi r c jl) (jl_blocks f phi s c jl)
  unfolding jl_blocks
  blocks-at_negated_rho c jl =
      record { a = refl; b = q-at_negated_rho c jl; c = refl; f = vec-neg _ _ (sums_turned c.w0 c.w1 c.w2); e = refl }

-- ---- each of the functions, on a tangent and on the tangent with ρ negated
module _ (f : Format) (tau : Sim3Tangent) (v : Values) (jl jlInv : Mat3) where
  exp-at_negated_rho : RhoNegatedSim3 (pose_exp f tau v) (pose_exp f (rho_negated tau) v)
  unfolding pose_exp rho_negated
  exp-at_negated_rho =
      record { q = refl; t = apply_turned f tau.phi tau.rho _ (neg-vec tau.rho) tau.sigma _; sigma = refl }

  left-at_negated_rho : RhoNegatedBlock (jac_jl f tau v jl) (jac_jl f (rho_negated tau) v jl)
  unfolding jac_jl rho_negated
  left-at_negated_rho = blocks-at_negated_rho f tau.phi tau.rho _ (neg-vec tau.rho) _ jl

  inverted_turned : RhoNegatedBlock (jl_and_inverse f tau v jl jlInv).j
      (jl_and_inverse f (rho_negated tau) v jl jlInv).j
  unfolding jl_and_inverse jl_and_inverse_from rho_negated
  inverted_turned = blocks-at_negated_rho f tau.phi tau.rho _ (neg-vec tau.rho) _ jl

pub rho_negated_theorem : RhoNegatedTheorem
unfolding both_rhos_of five_calls_of framed_exp exp_and_jl block_pair
rho_negated_theorem f tau v jl jlInv from to =
    record {
      exp = record { sim3 = exp-at_negated_rho f tau v jl jlInv; from = refl; to = refl };
      left = left-at_negated_rho f tau v jl jlInv;
      together_exp = exp-at_negated_rho f tau v jl jlInv;
      together_left = left-at_negated_rho f tau v jl jlInv;
      beside_inverse = inverted_turned f tau v jl jlInv;
      in_pair = inverted_turned f tau v jl jlInv;
    }
