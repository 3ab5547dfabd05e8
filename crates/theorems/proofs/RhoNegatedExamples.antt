-- The examples of negating ρ, computed from the definitions. Assumes nothing.
use mathlib.Core.Path.{◌≡◌, refl, sym, ap, ◌∙◌, subst}
use lib.Dec.{T}
use lib.Ieee.{Float, binary32, binary64, round, of_bits, to_bits, neg, add, sub, mul, div, lt, le}
use Rattle.ieee.specs.Numbers.{f0}
use Rattle.ieee.specs.Table.{factorial, rounded, entries}
use Rattle.ieee.specs.Signs.{not_minus_zero}
use Rattle.ieee.proofs.Sign.{neg-neg}
use Rattle.tables.specs.Tables.{row_rule, row_table, recip_rule, recip_fact}
use Rattle.linalg.specs.Vector.{vec_scale, vec_dot, vec_norm_sq, vec_cross, vec_add, vec_sub, vec_neg}
use Rattle.linalg.specs.Matrix.{mat_identity, mat_scale, mat_add, mat_sub, mat_mul, mat_mul_vec, mat_hat, mat_mul_hat}
use Rattle.linalg.specs.Matrix.{vec_hat_mul, mat_hat_mul}
use Rattle.series.specs.Series.{series_first, series_next, series_level, level_terms, series_sum, series_sums, g_series}
use Rattle.series.specs.Series.{coeffs_delta, series_chi, series_coeffs, series_full, coeffs4}
use Rattle.arms.specs.Arm.{coeffs_arm}
use Rattle.coeffs.specs.Group.{coeffs_scaled, coeffs_unscale, coeffs_unscaled, coeffs_v}
use Rattle.arms.specs.Floats.{Values}
use Rattle.sim3.specs.Tangent.{tangent_zero}
use Rattle.sim3.specs.Exp.{poly_apply, v_apply, pose_exp}
use Rattle.side_jacobians.specs.Blocks.{mat_outer, jl_q, jl_blocks, poly_matrix, jac_jl}
use Rattle.theorems.specs.RhoNegated.{rho_negated}
use Rattle.theorems.specs.RhoNegatedExamples.{StepNegated, RhoNegatedExamples}

-- the two zeros are distinct, so a number that is the same zero at ρ and at −ρ is not negated
apart : neg f0 ≡ f0 → ⊥
unfolding neg
apart e = subst T (ap not_minus_zero (sym e)) tt

plus : (x y : Float) → (x ≡ f0) × (y ≡ f0) → y ≡ neg x → ⊥
plus x y h e = apart (ap neg (sym h.0) ∙ sym e ∙ h.1)

minus : (x y : Float) → (x ≡ neg f0) × (y ≡ neg f0) → y ≡ neg x → ⊥
minus x y h e = plus (neg x) (neg y) (ap neg h.0 ∙ neg-neg f0, ap neg h.1 ∙ neg-neg f0) (ap neg e)

module _ (v : Values) where
  doubles-t : ((pose_exp binary64 tangent_zero v).t.x ≡ f0) × ((pose_exp binary64 (rho_negated tangent_zero) v).t.x
      ≡ f0)
  unfolding of_bits to_bits neg add sub mul div lt le round rounded entries factorial recip_rule recip_fact row_rule
      row_table
      series_first series_next series_level level_terms series_sum series_sums g_series series_chi series_coeffs
      series_full coeffs4
      coeffs_delta coeffs_arm coeffs_scaled coeffs_unscale coeffs_unscaled coeffs_v vec_scale vec_dot vec_norm_sq
      vec_cross vec_add vec_sub vec_neg
      mat_identity mat_scale mat_add mat_sub mat_mul mat_mul_vec mat_hat mat_mul_hat vec_hat_mul mat_hat_mul
      tangent_zero poly_apply v_apply pose_exp mat_outer jl_q jl_blocks poly_matrix jac_jl rho_negated
  doubles-t = (refl, refl)

  doubles-b : ((jac_jl binary64 tangent_zero v mat_identity).b.c0.x ≡ f0)
      × ((jac_jl binary64 (rho_negated tangent_zero) v mat_identity).b.c0.x ≡ f0)
  unfolding of_bits to_bits neg add sub mul div lt le round rounded entries factorial recip_rule recip_fact row_rule
      row_table
      series_first series_next series_level level_terms series_sum series_sums g_series series_chi series_coeffs
      series_full coeffs4
      coeffs_delta coeffs_arm coeffs_scaled coeffs_unscale coeffs_unscaled coeffs_v vec_scale vec_dot vec_norm_sq
      vec_cross vec_add vec_sub vec_neg
      mat_identity mat_scale mat_add mat_sub mat_mul mat_mul_vec mat_hat mat_mul_hat vec_hat_mul mat_hat_mul
      tangent_zero poly_apply v_apply pose_exp mat_outer jl_q jl_blocks poly_matrix jac_jl rho_negated
  doubles-b = (refl, refl)

  doubles-f : ((jac_jl binary64 tangent_zero v mat_identity).f.x ≡ neg f0)
      × ((jac_jl binary64 (rho_negated tangent_zero) v mat_identity).f.x ≡ neg f0)
  unfolding of_bits to_bits neg add sub mul div lt le round rounded entries factorial recip_rule recip_fact row_rule
      row_table
      series_first series_next series_level level_terms series_sum series_sums g_series series_chi series_coeffs
      series_full coeffs4
      coeffs_delta coeffs_arm coeffs_scaled coeffs_unscale coeffs_unscaled coeffs_v vec_scale vec_dot vec_norm_sq
      vec_cross vec_add vec_sub vec_neg
      mat_identity mat_scale mat_add mat_sub mat_mul mat_mul_vec mat_hat mat_mul_hat vec_hat_mul mat_hat_mul
      tangent_zero poly_apply v_apply pose_exp mat_outer jl_q jl_blocks poly_matrix jac_jl rho_negated
  doubles-f = (refl, refl)

  singles-t : ((pose_exp binary32 tangent_zero v).t.x ≡ f0) × ((pose_exp binary32 (rho_negated tangent_zero) v).t.x
      ≡ f0)
  unfolding of_bits to_bits neg add sub mul div lt le round rounded entries factorial recip_rule recip_fact row_rule
      row_table
      series_first series_next series_level level_terms series_sum series_sums g_series series_chi series_coeffs
      series_full coeffs4
      coeffs_delta coeffs_arm coeffs_scaled coeffs_unscale coeffs_unscaled coeffs_v vec_scale vec_dot vec_norm_sq
      vec_cross vec_add vec_sub vec_neg
      mat_identity mat_scale mat_add mat_sub mat_mul mat_mul_vec mat_hat mat_mul_hat vec_hat_mul mat_hat_mul
      tangent_zero poly_apply v_apply pose_exp mat_outer jl_q jl_blocks poly_matrix jac_jl rho_negated
  singles-t = (refl, refl)

  singles-b : ((jac_jl binary32 tangent_zero v mat_identity).b.c0.x ≡ f0)
      × ((jac_jl binary32 (rho_negated tangent_zero) v mat_identity).b.c0.x ≡ f0)
  unfolding of_bits to_bits neg add sub mul div lt le round rounded entries factorial recip_rule recip_fact row_rule
      row_table
      series_first series_next series_level level_terms series_sum series_sums g_series series_chi series_coeffs
      series_full coeffs4
      coeffs_delta coeffs_arm coeffs_scaled coeffs_unscale coeffs_unscaled coeffs_v vec_scale vec_dot vec_norm_sq
      vec_cross vec_add vec_sub vec_neg
      mat_identity mat_scale mat_add mat_sub mat_mul mat_mul_vec mat_hat mat_mul_hat vec_hat_mul mat_hat_mul
      tangent_zero poly_apply v_apply pose_exp mat_outer jl_q jl_blocks poly_matrix jac_jl rho_negated
  singles-b = (refl, refl)

  singles-f : ((jac_jl binary32 tangent_zero v mat_identity).f.x ≡ neg f0)
      × ((jac_jl binary32 (rho_negated tangent_zero) v mat_identity).f.x ≡ neg f0)
  unfolding of_bits to_bits neg add sub mul div lt le round rounded entries factorial recip_rule recip_fact row_rule
      row_table
      series_first series_next series_level level_terms series_sum series_sums g_series series_chi series_coeffs
      series_full coeffs4
      coeffs_delta coeffs_arm coeffs_scaled coeffs_unscale coeffs_unscaled coeffs_v vec_scale vec_dot vec_norm_sq
      vec_cross vec_add vec_sub vec_neg
      mat_identity mat_scale mat_add mat_sub mat_mul mat_mul_vec mat_hat mat_mul_hat vec_hat_mul mat_hat_mul
      tangent_zero poly_apply v_apply pose_exp mat_outer jl_q jl_blocks poly_matrix jac_jl rho_negated
  singles-f = (refl, refl)

  step-at_negated_rho : StepNegated v
  unfolding of_bits to_bits neg add sub mul div lt le round rounded entries factorial recip_rule recip_fact row_rule
      row_table
      series_first series_next series_level level_terms series_sum series_sums g_series series_chi series_coeffs
      series_full coeffs4
      coeffs_delta coeffs_arm coeffs_scaled coeffs_unscale coeffs_unscaled coeffs_v vec_scale vec_dot vec_norm_sq
      vec_cross vec_add vec_sub vec_neg
      mat_identity mat_scale mat_add mat_sub mat_mul mat_mul_vec mat_hat mat_mul_hat vec_hat_mul mat_hat_mul
      tangent_zero poly_apply v_apply pose_exp mat_outer jl_q jl_blocks poly_matrix jac_jl rho_negated
  step-at_negated_rho = record { doubles = refl; doubles_negated = refl; singles = refl; singles_negated = refl }

pub rho_negated_examples : RhoNegatedExamples
rho_negated_examples =
    record {
      zeros_doubles = λ v.
          record {
            t_zeros = doubles-t v;
            b_zeros = doubles-b v;
            f_zeros = doubles-f v;
            t_exact = plus _ _ (doubles-t v);
            b_exact = plus _ _ (doubles-b v);
            f_exact = minus _ _ (doubles-f v);
          };
      zeros_singles = λ v.
          record {
            t_zeros = singles-t v;
            b_zeros = singles-b v;
            f_zeros = singles-f v;
            t_exact = plus _ _ (singles-t v);
            b_exact = plus _ _ (singles-b v);
            f_exact = minus _ _ (singles-f v);
          };
      at_negated_rho = step-at_negated_rho;
    }
