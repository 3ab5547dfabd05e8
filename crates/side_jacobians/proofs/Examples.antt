-- The tables of the worked examples hold, by computing them from the definitions; and in a table that holds, every row
-- has its expected value. Assumes nothing.
use mathlib.Core.Path.{◌≡◌, refl}
use mathlib.Core.List.{List, [], ◌∷◌}
use Prim.Native.Nat.{ℕ, zero, suc, ◌<◌}
use native.Mathlib.Nat.{le_of_suc-le-suc, not-suc-le-zero}
use lib.Dec.{T, eqb, eqb→eq}
use lib.ListN.{length, get_or}
use lib.Ieee.{round, of_bits, to_bits, is_nan, neg, add, sub, mul, div, lt, le}
use lib.Ieee.Fits.{and_l, and_r}
use Rattle.ieee.specs.Table.{factorial, rounded, entries}
use Rattle.tables.specs.Tables.{row_rule, row_table, recip_rule, recip_fact}
use Rattle.linalg.specs.Vector.{vec_scale, vec_dot, vec_norm_sq, vec_cross, vec_add}
use Rattle.circle.specs.Kernel.{horner_sum, row_series, row_short, row_member, row_own, row_whole, exact_a, exact_b}
use Rattle.circle.specs.Kernel.{exact_d, sinc_from, circle_exp, circle_sinc_abd}
use Rattle.series.specs.Series.{series_first, series_next, series_level, level_terms, series_sum, series_sums, g_series}
use Rattle.series.specs.Series.{coeffs_delta, series_chi, series_coeffs, series_full, coeffs4}
use Rattle.pairs.specs.Entries.{series_pair_answer}
use Rattle.series.specs.Series.{series_answer, series_v_answer}
use Rattle.arms.specs.Arm.{coeffs_arm, arm_ends}
use Rattle.arms.specs.Values.{at_zero}
use Rattle.coeffs.specs.ClosedForm.{closed_v0, closed_w0, closed_v, closed_ws, closed_dvs, closed_joined, closed_nine}
use Rattle.coeffs.specs.ClosedForm.{closed_v_from, closed_from}
use Rattle.coeffs.specs.Group.{coeffs_scaled, coeffs_unscale, coeffs_unscaled, coeffs_v}
use Rattle.so3.specs.Quat.{quat_norm_sq, quat_renormalized}
use Rattle.so3.specs.So3.{so3_exp}
use Rattle.sim3.specs.Exp.{poly_apply, v_apply, pose_exp}
use Rattle.side_jacobians.specs.Examples.{Example, same, all_same, table, singles, ExamplesHold, SinglesHold}

same-is : (xs ys : List ℕ) → T (same xs ys) → xs ≡ ys
unfolding same
same-is [] [] t = refl
same-is [] (y ∷ ys) t = absurd t
same-is (x ∷ xs) [] t = absurd t
same-is (x ∷ xs) (y ∷ ys) t =
    let p = eqb→eq x y (and_l (eqb x y) (same xs ys) t) in
    let q = same-is xs ys (and_r (eqb x y) (same xs ys) t) in
    λ i. p i ∷ q i

pub every-row : (es : List Example) (z : Example) → T (all_same es) → (i : ℕ) → i < length es →
    (get_or es i z).found ≡ (get_or es i z).due
unfolding all_same
every-row [] z t i h = absurd (not-suc-le-zero h)
every-row (e ∷ es) z t zero h = same-is e.found e.due (and_l (same e.found e.due) (all_same es) t)
every-row (e ∷ es) z t (suc i) h = every-row es z (and_r (same e.found e.due) (all_same es) t) i (le_of_suc-le-suc h)

pub examples : ExamplesHold
unfolding table same all_same to_bits of_bits is_nan add sub mul div lt le neg round rounded entries factorial
    recip_rule recip_fact
    series_first series_next series_level level_terms series_sum series_sums g_series series_chi series_coeffs
    series_full coeffs4 series_answer series_v_answer series_pair_answer
    coeffs_delta coeffs_arm coeffs_scaled coeffs_unscale coeffs_unscaled coeffs_v row_rule row_table horner_sum
    row_series row_short row_member circle_exp
    quat_norm_sq quat_renormalized so3_exp poly_apply v_apply pose_exp vec_scale vec_dot vec_norm_sq vec_cross vec_add
examples v z = refl

pub single_examples : SinglesHold
unfolding singles same all_same to_bits of_bits is_nan add sub mul div lt le neg round rounded entries factorial
    recip_rule recip_fact
    series_first series_next series_level level_terms series_sum series_sums g_series series_chi series_coeffs
    series_full coeffs4 series_answer series_v_answer series_pair_answer
    coeffs_delta coeffs_arm arm_ends coeffs_scaled coeffs_unscale coeffs_unscaled coeffs_v row_rule row_table horner_sum
    row_series row_short row_whole row_own row_member
    circle_exp circle_sinc_abd sinc_from exact_a exact_b exact_d at_zero closed_v0 closed_w0 closed_v closed_ws
    closed_dvs closed_joined closed_nine closed_v_from closed_from
    quat_norm_sq quat_renormalized so3_exp poly_apply v_apply pose_exp vec_scale vec_dot vec_norm_sq vec_cross vec_add
single_examples v z = refl
