-- The bounds of the corollaries as the checker computes them, in units of 2^-100. Proved as `numbers`; tests/accuracy
-- holds the Python binding's sim3.accuracy to them.
use Rattle.std.specs.Prelude.{◌≡◌, ◌+◌, ◌^◌}
use Rattle.std.specs.Float.{binary32, binary64}
use Rattle.rounding.specs.Tree.{bound}
use Rattle.rounding.specs.Leaves.{sizes, nth, no_bound}
use Rattle.accuracy.specs.Action.{act_sizes, tree_act}
use Rattle.accuracy.specs.Quaternions.{quat_mul_sizes, newton_sizes, inverse_sizes, tree_quat_mul, tree_newton}
use Rattle.accuracy.specs.Quaternions.{tree_inverse}
use Rattle.accuracy.specs.Exponential.{phi_most, exp_bounds, poly_bounds, tree_poly}

pub record BoundNumbers : Type 0 where
  pub action_doubles :
      (bound binary64 (2 ^ 100) (sizes (act_sizes (2 ^ 100) (2 ^ 100 + 2 ^ 60) (2 ^ 116) (2 ^ 104) (2 ^ 120)))
      tree_act.x).error
      ≡ 14904969211583099405477
  pub action_singles :
      (bound binary32 (2 ^ 100) (sizes (act_sizes (2 ^ 100) (2 ^ 100 + 2 ^ 84) (2 ^ 116) (2 ^ 104) (2 ^ 120)))
      tree_act.x).error
      ≡ 8002278144566902033744509966224
  pub unit_action_doubles :
      (bound binary64 (2 ^ 100) (sizes (act_sizes (2 ^ 100) (2 ^ 100 + 2 ^ 60) (2 ^ 100) (2 ^ 100) (2 ^ 100)))
      tree_act.x).error
      ≡ 14214486323912791
  pub unit_action_singles :
      (bound binary32 (2 ^ 100) (sizes (act_sizes (2 ^ 100) (2 ^ 100 + 2 ^ 84) (2 ^ 100) (2 ^ 100) (2 ^ 100)))
      tree_act.x).error
      ≡ 7631567139212514909500682
  pub product_doubles :
      (bound binary64 (2 ^ 100) (sizes (quat_mul_sizes (2 ^ 100 + 2 ^ 60) (2 ^ 100 + 2 ^ 60))) tree_quat_mul.w).error
      ≡ 1829587348622610
  pub product_singles :
      (bound binary32 (2 ^ 100) (sizes (quat_mul_sizes (2 ^ 100 + 2 ^ 84) (2 ^ 100 + 2 ^ 84))) tree_quat_mul.w).error
      ≡ 982282276684499895001138
  pub renormalized_doubles :
      (bound binary64 (2 ^ 100) (sizes (newton_sizes (2 ^ 100) (2 ^ 100 + 2 ^ 60))) tree_newton.w).error
      ≡ 2392537302045968
  pub renormalized_singles :
      (bound binary32 (2 ^ 100) (sizes (newton_sizes (2 ^ 100) (2 ^ 100 + 2 ^ 84))) tree_newton.w).error
      ≡ 1284532277847462633372927
  pub inverse_doubles :
      (bound binary64 (2 ^ 100) (sizes (inverse_sizes (2 ^ 100) (2 ^ 100 + 2 ^ 60) (2 ^ 120) (2 ^ 104)))
      tree_inverse.x).error
      ≡ 205422942005190511559843
  pub inverse_singles :
      (bound binary32 (2 ^ 100) (sizes (inverse_sizes (2 ^ 100) (2 ^ 100 + 2 ^ 84) (2 ^ 120) (2 ^ 104)))
      tree_inverse.x).error
      ≡ 110288871105089729141486403230346
  pub exponential_doubles :
      (bound binary64 (2 ^ 100)
      (nth no_bound (poly_bounds (phi_most binary64) (2 ^ 116) (exp_bounds binary64).x (exp_bounds binary64).y
      (exp_bounds binary64).z)) tree_poly.x).error
      ≡ 5311509371723749788079
  pub exponential_singles :
      (bound binary32 (2 ^ 100)
      (nth no_bound (poly_bounds (phi_most binary32) (2 ^ 116) (exp_bounds binary32).x (exp_bounds binary32).y
      (exp_bounds binary32).z)) tree_poly.x).error
      ≡ 2542497564523182841292783661689
  pub unit_exponential_doubles :
      (bound binary64 (2 ^ 100)
      (nth no_bound (poly_bounds (phi_most binary64) (2 ^ 100) (exp_bounds binary64).x (exp_bounds binary64).y
      (exp_bounds binary64).z)) tree_poly.x).error
      ≡ 81047201106624643
  pub unit_exponential_singles :
      (bound binary32 (2 ^ 100)
      (nth no_bound (poly_bounds (phi_most binary32) (2 ^ 100) (exp_bounds binary32).x (exp_bounds binary32).y
      (exp_bounds binary32).z)) tree_poly.x).error
      ≡ 38795434028979230366406053
