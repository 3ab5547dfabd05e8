-- What specs/Numbers.antt states, by computing. Assumes nothing.
use mathlib.Core.Path.{refl}
use Rattle.rounding.specs.Tree.{bound}
use Rattle.accuracy.specs.Action.{tree_act}
use Rattle.accuracy.specs.Quaternions.{tree_quat_mul, tree_newton, tree_inverse}
use Rattle.accuracy.specs.Exponential.{tree_poly}
use Rattle.accuracy.specs.Numbers.{BoundNumbers}

pub numbers : BoundNumbers
unfolding bound tree_act tree_quat_mul tree_newton tree_inverse tree_poly
numbers =
    record {
      action_doubles = refl;
      action_singles = refl;
      unit_action_doubles = refl;
      unit_action_singles = refl;
      product_doubles = refl;
      product_singles = refl;
      renormalized_doubles = refl;
      renormalized_singles = refl;
      inverse_doubles = refl;
      inverse_singles = refl;
      exponential_doubles = refl;
      exponential_singles = refl;
      unit_exponential_doubles = refl;
      unit_exponential_singles = refl;
    }
