-- The error of the action by the matrix s R. Assumes nothing.
use mathlib.Core.Path.{refl}
use Prim.Native.Nat.{◌^◌}
use native.Mathlib.Omega.{arith}
use lib.Dec.{lit<}
use lib.Ieee.{Float, Format, binary32, binary64, sub}
use Rattle.ieee.specs.Numbers.{f1}
use Rattle.linalg.specs.Vector.{vec_scale, vec_add}
use Rattle.linalg.specs.Matrix.{mat_scale, mat_mul_vec}
use Rattle.linalg.specs.Floats.{Vec3}
use Rattle.so3.specs.Quat.{quat_to_matrix}
use Rattle.sim3.specs.Floats.{Sim3}
use Rattle.rounding.specs.Tree.{Term, leaf, computed, exact, bound, no_overflow}
use Rattle.rounding.specs.Arithmetic.{trees}
use Rattle.rounding.specs.Value.{value_of}
use Rattle.rounding.specs.Leaves.{Bounded, AllBounded}
use Rattle.rounding.proofs.Leaves.{two_bounded}
use Rattle.rounding.proofs.EqualValues.{equal_values, tree_error_by}
use Rattle.accuracy.specs.Box.{Three}
use Rattle.accuracy.specs.Action.{sum3, scale3, rotate, leaves, exact_act}
use Rattle.accuracy.specs.ManyPoints.{act_by_matrix, tree_act_by_matrix, matrix_leaves, matrix_sizes}
use Rattle.accuracy.specs.ManyPoints.{MatrixActionAccurate, ManyPointsTheorem}
use Rattle.accuracy.proofs.Quaternions.{three-parts}

-- the action's own tree over the same leaves
unfoldable action_tree : Three Term
action_tree =
    let r = rotate trees (leaf 1) (leaf 2) (leaves 3 4 5) (leaves 6 7 8) in
    sum3 trees (scale3 trees r (leaf 9)) (leaves 10 11 12)

pub matrix_action_accurate : (f : Format) (x : Sim3) (up : Float) (p : Vec3)
    → MatrixActionAccurate f x up p (act_by_matrix f x up p)
unfolding computed exact tree_act_by_matrix action_tree quat_to_matrix mat_scale mat_mul_vec vec_scale vec_add sub
    exact_act value_of equal_values
matrix_action_accurate f x up p w q b s t e z k hq hp hs ht =
    let bs = matrix_sizes w q b s t in
    let l = matrix_leaves x up p in
    let c = three-parts f w bs e tree_act_by_matrix k in
    let one : Bounded w f1 w = omega arith in
    let all : AllBounded w l bs =
    (one, (two_bounded w, (hq.w, (hq.x, (hq.y, (hq.z, (hp.x, (hp.y, (hp.z, (hs, (ht.x, (ht.y, (ht.z, tt))))))))))))) in
    let P = act_by_matrix f x up p in
    let Y = exact_act x up p in
    record {
      x = tree_error_by f w l bs tree_act_by_matrix.x action_tree.x P.x Y.x e z all c.0 refl tt refl refl;
      y = tree_error_by f w l bs tree_act_by_matrix.y action_tree.y P.y Y.y e z all c.1 refl tt refl refl;
      z = tree_error_by f w l bs tree_act_by_matrix.z action_tree.z P.z Y.z e z all c.2 refl tt refl refl;
    }

-- what specs/ManyPoints.antt states
pub many_points : ManyPointsTheorem
many_points =
    record {
      action = matrix_action_accurate;
      doubles = λ x up p.
          matrix_action_accurate binary64 x up p (2 ^ 100) _ _ _ _ _ (lit< tt)
          (unfold no_overflow bound tree_act_by_matrix in tt);
      singles = λ x up p.
          matrix_action_accurate binary32 x up p (2 ^ 100) _ _ _ _ _ (lit< tt)
          (unfold no_overflow bound tree_act_by_matrix in tt);
      unit_doubles = λ x up p.
          matrix_action_accurate binary64 x up p (2 ^ 100) _ _ _ _ _ (lit< tt)
          (unfold no_overflow bound tree_act_by_matrix in tt);
      unit_singles = λ x up p.
          matrix_action_accurate binary32 x up p (2 ^ 100) _ _ _ _ _ (lit< tt)
          (unfold no_overflow bound tree_act_by_matrix in tt);
    }
