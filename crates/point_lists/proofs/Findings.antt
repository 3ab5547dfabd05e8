-- The input 1 of docs/DIFFERENCES.md, computed from the definitions. Assumes nothing.
use mathlib.Core.Path.{◌≡◌, refl}
use mathlib.Core.Bool.{false}
use lib.Ieee.{nan, inf, binary64, of_bits, to_bits, add, sub, mul}
use Rattle.ieee.specs.Numbers.{f0, f1, f2, f3}
use Rattle.linalg.specs.Vector.{vec, vec_scale, vec_cross, vec_add}
use Rattle.linalg.specs.Matrix.{mat_scale, mat_mul_vec}
use Rattle.linalg.specs.Floats.{Vec3}
use Rattle.so3.specs.Quat.{quat, quat_identity, quat_to_matrix}
use Rattle.so3.specs.So3.{so3_act}
use Rattle.sim3.specs.Pose.{pose, pose_identity, pose_act}
use Rattle.sim3.specs.Floats.{Sim3}
use Rattle.point_lists.specs.Points.{mat_act, pose_act_many}

-- 1: q = (0.8, 0.6, 0, 0), no translation, up = 1, p = (1, 2, 3): the action's third number, and that of the list by
-- the matrix
abbrev tilted : Sim3
tilted = pose (quat (of_bits binary64 0x3fe999999999999a) (of_bits binary64 0x3fe3333333333333) f0 f0) (vec f0 f0 f0) f0

action : to_bits binary64 (pose_act binary64 tilted f1 (vec f1 f2 f3)).z ≡ 0x4006147ae147ae15
unfolding of_bits to_bits add sub mul vec_scale vec_cross vec_add so3_act pose_act
action = refl

by_matrix : to_bits binary64 (pose_act_many binary64 tilted f1 (vec f1 f2 f3)).z ≡ 0x4006147ae147ae14
unfolding of_bits to_bits add sub mul vec_scale vec_add mat_scale mat_mul_vec mat_act quat_to_matrix
by_matrix = refl

-- with the identity and p = (∞, 1, 1), the action has three NaNs, and the list by the matrix (∞, NaN, NaN)
abbrev far : Vec3
far = vec (inf false) f1 f1

far_action : pose_act binary64 pose_identity f1 far ≡ vec nan nan nan
unfolding add sub mul vec_scale vec_cross vec_add so3_act pose_act pose_identity quat_identity
far_action = refl

far_by_matrix : pose_act_many binary64 pose_identity f1 far ≡ vec (inf false) nan nan
unfolding add sub mul vec_scale vec_add mat_scale mat_mul_vec mat_act quat_to_matrix pose_identity quat_identity
far_by_matrix = refl
