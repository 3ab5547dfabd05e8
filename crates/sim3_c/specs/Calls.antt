-- The result of each function for C callers, except those that records of the job use too (crate `sim3_c_entries`): 0
-- and the numbers in `out`, or the number of a refusal and `out` as it was (Written.antt of crate `to_lists`). A list
-- of the wrong length is refused with the lists' number; lists of points with the scope's 5.
use Rattle.std.specs.Prelude.{List, Float}
use Rattle.std.specs.Float.{Format}
use Rattle.linalg.specs.Answer.{Answer, answers, and_then}
use Rattle.linalg.specs.Floats.{Vec3}
use Rattle.coeffs.specs.Entries.{armed_answer}
use Rattle.pairs.specs.Entries.{armed_pair_answer}
use Rattle.sim3.specs.Pose.{pose_renormalized}
use Rattle.point_lists.specs.Points.{points_answer, points_out, pose_act_many, pose_act_each}
use Rattle.frames.specs.Joins.{framed_mul_inv, framed_inv_mul}
use Rattle.side_jacobians.specs.Side.{pose_adjoint, act_jacobians_right, act_jacobians_left, compose_jacobians_right}
use Rattle.side_jacobians.specs.Side.{compose_jacobians_left, inverse_jacobian_right, inverse_jacobian_left}
use Rattle.layout.specs.Layout.{pose_numbers, block_numbers, two_numbers, act_numbers}
use Rattle.layout.specs.Lists.{PoseLists}
use Rattle.from_lists.specs.Lists.{vec_from, pose_from, values_from, framed_from}
use Rattle.to_lists.specs.Written.{fitting, joined_fitting, armed_numbers, armed_pair_numbers}

-- ---- poses with their frames
unfoldable pub mul_inv_call : Format → PoseLists → PoseLists → Float → PoseLists → Answer PoseLists
mul_inv_call f x y ds out =
    and_then (framed_from x) (λ a. and_then (framed_from y) (λ b. joined_fitting out (framed_mul_inv f a b ds)))

unfoldable pub inv_mul_call : Format → PoseLists → PoseLists → Float → PoseLists → Answer PoseLists
inv_mul_call f x y down out =
    and_then (framed_from x) (λ a. and_then (framed_from y) (λ b. joined_fitting out (framed_inv_mul f a b down)))

-- ---- the rotation's Newton step, which reads no frame, in place: the list is read and then written
unfoldable pub renormalize_call : Format → List Float → Answer (List Float)
renormalize_call f x = and_then (pose_from x) (λ a. fitting x (pose_numbers (pose_renormalized f a)))

-- ---- lists of points: every point moved
unfoldable pub act_call : (Vec3 → Vec3) → List Float → List Float → Answer (List Float)
act_call g pts out = and_then (points_answer pts out) (λ done. answers (points_out g pts out))

unfoldable pub act_many_call : Format → List Float → Float → List Float → List Float → Answer (List Float)
act_many_call f x up pts out = and_then (pose_from x) (λ a. act_call (pose_act_many f a up) pts out)

unfoldable pub act_each_call : Format → List Float → Float → List Float → List Float → Answer (List Float)
act_each_call f x up pts out = and_then (pose_from x) (λ a. act_call (pose_act_each f a up) pts out)

-- ---- the coefficients with their arms
unfoldable pub armed_call : Format → Float → Float → List Float → List Float → Answer (List Float)
armed_call f sigma z values out =
    and_then (values_from values) (λ v. and_then (armed_answer f sigma z v) (λ a. fitting out (armed_numbers f a)))

unfoldable pub armed_pair_call : Format → Float → Float → List Float → List Float → Answer (List Float)
armed_pair_call f sigma z values out =
    and_then (values_from values) (λ v. and_then (armed_pair_answer f sigma z v)
    (λ p. fitting out (armed_pair_numbers f p)))

-- ---- blocks
unfoldable pub adjoint_call : Format → List Float → Float → List Float → Answer (List Float)
adjoint_call f x up out = and_then (pose_from x) (λ a. fitting out (block_numbers (pose_adjoint f a up)))

unfoldable pub act_jacobians_right_call : Format → List Float → Float → List Float → List Float → Answer (List Float)
act_jacobians_right_call f x up p out =
    and_then (pose_from x) (λ a. and_then (vec_from p) (λ b. fitting out (act_numbers (act_jacobians_right f a up b))))

unfoldable pub act_jacobians_left_call : Format → List Float → Float → List Float → List Float → Answer (List Float)
act_jacobians_left_call f x up p out =
    and_then (pose_from x) (λ a. and_then (vec_from p) (λ b. fitting out (act_numbers (act_jacobians_left f a up b))))

unfoldable pub compose_jacobians_right_call : Format → List Float → Float → List Float → Answer (List Float)
compose_jacobians_right_call f y down out =
    and_then (pose_from y) (λ b. fitting out (two_numbers (compose_jacobians_right f b down)))

unfoldable pub compose_jacobians_left_call : Format → List Float → Float → List Float → Answer (List Float)
compose_jacobians_left_call f x up out =
    and_then (pose_from x) (λ a. fitting out (two_numbers (compose_jacobians_left f a up)))

unfoldable pub inverse_jacobian_right_call : Format → List Float → Float → List Float → Answer (List Float)
inverse_jacobian_right_call f x up out =
    and_then (pose_from x) (λ a. fitting out (block_numbers (inverse_jacobian_right f a up)))

unfoldable pub inverse_jacobian_left_call : Format → List Float → Float → List Float → Answer (List Float)
inverse_jacobian_left_call f x down out =
    and_then (pose_from x) (λ a. fitting out (block_numbers (inverse_jacobian_left f a down)))
