-- Lists of points, three numbers each, and the two actions on them.
use Rattle.std.specs.Prelude.{ℕ, zero, suc, ◌+◌, ◌*◌, ◌/◌, ◌%◌, Bool, cond, ◌&&◌, List, [], ◌++◌, eqb, leb, get_or}
use Rattle.std.specs.Prelude.{length, Float}
use Rattle.std.specs.Float.{nan, Format}
use Rattle.linalg.specs.Answer.{Answer, answers, refuses}
use Rattle.linalg.specs.Vector.{vec, vec_numbers, vec_add}
use Rattle.linalg.specs.Matrix.{mat_scale, mat_mul_vec}
use Rattle.linalg.specs.Floats.{Vec3}
use Rattle.linalg.specs.Floats.{Mat3}
use Rattle.so3.specs.Quat.{quat_to_matrix}
use Rattle.sim3.specs.Pose.{pose_act}
use Rattle.sim3.specs.Floats.{Sim3}

-- triple i of a list
unfoldable pub point_at : List Float → ℕ → Vec3
point_at l i = vec (get_or l (i * 3) nan) (get_or l (i * 3 + 1) nan) (get_or l (i * 3 + 2) nan)

-- the first n triples, each moved by g, in their places
unfoldable pub points_moved : (Vec3 → Vec3) → List Float → ℕ → List Float
points_moved g l zero = []
points_moved g l (suc n) = points_moved g l n ++ vec_numbers (g (point_at l n))

-- a multiple of 3 long, at most 65,535 numbers, and the output as long as the input
abbrev pub points_accepted : ℕ → ℕ → Bool
points_accepted n k = eqb (n % 3) 0 && leb n 65535 && eqb k n

-- the result, and the output afterwards: a refusal leaves it as it was
unfoldable pub points_answer : List Float → List Float → Answer (Unit {0})
points_answer l out = cond (points_accepted (length l) (length out)) (answers tt) (refuses 5)

unfoldable pub points_out : (Vec3 → Vec3) → List Float → List Float → List Float
points_out g l out = cond (points_accepted (length l) (length out)) (points_moved g l (length l / 3)) out

-- ---- the two actions on a point: by the matrix s R formed once, as the Rust's `act_many`, and by `pose_act`, as the
-- mark AC
unfoldable pub mat_act : Format → Mat3 → Vec3 → Vec3 → Vec3
mat_act f m t p = vec_add f (mat_mul_vec f m p) t

abbrev pub pose_act_many : Format → Sim3 → Float → Vec3 → Vec3
pose_act_many f x up p = mat_act f (mat_scale f (quat_to_matrix f x.q) up) x.t p

abbrev pub pose_act_each : Format → Sim3 → Float → Vec3 → Vec3
pose_act_each f x up p = pose_act f x up p
