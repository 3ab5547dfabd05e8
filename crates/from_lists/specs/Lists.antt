-- What a call reads from its lists. A list of the wrong length is refused.
use Rattle.std.specs.Prelude.{ℕ, cond, List, eqb, get_or, length, Float}
use Rattle.std.specs.Float.{nan}
use Rattle.linalg.specs.Answer.{Answer, answers, refuses, and_then}
use Rattle.linalg.specs.Floats.{Vec3}
use Rattle.linalg.specs.Floats.{Mat3}
use Rattle.arms.specs.Floats.{Values}
use Rattle.sim3.specs.Floats.{Sim3}
use Rattle.sim3.specs.Floats.{Sim3Tangent}
use Rattle.frames.specs.Pose.{framed}
use Rattle.frames.specs.Floats.{Pose}
use Rattle.jacobian.specs.Floats.{Sim3Jac}
use Rattle.layout.specs.Layout.{vec_count, mat_count, pose_count, tangent_count, values_count, block_count, vec_in}
use Rattle.layout.specs.Layout.{mat_in, pose_in, tangent_in, values_in, block_in}
use Rattle.layout.specs.Lists.{wrong_length, PoseLists, frames_count}
use Rattle.frames.specs.declared.Frames.{Frames}

-- a if the list has n elements, else the refusal
unfoldable pub sized : {A B : Type 0} → List B → ℕ → A → Answer A
sized l n a = cond (eqb (length l) n) (answers a) (refuses wrong_length)

-- the i-th number of a list
abbrev pub number_in : List Float → ℕ → Float
number_in l i = get_or l i nan

-- ---- lists that hold one structure, in the order of the job's records
unfoldable pub vec_from : List Float → Answer Vec3
vec_from l = sized l vec_count (vec_in (number_in l) 0)

unfoldable pub mat_from : List Float → Answer Mat3
mat_from l = sized l mat_count (mat_in (number_in l) 0)

unfoldable pub pose_from : List Float → Answer Sim3
pose_from l = sized l pose_count (pose_in (number_in l) 0)

unfoldable pub tangent_from : List Float → Answer Sim3Tangent
tangent_from l = sized l tangent_count (tangent_in (number_in l) 0)

unfoldable pub values_from : List Float → Answer Values
values_from l = sized l values_count (values_in (number_in l) 0)

unfoldable pub block_from : List Float → Answer Sim3Jac
block_from l = sized l block_count (block_in (number_in l) 0)

-- ---- a pose with its frames, in two lists
unfoldable pub frames_from : List ℕ → Answer Frames
frames_from l = sized l frames_count (record { from = get_or l 0 0; to = get_or l 1 0 })

unfoldable pub framed_from : PoseLists → Answer Pose
framed_from l =
    and_then (pose_from l.numbers) (λ x. and_then (frames_from l.frames) (λ k. answers (framed x k.from k.to)))
