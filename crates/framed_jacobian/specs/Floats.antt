-- The structs over floats that the definitions use, and each struct of the code as one of them: `h` maps a number to
-- its float.
use Rattle.std.specs.Prelude.{Float}
use Rattle.side_jacobians.specs.declared.side.ExpAndJl as CodeExpAndJl
use Rattle.frames.specs.declared.Pose as CodePose
use Rattle.frames.specs.Floats.{Pose, as_pose}
use Rattle.jacobian.specs.Floats.{as_sim3_jac}

abbrev pub PoseAndJl : Type 0
PoseAndJl = CodeExpAndJl.ExpAndJl Pose Float

abbrev pub as_pose_and_jl : {T : Type 0} → (T → Float) → CodeExpAndJl.ExpAndJl (CodePose.Pose T) T → PoseAndJl
as_pose_and_jl h a = record { x = as_pose h a.x; jl = as_sim3_jac h a.jl }
