-- The structs over floats that the definitions use, and each struct of the code as one of them: `h` maps a number to
-- its float.
use Rattle.std.specs.Prelude.{Float}
use Rattle.frames.specs.declared.Pose as CodePose
use Rattle.sim3.specs.Floats.{as_sim3}

abbrev pub Pose : Type 0
Pose = CodePose.Pose Float

abbrev pub as_pose : {T : Type 0} → (T → Float) → CodePose.Pose T → Pose
as_pose h a = record { sim3 = as_sim3 h a.sim3; from = a.from; to = a.to }
