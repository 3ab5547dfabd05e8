-- Poses joined: the frames must match, and the result has the frames of the composed map. Refusal 9 if they do not
-- match.
use Rattle.std.specs.Prelude.{ℕ, cond, eqb, Float}
use Rattle.std.specs.Float.{Format}
use Rattle.linalg.specs.Answer.{Answer, answers, refuses}
use Rattle.sim3.specs.Pose.{pose_mul, pose_mul_inv, pose_inv_mul}
use Rattle.frames.specs.Pose.{framed}
use Rattle.frames.specs.Floats.{Pose}

-- x, if the frames a and b are equal
abbrev pub meets : ℕ → ℕ → Pose → Answer Pose
meets a b x = cond (eqb a b) (answers x) (refuses 9)

-- X Y maps from the frame where Y starts to the frame where X ends
unfoldable pub framed_mul : Format → Pose → Pose → Float → Answer Pose
framed_mul f x y up = meets x.from y.to (framed (pose_mul f x.sim3 y.sim3 up) y.from x.to)

-- X Y⁻¹, ds the exponential of σ_X − σ_Y
unfoldable pub framed_mul_inv : Format → Pose → Pose → Float → Answer Pose
framed_mul_inv f x y ds = meets x.from y.from (framed (pose_mul_inv f x.sim3 y.sim3 ds) y.to x.to)

-- Y⁻¹ X, down the exponential of −σ_Y
unfoldable pub framed_inv_mul : Format → Pose → Pose → Float → Answer Pose
framed_inv_mul f x y down = meets x.to y.to (framed (pose_inv_mul f x.sim3 y.sim3 down) x.from y.from)
