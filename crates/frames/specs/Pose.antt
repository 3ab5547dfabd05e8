-- Poses with two frames: such a pose maps points of the frame `from` to points of the frame `to`. A result made from a
-- pose keeps its frames, and the inverse exchanges them; for a result made from no pose, the caller passes both.
use Rattle.std.specs.Prelude.{ℕ, Float}
use Rattle.std.specs.Float.{Format}
use Rattle.arms.specs.Floats.{Values}
use Rattle.sim3.specs.Pose.{pose_identity, pose_inverse, pose_renormalized}
use Rattle.sim3.specs.Exp.{pose_exp, pose_rplus, pose_lplus}
use Rattle.sim3.specs.Floats.{Sim3}
use Rattle.sim3.specs.Floats.{Sim3Tangent}
use Rattle.frames.specs.Floats.{Pose}

abbrev pub framed : Sim3 → ℕ → ℕ → Pose
framed x from to = record { sim3 = x; from = from; to = to }

unfoldable pub framed_identity : ℕ → ℕ → Pose
framed_identity from to = framed pose_identity from to

unfoldable pub framed_exp : Format → Sim3Tangent → Values → ℕ → ℕ → Pose
framed_exp f tau v from to = framed (pose_exp f tau v) from to

unfoldable pub framed_inverse : Format → Pose → Float → Pose
framed_inverse f x down = framed (pose_inverse f x.sim3 down) x.to x.from

unfoldable pub framed_renormalized : Format → Pose → Pose
framed_renormalized f x = framed (pose_renormalized f x.sim3) x.from x.to

unfoldable pub framed_rplus : Format → Pose → Float → Sim3Tangent → Values → Pose
framed_rplus f x up tau v = framed (pose_rplus f x.sim3 up tau v) x.from x.to

unfoldable pub framed_lplus : Format → Pose → Sim3Tangent → Values → Pose
framed_lplus f x tau v = framed (pose_lplus f x.sim3 tau v) x.from x.to
