-- (Exp τ, J_l(τ)) with the frames of the pose. No pose is an argument, so the caller passes both frames; the Jacobian
-- reads neither.
use Rattle.std.specs.Prelude.{ℕ}
use Rattle.std.specs.Float.{Format}
use Rattle.linalg.specs.Floats.{Mat3}
use Rattle.arms.specs.Floats.{Values}
use Rattle.sim3.specs.Floats.{Sim3Tangent}
use Rattle.side_jacobians.specs.Blocks.{jac_jl}
use Rattle.frames.specs.Pose.{framed_exp}
use Rattle.framed_jacobian.specs.Floats.{PoseAndJl}

unfoldable pub framed_exp_and_jl : Format → Sim3Tangent → Values → Mat3 → ℕ → ℕ → PoseAndJl
framed_exp_and_jl f tau v jl from to = record { x = framed_exp f tau v from to; jl = jac_jl f tau v jl }
