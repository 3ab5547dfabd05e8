-- For each function named here, the definitions that its proof unfolds.
use Rattle.std.specs.Prelude.{⊤}
use Rattle.framed_jacobian.specs.ExpAndJl.{framed_exp_and_jl}
use Rattle.frames.specs.Pose.{framed_exp}
use Rattle.side_jacobians.specs.Side.{exp_and_jl}

unfoldable pub exp_and_jl_unfolds : ⊤
unfolding framed_exp_and_jl framed_exp exp_and_jl
exp_and_jl_unfolds = tt
