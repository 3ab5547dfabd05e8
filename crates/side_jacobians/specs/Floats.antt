-- The structs over floats that the definitions use, and each struct of the code as one of them: `h` maps a number to
-- its float.
use Rattle.std.specs.Prelude.{Float}
use Rattle.side_jacobians.specs.declared.blocks.JacAndInverse as CodeJacAndInverse
use Rattle.side_jacobians.specs.declared.pair.BlockPair as CodeBlockPair
use Rattle.side_jacobians.specs.declared.side.ActJacobians as CodeActJacobians
use Rattle.side_jacobians.specs.declared.side.TwoJacobians as CodeTwoJacobians
use Rattle.side_jacobians.specs.declared.side.ExpAndJl as CodeExpAndJl
use Rattle.jacobian.specs.Floats.{as_sim3_jac}
use Rattle.linalg.specs.Floats.{as_mat3, as_vec3}
use Rattle.sim3.specs.declared.sim3.Sim3 as CodeSim3
use Rattle.sim3.specs.Floats.{Sim3, as_sim3}

abbrev pub JacAndInverse : Type 0
JacAndInverse = CodeJacAndInverse.JacAndInverse Float

abbrev pub as_jac_and_inverse : {T : Type 0} → (T → Float) → CodeJacAndInverse.JacAndInverse T → JacAndInverse
as_jac_and_inverse h a = record { j = as_sim3_jac h a.j; inv = as_sim3_jac h a.inv }

abbrev pub BlockPair : Type 0
BlockPair = CodeBlockPair.BlockPair Float

abbrev pub as_block_pair : {T : Type 0} → (T → Float) → CodeBlockPair.BlockPair T → BlockPair
as_block_pair h a =
    record {
      left = as_sim3_jac h a.left;
      left_inv = as_sim3_jac h a.left_inv;
      right =
          as_sim3_jac h a.right;
      right_inv = as_sim3_jac h a.right_inv;
    }

abbrev pub ActJacobians : Type 0
ActJacobians = CodeActJacobians.ActJacobians Float

abbrev pub as_act_jacobians : {T : Type 0} → (T → Float) → CodeActJacobians.ActJacobians T → ActJacobians
as_act_jacobians h a =
    record { rot = as_mat3 h a.rot; trans = as_mat3 h a.trans; scale = as_vec3 h a.scale; point = as_mat3 h a.point }

abbrev pub TwoJacobians : Type 0
TwoJacobians = CodeTwoJacobians.TwoJacobians Float

abbrev pub as_two_jacobians : {T : Type 0} → (T → Float) → CodeTwoJacobians.TwoJacobians T → TwoJacobians
as_two_jacobians h a = record { first = as_sim3_jac h a.first; second = as_sim3_jac h a.second }

abbrev pub ExpAndJl : Type 0
ExpAndJl = CodeExpAndJl.ExpAndJl Sim3 Float

abbrev pub as_exp_and_jl : {T : Type 0} → (T → Float) → CodeExpAndJl.ExpAndJl (CodeSim3.Sim3 T) T → ExpAndJl
as_exp_and_jl h a = record { x = as_sim3 h a.x; jl = as_sim3_jac h a.jl }
