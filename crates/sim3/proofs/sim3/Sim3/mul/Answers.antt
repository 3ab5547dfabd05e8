use Rattle.std.proofs.Common.{rules}
use Rattle.sim3.specs.Pose.{pose_mul, pose_act}
use Rattle.so3.specs.Quat.{quat_mul}
use Rattle.so3.specs.So3.{so3_act}
use Rattle.linalg.specs.Vector.{vec_cross, vec_scale, vec_add}
use lib.Ieee.{of_bits}
use Rattle.sim3.proofs.sim3.Sim3.mul.Goals as goal

pub returns : goal.returns
unfolding pose_mul pose_act quat_mul so3_act vec_cross vec_scale vec_add of_bits
returns g c = let real = g.met.T.Real in search (rules, real.add_law, real.sub_law, real.mul_law)
